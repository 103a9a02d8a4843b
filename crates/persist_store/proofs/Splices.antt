-- Lists with some of their items overwritten, and windows of them.
use Rattle.std.proofs.Common.{◌≡◌, ℕ, ◌+◌, ◌-◌, ◌<◌, ◌≤◌, List, [], ◌∷◌, ◌++◌, length, take, drop, get_or, set, sym, ap, subst, ◌∙◌, inl, inr, ◌⊎◌, arith}
use Rattle.std.proofs.lemmas.Bool.{cases_lt}
use Rattle.std.proofs.lemmas.List.{get_or-append-add, get_or-drop, get_or-take, get_or_append_left, drop-append-le, drop-set, length-append, length-drop, length-take-le, same_lists, take-append-drop, take-append-le, take-set}
use Rattle.persist_store.specs.Rows.{spliced, window}

pub length-window : {A : Type 0} (from count : ℕ) (xs : List A) → from + count ≤ length xs → length (window from count xs) ≡ count
length-window from count xs within =
    let rest : length (drop from xs) ≡ length xs - from = length-drop from xs in
    length-take-le count (drop from xs) (omega arith)

pub get_or-window : {A : Type 0} (from count : ℕ) (xs : List A) (k : ℕ) (d : A) → k < count → get_or (window from count xs) k d ≡ get_or xs (from + k) d
get_or-window from count xs k d below = get_or-take count (drop from xs) k d below ∙ get_or-drop from xs k d

pub length-spliced : {A : Type 0} (xs : List A) (from : ℕ) (ys : List A) → from + length ys ≤ length xs → length (spliced xs from ys) ≡ length xs
length-spliced xs from ys within =
    let front : length (take from xs) ≡ from = length-take-le from xs (omega arith) in
    let back : length (drop (from + length ys) xs) ≡ length xs - (from + length ys) = length-drop (from + length ys) xs in
    let rest : length (ys ++ drop (from + length ys) xs) ≡ length ys + length (drop (from + length ys) xs) = length-append ys (drop (from + length ys) xs) in
    let all : length (spliced xs from ys) ≡ length (take from xs) + length (ys ++ drop (from + length ys) xs) = length-append (take from xs) (ys ++ drop (from + length ys) xs) in
    omega arith

-- an item before the overwritten ones, one of them, and one after them

pub before : {A : Type 0} (xs : List A) (from : ℕ) (ys : List A) (k : ℕ) (d : A) → from ≤ length xs → k < from → get_or (spliced xs from ys) k d ≡ get_or xs k d
before xs from ys k d there less =
    let front : length (take from xs) ≡ from = length-take-le from xs there in
    get_or_append_left (take from xs) (ys ++ drop (from + length ys) xs) d k (omega arith) ∙ get_or-take from xs k d less

pub among : {A : Type 0} (xs : List A) (from : ℕ) (ys : List A) (j k : ℕ) (d : A) → from ≤ length xs → k ≡ from + j → j < length ys → get_or (spliced xs from ys) k d ≡ get_or ys j d
among xs from ys j k d there at less =
    let front : length (take from xs) ≡ from = length-take-le from xs there in
    let index : k ≡ length (take from xs) + j = omega arith in
    rw index (get_or-append-add (take from xs) (ys ++ drop (from + length ys) xs) j d ∙ get_or_append_left ys (drop (from + length ys) xs) d j less)

pub behind : {A : Type 0} (xs : List A) (from : ℕ) (ys : List A) (k : ℕ) (d : A) → from ≤ length xs → from + length ys ≤ k → get_or (spliced xs from ys) k d ≡ get_or xs k d
behind xs from ys k d there past =
    let front : length (take from xs) ≡ from = length-take-le from xs there in
    let rest : ℕ = k - (from + length ys) in
    let index : k ≡ length (take from xs) + (length ys + rest) = omega arith in
    let same : from + length ys + rest ≡ k = omega arith in
    ap (λ n. get_or (spliced xs from ys) n d) index ∙ get_or-append-add (take from xs) (ys ++ drop (from + length ys) xs) (length ys + rest) d
    ∙ get_or-append-add ys (drop (from + length ys) xs) rest d ∙ get_or-drop (from + length ys) xs rest d ∙ ap (λ n. get_or xs n d) same

-- if everything is written within a window, it is written into the window
pub window-within : {A : Type 0} (xs : List A) (at w o from : ℕ) (ys : List A) → at + w ≤ length xs → o + length ys ≤ w → from ≡ at + o → window at w (spliced xs from ys) ≡ spliced (window at w xs) o ys
window-within xs at w o from ys there fits is =
    let long : length (spliced xs from ys) ≡ length xs = length-spliced xs from ys (omega arith) in
    let own : length (window at w xs) ≡ w = length-window at w xs there in
    let left : length (window at w (spliced xs from ys)) ≡ w = length-window at w (spliced xs from ys) (omega arith) in
    let right : length (spliced (window at w xs) o ys) ≡ length (window at w xs) = length-spliced (window at w xs) o ys (omega arith) in
    same_lists (window at w (spliced xs from ys)) (spliced (window at w xs) o ys) (left ∙ sym (right ∙ own))
    (λ k d h. let below : k < w = subst (λ n. k < n) left h in
    get_or-window at w (spliced xs from ys) k d below ∙
    elim (cases_lt k o) [
      | inl less ↦ before xs from ys (at + k) d (omega arith) (omega arith) ∙ sym (before (window at w xs) o ys k d (omega arith) less ∙ get_or-window at w xs k d below)
      | inr past ↦ elim (cases_lt k (o + length ys)) [
        | inl less ↦ among xs from ys (k - o) (at + k) d (omega arith) (omega arith) (omega arith) ∙ sym (among (window at w xs) o ys (k - o) k d (omega arith) (omega arith) (omega arith))
        | inr far ↦ behind xs from ys (at + k) d (omega arith) (omega arith) ∙ sym (behind (window at w xs) o ys k d (omega arith) far ∙ get_or-window at w xs k d below)
      ]
    ])

-- a window before or after the overwritten items stays the same
pub window-apart : {A : Type 0} (xs : List A) (at w from : ℕ) (ys : List A)
    → at + w ≤ length xs → from + length ys ≤ length xs → (at + w ≤ from) ⊎ (from + length ys ≤ at) → window at w (spliced xs from ys) ≡ window at w xs
window-apart xs at w from ys there fits far =
    let long : length (spliced xs from ys) ≡ length xs = length-spliced xs from ys fits in
    let left : length (window at w (spliced xs from ys)) ≡ w = length-window at w (spliced xs from ys) (omega arith) in
    same_lists (window at w (spliced xs from ys)) (window at w xs) (left ∙ sym (length-window at w xs there))
    (λ k d h. let below : k < w = subst (λ n. k < n) left h in
    get_or-window at w (spliced xs from ys) k d below ∙
    elim far [
      | inl first ↦ before xs from ys (at + k) d (omega arith) (omega arith)
      | inr last ↦ behind xs from ys (at + k) d (omega arith) (omega arith)
    ]
    ∙ sym (get_or-window at w xs k d below))

-- and so does one when more is appended to the list
pub window-grown : {A : Type 0} (xs more : List A) (at w : ℕ) → at + w ≤ length xs → window at w (xs ++ more) ≡ window at w xs
window-grown xs more at w there =
    let rest : length (drop at xs) ≡ length xs - at = length-drop at xs in
    ap (take w) (drop-append-le at xs more (omega arith)) ∙ take-append-le w (drop at xs) more (omega arith)

-- one item written over another
pub set_spliced : {A : Type 0} (xs : List A) (at : ℕ) (y : A) → at < length xs → set xs at y ≡ spliced xs at (y ∷ [])
set_spliced xs at y there =
    sym (take-append-drop at (set xs at y)) ∙ ap (λ front. front ++ drop at (set xs at y)) (take-set xs at y) ∙ ap (λ rest. take at xs ++ rest) (drop-set xs at y there)
