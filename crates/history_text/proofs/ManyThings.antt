-- Things that are read one after the other.
use Rattle.std.proofs.Common.{◌≡◌, ℕ, ℤ, suc, ◌+◌, ◌-◌, ◌<◌, ◌≤◌, List, [], ◌∷◌, ◌++◌, length, take, drop, Option, Some, None, refl, sym, ap, ◌∙◌, arith, append-nil, append_assoc}
use Rattle.std.proofs.lemmas.List.{drop-drop, drop-replicate, drop-set-lt, length-take-le, take-append-drop}
use Rattle.std.proofs.Math.Seq.{take-suc-set}
use Rattle.std.specs.Option.{option_map}
use Rattle.std.specs.Prelude.{slice_set}
use Rattle.rapid_num.specs.Absent.{absent}
use Rattle.rapid_num.specs.Reach.{absent_axes}
use Rattle.rapid_num.specs.declared.joints.Joints.{Joints}
use Rattle.history_text.specs.Reading.{◌>>=◌, few_at, many_at}
use Rattle.history_text.specs.ValueReading.{place_of_axes}

-- those that came before, and those that are read
abbrev pub after_front : {A : Type 0} → List A → Option (List A × List ℕ) → Option (List A × List ℕ)
after_front front o = option_map (λ x. (front ++ x.0, x.1)) o

regroup : {A : Type 0} (front : List A) (x : A) (o : Option (List A × List ℕ)) → after_front front (o >>= (λ rest. Some (x ∷ rest.0, rest.1))) ≡ after_front (front ++ x ∷ []) o
regroup front x None = refl
regroup front x (Some rest) = ap (λ xs. Some (xs, rest.1)) (sym (append_assoc front (x ∷ []) rest.0))

pub many_more : {A : Type 0} (one_at : List ℕ → Option (A × List ℕ)) (n i : ℕ) (front : List A) (text : List ℕ) (x : A) (more : List ℕ) → i < n → one_at text ≡ Some (x, more)
    → after_front front (many_at one_at (n - i) text) ≡ after_front (front ++ x ∷ []) (many_at one_at (n - (i + 1)) more)
unfolding many_at
many_more one_at n i front text x more less one =
    let left : n - i ≡ suc (n - (i + 1)) = omega arith in
    rw (left, one) (regroup front x (many_at one_at (n - (i + 1)) more))

pub many_none : {A : Type 0} (one_at : List ℕ → Option (A × List ℕ)) (n i : ℕ) (front : List A) (text : List ℕ) → i < n → one_at text ≡ None → after_front front (many_at one_at (n - i) text) ≡ None
unfolding many_at
many_none one_at n i front text less none = let left : n - i ≡ suc (n - (i + 1)) = omega arith in rw (left, none) refl

pub many_all : {A : Type 0} (one_at : List ℕ → Option (A × List ℕ)) (n i : ℕ) (front : List A) (text : List ℕ) → n ≤ i → after_front front (many_at one_at (n - i) text) ≡ Some (front, text)
unfolding many_at
many_all one_at n i front text past = let left : n - i ≡ 0 = omega arith in rw left (ap (λ xs. Some (xs, text)) (append-nil front))

pub take_set_more : {A : Type 0} (xs : List A) (i : ℕ) (x : A) → i < length xs → take (i + 1) (slice_set xs i x) ≡ take i xs ++ x ∷ []
take_set_more xs i x less = let next : i + 1 ≡ suc i = omega arith in rw next (take-suc-set xs i x less)

-- the same for as many things as come

abbrev pub with_front : {A : Type 0} → List A → List A × List ℕ → List A × List ℕ
with_front front x = (front ++ x.0, x.1)

pub few_more : {A : Type 0} (one_at : List ℕ → Option (A × List ℕ)) (n i : ℕ) (front : List A) (text : List ℕ) (x : A) (more : List ℕ) → i < n → one_at text ≡ Some (x, more)
    → with_front front (few_at one_at (n - i) text) ≡ with_front (front ++ x ∷ []) (few_at one_at (n - (i + 1)) more)
unfolding few_at
few_more one_at n i front text x more less one =
    let left : n - i ≡ suc (n - (i + 1)) = omega arith in
    let rest = few_at one_at (n - (i + 1)) more in
    rw (left, one) (ap (λ xs. (xs, rest.1)) (sym (append_assoc front (x ∷ []) rest.0)))

pub few_none : {A : Type 0} (one_at : List ℕ → Option (A × List ℕ)) (n i : ℕ) (front : List A) (text : List ℕ) → i < n → one_at text ≡ None → with_front front (few_at one_at (n - i) text) ≡ (front, text)
unfolding few_at
few_none one_at n i front text less none = let left : n - i ≡ suc (n - (i + 1)) = omega arith in rw (left, none) (ap (λ xs. (xs, text)) (append-nil front))

pub few_all : {A : Type 0} (one_at : List ℕ → Option (A × List ℕ)) (n i : ℕ) (front : List A) (text : List ℕ) → n ≤ i → with_front front (few_at one_at (n - i) text) ≡ (front, text)
unfolding few_at
few_all one_at n i front text past = let left : n - i ≡ 0 = omega arith in rw left (ap (λ xs. (xs, text)) (append-nil front))

-- what is left of absent axes behind one that was set
pub absent_more : (xs : List ℤ) (i n : ℕ) (x : ℤ) → i < length xs → drop i xs ≡ absent_axes (n - i) → drop (i + 1) (slice_set xs i x) ≡ absent_axes (n - (i + 1))
absent_more xs i n x less behind =
    let left : n - i - 1 ≡ n - (i + 1) = omega arith in
    drop-set-lt (i + 1) xs i x (omega arith) ∙ sym (drop-drop 1 i xs) ∙ ap (drop 1) behind ∙ drop-replicate 1 (n - i) absent ∙ ap absent_axes left

abbrev pub joints_of : List ℤ → Joints
joints_of axis = record { axis = axis }

abbrev pub read_as : Joints → List ℕ → Option (Joints × List ℕ)
read_as place rest = Some (place, rest)

-- a position whose axes are the first ones of a list, and the absent ones after them
pub place_read : (first : ℤ) (rest : List ℕ) (axis : List ℤ) (i : ℕ) (r : List ℤ × List ℕ) → length axis ≡ 12 → drop i axis ≡ absent_axes (12 - i) → i ≤ 12
    → with_front (first ∷ []) r ≡ (take i axis, rest) → read_as (place_of_axes (first ∷ r.0)) r.1 ≡ read_as (joints_of axis) rest
place_read first rest axis i r long behind few same =
    let axes : first ∷ r.0 ≡ take i axis = ap (λ x. x.0) same in
    let after : r.1 ≡ rest = ap (λ x. x.1) same in
    let count : length (take i axis) ≡ i = length-take-le i axis (omega (arith, long, few)) in
    let whole : take i axis ++ absent_axes (12 - length (take i axis)) ≡ axis =
    ap (λ n. take i axis ++ absent_axes (12 - n)) count ∙ ap (λ absents. take i axis ++ absents) (sym behind) ∙ take-append-drop i axis in
    ap (λ front. read_as (place_of_axes front) r.1) axes ∙ ap (λ text. read_as (place_of_axes (take i axis)) text) after ∙ ap (λ whole_axis. read_as (joints_of whole_axis) rest) whole
