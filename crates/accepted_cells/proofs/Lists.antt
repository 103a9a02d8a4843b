-- Lists that agree place by place.
use Rattle.std.proofs.Common.{◌≡◌, ◌⊎◌, inl, inr, ℕ, zero, suc, ◌+◌, List, [], ◌∷◌, ◌++◌, length, set, Some, slice_get, refl, ap, sym, subst, ◌∙◌, length-append, append_assoc, arith}
use Rattle.std.specs.List.{All}
use Rattle.std.proofs.Math.Logic.{⊎_map}
use Rattle.std.proofs.lemmas.List.{append-nil}
use Rattle.std.proofs.lemmas.List.Elements.{All-cons, All-nil}
use Rattle.name_laws.specs.Declared.{AreEach}

pub each_more : {A B : Type 0} (R : A → B → Type 0) (xs : List A) (ys : List B) (x : A) (y : B) → AreEach R xs ys → R x y → AreEach R (xs ++ x ∷ []) (ys ++ y ∷ [])
each_more R [] [] x y h r = (r, tt)
each_more R [] (z ∷ ys) x y h r = absurd h
each_more R (w ∷ xs) [] x y h r = absurd h
each_more R (w ∷ xs) (z ∷ ys) x y h r = (h.0, each_more R xs ys x y h.1 r)

-- an element of a list in which one element was set
pub set_cases : {A : Type 0} (xs : List A) (k j : ℕ) (x y : A) → slice_get (set xs k x) j ≡ Some y → ((j ≡ k) × (x ≡ y)) ⊎ (slice_get xs j ≡ Some y)
set_cases [] k j x y is = inr is
set_cases (z ∷ xs) zero zero x y is = inl (refl, cc)
set_cases (z ∷ xs) zero (suc j) x y is = inr is
set_cases (z ∷ xs) (suc k) zero x y is = inr is
set_cases (z ∷ xs) (suc k) (suc j) x y is = ⊎_map (λ h. (ap suc h.0, h.1)) (λ h. h) (set_cases xs k j x y is)

-- the element at the same place in the first list
pub record Origin {A B : Type 0} (R : A → B → Type 0) (xs : List A) (k : ℕ) (y : B) : Type 0 where
  pub x : A
  pub is : slice_get xs k ≡ Some x
  pub such : R x y

pub origin : {A B : Type 0} (R : A → B → Type 0) (xs : List A) (ys : List B) (k : ℕ) (y : B) → AreEach R xs ys → slice_get ys k ≡ Some y → Origin R xs k y
origin R [] [] k y h is = absurd cc
origin R [] (z ∷ ys) k y h is = absurd h
origin R (w ∷ xs) [] k y h is = absurd h
origin R (w ∷ xs) (z ∷ ys) zero y h is = let same : z ≡ y = cc in record { x = w; is = refl; such = subst (R w) same h.0 }
origin R (w ∷ xs) (z ∷ ys) (suc k) y h is = let o = origin R xs ys k y h.1 is in record { x = o.x; is = o.is; such = o.such }

-- two lists have the same length, and the elements of each place are related; the first place has this number
abbrev pub AreFrom : {A B : Type 0} → (ℕ → A → B → Type 0) → ℕ → List A → List B → Type 0
AreFrom R first [] [] = Unit {0}
AreFrom R first (x ∷ xs) (y ∷ ys) = R first x y × AreFrom R (first + 1) xs ys
AreFrom R first _ _ = ⊥

pub from_append : {A B : Type 0} (R : ℕ → A → B → Type 0) (first : ℕ) (ws bs : List A) (xs ys : List B) → AreFrom R first ws xs → AreFrom R (first + length xs) bs ys → AreFrom R first (ws ++ bs) (xs ++ ys)
from_append R first [] bs [] ys h k = let e : first + 0 ≡ first = omega arith in subst (λ n. AreFrom R n bs ys) e k
from_append R first [] bs (x ∷ xs) ys h k = absurd h
from_append R first (a ∷ ws) bs [] ys h k = absurd h
from_append R first (a ∷ ws) bs (x ∷ xs) ys h k =
    let e : first + suc (length xs) ≡ (first + 1) + length xs = omega arith in
    (h.0, from_append R (first + 1) ws bs xs ys h.1 (subst (λ n. AreFrom R n bs ys) e k))

-- the element at a place of the second list, from the one in the first
pub record FromAt {A B : Type 0} (R : ℕ → A → B → Type 0) (xs : List A) (n k : ℕ) (y : B) : Type 0 where
  pub x : A
  pub is : slice_get xs k ≡ Some x
  pub such : R n x y

pub from_at : {A B : Type 0} (R : ℕ → A → B → Type 0) (first : ℕ) (xs : List A) (ys : List B) (k : ℕ) (y : B) → AreFrom R first xs ys → slice_get ys k ≡ Some y → FromAt R xs (first + k) k y
from_at R first [] [] k y h is = absurd cc
from_at R first [] (z ∷ ys) k y h is = absurd h
from_at R first (w ∷ xs) [] k y h is = absurd h
from_at R first (w ∷ xs) (z ∷ ys) zero y h is =
    let same : z ≡ y = cc in
    let e : first ≡ first + 0 = omega arith in
    record { x = w; is = refl; such = subst (λ n. R n w y) e (subst (R first w) same h.0) }
from_at R first (w ∷ xs) (z ∷ ys) (suc k) y h is =
    let o = from_at R (first + 1) xs ys k y h.1 is in
    let e : (first + 1) + k ≡ first + suc k = omega arith in
    record { x = o.x; is = o.is; such = subst (λ n. R n o.x y) e o.such }

-- and the converse
pub record FromTo {A B : Type 0} (R : ℕ → A → B → Type 0) (ys : List B) (n k : ℕ) (x : A) : Type 0 where
  pub y : B
  pub is : slice_get ys k ≡ Some y
  pub such : R n x y

pub from_to : {A B : Type 0} (R : ℕ → A → B → Type 0) (first : ℕ) (xs : List A) (ys : List B) (k : ℕ) (x : A) → AreFrom R first xs ys → slice_get xs k ≡ Some x → FromTo R ys (first + k) k x
from_to R first [] ys k x h is = absurd cc
from_to R first (w ∷ xs) [] k x h is = absurd h
from_to R first (w ∷ xs) (z ∷ ys) zero x h is =
    let same : w ≡ x = cc in
    let e : first ≡ first + 0 = omega arith in
    record { y = z; is = refl; such = subst (λ n. R n x z) e (subst (λ v. R first v z) same h.0) }
from_to R first (w ∷ xs) (z ∷ ys) (suc k) x h is =
    let o = from_to R (first + 1) xs ys k x h.1 is in
    let e : (first + 1) + k ≡ first + suc k = omega arith in
    record { y = o.y; is = o.is; such = subst (λ n. R n x o.y) e o.such }

pub from_length : {A B : Type 0} (R : ℕ → A → B → Type 0) (first : ℕ) (xs : List A) (ys : List B) → AreFrom R first xs ys → length xs ≡ length ys
from_length R first [] [] h = refl
from_length R first [] (y ∷ ys) h = absurd h
from_length R first (x ∷ xs) [] h = absurd h
from_length R first (x ∷ xs) (y ∷ ys) h = ap suc (from_length R (first + 1) xs ys h.1)

-- lists of one length that agree at each place
pub each_of : {A B : Type 0} (R : A → B → Type 0) (xs : List A) (ys : List B) → length xs ≡ length ys → ((k : ℕ) (x : A) (y : B) → slice_get xs k ≡ Some x → slice_get ys k ≡ Some y → R x y) → AreEach R xs ys
each_of R [] [] e h = tt
each_of R [] (y ∷ ys) e h = absurd (omega arith)
each_of R (x ∷ xs) [] e h = absurd (omega arith)
each_of R (x ∷ xs) (y ∷ ys) e h = (h 0 x y refl refl, each_of R xs ys (omega arith) (λ k a b is so. h (suc k) a b is so))

-- a list goes on after another, with a related element for each of these
pub record Behind {A B : Type 0} (R : ℕ → A → B → Type 0) (xs : List A) (before past : List B) : Type 0 where
  pub ys : List B
  pub is : past ≡ before ++ ys
  pub each : AreFrom R (length before) xs ys

pub none_behind : {A B : Type 0} (R : ℕ → A → B → Type 0) (before past : List B) → past ≡ before → Behind R [] before past
none_behind R before past is = record { ys = []; is = is ∙ sym (append-nil before); each = tt }

pub one_behind : {A B : Type 0} (R : ℕ → A → B → Type 0) (x : A) (before past : List B) (y : B) → past ≡ before ++ y ∷ [] → R (length before) x y → Behind R (x ∷ []) before past
one_behind R x before past y is such = record { ys = y ∷ []; is = is; each = (such, tt) }

pub then_behind : {A B : Type 0} (R : ℕ → A → B → Type 0) (xs more : List A) (before middle past : List B) → Behind R xs before middle → Behind R more middle past → Behind R (xs ++ more) before past
then_behind R xs more before middle past a b =
    let long : length middle ≡ length before + length a.ys = ap length a.is ∙ length-append before a.ys in
    record {
      ys = a.ys ++ b.ys;
      is = b.is ∙ ap (λ l. l ++ b.ys) a.is ∙ append_assoc before a.ys b.ys;
      each = from_append R (length before) xs more a.ys b.ys a.each (subst (λ n. AreFrom R n more b.ys) long b.each);
    }

pub all_behind : {A B : Type 0} (R : ℕ → A → B → Type 0) (xs : List A) (past : List B) → Behind R xs [] past → AreFrom R 0 xs past
all_behind R xs past b = subst (AreFrom R 0 xs) (sym b.is) b.each

pub all_of : {A : Type 0} (P : A → Type 0) (xs : List A) → ((k : ℕ) (x : A) → slice_get xs k ≡ Some x → P x) → All P xs
all_of P [] h = All-nil P
all_of P (x ∷ xs) h = All-cons P x xs (h 0 x refl) (all_of P xs (λ k y is. h (suc k) y is))
