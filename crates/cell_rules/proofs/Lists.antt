-- Lists by their elements, and with one more element.
use Rattle.std.proofs.Common.{◌≡◌, ◌⊎◌, inl, inr, ℕ, zero, suc, ◌+◌, ◌<◌, ◌≤◌, Bool, true, false, List, [], ◌∷◌, ◌++◌, length, get_or, set, replicate, Option, Some, None, slice_get, refl, ap, sym, ◌∙◌, arith}
use Rattle.std.specs.List.{position, position_or_len}
use Rattle.std.proofs.lemmas.Grind.{common_steps}
use Rattle.std.proofs.lemmas.List.Quantifiers.{position-Some}
use Rattle.std.proofs.lemmas.List.Sums.{fails_before_first}
use Rattle.std.proofs.lemmas.Option.{get_or_from_slice_get, slice_get-get_or, slice_get_within}

pub same_there : {A : Type 0} (o : Option A) (x y : A) → o ≡ Some x → o ≡ Some y → x ≡ y
same_there o x y is other = cc

-- lists with the same elements
pub same_list : {A : Type 0} (xs ys : List A) → ((i : ℕ) → slice_get xs i ≡ slice_get ys i) → xs ≡ ys
same_list [] [] same = refl
same_list [] (y ∷ ys) same = let e = same 0 in absurd (cc e)
same_list (x ∷ xs) [] same = let e = same 0 in absurd (cc e)
same_list (x ∷ xs) (y ∷ ys) same =
    let e : Some x ≡ Some y = same 0 in
    let head : x ≡ y = cc e in
    let tail = same_list xs ys (λ i. same (suc i)) in
    ap (λ z. z ∷ xs) head ∙ ap (λ zs. y ∷ zs) tail

-- the element at an index of the front
pub front_there : {A : Type 0} (xs ys : List A) (i : ℕ) (x : A) → i < length xs → slice_get (xs ++ ys) i ≡ Some x → slice_get xs i ≡ Some x
front_there [] ys i x front is = absurd (omega (arith, front))
front_there (y ∷ xs) ys zero x front is = is
front_there (y ∷ xs) ys (suc i) x front is = front_there xs ys i x (omega (arith, front)) is

-- an element of a list with one more is an earlier one, or the last
pub earlier_or_last : {A : Type 0} (xs : List A) (y : A) (i : ℕ) (x : A) → slice_get (xs ++ y ∷ []) i ≡ Some x → (slice_get xs i ≡ Some x) ⊎ ((i ≡ length xs) × (y ≡ x))
earlier_or_last [] y zero x is = inr (refl, cc)
earlier_or_last [] y (suc i) x is = absurd (cc)
earlier_or_last (z ∷ xs) y zero x is = inl is
earlier_or_last (z ∷ xs) y (suc i) x is = elim (earlier_or_last xs y i x is) [ inl before ↦ inl before | inr last ↦ inr (ap suc last.0, last.1) ]

pub one_longer : {A : Type 0} (xs : List A) (x : A) → length (xs ++ x ∷ []) ≡ length xs + 1
one_longer [] x = refl
one_longer (y ∷ xs) x = omega (arith, one_longer xs x)

-- a list with another element at an index
pub put_there : {A : Type 0} (xs : List A) (k : ℕ) (y : A) (i : ℕ) (x : A) → slice_get (set xs k y) i ≡ Some x → ((i ≡ k) × (y ≡ x)) ⊎ ((i ≡ k → ⊥) × (slice_get xs i ≡ Some x))
put_there [] k y i x is = absurd (cc is)
put_there (z ∷ xs) zero y zero x is = inl (refl, cc is)
put_there (z ∷ xs) zero y (suc i) x is = inr (λ e. omega (arith, e), is)
put_there (z ∷ xs) (suc k) y zero x is = inr (λ e. omega (arith, e), is)
put_there (z ∷ xs) (suc k) y (suc i) x is = elim (put_there xs k y i x is) [ inl here ↦ inl (ap suc here.0, here.1) | inr elsewhere ↦ inr (λ e. elsewhere.0 (omega (arith, e)), elsewhere.1) ]

pub all_alike : {A : Type 0} (n : ℕ) (y : A) (i : ℕ) (x : A) → slice_get (replicate n y) i ≡ Some x → y ≡ x
all_alike zero y i x is = absurd (cc is)
all_alike (suc n) y zero x is = cc is
all_alike (suc n) y (suc i) x is = all_alike n y i x is

-- the first index that passes a test
pub position_there : {A : Type 0} (test : A → Bool) (xs : List A) (k : ℕ) → position test xs ≡ Some k → (x : A) × (slice_get xs k ≡ Some x) × (test x ≡ true)
position_there test [] k is = absurd (cc is)
position_there test (x ∷ xs) k is =
    let (inside_list, passes, _) = position-Some test (x ∷ xs) k x is in
    (get_or (x ∷ xs) k x, slice_get-get_or (x ∷ xs) k x inside_list, passes)

-- or none passes
pub position_nowhere : {A : Type 0} (test : A → Bool) (xs : List A) → position test xs ≡ None → (k : ℕ) (x : A) → slice_get xs k ≡ Some x → test x ≡ false
position_nowhere test xs is k x at =
    let all : length xs ≤ position_or_len test xs = grind (arith, common_steps) in
    ap test (sym (get_or_from_slice_get xs k x x at)) ∙ fails_before_first test xs k x (omega (arith, all, slice_get_within xs k x at))
