-- The elements of a list, also with more elements after it.
use Rattle.std.proofs.Common.{◌≡◌, ℕ, zero, suc, ◌<◌, ◌≤◌, Bool, true, false, List, [], ◌∷◌, ◌++◌, length, map, cond, Some, slice_get, refl, sym, ◌∙◌, subst, arith}
use Rattle.std.proofs.lemmas.List.{same_lists}
use Rattle.std.proofs.lemmas.List.FromFn.{get_or-map-range_with_len, length-map-range_with_len}
use Rattle.std.proofs.lemmas.Option.{get_or_from_slice_get, slice_get_within}
use Rattle.std.specs.List.{AllByRecursion, filter, range_with_len}
use Rattle.std.specs.Prelude.{Any}

-- a list has an element at each index below its length
pub there_is : {A : Type 0} (xs : List A) (k : ℕ) → k < length xs → (x : A) × (slice_get xs k ≡ Some x)
there_is [] k within = absurd (omega arith)
there_is (x ∷ xs) zero within = (x, refl)
there_is (x ∷ xs) (suc k) within = there_is xs k (omega arith)

-- an element of a mapped list is the image of the element at the same index
pub made_there : {A B : Type 0} (f : A → B) (xs : List A) (k : ℕ) (y : B) → slice_get (map f xs) k ≡ Some y → (x : A) × (slice_get xs k ≡ Some x) × (f x ≡ y)
made_there f [] k y is = absurd (cc is)
made_there f (x ∷ xs) zero y is = (x, refl, cc is)
made_there f (x ∷ xs) (suc k) y is = made_there f xs k y is

pub in_front : {A : Type 0} (xs ys : List A) (k : ℕ) (x : A) → slice_get xs k ≡ Some x → slice_get (xs ++ ys) k ≡ Some x
in_front [] ys k x is = absurd cc
in_front (y ∷ xs) ys zero x is = is
in_front (y ∷ xs) ys (suc k) x is = in_front xs ys k x is

pub at_left : {A : Type 0} (xs ys : List A) (k : ℕ) → k < length xs → slice_get (xs ++ ys) k ≡ slice_get xs k
at_left [] ys k few = absurd (omega (arith, few))
at_left (x ∷ xs) ys zero few = refl
at_left (x ∷ xs) ys (suc k) few = at_left xs ys k (omega (arith, few))

-- the element between two lists
pub between : {A : Type 0} (xs ys : List A) (x : A) → slice_get (xs ++ x ∷ ys) (length xs) ≡ Some x
between [] ys x = refl
between (z ∷ xs) ys x = between xs ys x

-- a property of the element at an index is a property of some element
pub some_at : {A : Type 0} (Q : A → Type 0) (xs : List A) (k : ℕ) (x : A) → slice_get xs k ≡ Some x → Q x → Any Q xs
some_at Q xs k x at so = (k, x, slice_get_within xs k x at, get_or_from_slice_get xs k x x at, so)

-- a property of each element, and of one more
pub all_more : {A : Type 0} (P : A → Type 0) (xs : List A) (x : A) → AllByRecursion P xs → P x → AllByRecursion P (xs ++ x ∷ [])
all_more P [] x all last = (last, tt)
all_more P (y ∷ xs) x all last = (all.0, all_more P xs x all.1 last)

-- two lists made alike, index by index
pub made_alike : {A : Type 0} (f g : ℕ → A) (count : ℕ) → ((k : ℕ) → k < count → f k ≡ g k) → map f (range_with_len 0 count) ≡ map g (range_with_len 0 count)
made_alike f g count each =
    same_lists (map f (range_with_len 0 count)) (map g (range_with_len 0 count)) (length-map-range_with_len f 0 count ∙ sym (length-map-range_with_len g 0 count))
    (λ k d h. let below : k < count = subst (λ n. k < n) (length-map-range_with_len f 0 count) h in
    get_or-map-range_with_len f 0 count k k d below (omega arith) ∙ each k below ∙ sym (get_or-map-range_with_len g 0 count k k d below (omega arith)))

pub filter_short : {A : Type 0} (f : A → Bool) (xs : List A) → length (filter f xs) ≤ length xs
filter_short f [] = omega arith
filter_short {A = A} f (x ∷ xs) = by (filter f xs) (filter_short f xs) (f x)
  where
    by : (kept : List A) → length kept ≤ length xs → (b : Bool) → length (cond b (x ∷ kept) kept) ≤ suc (length xs)
    by kept rest true = omega arith
    by kept rest false = omega arith
