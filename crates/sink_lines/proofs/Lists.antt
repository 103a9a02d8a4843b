-- The elements of a list from an index on, and up to an index.
use Rattle.std.proofs.Common.{◌≡◌, ℕ, zero, suc, ◌+◌, ◌-◌, ◌<◌, ◌≤◌, min, length-drop, List, ◌∷◌, [], ◌++◌, length, drop, take, get_or, refl, ap, sym, ◌∙◌, arith, add-one, drop-cons, take_at}
use Rattle.std.proofs.Math.Seq.{take-suc, take-length}

-- the elements from k on
pub drop-at : {A : Type 0} (xs : List A) (k : ℕ) (d : A) → k < length xs → drop k xs ≡ get_or xs k d ∷ drop (k + 1) xs
drop-at xs k d lt = drop-cons xs k d lt ∙ ap (λ (i : ℕ). get_or xs k d ∷ drop i xs) (sym (add-one k))

-- the same for an element that is known
pub drop-element : {A : Type 0} (xs : List A) (k : ℕ) (x : A) → k < length xs → x ≡ get_or xs k x → drop k xs ≡ x ∷ drop (k + 1) xs
drop-element xs k x lt is = drop-at xs k x lt ∙ ap (λ y. y ∷ drop (k + 1) xs) (sym is)

-- the elements up to and including k
pub take-element : {A : Type 0} (xs : List A) (k : ℕ) (x : A) → k < length xs → x ≡ get_or xs k x → take (k + 1) xs ≡ take k xs ++ x ∷ []
take-element xs k x lt is =
    ap (λ (i : ℕ). take i xs) (add-one k) ∙ take-suc xs k x lt ∙ ap (λ y. take k xs ++ y ∷ []) (sym is)

-- nothing follows the last element
pub drop-past : {A : Type 0} (xs : List A) (k : ℕ) → length xs ≤ k → drop k xs ≡ []
drop-past [] zero past = refl
drop-past [] (suc k) past = refl
drop-past (x ∷ xs) zero past = absurd (omega arith)
drop-past (x ∷ xs) (suc k) past = drop-past xs k (omega arith)

take-nil : {A : Type 0} (n : ℕ) → take {A = A} n [] ≡ []
take-nil zero = refl
take-nil (suc n) = refl

-- as many of the first elements as there are
pub take-min : {A : Type 0} (xs : List A) (count n : ℕ) → n ≡ min count (length xs) → take n xs ≡ take count xs
take-min [] count n is = take-nil n ∙ sym (take-nil count)
take-min (x ∷ xs) zero n is = let none : n ≡ 0 = omega arith in ap (λ (i : ℕ). take i (x ∷ xs)) none
take-min (x ∷ xs) (suc count) zero is = absurd (omega arith)
take-min (x ∷ xs) (suc count) (suc n) is = ap (λ ys. x ∷ ys) (take-min xs count n (omega arith))

pub drop-min : {A : Type 0} (xs : List A) (count n : ℕ) → n ≡ min count (length xs) → drop n xs ≡ drop count xs
drop-min [] count n is = drop-past [] n (omega arith) ∙ sym (drop-past [] count (omega arith))
drop-min (x ∷ xs) zero n is = let none : n ≡ 0 = omega arith in ap (λ (i : ℕ). drop i (x ∷ xs)) none
drop-min (x ∷ xs) (suc count) zero is = absurd (omega arith)
drop-min (x ∷ xs) (suc count) (suc n) is = drop-min xs count n (omega arith)

-- what is left after some elements is all of it
pub take-rest : {A : Type 0} (xs : List A) (n : ℕ) → take (length xs - n) (drop n xs) ≡ drop n xs
take-rest xs n = ap (λ (i : ℕ). take i (drop n xs)) (sym (length-drop n xs)) ∙ take-length (drop n xs)

-- what a list holds after this many elements were written from its first on is all of them
pub refilled : {A : Type 0} (n : ℕ) (xs new : List A) → length new ≡ n → take n (new ++ drop (length new) xs) ≡ new
refilled n xs new each = take_at new (drop (length new) xs) n each
