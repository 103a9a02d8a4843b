-- Tests of all numbers in a list.
use Rattle.std.proofs.Common.{◌≡◌, ℕ, zero, suc, Bool, true, false, cond, ◌&&◌, List, [], ◌∷◌, take, refl}
use Rattle.std.specs.List.{list_all, filter}
use Rattle.std.proofs.lemmas.Bool.{false≢true}

both : (a b : Bool) → (a && b) ≡ true → (a ≡ true) × (b ≡ true)
both true b h = (refl, h)
both false b h = absurd (false≢true h)

pub list_all-weaker : (p q : ℕ → Bool) → ((n : ℕ) → p n ≡ true → q n ≡ true) → (xs : List ℕ) → list_all p xs ≡ true → list_all q xs ≡ true
list_all-weaker p q weaker [] h = refl
list_all-weaker p q weaker (x ∷ xs) h =
    let parts = both (p x) (list_all p xs) h in
    rw (weaker x parts.0) (list_all-weaker p q weaker xs parts.1)

pub list_all-take : (p : ℕ → Bool) (k : ℕ) (xs : List ℕ) → list_all p xs ≡ true → list_all p (take k xs) ≡ true
list_all-take p zero xs h = refl
list_all-take p (suc k) [] h = refl
list_all-take p (suc k) (x ∷ xs) h =
    let parts = both (p x) (list_all p xs) h in
    rw (parts.0) (list_all-take p k xs parts.1)

-- a number that passes a test and the filter's passes another test
pub list_all-filter : (p f q : ℕ → Bool) → ((n : ℕ) → p n ≡ true → f n ≡ true → q n ≡ true) → (xs : List ℕ) → list_all p xs ≡ true → list_all q (filter f xs) ≡ true
list_all-filter p f q passes [] h = refl
list_all-filter p f q passes (x ∷ xs) h =
    let parts = both (p x) (list_all p xs) h in
    here (f x) refl (list_all-filter p f q passes xs parts.1) parts.0
  where
    here : (b : Bool) → f x ≡ b → list_all q (filter f xs) ≡ true → p x ≡ true → list_all q (cond b (x ∷ filter f xs) (filter f xs)) ≡ true
    here true is rest of_x = rw (passes x of_x is) rest
    here false is rest of_x = rest

pub list_all-true : (xs : List ℕ) → list_all (λ n. true) xs ≡ true
list_all-true [] = refl
list_all-true (x ∷ xs) = list_all-true xs
