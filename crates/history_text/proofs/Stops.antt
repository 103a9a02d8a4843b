-- What a text starts with extends to the first byte that passes a test.
use Rattle.std.proofs.Common.{◌≡◌, ℕ, Bool, true, false, cond, List, [], ◌∷◌, ◌++◌, length, take, drop, refl, ap, ◌∙◌, arith}
use Rattle.std.proofs.lemmas.List.{take_at, drop_at}
use Rattle.std.specs.List.{AllByRecursion}
use Rattle.history_text.specs.Reading.{place_of}

-- what follows starts with a byte that passes, or nothing follows
abbrev pub Stops : (ℕ → Bool) → List ℕ → Type 0
Stops test [] = Unit {0}
Stops test (b ∷ bs) = test b ≡ true

-- no byte passes
abbrev pub GoesOn : (ℕ → Bool) → List ℕ → Type 0
GoesOn test bytes = AllByRecursion (λ b. test b ≡ false) bytes

-- what holds of each thing of a kind holds of each in a list of them
pub each : {A : Type 0} (P Q : A → Type 0) → ((x : A) → P x → Q x) → (xs : List A) → AllByRecursion P xs → AllByRecursion Q xs
each P Q from [] h = tt
each P Q from (x ∷ xs) h = (from x h.0, each P Q from xs h.1)

pub GoesOn-append : (test : ℕ → Bool) (xs ys : List ℕ) → GoesOn test xs → GoesOn test ys → GoesOn test (xs ++ ys)
GoesOn-append test [] ys h k = k
GoesOn-append test (x ∷ xs) ys h k = (h.0, GoesOn-append test xs ys h.1 k)

pub GoesOn-cond : (test : ℕ → Bool) (b : Bool) (xs ys : List ℕ) → GoesOn test xs → GoesOn test ys → GoesOn test (cond b xs ys)
GoesOn-cond test true xs ys h k = h
GoesOn-cond test false xs ys h k = k

-- the place where what follows starts
place_after : (test : ℕ → Bool) (xs ys : List ℕ) → GoesOn test xs → Stops test ys → place_of test (xs ++ ys) ≡ length xs
place_after test [] [] h stops = refl
place_after test [] (y ∷ ys) h stops = rw stops refl
place_after test (x ∷ xs) ys h stops =
    let first : test x ≡ false = h.0 in
    let rest = place_after test xs ys h.1 stops in
    rw first (omega arith)

pub front_again : (test : ℕ → Bool) (xs ys : List ℕ) → GoesOn test xs → Stops test ys → take (place_of test (xs ++ ys)) (xs ++ ys) ≡ xs
front_again test xs ys h stops = ap (λ n. take n (xs ++ ys)) (place_after test xs ys h stops) ∙ take_at xs ys (length xs) refl

pub rest_again : (test : ℕ → Bool) (xs ys : List ℕ) → GoesOn test xs → Stops test ys → drop (place_of test (xs ++ ys)) (xs ++ ys) ≡ ys
rest_again test xs ys h stops = ap (λ n. drop n (xs ++ ys)) (place_after test xs ys h stops) ∙ drop_at xs ys (length xs) refl
