-- An element of a list after one was set.
use Rattle.std.proofs.Common.{◌≡◌, ◌≢◌, ℕ, zero, suc, ◌<◌, List, [], ◌∷◌, length, set, slice_get, Some, refl, ap, arith}

pub set_same : {A : Type 0} (xs : List A) (k : ℕ) (x : A) → k < length xs → slice_get (set xs k x) k ≡ Some x
set_same [] k x within = absurd (omega arith)
set_same (y ∷ ys) zero x within = refl
set_same (y ∷ ys) (suc k) x within = set_same ys k x (omega arith)

pub set_other : {A : Type 0} (xs : List A) (k j : ℕ) (x : A) → j ≢ k → slice_get (set xs k x) j ≡ slice_get xs j
set_other [] k j x apart = refl
set_other (y ∷ ys) zero zero x apart = absurd (apart refl)
set_other (y ∷ ys) zero (suc j) x apart = refl
set_other (y ∷ ys) (suc k) zero x apart = refl
set_other (y ∷ ys) (suc k) (suc j) x apart = set_other ys k j x (λ e. apart (ap suc e))
