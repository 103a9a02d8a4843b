-- The index of the first element that passes a test.
use Rattle.std.proofs.Common.{◌≡◌, ℕ, ◌+◌, ◌<◌, Bool, true, false, cond, List, [], ◌∷◌, length, Some, IfSome, arith}
use Rattle.std.specs.List.{position_from}

-- it is an index of the list
pub position_from-below : {X : Type 0} (p : X → Bool) (at end : ℕ) (xs : List X) → at + length xs ≡ end → IfSome (position_from p at xs) (λ index. index < end)
position_from-below p at end [] h = tt
position_from-below p at end (x ∷ xs) h = here (p x) (position_from-below p (at + 1) end xs (omega arith))
  where
    here : (b : Bool) → IfSome (position_from p (at + 1) xs) (λ index. index < end)
        → IfSome (cond b (Some at) (position_from p (at + 1) xs)) (λ index. index < end)
    here true later = omega arith
    here false later = later
