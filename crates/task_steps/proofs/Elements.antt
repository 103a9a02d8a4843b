-- Elements of arrays.
use Rattle.std.proofs.Common.{◌≡◌, arith, ℕ, ◌<◌, ◌==◌, List, [], ◌∷◌, length, Bool, true, false, Some, slice_get, if◌then◌else◌}
use Rattle.std.specs.Option.{option_and_then}
use Rattle.std.proofs.lemmas.Option.{slice_get_within}
use Rattle.typed_trees.specs.declared.datum.Datum.{Datum}
use Rattle.rapid_meaning.specs.Data.{Frame, frame_at, values_in}
use Rattle.task_steps.proofs.Counts.{values_more}

-- the values of a frame are among all
pub at_few : (frames : List Frame) (k at : ℕ) (x : Datum) → option_and_then (λ f. slice_get f.values at) (frame_at frames k) ≡ Some x → at < values_in frames
unfolding frame_at
at_few [] k at x e = cc
at_few (frame ∷ below) k at x e = by (length below == k) (λ is. at_few below k at x is) e
  where
    by : (b : Bool) → (option_and_then (λ f. slice_get f.values at) (frame_at below k) ≡ Some x → at < values_in below)
        → option_and_then (λ f. slice_get f.values at) (if b then Some frame else frame_at below k) ≡ Some x → at < values_in (frame ∷ below)
    by true more is = let here = slice_get_within frame.values at x is in omega (arith, here, values_more frame below)
    by false more is = omega (arith, more is, values_more frame below)
