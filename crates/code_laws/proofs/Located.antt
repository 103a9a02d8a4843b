-- A place of the running routine is the same before and after anything that leaves as many frames as it found, so it
-- may be looked up before or after.
use Rattle.std.proofs.Common.{◌≡◌, refl, sym, ap, ◌∙◌, ℕ, zero, suc, Bool, false, List, [], ◌∷◌, length}
use Rattle.rapid_model.specs.Fits.{Fitting}
use Rattle.rapid_model.specs.declared.answer.Answer.{Answer}
use Rattle.typed_trees.specs.declared.datum.Lvalue.{Lvalue}
use Rattle.typed_trees.specs.declared.datum.Root.TheVariants as roots
use Rattle.rapid_meaning.specs.Answering.{Outcome, Gave, Raised, Asking, Ended, Misfits, Unfit, NoFuel, Run, joined, performed}
use Rattle.rapid_meaning.specs.Data.{Data, Frame, below_first}
use Rattle.rapid_meaning.specs.Doings.{Doing, Gives, Raises, Reads, ◌>>=◌, after}
use Rattle.rapid_meaning.specs.Places.{at_root, own_place}
use Rattle.rapid_meaning.proofs.Composing.{performed_after}
use Rattle.rapid_meaning.proofs.Counts.{counts}
use Rattle.rapid_meaning.proofs.Kept.{Kept, RunKept, kept_performed}
use Rattle.rapid_meaning.proofs.Room.{any_room}
use Rattle.rapid_meaning.proofs.Tidy.{IsTidy}

-- from data with this many frames, both have the same outcome
pub record Alike {A : Type 0} (by : Bool → Fitting) (run : Run) (count : ℕ) (m n : Doing A) : Type 0 where
  pub same : (d : Data) (left : List Answer) → length d.frames ≡ count → performed by run m d left ≡ performed by run n d left

pub alike_over : {A : Type 0} {by : Bool → Fitting} {run : Run} {count : ℕ} {m n k : Doing A} → Alike by run count m n → Alike by run count n k → Alike by run count m k
alike_over first second = record { same = λ d left is. first.same d left is ∙ second.same d left is }

-- what follows a doing that leaves as many frames as it found
pub alike_then : {A B : Type 0} (by : Bool → Fitting) (run : Run) → RunKept run → (count : ℕ) (m : Doing A) (f g : A → Doing B) → IsTidy m
    → ((v : A) → Alike by run count (f v) (g v)) → Alike by run count (m >>= f) (m >>= g)
alike_then {A = A} by run kept count m f g tidy alike = record {
  same = λ d left is.
      performed_after by run m f Raises d left
      ∙ by_outcome (performed by run m d left) (kept_performed by run kept false count (counts d.frames) m d left (tidy.from false count d (any_room d.frames count is)))
      ∙ sym (performed_after by run m g Raises d left);
}
  where
    by_outcome : (o : Outcome A) → Kept false count o
        → joined o (λ v e rest. performed by run (f v) e rest) (λ n e rest. performed by run (Raises n) e rest)
        ≡ joined o (λ v e rest. performed by run (g v) e rest) (λ n e rest. performed by run (Raises n) e rest)
    by_outcome (Gave v d left) k = (alike v).same d left k.counted
    by_outcome (Raised n d left) k = refl
    by_outcome (Asking request d) k = refl
    by_outcome (Ended d) k = refl
    by_outcome Misfits k = refl
    by_outcome Unfit k = refl
    by_outcome NoFuel k = refl

-- how many frames are below the innermost of this many
abbrev pub lower : ℕ → ℕ
lower zero = zero
lower (suc n) = n

below_lower : (frames : List Frame) → length (below_first frames) ≡ lower (length frames)
below_lower [] = refl
below_lower (frame ∷ below) = refl

-- a place in the innermost of this many frames
abbrev pub own_of : ℕ → ℕ → Lvalue
own_of count at = at_root (roots.Frame (lower count) at)

abbrev pub place_at : ℕ → Doing Lvalue
place_at at = Reads (λ d. Gives (own_place at d.frames))

own_is : (count at : ℕ) (d : Data) → length d.frames ≡ count → own_place at d.frames ≡ own_of count at
own_is count at d is = ap (λ (n : ℕ). at_root (roots.Frame n at)) (below_lower d.frames ∙ ap lower is)

pub alike_place : {B : Type 0} (by : Bool → Fitting) (run : Run) (count at : ℕ) (f : Lvalue → Doing B) → Alike by run count (place_at at >>= f) (f (own_of count at))
unfolding after performed
alike_place by run count at f = record { same = λ d left is. ap (λ (p : Lvalue). performed by run (f p) d left) (own_is count at d is) }

-- the place is part of the first of two doings
pub alike_first : {A B : Type 0} (by : Bool → Fitting) (run : Run) (count at : ℕ) (f : Lvalue → Doing A) (g : A → Doing B)
    → Alike by run count (place_at at >>= f >>= g) (f (own_of count at) >>= g)
unfolding after performed
alike_first by run count at f g = record { same = λ d left is. ap (λ (p : Lvalue). performed by run (f p >>= g) d left) (own_is count at d is) }
