-- Operations that read the state of the task.
use Rattle.std.proofs.Common.{◌≡◌, refl, sym, ap, ◌∙◌, arith, ℕ, suc, ◌-◌, ◌==◌, List, [], ◌∷◌, length, Bool, true, false, Option, None, Some, slice_get, if◌then◌else◌}
use Rattle.std.specs.Option.{option_and_then, option_map}
use Rattle.std.proofs.lemmas.Bool.{eq-eqb}
use Rattle.rapid_model.specs.declared.fate.Fate.TheVariants as fates
use Rattle.rapid_model.specs.declared.fate.Fault.TheVariants.{MoveInTrap}
use Rattle.typed_trees.specs.declared.datum.Datum.{Datum}
use Rattle.typed_trees.specs.declared.datum.Root.TheVariants as roots
use Rattle.rapid_meaning.specs.Answering.{performed}
use Rattle.rapid_meaning.specs.Data.{Data, Frame, below_first, datum_at, frame_at}
use Rattle.rapid_meaning.specs.Doings.{Doing, Reads, Writes, after, done, fault, or_misfit}
use Rattle.rapid_meaning.specs.Places.{at_root, kept_place, own_place, place_in}
use Rattle.stack_code.specs.CodeData.{CodeData}
use Rattle.stack_code.specs.Confs.{Conf}
use Rattle.stack_code.specs.Steps.{Here, act, does, pushes}
use Rattle.stack_code.specs.declared.op.Op.TheVariants as ops
use Rattle.task_steps.specs.Alike.{Alike}
use Rattle.task_steps.specs.Doing.{came}
use Rattle.task_steps.specs.declared.steps.done.Done.{Done}
use Rattle.task_steps.specs.declared.steps.done.Done.TheVariants as dones
use Rattle.task_steps.proofs.Along.{alike_is, alike_then}

-- what reads, for the data as they are
pub reads_now : (code : CodeData) (f : Data → Doing Conf) (d : Data) → Alike code (Reads f) d (f d) d
unfolding performed
reads_now code f d = record { same = λ left. refl }

pub writes_now : (code : CodeData) (e : Data) (m : Doing Conf) (d : Data) → Alike code (Writes e m) d m e
unfolding performed
writes_now code e m d = record { same = λ left. refl }

-- pushes what is there, in its form
abbrev pub pushed_as : {A : Type 0} → (A → Datum) → Option A → Option Done
pushed_as form o = option_map (λ x. dones.Push (form x)) o

push_there : {A : Type 0} → (h : Here) (form : A → Datum) (o : Option A) → pushes h h.conf.stack form (or_misfit o) ≡ came h (pushed_as form o)
unfolding after
push_there h form None = refl
push_there h form (Some x) = refl

-- pushes what is read of the data
pub push_read : {A : Type 0} → (code : CodeData) (h : Here) (d : Data) (form : A → Datum) (f : Data → Option A) (o : Option A) → o ≡ f d
    → Alike code (pushes h h.conf.stack form (Reads (λ e. or_misfit (f e)))) d (came h (pushed_as form o)) d
unfolding after
push_read code h d form f o is =
    alike_then code _ _ _ d d d (reads_now code (λ e. pushes h h.conf.stack form (or_misfit (f e))) d)
    (alike_is code _ _ d (ap (λ x. pushes h h.conf.stack form (or_misfit x)) (sym is) ∙ push_there h form o))

-- copies of operands
pub dup_of : (h : Here) (o : Option Datum) → o ≡ slice_get h.conf.stack 0 → act h ops.Dup ≡ came h (pushed_as (λ x. x) o)
dup_of h o is = rw is (by h.conf.stack refl)
  where
    by : (stack : List Datum) → stack ≡ h.conf.stack → act h ops.Dup ≡ came h (pushed_as (λ x. x) (slice_get stack 0))
    by [] e = rw (← e) refl
    by (x ∷ rest) e = rw (← e) refl

pub over_of : (h : Here) (o : Option Datum) → o ≡ slice_get h.conf.stack 1 → act h ops.Over ≡ came h (pushed_as (λ x. x) o)
over_of h o is = rw is (by h.conf.stack refl)
  where
    by : (stack : List Datum) → stack ≡ h.conf.stack → act h ops.Over ≡ came h (pushed_as (λ x. x) (slice_get stack 1))
    by [] e = rw (← e) refl
    by (x ∷ []) e = rw (← e) refl
    by (x ∷ y ∷ rest) e = rw (← e) refl

-- the innermost frame is the one with all others below it
pub below_count : (frames : List Frame) → length (below_first frames) ≡ length frames - 1
below_count [] = refl
below_count (frame ∷ below) = omega arith

pub own_there : (frames : List Frame) (k at : ℕ) → length frames ≡ suc k → own_place at frames ≡ at_root (roots.Frame k at)
own_there frames k at e = ap (λ (n : ℕ). at_root (roots.Frame n at)) (omega (arith, below_count frames, e))

-- if there is none, there is no datum either
pub own_missing : (frames : List Frame) (at : ℕ) → length frames ≡ 0 → own_place at frames ≡ at_root (roots.Frame 0 at)
own_missing frames at e = ap (λ (n : ℕ). at_root (roots.Frame n at)) (omega (arith, below_count frames, e))

pub nothing_at : (d : Data) (at : ℕ) → length d.frames ≡ 0 → datum_at (roots.Frame 0 at) d ≡ None
unfolding frame_at
nothing_at d at e = by d.frames e
  where
    by : (frames : List Frame) → length frames ≡ 0 → option_and_then (λ f. slice_get f.values at) (frame_at frames 0) ≡ None
    by [] none = refl
    by (frame ∷ below) none = absurd (omega (arith, none))

pub kept_there : (frames : List Frame) (k at : ℕ) → length frames ≡ suc k
    → kept_place at frames ≡ option_and_then place_in (option_and_then (λ f. slice_get f.values at) (frame_at frames k))
unfolding frame_at
kept_there [] k at e = cc
kept_there (frame ∷ below) k at e =
    let same : length below ≡ k = omega (arith, e) in
    rw (← same) (by (length below == length below) (eq-eqb (length below) (length below) refl))
  where
    by : (b : Bool) → b ≡ true
        → option_and_then place_in (slice_get frame.values at) ≡ option_and_then place_in (option_and_then (λ f. slice_get f.values at) (if b then Some frame else frame_at below (length below)))
    by true is = refl
    by false is = cc

-- no trap is under way, or one is
pub still_of : (code : CodeData) (h : Here) (d : Data) (b : Bool) → d.trapped ≡ b → Alike code (act h ops.Still) d (came h (if b then Some (dones.End (fates.Fault MoveInTrap)) else Some dones.Next)) d
unfolding after
still_of code h d true is =
    alike_then code _ _ _ d d d (reads_now code (λ e. does h h.conf.stack (if e.trapped then fault MoveInTrap else done)) d)
    (alike_is code _ _ d (ap (λ b. does h h.conf.stack (if b then fault MoveInTrap else done)) is))
still_of code h d false is =
    alike_then code _ _ _ d d d (reads_now code (λ e. does h h.conf.stack (if e.trapped then fault MoveInTrap else done)) d)
    (alike_is code _ _ d (ap (λ b. does h h.conf.stack (if b then fault MoveInTrap else done)) is))
