-- The outcome of a doing for the answers that the task gets.
use Rattle.std.specs.Prelude.{ℕ, ◌==◌, Bool, true, false, List, [], ◌∷◌, Option, None, Some, if◌then◌else◌, slice_get}
use Rattle.rapid_model.specs.Fits.{Fitting, fits_request}
use Rattle.rapid_model.specs.declared.answer.Answer.{Answer}
use Rattle.rapid_model.specs.declared.fate.Fate.{Fate}
use Rattle.rapid_model.specs.declared.request.Request.{Request}
use Rattle.rapid_model.specs.declared.request.Request.TheVariants.{End}
use Rattle.rapid_model.specs.declared.sort.Sort.{Sort}
use Rattle.rapid_model.specs.declared.routine_kind.RoutineKind.{RoutineKind}
use Rattle.rapid_model.specs.declared.routine_kind.RoutineKind.TheVariants as kinds
use Rattle.typed_trees.specs.Plain.{TypedPers, TypedRoutine, TypedTree}
use Rattle.rapid_meaning.specs.Data.{Data}
use Rattle.rapid_meaning.specs.Doings.{Doing, Gives, Raises, Asks, Ends, Misfit, Reads, Writes, Does}
use Rattle.rapid_meaning.specs.Flows.{Flow, Part}

-- Gave, Raised: it is done, with these data and these answers left. Asking: this request is pending, with no answer
-- left. Ended: the task has ended, and its End was answered. Misfits: as Misfit. Unfit: an answer does not fit its
-- request. NoFuel: parts of the program nest deeper than the fuel allows.
pub data Outcome (A : Type 0) : Type 0 where
  Gave : A → Data → List Answer → Outcome A
  Raised : ℕ → Data → List Answer → Outcome A
  Asking : Request → Data → Outcome A
  Ended : Data → Outcome A
  Misfits : Outcome A
  Unfit : Outcome A
  NoFuel : Outcome A

-- the outcome of each part of a program
abbrev pub Run : Type 0
Run = Part → Data → List Answer → Outcome Flow

-- continues after an outcome that is done or raised an error; any other outcome stands
abbrev pub joined : {A B : Type 0} → Outcome A → (A → Data → List Answer → Outcome B) → (ℕ → Data → List Answer → Outcome B) → Outcome B
joined (Gave v d left) next failed = next v d left
joined (Raised n d left) next failed = failed n d left
joined (Asking request d) next failed = Asking request d
joined (Ended d) next failed = Ended d
joined Misfits next failed = Misfits
joined Unfit next failed = Unfit
joined NoFuel next failed = NoFuel

-- the type of the first persistent with this number in the cell
unfoldable pub sort_of_pers : List ℕ → List TypedPers → ℕ → Option Sort
sort_of_pers (number ∷ numbers) (row ∷ rows) pers = if number == pers then Some row.sort else sort_of_pers numbers rows pers
sort_of_pers _ _ pers = None

abbrev pub is_trap_kind : RoutineKind → Bool
is_trap_kind kinds.Trap = true
is_trap_kind _ = false

abbrev pub is_trap_row : Option TypedRoutine → Bool
is_trap_row None = false
is_trap_row (Some routine) = is_trap_kind routine.kind

-- which answers to a task fit, in a trap or outside one
abbrev pub fitting_of : TypedTree → Bool → Fitting
fitting_of tree trapped = record {
  sorts = sort_of_pers tree.pers_of tree.pers;
  traps = λ number. is_trap_row (slice_get tree.routines number);
  trapped = trapped;
  axes = tree.axes;
}

-- a task that ends with this fate asks End, and has ended once that is answered
abbrev pub ending : {A : Type 0} → (Bool → Fitting) → Fate → Data → List Answer → Outcome A
ending by fate d [] = Asking (End fate) d
ending by fate d (a ∷ left) = if fits_request (by d.trapped) (End fate) a then Ended d else Unfit

-- the outcome of a doing from these data, for these answers
unfoldable pub performed : {A : Type 0} → (Bool → Fitting) → Run → Doing A → Data → List Answer → Outcome A
performed by run (Gives v) d left = Gave v d left
performed by run (Raises n) d left = Raised n d left
performed by run (Asks request answered) d [] = Asking request d
performed by run (Asks request answered) d (a ∷ left) =
    if fits_request (by d.trapped) request a then performed by run (answered a) d left else Unfit
performed by run (Ends fate) d left = ending by fate d left
performed by run Misfit d left = Misfits
performed by run (Reads with_data) d left = performed by run (with_data d) d left
performed by run (Writes e more) d left = performed by run more e left
performed by run (Does part ended raised) d left =
    joined (run part d left) (λ flow e rest. performed by run (ended flow) e rest) (λ n e rest. performed by run (raised n) e rest)
