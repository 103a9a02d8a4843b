-- What code asks after given answers.
use Rattle.std.specs.Prelude.{ℕ, zero, suc, ◌==◌, nat_le, Bool, false, List, [], ◌∷◌, length, Option, None, Some, ⊤, if◌then◌else◌, slice_get}
use Rattle.rapid_model.specs.Fits.{Fitting}
use Rattle.rapid_model.specs.declared.answer.Answer.{Answer}
use Rattle.rapid_model.specs.declared.sort.Sort.{Sort}
use Rattle.rapid_meaning.specs.Answering.{Outcome, Run, Misfits, NoFuel, joined, performed}
use Rattle.rapid_meaning.specs.Data.{Data}
use Rattle.rapid_meaning.specs.Doings.{Doing}
use Rattle.rapid_meaning.specs.Runs.{Next, next_of}
use Rattle.stack_code.specs.CodeData.{CodeData}
use Rattle.stack_code.specs.Confs.{Conf}
use Rattle.stack_code.specs.Entering.{initial, started}
use Rattle.stack_code.specs.Steps.{step}
use Rattle.stack_code.specs.declared.pers_sort.PersSort.{PersSort}
use Rattle.stack_code.specs.declared.routine_row.RoutineRow.{RoutineRow}

-- the type of the first row with this persistent
unfoldable pub sort_in : List PersSort → ℕ → Option Sort
sort_in [] pers = None
sort_in (row ∷ more) pers = if row.pers == pers then Some row.sort else sort_in more pers

abbrev pub is_trap : Option RoutineRow → Bool
is_trap None = false
is_trap (Some row) = row.trap

-- which answers to code fit, in a trap or outside one
abbrev pub fitting_by : CodeData → Bool → Fitting
fitting_by code trapped = record { sorts = sort_in code.sorts; traps = λ number. is_trap (slice_get code.routines number); trapped = trapped; axes = code.axes }

-- operations do no part of a tree
abbrev pub no_part : Run
no_part part d answers = Misfits

-- code from a configuration, for at most this many operations; more operands than the code's `deepest` misfit
unfoldable pub exec : (Bool → Fitting) → CodeData → ℕ → Conf → Data → List Answer → Outcome ⊤
exec by code zero c d answers = NoFuel
exec by code (suc k) c d answers =
    if nat_le (length c.stack) code.deepest
    then joined (performed by no_part (step code c) d answers) (λ next e left. exec by code k next e left) (λ error e left. Misfits)
    else Misfits

-- a doing that leads to a configuration, then the code from there; no error leaves the first routine
abbrev pub goes : (Bool → Fitting) → CodeData → ℕ → Doing Conf → Data → List Answer → Outcome ⊤
goes by code k m d answers = joined (performed by no_part m d answers) (λ next e left. exec by code k next e left) (λ error e left. Misfits)

-- the outcome of code for these answers, with at most this many operations
abbrev pub code_after : CodeData → ℕ → List Answer → Outcome ⊤
code_after code k answers = goes (fitting_by code) code k (started code) (initial code) answers

-- the next request of code
abbrev pub code_asks : CodeData → ℕ → List Answer → Next
code_asks code k answers = next_of (code_after code k answers)
