-- How routines are left: by their end, by RETURN, and by errors (RAPID Overview, error recovery).
use Rattle.std.specs.Prelude.{ℕ, ◌+◌, false, List, [], ◌∷◌, Option, None, Some, slice_get}
use Rattle.std.specs.Option.{option_and_then}
use Rattle.rapid_model.specs.declared.fate.Fate.TheVariants as fates
use Rattle.rapid_model.specs.declared.fate.Fault.TheVariants.{Unhandled}
use Rattle.rapid_model.specs.declared.request.Request.TheVariants.{Leave}
use Rattle.rapid_model.specs.declared.value.Value.{Value}
use Rattle.typed_trees.specs.declared.datum.Datum.{Datum}
use Rattle.typed_trees.specs.declared.datum.Datum.TheVariants.{Plain}
use Rattle.rapid_meaning.specs.Doings.{Doing, Gives, Ends, Misfit, ◌>>◌, change, fault, tells}
use Rattle.rapid_meaning.specs.Frames.{leaves}
use Rattle.stack_code.specs.CodeData.{CodeData}
use Rattle.stack_code.specs.Confs.{Conf, Failed, Running, Saved, Started, Called, Trapped, behind_part, conf, in_part}
use Rattle.stack_code.specs.Placed.{Own}

-- the place of a routine's ERROR part, if it has one
abbrev pub handler_in : List (Option ℕ) → ℕ → Option ℕ
handler_in handlers routine = option_and_then (λ handler. handler) (slice_get handlers routine)

abbrev pub handler_of : CodeData → ℕ → Option ℕ
handler_of code routine = handler_in code.handlers routine

abbrev pub part_unless : Option Failed → ℕ → Own → Running → List Saved → ℕ → Doing Conf → Doing Conf
part_unless (Some failed) handler own frame saved error outside = outside
part_unless None handler own frame saved error outside = do
  change (λ d. record d { errno = error })
  Gives (conf handler [] (in_part frame own error) saved)

-- an error of a statement goes into the routine's ERROR part, if it has one and is not in it; else it leaves the
-- routine
abbrev pub part_or : Option ℕ → Own → Running → List Saved → ℕ → Doing Conf → Doing Conf
part_or None own frame saved error outside = outside
part_or (Some handler) own frame saved error outside = part_unless frame.failed handler own frame saved error outside

-- an error that left a routine is one of the statement that called it; if it left main or a trap, it ends the task
unfoldable pub raised_to : CodeData → List Saved → ℕ → Doing Conf
raised_to code [] error = Misfit
raised_to code (Started ∷ saved) error = fault (Unhandled error)
raised_to code (Trapped at frame way ∷ saved) error = fault (Unhandled error)
raised_to code (Called at own stack frame ∷ saved) error = part_or (handler_of code frame.routine) own frame saved error (leaves >> raised_to code saved error)

-- an error leaves the running routine
abbrev pub raised_out : CodeData → List Saved → ℕ → Doing Conf
raised_out code saved error = leaves >> raised_to code saved error

-- an error of a statement of the running routine
abbrev pub raised : CodeData → Own → Running → List Saved → ℕ → Doing Conf
raised code own frame saved error = part_or (handler_of code frame.routine) own frame saved error (raised_out code saved error)

-- a result is pushed on the caller's operands
abbrev pub with_result : Option Value → List Datum → List Datum
with_result None stack = stack
with_result (Some v) stack = Plain v ∷ stack

-- what continues when a routine has ended, with its result if it has one
abbrev pub back_to : List Saved → Option Value → Doing Conf
back_to [] v = Misfit
back_to (Started ∷ saved) v = Ends fates.Done
back_to (Trapped at frame way ∷ saved) v = do
  tells Leave
  change (λ d. record d { trapped = false })
  Gives (record (conf at [] frame saved) { way = way })
back_to (Called at own stack frame ∷ saved) v = Gives (conf (at + 1) (with_result v stack) frame saved)

abbrev pub returned : List Saved → Option Value → Doing Conf
returned saved v = leaves >> back_to saved v

-- RAISE without a number, and the end of an ERROR part
abbrev pub raised_again : CodeData → Conf → Option Failed → Doing Conf
raised_again code c None = Misfit
raised_again code c (Some failed) = raised_out code c.saved failed.error

abbrev pub retried : Conf → Option Failed → Doing Conf
retried c None = Misfit
retried c (Some failed) = Gives (conf failed.own.retry [] (behind_part c.frame) c.saved)

abbrev pub skipped : Conf → Option Failed → Doing Conf
skipped c None = Misfit
skipped c (Some failed) = Gives (conf failed.own.next [] (behind_part c.frame) c.saved)
