-- Error recovery (RAPID Overview, error recovery).
use Rattle.std.specs.Prelude.{ℕ}
use Rattle.typed_trees.specs.Plain.{TypedStmt}
use Rattle.rapid_meaning.specs.Doings.{Doing, Gives, Raises, Misfit, Does, ◌>>◌, after, change, goes_to}
use Rattle.rapid_meaning.specs.Flows.{Flow, Normal, Jumps, Returns, Retries, Skips, Errors, Unguarded, Guarded, InPart, Where, Attempt, Rest}

-- How a routine goes on after its ERROR part, entered with this error: RETRY does the failed statement again, TRYNEXT
-- goes on after it, RETURN leaves the routine, and the end of the part raises the error in the caller.
abbrev pub parted : Where → TypedStmt → ℕ → Flow → Doing Flow
parted w s error Normal = Raises error
parted w s error (Jumps label) = Misfit
parted w s error (Returns v) = Gives (Returns v)
parted w s error Retries = goes_to (Attempt w s)
parted w s error Skips = Gives Normal

-- a statement failed: ERRNO becomes the error's number, and the ERROR part is done as a list; without an ERROR part, or
-- inside it, the error goes to the caller
abbrev pub failed_in : Errors → Where → TypedStmt → ℕ → Doing Flow
failed_in Unguarded w s error = Raises error
failed_in (Guarded list) w s error = do
  change (λ d. record d { errno = error })
  Does (Rest (record w { errors = InPart error }) list list) (parted w s error) Raises
failed_in (InPart entered) w s error = Raises error

abbrev pub failed : Where → TypedStmt → ℕ → Doing Flow
failed w s error = failed_in w.errors w s error

-- a statement's own work, then what follows; only an error of its own work is an error of the statement
abbrev pub header : {A : Type 0} → Where → TypedStmt → Doing A → (A → Doing Flow) → Doing Flow
header w s own next = after own next (failed w s)

-- RAISE without a number raises, in the caller, the error that the ERROR part was entered with
abbrev pub raised_again : Errors → Doing Flow
raised_again (InPart entered) = Raises entered
raised_again _ = Misfit
