-- A Look stands before each statement, each iteration of a FOR, and each setpoint of a move after its first. A trap
-- may run there (RAPID Overview, interrupts).
use Rattle.std.specs.Prelude.{ℕ, true, false, [], Option, Some}
use Rattle.rapid_model.specs.declared.answer.Answer.{Answer}
use Rattle.rapid_model.specs.declared.answer.Answer.TheVariants as answers
use Rattle.rapid_model.specs.declared.at.At.{At}
use Rattle.rapid_model.specs.declared.fate.Fault.TheVariants.{TrapFlood, Unhandled}
use Rattle.rapid_model.specs.declared.request.Request.TheVariants.{Look, Leave, Hold, Rise}
use Rattle.rapid_meaning.specs.Data.{seen_in, with_seen}
use Rattle.rapid_meaning.specs.Doings.{Doing, Misfit, Asks, Reads, Does, ◌>>◌, change, fault, goes_to, tells}
use Rattle.rapid_meaning.specs.Flows.{Flow, Part, Call, Where}

-- the end of a trap: it is left, and then the interrupted part begins again with its Look
abbrev pub left : Part → Doing Flow
left again = do
  tells Leave
  change (λ d. record d { trapped = false })
  goes_to again

-- runs a trap at once; an error that leaves it ends the task
abbrev pub interrupted : Part → ℕ → Doing Flow
interrupted again trap = do
  change (λ d. record d { trapped = true })
  Does (Call trap []) (λ _. left again) (λ error. fault (Unhandled error))

abbrev pub looked : Part → Doing Flow → Answer → Doing Flow
looked again go (answers.Go seen) = do
  change (λ d. record d { frames = with_seen seen d.frames })
  go
looked again go (answers.Trap number trap) = interrupted again trap
looked again go answers.Flood = fault TrapFlood
looked again go _ = Misfit

abbrev pub place_of : Where → ℕ → Option At
place_of w byte = Some (record { «module» = w.routine.«module»; byte = byte })

-- a Look of a statement at this byte, and what follows once the statement may go on; after a trap this part begins
-- again
abbrev pub look : Where → ℕ → Part → Doing Flow → Doing Flow
look w byte again go = do
  change (λ d. record d { place = place_of w byte })
  Asks Look (looked again go)

-- a wait that is not ready holds with the count that its own Look found, rises, and begins again with its Look
abbrev pub hold : Part → Doing Flow
hold again = Reads (λ d. tells (Hold (seen_in d.frames)) >> (tells Rise >> goes_to again))
