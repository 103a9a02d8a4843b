-- Signals (RAPID Instructions: Set, Reset, SetDO, WaitDI, WaitDO).
use Rattle.std.specs.Prelude.{ℕ, Bool}
use Rattle.rapid_model.specs.Truths.{same_truth}
use Rattle.rapid_model.specs.declared.answer.Answer.{Answer}
use Rattle.rapid_model.specs.declared.answer.Answer.TheVariants as answers
use Rattle.rapid_model.specs.declared.fate.Fault.TheVariants.{TiedOutput}
use Rattle.rapid_model.specs.declared.request.Request.TheVariants.{WriteS}
use Rattle.rapid_meaning.specs.Doings.{Doing, Gives, Misfit, Asks, Act, ◌>>=◌, done, fault}
use Rattle.rapid_meaning.specs.Functions.{read_signal}

abbrev pub when_written : Answer → Act
when_written answers.Ok = done
when_written answers.Tied = fault TiedOutput
when_written _ = Misfit

abbrev pub write_signal : ℕ → Bool → Act
write_signal signal value = Asks (WriteS signal value) when_written

-- whether a signal has a value
abbrev pub has_value : ℕ → Bool → Doing Bool
has_value signal value = do
  bit ← read_signal signal
  Gives (same_truth value bit)
