use Rattle.std.proofs.Common.{◌≡◌, ◌^◌, ◌<◌, length}
use Rattle.history_text.specs.Reading.{digits_at}
use Rattle.history_text.proofs.numbers.digits_at.Given as goal

abbrev pub invariant-loop-rest : goal.invariant-loop-rest
invariant-loop-rest l = record { same : digits_at l.so_far l.text ≡ digits_at l.number l.rest; small : l.number < 10 ^ 10 }

abbrev pub decreases-loop-rest : goal.decreases-loop-rest
decreases-loop-rest l = length l.rest
