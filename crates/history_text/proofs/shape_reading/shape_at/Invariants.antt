use Rattle.std.proofs.Common.{◌≡◌, ◌-◌, length, take}
use Rattle.history_text.specs.Reading.{many_at}
use Rattle.history_text.specs.ValueReading.{bound_at}
use Rattle.history_text.proofs.ManyThings.{after_front}
use Rattle.history_text.proofs.shape_reading.shape_at.Given as goal

abbrev pub invariant-loop-axis : goal.invariant-loop-axis
invariant-loop-axis l = record {
  count : length l.bounds ≡ 12;
  same : many_at bound_at 12 l.initial.rest ≡ after_front (take l.axis l.bounds) (many_at bound_at (12 - l.axis) l.rest);
}
