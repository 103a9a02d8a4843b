use Rattle.std.proofs.Common.{◌≡◌, ◌-◌, length, take, drop}
use Rattle.rapid_num.specs.Reach.{absent_axes}
use Rattle.history_text.specs.Reading.{few_at, next_num}
use Rattle.history_text.proofs.ManyThings.{with_front}
use Rattle.history_text.proofs.value_reading.place_at.Given as goal

abbrev pub invariant-loop-place : goal.invariant-loop-place
invariant-loop-place l = record {
  count : length l.axis ≡ 12;
  behind : drop l.place l.axis ≡ absent_axes (12 - l.place);
  same : with_front (take 1 l.initial.axis) (few_at (next_num 32) 11 l.initial.rest) ≡ with_front (take l.place l.axis) (few_at (next_num 32) (12 - l.place) l.rest);
}
