use Rattle.std.proofs.Common.{◌≡◌, ◌+◌, ◌-◌, ◌*◌, ◌^◌, ◌≤◌, length, drop}
use Rattle.rapid_num.specs.Reading.{number_onto}
use Rattle.rapid_num.proofs.digits.read_onto.Given as goal

abbrev pub invariant-loop-byte : goal.invariant-loop-byte
invariant-loop-byte l = record {
  kept : number_onto l.base l.number (drop l.byte-index l.digits) ≡ number_onto l.base l.so_far l.digits;
  room : (l.number + 1) * l.base ^ (length l.digits - l.byte-index) ≤ (l.so_far + 1) * l.base ^ length l.digits;
}
