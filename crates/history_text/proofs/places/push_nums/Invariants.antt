use Rattle.std.proofs.Common.{◌≡◌, ◌+◌, ◌≤◌, ◌*◌, ◌∷◌, ◌++◌, length, take}
use Rattle.std.specs.Prelude.{flat_map}
use Rattle.rapid_num.specs.NumText.{shortest_text}
use Rattle.history_text.proofs.places.push_nums.Given as goal

abbrev pub invariant-loop-number : goal.invariant-loop-number
invariant-loop-number l = record {
  text : l.line.bytes ≡ l.initial.line.bytes ++ flat_map (λ y. 32 ∷ shortest_text y) (take l.number-index l.more);
  short : length l.line.bytes ≤ length l.initial.line.bytes + 16 * l.number-index;
}
