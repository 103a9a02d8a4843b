use Rattle.std.proofs.Common.{◌≡◌, ◌+◌, ◌≤◌, ◌*◌, ◌∷◌, ◌++◌, length, take}
use Rattle.std.specs.Prelude.{flat_map}
use Rattle.history_text.specs.EventWords.{bound_words}
use Rattle.history_text.proofs.shapes.push_bounds.Given as goal

abbrev pub invariant-loop-bound : goal.invariant-loop-bound
invariant-loop-bound l = record {
  text : l.line.bytes ≡ l.initial.line.bytes ++ flat_map (λ b. 32 ∷ bound_words b) (take l.bound-index l.bounds);
  short : length l.line.bytes ≤ length l.initial.line.bytes + 32 * l.bound-index;
}
