use Rattle.std.proofs.Common.{◌≡◌, ◌+◌, ◌≤◌, ◌*◌, ◌++◌, length, take}
use Rattle.history_text.specs.Lines.{number_words}
use Rattle.history_text.proofs.axes.push_axes.Given as goal

abbrev pub invariant-loop-axis : goal.invariant-loop-axis
invariant-loop-axis l = record {
  text : l.line.bytes ≡ l.initial.line.bytes ++ number_words (take l.axis-index l.axis-items);
  short : length l.line.bytes ≤ length l.initial.line.bytes + 16 * l.axis-index;
}
