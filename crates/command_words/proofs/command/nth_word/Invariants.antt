use Rattle.command_words.specs.Picked.{is_kind}
use Rattle.command_words.proofs.Picking.{Picking}
use Rattle.command_words.proofs.command.nth_word.Given as goal

abbrev pub invariant-loop-at : goal.invariant-loop-at
invariant-loop-at g l = Picking g.W.AsSlice.items (is_kind l.histories) l.words l.fn.index l.at l.left
