use Rattle.cell_loading.proofs.Parsing.{Parsing}
use Rattle.cell_loading.proofs.modules.parse_texts.Given as goal

abbrev pub invariant-loop-k : goal.invariant-loop-k
invariant-loop-k l = Parsing l.texts l.failed l.k l.trees.items
