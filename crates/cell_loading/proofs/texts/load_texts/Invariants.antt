use Rattle.cell_loading.proofs.Loads.{Loading}
use Rattle.cell_loading.proofs.texts.load_texts.Given as goal

abbrev pub invariant-loop-k : goal.invariant-loop-k
invariant-loop-k g l =
    Loading (g.S.Shelf.told l.initial.shelf) (g.S.Shelf.told l.shelf) (g.S.Shelf.faults l.initial.shelf) (g.S.Shelf.faults l.shelf) l.modules l.k l.texts.items
