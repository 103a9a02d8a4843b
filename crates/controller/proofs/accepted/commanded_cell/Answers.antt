use Rattle.controller.proofs.accepted.commanded_cell.Goals as goal

pub load_cell-requires-clause-moves : goal.load_cell-requires-clause-moves
load_cell-requires-clause-moves g c = c.requires.moves c.in-Load.moves c.in-Load.is

pub returns-in-Ok-clause-asked : goal.returns-in-Ok-clause-asked
returns-in-Ok-clause-asked g c = λ words is_for. c.in-Ok.ensures.asked words (g.S.Shelf.told c.args.shelf.now) _ is_for

pub returns-in-Err-clause-refused : goal.returns-in-Err-clause-refused
returns-in-Err-clause-refused g c = λ words held is_for. c.in-Err.ensures.refused words (g.S.Shelf.told c.args.shelf.now) held is_for

pub returns-in-Err-clause-causes : goal.returns-in-Err-clause-causes
returns-in-Err-clause-causes g c = c.in-Err.ensures.causes (g.S.Shelf.faults c.args.shelf.now) (g.S.Shelf.faults c.args.shelf.now)
