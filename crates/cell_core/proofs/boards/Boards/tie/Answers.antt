use Rattle.cell_core.proofs.Tying.{tied_right}
use Rattle.cell_core.proofs.boards.Boards.tie.Goals as goal

pub returns : goal.returns
returns c = λ cell.
    let there = rw (← c.self.view_is) at c.requires.actor in
    rw (← c.self.view_is)
    (tied_right cell _ c.args.actor c.args.old c.args.temporary c.args.shape.now c.args.signal c.args.value c.index.result.now c.tie-answer.new.zones c.tie-answer.result c.given.result c.given.new.signals there c.index.ensures
    c.tie-answer.ensures.answer c.tie-answer.ensures.zones c.given.ensures.answer (c.given.ensures.change c.args.old c.args.temporary c.args.shape.now c.args.signal c.args.value)
    (c.given.ensures.signals c.args.old c.args.temporary c.args.shape.now c.args.signal c.args.value))
