use Rattle.std.proofs.Common.{sym, subst}
use Rattle.cell_core.specs.Boards.{BoardData}
use Rattle.cell_core.specs.Ready.{CanCount}
use Rattle.cell_core.proofs.Looks.{count_kept}
use Rattle.cell_core.proofs.boards.Boards.take_other.Goals as goal

pub tally-requires : goal.tally-requires
tally-requires c =
    subst (λ (b : BoardData). CanCount b c.args.actor) (sym c.answer-answer.ensures.boards)
    (count_kept c.args.cell.now c.args.self.now c.args.actor c.args.request.now c.answer-answer.result.answer c.requires.few)
