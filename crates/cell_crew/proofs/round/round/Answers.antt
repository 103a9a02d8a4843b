use Rattle.cell_crew.proofs.Rounds.{round_kept, way_fed, no_longer}
use Rattle.cell_crew.proofs.round.round.Goals as goal

pub returns-clause-under_way : goal.returns-clause-under_way
returns-clause-under_way g c =
    way_fed g.M.TaskMachine.program g.M.TaskMachine.stands_for g.M.TaskMachine.due g.A.Askers.asks c.args.machines.now c.turns.new.machines c.args.core.now.cell c.turns.new.core.cell c.turns.new.core.history
    c.feed.new.core.history c.requires.one_each c.turns.ensures.programs c.turns.ensures.cell c.turns.ensures.under_way c.feed.ensures.turn

pub returns-clause-same : goal.returns-clause-same
returns-clause-same g c = λ no_more.
    round_kept g.A.Askers.asks c.args.core.now.cell c.turns.new.core.cell c.args.core.now.history c.turns.new.core.history c.feed.new.core.history c.turns.ensures.cell c.turns.ensures.turns c.feed.ensures.turn
    (no_longer _ _ _ _ c.len-before.ensures.same c.len.ensures.same no_more)
