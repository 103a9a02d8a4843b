use Rattle.cell_crew.proofs.Rounds.{before_rounds, one_more_round}
use Rattle.cell_crew.proofs.round.run.Goals as goal

pub rounds-init : goal.rounds-init
rounds-init g c =
    before_rounds g.M.TaskMachine.program g.M.TaskMachine.stands_for g.M.TaskMachine.due g.A.Askers.asks c.args.machines.now c.ask_first.new.machines c.args.core.now.cell c.args.core.now.history
    c.ask_first.ensures.programs c.ask_first.ensures.under_way c.requires.no_events

pub rounds-preserved : goal.rounds-preserved
rounds-preserved g c =
    one_more_round g.M.TaskMachine.program g.M.TaskMachine.stands_for g.M.TaskMachine.due g.A.Askers.asks c.args.machines.now c.rounds.machines c.round.new.machines c.args.core.now.cell c.rounds.core.cell c.round.new.core.cell
    c.rounds.core.history c.round.new.core.history c.rounds.invariant c.round.ensures.cell c.round.ensures.programs c.round.ensures.legal c.round.ensures.under_way c.round.ensures.round
