use Rattle.std.proofs.Common.{ap, map}
use Rattle.cell_core.specs.CoreData.{CoreData}
use Rattle.typed_trees.specs.Views.{view_tree}
use Rattle.cell_runs.proofs.Running.{crew_is, legal_there, programs_ask, programs_suit, turns_there, whole_there}
use Rattle.cell_runs.proofs.round.run_tasks.Goals as goal

pub run_round-requires-clause-no_events : goal.run_round-requires-clause-no_events
run_round-requires-clause-no_events g c = ap (λ (x : CoreData). x.history) c.in-Ok.ensures.ok

pub run_round-requires-clause-crew : goal.run_round-requires-clause-crew
run_round-requires-clause-crew g c =
    crew_is c.args.cell c.in-Ok.core.cell c.in_ok-machines.machines.items c.args.trees.now c.in_ok-machines.ensures.programs c.in_ok-machines.ensures.fresh c.requires.one_each
    (ap (λ (x : CoreData). x.cell) c.in-Ok.ensures.ok)

pub run_round-requires-clause-programs : goal.run_round-requires-clause-programs
run_round-requires-clause-programs g c =
    programs_ask g.A.Askers.asks c.in_ok-machines.machines.items (map view_tree c.args.trees.now) c.requires.programs c.in_ok-machines.ensures.programs

pub run_round-requires-clause-suit : goal.run_round-requires-clause-suit
run_round-requires-clause-suit g c =
    programs_suit c.args.cell c.in-Ok.core.cell c.in_ok-machines.machines.items (map view_tree c.args.trees.now) c.requires.suit c.in_ok-machines.ensures.programs
    (ap (λ (x : CoreData). x.cell) c.in-Ok.ensures.ok)

pub returns-in-Ok-clause-by_turns : goal.returns-in-Ok-clause-by_turns
returns-in-Ok-clause-by_turns g c =
    turns_there g.A.Askers.asks c.args.cell c.in-Ok.core.cell c.run_round.result.core.history c.run_round.ensures.by_turns (ap (λ (x : CoreData). x.cell) c.in-Ok.ensures.ok)

pub returns-in-Ok-clause-legal : goal.returns-in-Ok-clause-legal
returns-in-Ok-clause-legal g c =
    legal_there g.A.Askers.asks c.args.cell c.in-Ok.core.cell c.run_round.result.core.history c.run_round.ensures.legal (ap (λ (x : CoreData). x.cell) c.in-Ok.ensures.ok)

pub returns-in-Ok-clause-whole : goal.returns-in-Ok-clause-whole
returns-in-Ok-clause-whole g c =
    whole_there g.A.Askers.asks c.args.cell c.in-Ok.core.cell c.run_round.result.core.history c.run_round.ensures.whole (ap (λ (x : CoreData). x.cell) c.in-Ok.ensures.ok)
