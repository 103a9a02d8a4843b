use Rattle.std.proofs.Common.{ap, map, ◌∙◌}
use Rattle.cell_core.specs.CoreData.{CoreData}
use Rattle.typed_trees.specs.Views.{view_tree}
use Rattle.cell_runs.proofs.Running.{crew_is, legal_there, passes_here, programs_ask, programs_suit, whole_there}
use Rattle.cell_runs.proofs.threads.free_tasks.Goals as goal

pub open_gate-requires : goal.open_gate-requires
open_gate-requires g c = ap (λ (x : CoreData). x.history) c.in-Ok.ensures.ok

pub run_free-requires-clause-passes : goal.run_free-requires-clause-passes
run_free-requires-clause-passes g c κs within = passes_here c.in-Ok-open_gate.gate c.in-Ok.core.cell c.in-Ok-open_gate.passes.items c.in-Ok-open_gate.ensures.ok.1 c.in-Ok-open_gate.ensures.ok.0

pub run_free-requires-clause-crew : goal.run_free-requires-clause-crew
run_free-requires-clause-crew g c κs within =
    crew_is c.args.cell c.in-Ok-open_gate.gate.cell c.in_ok-machines.machines.items c.args.trees.now c.in_ok-machines.ensures.programs c.in_ok-machines.ensures.fresh c.requires.one_each
    (c.in-Ok-open_gate.ensures.ok.0 ∙ ap (λ (x : CoreData). x.cell) c.in-Ok.ensures.ok)

pub run_free-requires-clause-programs : goal.run_free-requires-clause-programs
run_free-requires-clause-programs g c κs within =
    programs_ask g.A.Askers.asks c.in_ok-machines.machines.items (map view_tree c.args.trees.now) c.requires.programs c.in_ok-machines.ensures.programs

pub run_free-requires-clause-suit : goal.run_free-requires-clause-suit
run_free-requires-clause-suit g c κs within =
    programs_suit c.args.cell c.in-Ok-open_gate.gate.cell c.in_ok-machines.machines.items (map view_tree c.args.trees.now) c.requires.suit c.in_ok-machines.ensures.programs
    (c.in-Ok-open_gate.ensures.ok.0 ∙ ap (λ (x : CoreData). x.cell) c.in-Ok.ensures.ok)

pub returns-clause-cell : goal.returns-clause-cell
returns-clause-cell g c = c.run_free.ensures.cell ∙ c.in-Ok-open_gate.ensures.ok.0 ∙ ap (λ (x : CoreData). x.cell) c.in-Ok.ensures.ok

pub returns-clause-legal : goal.returns-clause-legal
returns-clause-legal g c =
    legal_there g.A.Askers.asks c.args.cell c.in-Ok-open_gate.gate.cell c.run_free.result.core.history c.run_free.ensures.legal (c.in-Ok-open_gate.ensures.ok.0 ∙ ap (λ (x : CoreData). x.cell) c.in-Ok.ensures.ok)

pub returns-clause-whole : goal.returns-clause-whole
returns-clause-whole g c =
    whole_there g.A.Askers.asks c.args.cell c.in-Ok-open_gate.gate.cell c.run_free.result.core.history c.run_free.ensures.whole (c.in-Ok-open_gate.ensures.ok.0 ∙ ap (λ (x : CoreData). x.cell) c.in-Ok.ensures.ok)
