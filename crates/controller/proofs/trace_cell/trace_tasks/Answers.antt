use Rattle.std.proofs.Common.{inl, map}
use Rattle.typed_trees.specs.Views.{view_tree}
use Rattle.state_lines.specs.Sources.{view_modules}
use Rattle.controller.proofs.Exits.{memory_refused}
use Rattle.cell_runs.proofs.Running.{crew_is, programs_ask, programs_suit}
use Rattle.controller.proofs.Traced.{asking_traced, legal_here}
use Rattle.controller.proofs.trace_cell.trace_tasks.Goals as goal

pub returns-in-Err : goal.returns-in-Err
returns-in-Err g c =
    inl (memory_refused _ (record { bytes = g.O.Sink.told c.args.out.now; calls = g.O.Sink.calls c.args.out.now; faults = g.O.Sink.faults c.args.out.now }) _ c.refuse.ensures.refused c.refuse.ensures.status
    c.refuse.ensures.history c.refuse.ensures.fates c.refuse.ensures.told)

pub report_traced-requires-clause-one_each : goal.report_traced-requires-clause-one_each
report_traced-requires-clause-one_each g c =
    (crew_is c.args.cell c.in-Ok-run_tasks.core.cell c.in-Ok.machines.items c.args.trees.now c.in-Ok.ensures.programs c.in-Ok.ensures.fresh c.requires.one_each c.in-Ok-run_tasks.ensures.cell).one_each

pub report_traced-requires-clause-programs : goal.report_traced-requires-clause-programs
report_traced-requires-clause-programs g c = programs_ask g.A.Askers.asks c.in-Ok.machines.items (map view_tree c.args.trees.now) c.requires.programs c.in-Ok.ensures.programs

pub report_traced-requires-clause-suit : goal.report_traced-requires-clause-suit
report_traced-requires-clause-suit g c =
    programs_suit c.args.cell c.in-Ok-run_tasks.core.cell c.in-Ok.machines.items (map view_tree c.args.trees.now) c.requires.suit c.in-Ok.ensures.programs c.in-Ok-run_tasks.ensures.cell

pub report_traced-requires-clause-legal : goal.report_traced-requires-clause-legal
report_traced-requires-clause-legal g c = legal_here g.A.Askers.asks c.args.cell c.in-Ok-run_tasks.core.cell c.in-Ok-run_tasks.core.history c.in-Ok-run_tasks.ensures.cell c.in-Ok-run_tasks.ensures.legal

pub returns-in-Ok-run_tasks : goal.returns-in-Ok-run_tasks
returns-in-Ok-run_tasks g c =
    asking_traced g.A.Askers.asks c.args.cell c.in-Ok-run_tasks.core.cell (map view_tree c.args.trees.now) (view_modules c.args.modules.now) c.in-Ok-run_tasks.core.history _ _ _ c.in-Ok-run_tasks.ensures.cell
    c.in-Ok-run_tasks.ensures.by_turns c.in-Ok-run_tasks.ensures.legal c.in-Ok-run_tasks.ensures.whole (c.report_traced.ensures (map view_tree c.args.trees.now) c.in-Ok.ensures.programs c.requires.checked)

pub returns-in-Err-run_tasks : goal.returns-in-Err-run_tasks
returns-in-Err-run_tasks g c =
    inl (memory_refused _ (record { bytes = g.O.Sink.told c.args.out.now; calls = g.O.Sink.calls c.args.out.now; faults = g.O.Sink.faults c.args.out.now }) _ c.refuse-in-Err-run_tasks.ensures.refused
    c.refuse-in-Err-run_tasks.ensures.status c.refuse-in-Err-run_tasks.ensures.history c.refuse-in-Err-run_tasks.ensures.fates c.refuse-in-Err-run_tasks.ensures.told)
