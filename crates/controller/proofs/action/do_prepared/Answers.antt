use Rattle.std.proofs.Common.{[], ◌∷◌, ◌++◌, map}
use Rattle.typed_trees.specs.Views.{view_tree}
use Rattle.cell_loading.specs.Loaded.{made_of}
use Rattle.state_lines.specs.Sources.{view_modules}
use Rattle.controller.specs.Runs.{IsRunByTurns}
use Rattle.run_lines.specs.declared.shown.Shown.TheVariants as shows
use Rattle.controller.proofs.Causes.{accepted_told, list_told, measured_told, run_told, traced_told}
use Rattle.controller.proofs.Exits.{all_accepted, cell_audited, cell_listed, cell_measured, cell_stated, cell_traced, load_run, round_run}
use Rattle.controller.proofs.action.do_prepared.Goals as goal

pub returns-in-Check-clause-answers : goal.returns-in-Check-clause-answers
returns-in-Check-clause-answers g c = λ last names. all_accepted last c.args.prepared.text.items names (view_modules c.args.prepared.modules) c.args.action (made_of c.args.prepared.accepted) _ _ _ c.in-Check.is c.report_accepted.ensures

pub returns-in-Check-clause-causes : goal.returns-in-Check-clause-causes
returns-in-Check-clause-causes g c = accepted_told _ _ _ c.report_accepted.ensures

pub returns-in-Round-clause-answers : goal.returns-in-Round-clause-answers
returns-in-Round-clause-answers g c = λ last names. round_run last c.args.prepared.text.items names (view_modules c.args.prepared.modules) c.args.action c.in-Round.full (made_of c.args.prepared.accepted) _ _ _ c.in-Round.is c.run_cell.ensures

pub returns-in-Round-clause-causes : goal.returns-in-Round-clause-causes
returns-in-Round-clause-causes g c = run_told (IsRunByTurns c.args.prepared.accepted.cell (map view_tree c.args.prepared.accepted.trees.items)) (shows.Events c.in-Round.full) c.args.prepared.accepted.cell _ _ _ c.run_cell.ensures

pub returns-in-Load-clause-answers : goal.returns-in-Load-clause-answers
returns-in-Load-clause-answers g c = λ last names. load_run last c.args.prepared.text.items names (view_modules c.args.prepared.modules) c.args.action _ (made_of c.args.prepared.accepted) _ _ _ c.in-Load.is c.run_cell-in-Load.ensures

pub returns-in-Load-clause-causes : goal.returns-in-Load-clause-causes
returns-in-Load-clause-causes g c = run_told (IsRunByTurns c.args.prepared.accepted.cell (map view_tree c.args.prepared.accepted.trees.items)) shows.Summary c.args.prepared.accepted.cell _ _ _ c.run_cell-in-Load.ensures

pub returns-in-List-clause-answers : goal.returns-in-List-clause-answers
returns-in-List-clause-answers g c = λ last names. cell_listed last c.args.prepared.text.items names (view_modules c.args.prepared.modules) c.args.action (made_of c.args.prepared.accepted) _ _ _ c.in-List.is c.list_cell.ensures

pub returns-in-List-clause-causes : goal.returns-in-List-clause-causes
returns-in-List-clause-causes g c = list_told c.args.prepared.accepted.cell (map view_tree c.args.prepared.accepted.trees.items) _ _ _ c.list_cell.ensures

pub returns-in-Audit-clause-answers : goal.returns-in-Audit-clause-answers
returns-in-Audit-clause-answers g c = λ last names.
    cell_audited last c.args.prepared.text.items c.as_slice.result.now names (view_modules c.args.prepared.modules) c.args.action (made_of c.args.prepared.accepted) _ _ _ c.in-Audit.is c.as_slice.ensures.value
    (c.audit_cell.ensures.answers (names ++ last ∷ []))

pub returns-in-State-clause-answers : goal.returns-in-State-clause-answers
returns-in-State-clause-answers g c = λ last names.
    cell_stated last c.args.prepared.text.items c.as_slice-in-State.result.now names (view_modules c.args.prepared.modules) c.args.action (made_of c.args.prepared.accepted) _ _ _ c.in-State.is c.as_slice-in-State.ensures.value
    (c.state_cell.ensures.answers (names ++ last ∷ []))

pub returns-in-Clearance-clause-answers : goal.returns-in-Clearance-clause-answers
returns-in-Clearance-clause-answers g c = λ last names. cell_measured last c.args.prepared.text.items names (view_modules c.args.prepared.modules) c.args.action (made_of c.args.prepared.accepted) _ _ _ c.in-Clearance.is c.measure_cell.ensures

pub returns-in-Clearance-clause-causes : goal.returns-in-Clearance-clause-causes
returns-in-Clearance-clause-causes g c = measured_told (IsRunByTurns c.args.prepared.accepted.cell (map view_tree c.args.prepared.accepted.trees.items)) c.args.prepared.accepted.cell _ _ _ c.measure_cell.ensures

pub returns-in-Trace-clause-answers : goal.returns-in-Trace-clause-answers
returns-in-Trace-clause-answers g c = λ last names. cell_traced last c.args.prepared.text.items names (view_modules c.args.prepared.modules) c.args.action (made_of c.args.prepared.accepted) _ _ _ c.in-Trace.is c.trace_cell.ensures

pub returns-in-Trace-clause-causes : goal.returns-in-Trace-clause-causes
returns-in-Trace-clause-causes g c =
    traced_told (IsRunByTurns c.args.prepared.accepted.cell (map view_tree c.args.prepared.accepted.trees.items)) c.args.prepared.accepted.cell (map view_tree c.args.prepared.accepted.trees.items)
    (view_modules c.args.prepared.modules) _ _ _ c.trace_cell.ensures

pub unreachable-requires : goal.unreachable-requires
unreachable-requires g c = c.requires.other _ c.in-Run.is
