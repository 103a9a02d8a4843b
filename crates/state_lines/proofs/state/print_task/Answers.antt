use Rattle.std.proofs.Common.{List, ap, [], ◌∷◌, ◌++◌, map, sym, ◌∙◌}
use Rattle.std.proofs.lemmas.Result.{err_from_is_err_and}
use Rattle.typed_trees.specs.Views.{view_slot}
use Rattle.typed_trees.specs.declared.datum.Datum.{Datum}
use Rattle.cell_state.specs.States.{TaskStateData}
use Rattle.state_text.specs.Seen.{view_sources}
use Rattle.state_text.specs.StateLines.{datum_lines, task_line}
use Rattle.sink_lines.proofs.Gains.{writes_then, wrote_first}
use Rattle.run_lines.proofs.PrintingList.{part_same, writes_same}
use Rattle.state_lines.proofs.state.print_task.Goals as goal

pub returns-in_err-print_data : goal.returns-in_err-print_data
returns-in_err-print_data g c =
    let p = err_from_is_err_and c.from_residual.result c.from_residual.ensures.1 in
    let place = task_line c.args.name.now (view_sources c.args.sources.now) c.args.state.now ∷ [] in
    rw (p.1) (part_same _ _ _ (ap (λ (held : List Datum). datum_lines c.args.name.now (map view_slot c.args.slots.now) held ++ place) (c.as_slice.ensures.value ∙ ap (λ (s : TaskStateData). s.values) c.state.view_is))
    (wrote_first (datum_lines c.args.name.now (map view_slot c.args.slots.now) c.as_slice.result.now) place _ c.in_err-print_data.ensures))

pub returns : goal.returns
returns g c =
    let place = task_line c.args.name.now (view_sources c.args.sources.now) c.args.state.now ∷ [] in
    writes_same _ _ _ _ (ap (λ (held : List Datum). datum_lines c.args.name.now (map view_slot c.args.slots.now) held ++ place) (c.as_slice.ensures.value ∙ ap (λ (s : TaskStateData). s.values) c.state.view_is))
    (writes_then (datum_lines c.args.name.now (map view_slot c.args.slots.now) c.as_slice.result.now) place _ _ _ _ c.in_ok-print_data.ensures c.print_place.ensures)
