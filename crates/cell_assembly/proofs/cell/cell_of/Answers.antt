use Rattle.std.proofs.Common.{◌≡◌, map, ap, ◌∙◌, length}
use Rattle.std.specs.List.{list_all}
use Rattle.rapid_model.specs.CellData.{is_pers_cell}
use Rattle.rapid_model.specs.ScriptData.{row_of}
use Rattle.cell_assembly.specs.Made.{pers_cell}
use Rattle.cell_assembly.specs.Views.{view_info}
use Rattle.cell_assembly.proofs.CellLimits.{IsCell-from}
use Rattle.cell_assembly.proofs.cell.cell_of.Goals as goal

pub invariant_of-result : goal.invariant_of-result
invariant_of-result c =
    let script = c.args.script.now in
    let tasks : c.in_ok-tasks.tasks.items ≡ map row_of c.as_slice.result.now = cc c.in_ok-tasks.ensures in
    let signals : c.in_ok-signals.signals.items ≡ c.as_slice-2.result.now = cc c.in_ok-signals.ensures in
    let first : c.in_ok-first.first.items ≡ map pers_cell (map view_info c.args.pers.now) = cc c.in_ok-first.ensures in
    let zones : c.in_ok-zones.zones.items ≡ c.as_slice-3.result.now = cc c.in_ok-zones.ensures in
    IsCell-from script _ c.steps-steps.ensures.limits c.steps-steps.ensures.same
    (c.from_vec.ensures ∙ tasks ∙ ap (map row_of) (c.as_slice.ensures ∙ c.tasks.ensures))
    (c.from_vec-2.ensures ∙ signals ∙ c.as_slice-2.ensures ∙ c.signals.ensures)
    (ap (list_all (is_pers_cell (length script.tasks))) (c.from_vec-3.ensures ∙ first) ∙ c.requires)
    (c.from_vec-5.ensures ∙ zones ∙ c.as_slice-3.ensures ∙ c.zones.ensures)
    (c.from_vec-6.ensures ∙ c.in_ok-inputs.ensures.items ∙ c.as_slice-4.ensures ∙ c.inputs.ensures)
