use Rattle.std.proofs.Common.{◌≡◌, ℕ, Some, None, List, length, slice_get, refl, sym, ◌∙◌, ap, subst}
use Rattle.std.proofs.lemmas.Option.{slice_get_past, slice_get_read}
use Rattle.rapid_model.specs.declared.input_row.InputRow.{InputRow}
use Rattle.cell_meaning.specs.Inputs.{inputs_done}
use Rattle.cell_core.proofs.Opening.{closed_is}
use Rattle.cell_core.proofs.shared.Core.can_feed.Goals as goal

pub lets_pass-requires : goal.lets_pass-requires
lets_pass-requires c =
    let core = c.self.inside in
    let rows = c.as_slice.ensures ∙ c.inputs.ensures in
    let done = c.inputs_done-done.result in
    let is : done ≡ inputs_done core.cell core.pages.events = rw (← c.self.view_is) at c.inputs_done-done.ensures in
    let at : slice_get core.cell.inputs done ≡ Some c.in-Some.row.now =
    ap (λ (rows : List InputRow). slice_get rows done) (sym rows)
    ∙ slice_get_read c.as_slice.result.now (length c.as_slice.result.now) done c.in-Some.row.now refl c.in-Some.ensures.lookup.3.0 c.in-Some.ensures.lookup.1 in
    rw (← c.self.view_is) (subst (λ (k : ℕ). slice_get core.cell.inputs k ≡ Some c.in-Some.row.now) is at)

pub returns-in-None : goal.returns-in-None
returns-in-None c =
    let core = c.self.inside in
    let rows = c.as_slice.ensures ∙ c.inputs.ensures in
    let done = c.inputs_done-done.result in
    let is : done ≡ inputs_done core.cell core.pages.events = rw (← c.self.view_is) at c.inputs_done-done.ensures in
    let at : slice_get core.cell.inputs done ≡ None =
    ap (λ (rows : List InputRow). slice_get rows done) (sym rows) ∙ slice_get_past c.as_slice.result.now done c.in-None.ensures.lookup.3 in
    rw (← c.self.view_is) (closed_is core.cell core.pages.events (subst (λ (k : ℕ). slice_get core.cell.inputs k ≡ None) is at))
