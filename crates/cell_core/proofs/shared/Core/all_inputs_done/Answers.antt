use Rattle.std.proofs.Common.{◌≡◌, ℕ, List, length, ◌∙◌, ap}
use Rattle.std.specs.Prelude.{nat_le}
use Rattle.rapid_model.specs.declared.input_row.InputRow.{InputRow}
use Rattle.cell_meaning.specs.Inputs.{inputs_done}
use Rattle.cell_core.proofs.shared.Core.all_inputs_done.Goals as goal

pub returns : goal.returns
returns c =
    let core = c.self.inside in
    let rows = c.as_slice.ensures ∙ c.inputs.ensures in
    let is : c.inputs_done-done.result ≡ inputs_done core.cell core.pages.events = rw (← c.self.view_is) at c.inputs_done-done.ensures in
    rw (← c.self.view_is) (ap (λ (n : ℕ). nat_le (length c.as_slice.result.now) n) is ∙ ap (λ (rs : List InputRow). nat_le (length rs) (inputs_done core.cell core.pages.events)) rows)
