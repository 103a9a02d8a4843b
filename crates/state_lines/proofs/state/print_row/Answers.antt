use Rattle.std.proofs.Common.{List, ℕ, ap, [], sym, subst, ◌∙◌}
use Rattle.std.specs.Prelude.{Bool, if◌then◌else◌}
use Rattle.typed_trees.specs.Views.{view_slot}
use Rattle.state_text.specs.StateLines.{row_lines}
use Rattle.run_lines.proofs.PrintingList.{writes_same}
use Rattle.state_lines.proofs.PrintingState.{wrote_nothing}
use Rattle.state_lines.proofs.state.print_row.Goals as goal

pub returns-then-is_shown : goal.returns-then-is_shown
returns-then-is_shown g c =
    let lines = row_lines c.args.task.now (view_slot c.args.row.now) c.args.data.now in
    writes_same lines _ _ _ (sym (ap (λ (b : Bool). if b then lines else []) (sym c.is_shown.ensures ∙ c.if-is_shown.true))) c.print_shown.ensures

pub returns-else-is_shown : goal.returns-else-is_shown
returns-else-is_shown g c =
    let lines = row_lines c.args.task.now (view_slot c.args.row.now) c.args.data.now in
    wrote_nothing _ _ (ap (λ (b : Bool). if b then lines else []) (sym c.is_shown.ensures ∙ c.if-is_shown.false))
