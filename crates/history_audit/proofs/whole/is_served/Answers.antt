use Rattle.std.proofs.Common.{Bool, ap, not, refl, sym, ◌∙◌}
use Rattle.std.specs.Prelude.{◌&&◌}
use Rattle.cell_meaning.specs.Rising.{can_rise}
use Rattle.history_audit.proofs.Rests.{end_served, plain_served, rise_served}
use Rattle.history_audit.proofs.whole.is_served.Goals as goal

pub returns-in-End : goal.returns-in-End
returns-in-End c = end_served c.args.core.now.cell c.args.core.now.history c.args.task c.args.request.now _ c.in-End.is

pub returns-then-not-spent : goal.returns-then-not-spent
returns-then-not-spent c =
    sym (ap (λ (spent : Bool). not spent && c.can_rise.result) c.if-not-spent.true)
    ∙ rise_served c.args.core.now.cell c.args.core.now.history c.args.task c.requires.task c.args.request.now c.spent.result c.can_rise.result c.requires.may c.in-Rise.is c.spent.ensures c.can_rise.ensures

pub returns-else-not-spent : goal.returns-else-not-spent
returns-else-not-spent c =
    let rises = can_rise c.args.core.now.cell c.args.core.now.history c.args.task in
    ap not c.if-not-spent.false ∙ sym (ap (λ (spent : Bool). not spent && rises) c.if-not-spent.false)
    ∙ rise_served c.args.core.now.cell c.args.core.now.history c.args.task c.requires.task c.args.request.now c.spent.result rises c.requires.may c.in-Rise.is c.spent.ensures refl

pub returns-in_default : goal.returns-in_default
returns-in_default c =
    plain_served c.args.core.now.cell c.args.core.now.history c.args.task c.requires.task c.args.request.now c.spent-in_default.result c.requires.may c.in_default.not-End c.in_default.not-Rise
    c.spent-in_default.ensures
