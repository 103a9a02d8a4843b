use Rattle.std.proofs.Common.{◌≡◌, None, Ok, option_map, ap, ◌∙◌, rules}
use Rattle.rapid_model.specs.declared.script_rule.ScriptRule.TheVariants.{Range}
use Rattle.toml.specs.View.{view}
use Rattle.cell_script.specs.Keys.{at}
use Rattle.cell_script.specs.Gives.{view_keys}
use Rattle.cell_script.proofs.Arms.{bounds_by}
use Rattle.cell_script.proofs.Faults.{Fails-broken}
use Rattle.cell_script.proofs.bounds.bounds_at.Goals as goal

pub returns-in_default : goal.returns-in_default
returns-in_default c =
    let key = at (view_keys c.args.keys.now) c.args.key.now in
    let none : option_map (λ list. list.items) c.in_ok-bounds.field-0 ≡ None = search rules in
    Fails-broken _ key Range _ c.broken.ensures (bounds_by key c.args.axes.now (view c.args.value.now) None (c.in_ok-bounds.ensures ∙ ap Ok none))
