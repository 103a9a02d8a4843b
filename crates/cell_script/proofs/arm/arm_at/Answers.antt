use Rattle.std.proofs.Common.{◌≡◌, None, Ok, option_map, ap, ◌∙◌, rules}
use Rattle.rapid_model.specs.declared.script_rule.ScriptRule.TheVariants.{Range}
use Rattle.toml.specs.View.{view}
use Rattle.cell_script.specs.Keys.{at}
use Rattle.cell_script.specs.Gives.{view_keys}
use Rattle.cell_script.proofs.Arms.{arm_by}
use Rattle.cell_script.proofs.Faults.{Fails-broken}
use Rattle.cell_script.proofs.arm.arm_at.Goals as goal

pub returns-in_default : goal.returns-in_default
returns-in_default c =
    let key = at (view_keys c.args.keys.now) c.args.key.now in
    let none : option_map (λ list. list.items) c.in_ok-angles.field-0 ≡ None = search rules in
    Fails-broken _ key Range _ c.broken.ensures (arm_by c.args.version key (view c.args.value.now) None (c.in_ok-angles.ensures ∙ ap Ok none))
