use Rattle.std.proofs.Common.{true, false, Ok, sym, ap, ◌∙◌}
use Rattle.rapid_model.specs.declared.script_rule.ScriptRule.TheVariants.{Name}
use Rattle.cell_script.specs.Keys.{at}
use Rattle.cell_script.specs.Gives.{view_keys}
use Rattle.toml.specs.View.{view}
use Rattle.cell_script.proofs.Faults.{Fails-broken}
use Rattle.cell_script.proofs.Named.{name_of_form}
use Rattle.cell_script.proofs.name.name_at.Goals as goal

pub returns-then-is_reserved : goal.returns-then-is_reserved
returns-then-is_reserved c =
    let key = at (view_keys c.args.keys.now) c.args.key.now in
    Fails-broken _ key Name _ c.broken-then-is_reserved.ensures
    (name_of_form key (view c.args.value.now) _ _ true true c.in_ok-text.ensures c.as_bytes-bytes.ensures.value (sym c.if-not-is_short_name.false ∙ c.is_short_name.ensures) (sym c.if-is_reserved.true ∙ c.is_reserved.ensures))

pub returns : goal.returns
returns c =
    let key = at (view_keys c.args.keys.now) c.args.key.now in
    name_of_form key (view c.args.value.now) _ _ true false c.in_ok-text.ensures c.as_bytes-bytes.ensures.value (sym c.if-not-is_short_name.false ∙ c.is_short_name.ensures) (sym c.if-is_reserved.false ∙ c.is_reserved.ensures)
    ∙ ap Ok (sym c.copy_name.ensures)
