use Rattle.std.proofs.Common.{Some, None}
use Rattle.rapid_model.specs.declared.script_rule.ScriptRule.TheVariants.{NoSuch}
use Rattle.cell_script.specs.Keys.{at}
use Rattle.cell_script.specs.Gives.{view_keys}
use Rattle.toml.specs.View.{view}
use Rattle.cell_script.proofs.Faults.{Fails-broken}
use Rattle.cell_script.proofs.Named.{number_of_row}
use Rattle.cell_script.proofs.signal.signal_at.Goals as goal

pub returns-in-Some : goal.returns-in-Some
returns-in-Some c =
    number_of_row (at (view_keys c.args.keys.now) c.args.key.now) (λ row. row.name) c.args.signals.now (view c.args.value.now) _ _ (Some c.in-Some.number)
    c.in_ok-text.ensures c.as_bytes.ensures.value c.in-Some.ensures.found

pub returns-in-None : goal.returns-in-None
returns-in-None c =
    let key = at (view_keys c.args.keys.now) c.args.key.now in
    Fails-broken _ key NoSuch _ c.broken.ensures
    (number_of_row key (λ row. row.name) c.args.signals.now (view c.args.value.now) _ _ None c.in_ok-text.ensures c.as_bytes.ensures.value c.in-None.ensures.found)
