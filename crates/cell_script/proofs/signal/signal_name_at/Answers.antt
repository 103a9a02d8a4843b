use Rattle.std.proofs.Common.{◌≡◌, true, false, map, sym, ap, ◌∙◌}
use Rattle.rapid_builtins.specs.Names.{is_predefined}
use Rattle.rapid_model.specs.declared.script_rule.ScriptRule.TheVariants.{Twice}
use Rattle.cell_script.specs.Keys.{at}
use Rattle.cell_script.specs.Gives.{view_keys}
use Rattle.toml.specs.View.{view}
use Rattle.cell_script.proofs.Faults.{Fails-broken}
use Rattle.cell_script.proofs.Named.{new_name, signal_name_by}
use Rattle.cell_script.proofs.signal.signal_name_at.Goals as goal

pub returns-then-is_signal : goal.returns-then-is_signal
returns-then-is_signal c =
    let key = at (view_keys c.args.keys.now) c.args.key.now in
    let known : false ≡ is_predefined c.in_ok-name.name = sym c.if-is_predefined.false ∙ c.is_predefined.ensures ∙ ap is_predefined c.bytes.ensures.same in
    Fails-broken _ key Twice _ c.broken-then-is_signal.ensures
    (signal_name_by key (map (λ row. row.name) c.args.others.now) (view c.args.value.now) c.in_ok-name.name false true c.in_ok-name.ensures known
    (sym (new_name key (λ row. row.name) c.args.others.now c.in_ok-name.name c.bytes-2.result.now true c.bytes-2.ensures.same (sym c.if-is_signal.true ∙ c.is_signal.ensures))))

pub returns : goal.returns
returns c =
    let key = at (view_keys c.args.keys.now) c.args.key.now in
    let known : false ≡ is_predefined c.in_ok-name.name = sym c.if-is_predefined.false ∙ c.is_predefined.ensures ∙ ap is_predefined c.bytes.ensures.same in
    signal_name_by key (map (λ row. row.name) c.args.others.now) (view c.args.value.now) c.in_ok-name.name false false c.in_ok-name.ensures known
    (sym (new_name key (λ row. row.name) c.args.others.now c.in_ok-name.name c.bytes-2.result.now false c.bytes-2.ensures.same (sym c.if-is_signal.false ∙ c.is_signal.ensures)))
