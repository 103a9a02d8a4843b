use Rattle.std.proofs.Common.{true, false, map, Some, None, Ok, string_bytes, ap, sym, ◌∙◌}
use Rattle.std.proofs.lemmas.Map.Iter.{rest_more, rest_all}
use Rattle.std.specs.Map.Iter.{deref}
use Rattle.rapid_model.specs.declared.script_rule.ScriptRule.TheVariants.{UnknownKey}
use Rattle.cell_script.specs.Keys.{at, first_unknown}
use Rattle.cell_script.specs.Gives.{view_keys}
use Rattle.cell_script.proofs.Faults.{Fails-broken}
use Rattle.cell_script.proofs.Known.{keys_of-view, unknown_more, only_by}
use Rattle.cell_script.proofs.keys.TableKeys.only.Goals as goal

pub loop-key-init : goal.loop-key-init
loop-key-init g c =
    let known = map (λ key. key.now) c.args.known.now in
    (tt, tt, ap (λ it. first_unknown known (map string_bytes it)) (c.into_iter-key-iterator.ensures.into_iter_gives ∙ c.keys-key-items.ensures.rest) ∙ ap (first_unknown known) (keys_of-view c.args.self.now.table.now.entries))

pub returns-then-not-is_known : goal.returns-then-not-is_known
returns-then-not-is_known g c =
    let more = rest_more deref _ _ c.next.result c.in-Some.key c.in-Some.is c.next.ensures.steps in
    let first = unknown_more c.args.known.now c.as_str.result.now _ _ _ false more c.as_str.ensures.value (sym c.if-not-is_known.true ∙ c.is_known.ensures) in
    let known = map (λ key. key.now) c.args.known.now in
    let text = c.as_str-then-not-is_known.result.now in
    Fails-broken _ (at (view_keys c.args.self.now) text) UnknownKey _ c.broken.ensures
    (only_by (view_keys c.args.self.now) known (Ok c.args.next) (Some text) (sym c.loop-key.invariant.2 ∙ first ∙ ap Some (c.as_str.ensures.value ∙ sym c.as_str-then-not-is_known.ensures.value)))

pub loop-key-preserved : goal.loop-key-preserved
loop-key-preserved g c =
    let more = rest_more deref _ _ c.next.result c.in-Some.key c.in-Some.is c.next.ensures.steps in
    let first = unknown_more c.args.known.now c.as_str.result.now _ _ _ true more c.as_str.ensures.value (sym c.if-not-is_known.false ∙ c.is_known.ensures) in
    (tt, tt, sym first ∙ c.loop-key.invariant.2)

pub returns : goal.returns
returns g c =
    let known = map (λ key. key.now) c.args.known.now in
    let none = rest_all deref _ _ c.next.result c.in-None.is c.next.ensures.steps in
    only_by (view_keys c.args.self.now) known (Ok c.args.next) None (sym c.loop-key.invariant.2 ∙ ap (λ it. first_unknown known (map string_bytes it)) none)
