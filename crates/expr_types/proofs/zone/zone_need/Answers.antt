use Rattle.std.proofs.Common.{◌∙◌, ◌+◌, ap, drop, map, sym}
use Rattle.raw_trees.specs.Plain.{args_of}
use Rattle.raw_trees.specs.Views.{view_arg as view_raw_arg}
use Rattle.expr_types.specs.Calls.{zone_need}
use Rattle.expr_types.proofs.Counted.{or_need, zone_from}
use Rattle.expr_types.proofs.zone.zone_need.Goals as goal

pub returns-in-Some : goal.returns-in-Some
returns-in-Some c =
    let behind = zone_need (args_of (map view_raw_arg (drop (c.loop-arg.arg-index + 1) c.args.args.now))) in
    ap (λ first. or_need first behind) c.in-Some.ensures
    ∙ sym (zone_from c.args.args.now c.loop-arg.arg-index c.arg-item.result c.loop-arg-test.true c.arg-item.is)
    ∙ c.loop-arg.invariant

pub loop-arg-preserved : goal.loop-arg-preserved
loop-arg-preserved c =
    let behind = zone_need (args_of (map view_raw_arg (drop (c.loop-arg.arg-index + 1) c.args.args.now))) in
    ap (λ first. or_need first behind) c.in_default.ensures
    ∙ sym (zone_from c.args.args.now c.loop-arg.arg-index c.arg-item.result c.loop-arg-test.true c.arg-item.is)
    ∙ c.loop-arg.invariant
