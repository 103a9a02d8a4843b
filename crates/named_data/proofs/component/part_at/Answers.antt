use Rattle.std.proofs.Common.{rules, arith}
use Rattle.named_data.specs.Views.{view_site}
use Rattle.named_data.proofs.Parts.{fails_here, goes_on}
use Rattle.named_data.proofs.component.part_at.Goals as goal

pub returns-in_err-found : goal.returns-in_err-found
returns-in_err-found c =
    let fails = fails_here c.in_err-found.field-0.0 (view_site c.args.site.now) c.loop-name.found c.args.components.now c.loop-name.name-index _ _ (omega arith) c.in_err-found.ensures c.loop-name.invariant in
    search (rules, fails)

pub loop-name-preserved : goal.loop-name-preserved
loop-name-preserved c =
    goes_on (view_site c.args.site.now) c.loop-name.found c.in_ok-found.found c.args.components.now c.loop-name.name-index _ _ (omega arith) c.in_ok-found.ensures c.loop-name.invariant
