use Rattle.std.proofs.Common.{sym, ap, ◌∙◌, List, option_map}
use Rattle.stack_code.specs.Placed.{own_of, owner_at}
use Rattle.stack_code.specs.declared.owner.Owner.{Owner}
use Rattle.task_code.specs.Owners.{resumed}
use Rattle.task_steps.proofs.Within.{own_none, resumed_nowhere, resumed_there}
use Rattle.task_steps.proofs.operands.owning.resumed_at.Goals as goal

pub returns-then-place-ops : goal.returns-then-place-ops
returns-then-place-ops c =
    let code = c.args.code.now in
    resumed_there c.args.how (owner_at code.owners c.args.place) c.resume_of.result
    (ap (λ (owners : List Owner). option_map (λ (owner : Owner). resumed c.args.how (own_of owner)) (owner_at owners c.args.place)) (sym c.marks.ensures.owners) ∙ c.resume_of.ensures.named)

pub returns-else-place-ops : goal.returns-else-place-ops
returns-else-place-ops c =
    let code = c.args.code.now in
    sym (ap (resumed c.args.how) (own_none code c.args.place c.keep_code.ensures.tiled (rw c.ops.ensures at c.if-place-ops.false)) ∙ resumed_nowhere c.args.how)
