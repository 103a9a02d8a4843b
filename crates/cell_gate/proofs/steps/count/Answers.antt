use Rattle.std.proofs.Common.{rules, subst}
use Rattle.cell_gate.specs.Hands.{MayCount}
use Rattle.cell_gate.proofs.Keeps.{count_allowed}
use Rattle.cell_gate.proofs.Turning.{counts_none}
use Rattle.cell_gate.proofs.steps.count.Goals as goal

pub fetch_add-requires : goal.fetch_add-requires
fetch_add-requires c =
    let counting = c.requires.may in
    let e = counting.grows.gained c.if-grew.true in
    (search rules, search rules, count_allowed _ _ _ _ counting.core e.0 counting.slot counting.turn e.1 e.2 counting.few)

pub returns-else-grew-clause-me : goal.returns-else-grew-clause-me
returns-else-grew-clause-me c = counts_none c.args.place.now.me (subst (λ grew. MayCount c.args.place.now.me grew) c.if-grew.false c.requires.may)
