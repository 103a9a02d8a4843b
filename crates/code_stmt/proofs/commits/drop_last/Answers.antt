use Rattle.std.specs.Prelude.{vec_len}
use Rattle.std.proofs.Common.{◌≡◌, ◌-◌, length, take, ap, ◌∙◌, arith}
use Rattle.code_stmt.proofs.MarkedCode.{front_at}
use Rattle.code_stmt.proofs.commits.drop_last.Goals as goal

pub returns-clause-items : goal.returns-clause-items
returns-clause-items c =
    let owners = c.args.owners.now in
    let count : vec_len owners - 1 ≡ length owners.items - 1 = omega (arith, owners.ok.0) in
    c.pop-last.ensures.rest ∙ (ap (λ n. take n owners.items) count ∙ front_at owners.items)
