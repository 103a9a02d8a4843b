use Rattle.std.proofs.lemmas.Result.{on_ok_weaker}
use Rattle.code_stmt.specs.Views.{view_own}
use Rattle.code_stmt.proofs.Closing.{closed_run}
use Rattle.code_stmt.proofs.owned.add_values_of.Goals as goal

pub returns : goal.returns
returns c =
    let own = view_own c.args.own.now in
    on_ok_weaker c.close.result (λ rows. closed_run own c.args.out.now c.close.new.self c.add_values.new.code _ _ c.in_ok-first.first (c.in_ok-add_values.ensures own) c.close.ensures.code rows c.in_ok-first.ensures) c.close.ensures.owners
