use Rattle.std.proofs.Common.{◌<◌, length, IfSome, subst}
use Rattle.data_scopes.specs.Scopes.{Names}
use Rattle.data_scopes.proofs.Typed.{row_numbered}
use Rattle.data_scopes.proofs.scopes.Scopes.constant.Goals as goal

pub returns-clause-named : goal.returns-clause-named
returns-clause-named c =
    let named = row_numbered c.self.inside.rows.consts c.self.inside.kept.items c.args.number c.constant.result c.constant.ensures c.self.invariant.types in
    subst (λ (n : Names). IfSome c.constant.result (λ _. c.args.number < length n.kept)) c.self.view_is named
