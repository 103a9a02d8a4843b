use Rattle.std.proofs.Common.{◌∙◌, sym, subst, ◌<◌, length}
use Rattle.data_scopes.specs.Scopes.{Names}
use Rattle.data_scopes.proofs.Within.{const_below}
use Rattle.data_scopes.proofs.scopes.Scopes.find.Goals as goal

pub returns-clause-known : goal.returns-clause-known
returns-clause-known c constant is =
    let below = const_below (length c.self.inside.kept.items) c.self.inside.tables c.args.spot c.args.name.now constant c.self.invariant.below (sym c.meaning.ensures ∙ is) in
    subst (λ (n : Names). constant < length n.kept) c.self.view_is below
