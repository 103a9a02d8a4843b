use Rattle.std.proofs.Common.{◌<◌, length, slice_get, IfSome, IsTrue, refl, sym, subst}
use Rattle.data_scopes.specs.Scopes.{Names}
use Rattle.rapid_model.specs.Sorts.{is_value_of}
use Rattle.data_scopes.proofs.Typed.{one_more_kept}
use Rattle.data_scopes.proofs.scopes.Scopes.keep.Goals as goal

pub invariant_of-self : goal.invariant_of-self
invariant_of-self c =
    let within = subst (λ (n : Names). c.args.constant < length n.kept) (sym c.self.view_is) c.requires.named in
    let typed = subst (λ (n : Names). IfSome (slice_get n.rows.consts c.args.constant) (λ row. IsTrue (is_value_of row.sort c.args.value))) (sym c.self.view_is) c.requires.value in
    one_more_kept c.self.inside.tables c.self.inside.rows.consts c.self.inside.kept.items _ c.args.constant c.args.value within typed refl c.self.invariant
