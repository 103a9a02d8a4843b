use Rattle.std.proofs.Common.{◌∙◌, sym, ap}
use Rattle.data_scopes.specs.Scopes.{meant_in}
use Rattle.data_scopes.proofs.ListAt.{list_at-there, list_at-past}
use Rattle.data_scopes.proofs.tables.find_at.Goals as goal

pub returns-in_err-scope : goal.returns-in_err-scope
returns-in_err-scope c =
    c.from_residual.ensures ∙ ap (meant_in c.args.name.now) (sym (list_at-past c.args.scopes.now c.args.number (c.in_err-scope.ensures.lookup).3))

pub returns : goal.returns
returns c =
    let l = c.in_ok-scope.ensures.lookup in
    c.find_key.ensures ∙ ap (meant_in c.args.name.now) (sym (list_at-there c.args.scopes.now c.args.number c.in_ok-scope.scope.now l.3.0 l.1))
