use Rattle.std.proofs.lemmas.Result.{err_from_is_err_and}
use Rattle.raw_trees.specs.Views.{view_expr}
use Rattle.expr_parser.proofs.Known.{found, refused, expr_known}
use Rattle.expr_parser.proofs.parse.parse_expr.Goals as goal

pub returns-in_err-tree : goal.returns-in_err-tree
returns-in_err-tree c =
    let p = err_from_is_err_and c.from_residual.result c.from_residual.ensures.1 in
    rw (p.1, p.2) record { answer = refused (expr_known _) (record { list = c.args.tokens; end = c.args.end }) c.args.at _ c.in_err-tree.ensures }

pub returns : goal.returns
returns c =
    rw c.min.ensures record { answer = found (expr_known _) (record { list = c.args.tokens; end = c.args.end }) c.args.at view_expr c.in_ok-tree.tree _ c.requires.there c.in_ok-tree.ensures }
