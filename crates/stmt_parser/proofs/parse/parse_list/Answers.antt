use Rattle.std.proofs.lemmas.Result.{err_from_is_err_and}
use Rattle.raw_trees.specs.Views.{view_list}
use Rattle.expr_parser.proofs.Known.{found, refused}
use Rattle.stmt_parser.proofs.Known.{items_known}
use Rattle.stmt_parser.proofs.parse.parse_list.Goals as goal

pub returns-in_err-list : goal.returns-in_err-list
returns-in_err-list c =
    let p = err_from_is_err_and c.from_residual.result c.from_residual.ensures.1 in
    rw (p.1, p.2) record { answer = refused (items_known _) (record { list = c.args.tokens; end = c.args.end }) c.args.at _ c.in_err-list.ensures }

pub returns : goal.returns
returns c =
    rw c.min.ensures record { answer = found (items_known _) (record { list = c.args.tokens; end = c.args.end }) c.args.at view_list c.in_ok-list.list _ c.requires.there c.in_ok-list.ensures }
