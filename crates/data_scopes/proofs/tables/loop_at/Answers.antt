use Rattle.std.proofs.Common.{◌∙◌, sym, ap, length}
use Rattle.std.specs.Str.{str_to_ascii_lowercase}
use Rattle.data_scopes.specs.Scopes.{loop_named}
use Rattle.data_scopes.proofs.ListAt.{rows_at-there, rows_at-past}
use Rattle.data_scopes.proofs.tables.loop_at.Goals as goal

pub returns-in_err-rows : goal.returns-in_err-rows
returns-in_err-rows c =
    c.from_residual.ensures ∙ ap (λ rows. loop_named (length rows) (str_to_ascii_lowercase c.args.name.now) rows c.args.within) (sym (rows_at-past c.args.loops.now c.args.routine (c.in_err-rows.ensures.lookup).3))

pub returns : goal.returns
returns c =
    let l = c.in_ok-rows.ensures.lookup in
    c.loop_named.ensures ∙ ap (λ rows. loop_named (length rows) (str_to_ascii_lowercase c.args.name.now) rows c.args.within) (c.deref.ensures.value ∙ sym (rows_at-there c.args.loops.now c.args.routine c.in_ok-rows.rows.now l.3.0 l.1))
