use Rattle.std.proofs.Common.{sym, ◌∙◌}
use Rattle.type_laws.proofs.Sequences.{typed_is}
use Rattle.type_laws.proofs.StatementLaws.{stmts_law}
use Rattle.type_laws.proofs.statements.statements_have_one_form.Goals as goal

pub returns : goal.returns
returns c = λ body list around next ts us past other is also.
    (typed_is us other (record { tree = ts; next = past })).0
    (sym ((stmts_law body list around next (record { tree = us; next = other })).1 also) ∙ (stmts_law body list around next (record { tree = ts; next = past })).1 is)
