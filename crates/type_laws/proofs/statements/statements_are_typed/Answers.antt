use Rattle.type_laws.proofs.StatementLaws.{stmts_law}
use Rattle.type_laws.proofs.statements.statements_are_typed.Goals as goal

pub returns : goal.returns
returns c = λ body list around next ts past. stmts_law body list around next (record { tree = ts; next = past })
