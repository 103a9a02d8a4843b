-- Lists of statements, and the loops of functions: one more takes at least one token each time.
use Rattle.std.proofs.Common.{◌≡◌, ℕ, zero, suc, ◌-◌, ◌<◌, false, List, [], Ok, sym, ◌∙◌, arith}
use Rattle.rapid_lexer.specs.Tokens.{Lexeme}
use Rattle.rapid_forms.specs.declared.sign.Sign.TheVariants as signs
use Rattle.rapid_forms.specs.Signs.{begins_with}
use Rattle.rapid_forms.specs.Reading.{made_read, optional_read, then_read}
use Rattle.rapid_forms.proofs.Loops.{Takes, front_none, loop_done}
use Rattle.expr_parser.specs.Reads.{inside_read}
use Rattle.stmt_parser.specs.Reads.{stmt_signs, behind_read, arm_read, case_read, list_read, stmt_read, items_read}
use Rattle.rapid_forms.proofs.Serves.{serves_take}
use Rattle.stmt_parser.proofs.Answered.{list_reads, stmt_serves, arm_serves, case_serves, behind_serves}

pub stmt_takes : (n : ℕ) → Takes (stmt_read n)
unfolding stmt_read
stmt_takes n = serves_take (stmt_serves (list_reads n))

pub arm_takes : (n : ℕ) → Takes (behind_read signs.ElseIf (arm_read (inside_read n) (list_read n)))
arm_takes n = serves_take (behind_serves _ (arm_serves (list_reads n)))

pub case_takes : (n : ℕ) → Takes (behind_read signs.Case (case_read (inside_read n) (list_read n)))
case_takes n = serves_take (behind_serves _ (case_serves (list_reads n)))

-- no statement starts there
pub list_none : (n : ℕ) (ts : List Lexeme) → begins_with stmt_signs ts ≡ false → list_read n ts ≡ Ok ([], ts)
unfolding list_read made_read optional_read then_read
list_none zero ts h = rw h
list_none (suc n) ts h = sym (front_none _) ∙ loop_done _ stmt_signs [] ts h

-- the statements of a list whose level is open are a list one level deeper
pub list_opens : (n : ℕ) (ts : List Lexeme) → 0 < n → items_read (n - 1) ts ≡ list_read n ts
unfolding list_read items_read stmt_read
list_opens zero ts h = absurd (omega arith)
list_opens (suc n) ts h = let e : suc n - 1 ≡ n = omega arith in rw e
