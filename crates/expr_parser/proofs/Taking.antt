-- What loops read takes at least one token, so they terminate.
use Rattle.std.proofs.Common.{ℕ}
use Rattle.rapid_forms.specs.declared.sign.Sign.TheVariants as signs
use Rattle.rapid_forms.specs.Reading.{seq_read, made_read}
use Rattle.rapid_forms.proofs.Loops.{Takes, reads_take}
use Rattle.rapid_forms.proofs.Pairs.{token_takes}
use Rattle.expr_parser.specs.Grammar.{behind, step_tree}
use Rattle.expr_parser.specs.Reads.{mark_read, operators_of, part_read, step_read, expr_of_read, operand_read, later_read, inside_read}
use Rattle.expr_parser.specs.declared.level.Level.{Level}
use Rattle.expr_parser.specs.declared.level.Level.TheVariants as levels
use Rattle.expr_parser.proofs.Ahead.{name_ll, primary_ll, term_ll, relation_ll, land_ll, later_ll, inside_ll, expr_ll}
use Rattle.expr_parser.proofs.Answered.{name_reads, primary_reads, term_reads, relation_reads, land_reads, expr_of_reads, later_reads, inside_reads}

pub part_takes : Takes part_read
unfolding part_read
part_takes = token_takes _ behind (name_reads {n = 0}) (λ m. name_ll)

pub step_takes : (n : ℕ) (level : Level) → Takes (step_read (operators_of level) (operand_read (inside_read n) level))
unfolding step_read
step_takes n levels.Or = token_takes _ step_tree (land_reads (inside_reads n)) (λ m. land_ll (inside_ll m))
step_takes n levels.And = token_takes _ step_tree (relation_reads (inside_reads n)) (λ m. relation_ll (inside_ll m))
step_takes n levels.Sum = token_takes _ step_tree (term_reads (inside_reads n)) (λ m. term_ll (inside_ll m))
step_takes n levels.Term = token_takes _ step_tree (primary_reads (inside_reads n)) (λ m. primary_ll (inside_ll m))

pub more_expr_takes : (n : ℕ) → Takes (made_read behind (seq_read (mark_read signs.Comma) (expr_of_read (inside_read n))))
more_expr_takes n = token_takes _ behind (expr_of_reads (inside_reads n)) expr_ll

pub later_takes : (n : ℕ) → Takes (later_read (expr_of_read (inside_read n)))
later_takes n = reads_take (later_reads (expr_of_reads (inside_reads n))) (later_ll (expr_ll n))
