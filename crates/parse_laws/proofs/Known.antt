-- The readers of the parts of expressions parse their forms correctly.
use Rattle.std.proofs.Common.{ℕ}
use Rattle.rapid_forms.specs.Reading.{made_read, optional_read}
use Rattle.rapid_forms.proofs.Up.{up_levels}
use Rattle.expr_parser.specs.Grammar.{args, none_or, parts}
use Rattle.expr_parser.specs.Reads.{arg_signs, expr_of_read, expr_read, exprs_read, inside_read, parts_read}
use Rattle.expr_parser.proofs.Ahead.{args_ll, args_up, expr_ll, exprs_ll, exprs_up, inside_above, inside_ll, parts_ll, parts_up}
use Rattle.expr_parser.proofs.Answered.{args_reads, expr_above, exprs_reads, inside_reads, parts_reads}
use Rattle.expr_parser.proofs.Known.{Known}
use Rattle.parse_laws.specs.Forms.{exprs_within, index_within}

pub exprs_known : (n : ℕ) → Known exprs_within n (exprs_read (expr_of_read (inside_read n)))
unfolding expr_read
exprs_known n = record {
  null = _;
  first = _;
  more = _;
  reads = exprs_reads n;
  ahead = λ m. exprs_ll (expr_ll m);
  above = λ k m le. exprs_up (expr_above k m le);
}

pub index_known : (n : ℕ) → Known index_within n (inside_read n).index
index_known n = record {
  null = _;
  first = _;
  more = _;
  reads = (inside_reads n).index;
  ahead = λ m. (inside_ll m).index;
  above = λ k m le. (inside_above k m le).index;
}

pub parts_known : (n : ℕ) → Known parts n (parts_read (inside_read n))
unfolding parts
parts_known n = record {
  null = _;
  first = _;
  more = _;
  reads = parts_reads n;
  ahead = λ m. parts_ll (inside_ll m);
  above = λ k m le. parts_up (inside_above k m le);
}

pub args_known : (n : ℕ) → Known args n (made_read none_or (optional_read arg_signs (inside_read n).args))
args_known n = record { null = _; first = _; more = _; reads = args_reads n; ahead = args_ll; above = up_levels args args_up }
