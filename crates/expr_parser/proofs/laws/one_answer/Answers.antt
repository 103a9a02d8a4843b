use Rattle.rapid_forms.proofs.Spelled.{reads_answer, one_holds, parsed_once, parsed_faulty, parsed_deep, faulty_once, faulty_deep, deep_once}
use Rattle.expr_parser.specs.Reads.{expr_read}
use Rattle.expr_parser.proofs.Ahead.{expr_ll}
use Rattle.expr_parser.proofs.Answered.{expr_reads, expr_above}
use Rattle.expr_parser.proofs.Known.{expr_known, spelled_once}
use Rattle.expr_parser.proofs.laws.one_answer.Goals as goal

pub returns : goal.returns
returns c = record {
  some = λ n ts. one_holds (expr_read n ts) (reads_answer (expr_reads n) expr_ll expr_above ts);
  tree = λ n ts x y j k. parsed_once;
  fault = λ n ts j k. faulty_once;
  depth = λ n ts j k. deep_once (expr_ll n);
  apart = λ n ts x i j k. (parsed_faulty, parsed_deep (expr_ll n), faulty_deep (expr_ll n));
  spelling = spelled_once (expr_known 0);
}
