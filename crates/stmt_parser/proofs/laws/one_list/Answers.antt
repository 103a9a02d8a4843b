use Rattle.rapid_forms.proofs.Spelled.{reads_answer, one_holds, parsed_once, parsed_faulty, parsed_deep, faulty_once, faulty_deep, deep_once}
use Rattle.expr_parser.proofs.Known.{spelled_once}
use Rattle.stmt_parser.specs.Reads.{items_read}
use Rattle.stmt_parser.proofs.Ahead.{items_ll}
use Rattle.stmt_parser.proofs.Answered.{items_reads, items_above}
use Rattle.stmt_parser.proofs.Known.{items_known}
use Rattle.stmt_parser.proofs.laws.one_list.Goals as goal

pub returns : goal.returns
returns c = record {
  some = λ n ts. one_holds (items_read n ts) (reads_answer (items_reads n) items_ll items_above ts);
  tree = λ n ts x y j k. parsed_once;
  fault = λ n ts j k. faulty_once;
  depth = λ n ts j k. deep_once (items_ll n);
  apart = λ n ts x i j k. (parsed_faulty, parsed_deep (items_ll n), faulty_deep (items_ll n));
  spelling = spelled_once (items_known 0);
}
