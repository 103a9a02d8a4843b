use Rattle.expr_parser.proofs.Known.{expr_known, spelled_once}
use Rattle.parse_laws.proofs.Precedence.{not_of_both_spelled}
use Rattle.parse_laws.proofs.laws.not_covers_and.Goals as goal

pub returns : goal.returns
returns c = record {
  tree = not_of_both_spelled;
  only = λ a b i j k l other h. spelled_once (expr_known 0) other _ _ h (not_of_both_spelled a b i j k l);
}
