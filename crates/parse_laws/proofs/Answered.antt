-- If a reader parses a form correctly at each nesting depth, and one token of lookahead is enough for the form, then
-- each list of tokens has exactly one answer, and a caller of the reader gets it.
use Rattle.std.proofs.Common.{ℕ, Err}
use Rattle.rapid_forms.specs.Forms.{Form}
use Rattle.rapid_forms.specs.Reading.{Reader}
use Rattle.rapid_forms.proofs.Spelled.{reads_answer, gives_parses, one_holds, parsed_once, parsed_faulty, parsed_deep, faulty_once, faulty_deep, deep_once}
use Rattle.expr_parser.proofs.Known.{Known, spelled_once}
use Rattle.expr_parser.proofs.Known.{found as found_there}
use Rattle.parse_laws.specs.Answered.{HasOneAnswer, TellsAnswer}

module _ {A : Type 0} (F : ℕ → Form A) (read : ℕ → Reader A) (known : (n : ℕ) → Known F n (read n)) where
  pub one_answer : HasOneAnswer F
  one_answer = record {
    some = λ n ts. one_holds (read n ts) (reads_answer (known n).reads (known n).ahead (known n).above ts);
    tree = λ n ts x y j k. parsed_once;
    fault = λ n ts j k. faulty_once;
    depth = λ n ts j k. deep_once ((known n).ahead n);
    apart = λ n ts x i j k. (parsed_faulty, parsed_deep ((known n).ahead n), faulty_deep ((known n).ahead n));
    spelling = spelled_once (known 0);
  }

  pub tells_answer : {X : Type 0} (view : X → A) → TellsAnswer F read view
  tells_answer view = record {
    found = λ tokens at n x next le g. found_there (known n) tokens at view x next le g;
    refused = λ tokens at n fault g. gives_parses (known n).reads (known n).ahead (known n).above tokens at view (Err fault) tt g;
  }
