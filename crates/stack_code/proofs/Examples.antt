-- What the code of small tasks asks, as complete lists of requests: persistents, a FOR with references, waits, and
-- error recovery.
use Rattle.std.proofs.Common.{◌≡◌, refl, true, false, pos, neg_ℤ, [], ◌∷◌, ◌++◌}
use Rattle.std.specs.Prelude.{codes, replicate}
use Rattle.rapid_model.specs.declared.answer.Answer.TheVariants as answers
use Rattle.rapid_model.specs.declared.answer.Answer.TheVariants.{Go, Ok}
use Rattle.rapid_model.specs.declared.fate.Fault.TheVariants as faults
use Rattle.rapid_model.specs.declared.request.Request.TheVariants as requests
use Rattle.rapid_model.specs.declared.request.Request.TheVariants.{Look, ReadP, WriteP, ReadS, WriteS, Order, Leave, Hold, Rise, Say}
use Rattle.rapid_model.specs.declared.tail.Tail.TheVariants as tails
use Rattle.rapid_model.specs.declared.value.Value.TheVariants as values
use Rattle.rapid_model.specs.declared.watched.Watched.TheVariants as watched
use Rattle.rapid_meaning.proofs.Asked.{all_of, done, fault, go}
use Rattle.rapid_meaning.proofs.SmallTasks.{adding, counting, interrupted, raising_again, retrying, skipping, trying, waiting, whole_path}
use Rattle.stack_code.proofs.CodeAsked.{compiled_asks}

counts_on : compiled_asks counting (go ∷ answers.Val (values.Num (neg_ℤ (pos 2_500))) ∷ Ok ∷ go ∷ answers.Val (values.Num (neg_ℤ (pos 1_500))) ∷ Ok ∷ Ok ∷ [])
    ≡ all_of (Look ∷ ReadP 0 whole_path ∷ WriteP 0 whole_path (values.Num (neg_ℤ (pos 1_500))) ∷ Look ∷ ReadP 0 whole_path
    ∷ Say (codes "k=") (tails.Num (neg_ℤ (pos 1_500))) ∷ done ∷ [])
unfolding compiled_asks
counts_on = refl

adds_by_reference : compiled_asks adding (replicate 14 go ++ Ok ∷ Ok ∷ []) ≡ all_of (replicate 14 Look ++ Say (codes "x=") (tails.Num (pos 7_000)) ∷ done ∷ [])
unfolding compiled_asks
adds_by_reference = refl

waits_until_it_comes : compiled_asks waiting (go ∷ answers.Bit false ∷ Ok ∷ Ok ∷ Go 1 ∷ answers.Bit true ∷ Go 1 ∷ Ok ∷ Ok ∷ [])
    ≡ all_of (Look ∷ ReadS 0 ∷ Hold 0 ∷ Rise ∷ Look ∷ ReadS 0 ∷ Look ∷ Say (codes "go") tails.None ∷ done ∷ [])
unfolding compiled_asks
waits_until_it_comes = refl

does_it_again : compiled_asks retrying (go ∷ go ∷ go ∷ go ∷ go ∷ Ok ∷ Ok ∷ [])
    ≡ all_of (Look ∷ Look ∷ Look ∷ Look ∷ Look ∷ Say (codes "x=") (tails.Num (pos 250)) ∷ done ∷ [])
unfolding compiled_asks
does_it_again = refl

goes_on_behind : compiled_asks skipping (go ∷ go ∷ go ∷ go ∷ Ok ∷ go ∷ go ∷ go ∷ go ∷ Ok ∷ Ok ∷ [])
    ≡ all_of (Look ∷ Look ∷ Look ∷ Look ∷ Say (codes "x=") (tails.Num (pos 5_000)) ∷ Look ∷ Look ∷ Look ∷ Look ∷ Say (codes "out") tails.None ∷ done ∷ [])
unfolding compiled_asks
goes_on_behind = refl

leaves_with_its_error : compiled_asks raising_again (go ∷ go ∷ go ∷ Ok ∷ []) ≡ all_of (Look ∷ Look ∷ Look ∷ fault (faults.Unhandled 7) ∷ [])
unfolding compiled_asks
leaves_with_its_error = refl

tries_three_times : compiled_asks trying (replicate 16 go ++ Ok ∷ Ok ∷ []) ≡ all_of (replicate 16 Look ++ Say (codes "n=") (tails.Num (pos 3_000)) ∷ done ∷ [])
unfolding compiled_asks
tries_three_times = refl

runs_traps_at_looks : compiled_asks interrupted (go ∷ answers.Number 1 ∷ go ∷ Ok ∷ go ∷ Ok
    ∷ answers.Trap 1 1 ∷ go ∷ Ok ∷ Go 3 ∷ Ok ∷ Ok ∷ answers.Trap 1 1 ∷ Go 4 ∷ Ok ∷ Go 4 ∷ Go 4 ∷ Ok ∷ Ok ∷ [])
    ≡ all_of (Look ∷ requests.Connect 0 1 ∷ Look ∷ Order 1 (watched.Signal 0 true) false ∷ Look ∷ WriteS 1 true
    ∷ Look ∷ Look ∷ Leave ∷ Look ∷ Hold 3 ∷ Rise ∷ Look ∷ Look ∷ Leave ∷ Look ∷ Look ∷ Say (codes "k=") (tails.Num (pos 2_000)) ∷ done ∷ [])
unfolding compiled_asks
runs_traps_at_looks = refl
