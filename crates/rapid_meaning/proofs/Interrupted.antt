-- A task that counts the interrupts of an input, with its complete list of requests for the answers of a round-robin
-- run. The input becomes 1 as soon as the task has set an output, is set to 1 once more, becomes 0, and becomes 1
-- again.
use Rattle.std.proofs.Common.{◌≡◌, refl, true, false, pos, List, [], ◌∷◌, ◌++◌}
use Rattle.std.specs.Prelude.{codes}
use Rattle.rapid_model.specs.declared.answer.Answer.TheVariants.{Go, Ok, Trap, Bit, Number}
use Rattle.rapid_model.specs.declared.instruction.Instruction.TheVariants as instructions
use Rattle.rapid_model.specs.declared.request.Request.TheVariants as requests
use Rattle.rapid_model.specs.declared.request.Request.TheVariants.{Look, ReadS, WriteS, Order, Sleep, Leave, Hold, Rise, Say}
use Rattle.rapid_model.specs.declared.sort.Sort.TheVariants as sorts
use Rattle.rapid_model.specs.declared.tail.Tail.TheVariants as tails
use Rattle.rapid_model.specs.declared.watched.Watched.TheVariants as watched
use Rattle.rapid_model.specs.declared.operator.Operator.TheVariants as operators
use Rattle.typed_trees.specs.Plain.{TypedStmt, TypedTree, Given, Lent, OfSignal, Connect}
use Rattle.rapid_meaning.specs.Runs.{asks}
use Rattle.rapid_meaning.proofs.Asked.{all_of, asked_along, done, go}
use Rattle.rapid_meaning.proofs.Trees.{assigns, between, does, mark_row, module_num, module_place, num, num_row, proc, says_num, task_of, the_num, trap}

-- VAR intnum i1; VAR num k; a TRAP t that counts in k; and a main that connects i1 to t and orders it on signal 0
-- becoming 1
abbrev counter : List TypedStmt → TypedTree
counter more = record (task_of (mark_row sorts.IntNum ∷ num_row 0 ∷ []) (
    trap (assigns (module_num 1) (between (the_num 1) operators.Add (num 1)) ∷ [])
    ∷ proc ((Connect 0 (module_place 0 sorts.IntNum) 0
    ∷ does instructions.ISignalDI (OfSignal 0 ∷ Given (num 1) ∷ Lent (module_place 0 sorts.IntNum) ∷ []) ∷ []) ++ more) ∷ [])) { main = 1 }

abbrev sets_the_output : TypedStmt
sets_the_output = does instructions.SetDO (OfSignal 1 ∷ Given (num 1) ∷ [])

abbrev waits_for_two : TypedStmt
waits_for_two = does instructions.WaitUntil (Given (between (the_num 1) operators.Equal (num 2)) ∷ [])

abbrev says_k : TypedStmt
says_k = says_num (codes "k=") (the_num 1)

-- each trap runs at a Look of the wait: the first after the input became 1, the second after it did so again
counts_two : asked_along (counter (sets_the_output ∷ waits_for_two ∷ says_k ∷ [])) [] (
    go ∷ Number 1 ∷ go ∷ Ok ∷ go ∷ Ok ∷ Trap 1 0 ∷ Go 1 ∷ Ok ∷ Trap 1 0 ∷ Go 3 ∷ Ok ∷ Go 3 ∷ Go 3 ∷ Ok ∷ Ok ∷ [])
    ≡ all_of (Look ∷ requests.Connect 0 0 ∷ Look ∷ Order 1 (watched.Signal 0 true) false ∷ Look ∷ WriteS 1 true
    ∷ Look ∷ Look ∷ Leave ∷ Look ∷ Look ∷ Leave ∷ Look ∷ Look ∷ Say (codes "k=") (tails.Num (pos 2_000)) ∷ done ∷ [])
unfolding asked_along
counts_two = refl

-- the interrupt is asleep: the task holds, rises when the input becomes 0, holds again, and never rises after that
sleeps_on : asked_along (counter (does instructions.ISleep (Lent (module_place 0 sorts.IntNum) ∷ []) ∷ sets_the_output ∷ waits_for_two ∷ says_k ∷ [])) [] (
    go ∷ Number 1 ∷ go ∷ Ok ∷ go ∷ Ok ∷ go ∷ Ok ∷ Go 1 ∷ Ok ∷ Ok ∷ Go 3 ∷ Ok ∷ [])
    ≡ asks Look ∷ asks (requests.Connect 0 0) ∷ asks Look ∷ asks (Order 1 (watched.Signal 0 true) false) ∷ asks Look ∷ asks (Sleep 1)
    ∷ asks Look ∷ asks (WriteS 1 true) ∷ asks Look ∷ asks (Hold 1) ∷ asks Rise ∷ asks Look ∷ asks (Hold 3) ∷ asks Rise ∷ []
unfolding asked_along
sleeps_on = refl

-- Interrupts are disabled while the task waits for another input, signal 2, which becomes 1 last; both traps run after
-- IEnable.
counts_two_later : asked_along (counter (
    does instructions.IDisable [] ∷ sets_the_output ∷ does instructions.WaitDI (OfSignal 2 ∷ Given (num 1) ∷ []) ∷ says_k
    ∷ does instructions.IEnable [] ∷ waits_for_two ∷ says_k ∷ [])) [] (
    go ∷ Number 1 ∷ go ∷ Ok ∷ go ∷ Ok ∷ go ∷ Ok ∷ Go 1 ∷ Bit false ∷ Ok ∷ Ok ∷ Go 4 ∷ Bit true ∷ Go 4 ∷ Ok ∷ Go 4 ∷ Ok
    ∷ Trap 1 0 ∷ Go 4 ∷ Ok ∷ Trap 1 0 ∷ Go 4 ∷ Ok ∷ Go 4 ∷ Go 4 ∷ Ok ∷ Ok ∷ [])
    ≡ all_of (Look ∷ requests.Connect 0 0 ∷ Look ∷ Order 1 (watched.Signal 0 true) false ∷ Look ∷ requests.Disable ∷ Look ∷ WriteS 1 true
    ∷ Look ∷ ReadS 2 ∷ Hold 1 ∷ Rise ∷ Look ∷ ReadS 2 ∷ Look ∷ Say (codes "k=") (tails.Num (pos 0)) ∷ Look ∷ requests.Enable
    ∷ Look ∷ Look ∷ Leave ∷ Look ∷ Look ∷ Leave ∷ Look ∷ Look ∷ Say (codes "k=") (tails.Num (pos 2_000)) ∷ done ∷ [])
unfolding asked_along
counts_two_later = refl
