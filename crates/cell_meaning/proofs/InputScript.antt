-- The input script is an actor like the tasks.
use Rattle.std.proofs.Common.{◌≡◌, inl, inr, ℕ, ◌<◌, ◌≤◌, Bool, true, List, length, None, refl, sym, ◌∙◌, ap, subst, arith}
use Rattle.std.specs.Prelude.{◌&&◌, ◌==◌, IsTrue, nat_lt, slice_get}
use Rattle.std.proofs.lemmas.Bool.{eq-eqb, lt-ltb}
use Rattle.std.proofs.lemmas.List.{length-map}
use Rattle.std.proofs.lemmas.Option.{slice_get_past}
use Rattle.rapid_model.specs.CellData.{CellData}
use Rattle.rapid_model.specs.Own.{part_of, answers_of}
use Rattle.rapid_model.specs.declared.answer.Answer.{Answer}
use Rattle.rapid_model.specs.declared.event.Event.{Event}
use Rattle.rapid_model.specs.declared.request.Request.{Request}
use Rattle.rapid_model.specs.declared.request.Request.TheVariants as requests
use Rattle.cell_meaning.specs.Asking.{Asking, with_inputs}
use Rattle.cell_meaning.specs.Histories.{IsLegal}
use Rattle.cell_meaning.specs.MayAsk.{may_ask}
use Rattle.cell_meaning.specs.Premises.{OnlyActorsAsk, AsksOne, AsksWhatItMay, AsksUntilItsEnd, AsksInputs, TasksAskWell, AskTheSame}
use Rattle.cell_meaning.proofs.Asked.{suits_by}

pub only_actors : (asks : Asking) (cell : CellData) → OnlyActorsAsk (with_inputs asks cell) cell
only_actors asks cell = record { within = within }
  where
    within : (actor : ℕ) (answers : List Answer) (request : Request) → with_inputs asks cell actor answers request → actor ≤ length cell.tasks
    within actor answers request (inl task) = let lt = task.task in omega arith
    within actor answers request (inr script) = let is = script.script in omega arith

pub one_asked : (asks : Asking) (cell : CellData) → AsksOne asks → AsksOne (with_inputs asks cell)
one_asked asks cell ones = record { one = one }
  where
    one : (actor : ℕ) (answers : List Answer) (r r' : Request) → with_inputs asks cell actor answers r → with_inputs asks cell actor answers r' → r ≡ r'
    one actor answers r r' (inl t) (inl u) = ones.one actor answers r r' t.asked u.asked
    one actor answers r r' (inl t) (inr s) = absurd (let lt = t.task in let is = s.script in omega arith)
    one actor answers r r' (inr s) (inl t) = absurd (let lt = t.task in let is = s.script in omega arith)
    one actor answers r r' (inr s) (inr u) = s.next ∙ sym u.next

pub inputs_asked : (asks : Asking) (cell : CellData) → AsksInputs (with_inputs asks cell) cell
inputs_asked asks cell = record { next = λ answers left. inr (record { script = refl; left = left; next = refl }) }

-- the input script may ask its next step
pub script_may : (cell : CellData) (mine : List Event) → length mine < length cell.inputs → IsTrue (may_ask cell (length cell.tasks) mine (requests.Input (length mine)))
script_may cell mine left =
    let none : slice_get cell.tasks (length cell.tasks) ≡ None = slice_get_past cell.tasks (length cell.tasks) (omega arith) in
    ap (suits_by cell (length cell.tasks) mine (requests.Input (length mine))) none
    ∙ all_three (length cell.tasks == length cell.tasks) (length mine == length mine) (nat_lt (length mine) (length cell.inputs))
    (eq-eqb (length cell.tasks) (length cell.tasks) refl) (eq-eqb (length mine) (length mine) refl) (lt-ltb (length mine) (length cell.inputs) left)
  where
    all_three : (a b c : Bool) → a ≡ true → b ≡ true → c ≡ true → (a && (b && c)) ≡ true
    all_three a b c p q r = rw (p, q, r) refl

-- the tasks and the input script ask only what they may, if the tasks do
pub may_with_inputs : (asks : Asking) (cell : CellData)
    → ((history : List Event) (task : ℕ) (request : Request) → task < length cell.tasks → IsLegal (with_inputs asks cell) cell history → asks task (answers_of task history) request → IsTrue (may_ask cell task (part_of task history) request))
    → AsksWhatItMay (with_inputs asks cell) cell
may_with_inputs asks cell tasks_may = record { may = λ history actor request legal asked. by history actor request (λ task asks_it. tasks_may history actor request task legal asks_it) asked }
  where
    by : (history : List Event) (actor : ℕ) (request : Request) → (actor < length cell.tasks → asks actor (answers_of actor history) request → IsTrue (may_ask cell actor (part_of actor history) request))
        → with_inputs asks cell actor (answers_of actor history) request → IsTrue (may_ask cell actor (part_of actor history) request)
    by history actor request of_task (inl task) = of_task task.task task.asked
    by history actor request of_task (inr script) =
        let count : length (answers_of actor history) ≡ length (part_of actor history) = length-map (part_of actor history) (λ e. e.answer) in
        let next : request ≡ requests.Input (length (part_of actor history)) = script.next ∙ ap (λ (k : ℕ). requests.Input k) count in
        let left = script.left in
        let may = script_may cell (part_of actor history) (omega (arith, count, left)) in
        subst (λ (r : Request). IsTrue (may_ask cell actor (part_of actor history) r)) (sym next)
        (subst (λ (k : ℕ). IsTrue (may_ask cell k (part_of actor history) (requests.Input (length (part_of actor history))))) (sym script.script) may)

pub asks_what_it_may : (asks : Asking) (cell : CellData) → TasksAskWell asks cell → AsksWhatItMay (with_inputs asks cell) cell
asks_what_it_may asks cell well = may_with_inputs asks cell (λ history task request within legal asked. well.may history task request within legal asked)

pub asks_until_its_end : (asks : Asking) (cell : CellData) → TasksAskWell asks cell → AsksUntilItsEnd (with_inputs asks cell) cell
asks_until_its_end asks cell well = record {
  goes_on = λ history task within legal going. let next = well.goes_on history task within legal going in (next.0, inl (record { task = within; asked = next.1 }));
}

pub ask_the_same : (asks other : Asking) (cell : CellData) → AskTheSame asks other → AskTheSame (with_inputs asks cell) (with_inputs other cell)
ask_the_same asks other cell same = record { same = λ actor answers request. (there actor answers request, back actor answers request) }
  where
    there : (actor : ℕ) (answers : List Answer) (request : Request) → with_inputs asks cell actor answers request → with_inputs other cell actor answers request
    there actor answers request (inl t) = inl (record { task = t.task; asked = (same.same actor answers request).0 t.asked })
    there actor answers request (inr s) = inr s

    back : (actor : ℕ) (answers : List Answer) (request : Request) → with_inputs other cell actor answers request → with_inputs asks cell actor answers request
    back actor answers request (inl t) = inl (record { task = t.task; asked = (same.same actor answers request).1 t.asked })
    back actor answers request (inr s) = inr s
