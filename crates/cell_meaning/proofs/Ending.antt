-- How the tasks stand after a complete history.
use Rattle.std.proofs.Common.{◌≡◌, ℕ, zero, suc, ◌<◌, Bool, true, false, List, length, refl, sym, ◌∙◌, ap, inl, inr, arith}
use Rattle.std.specs.Prelude.{IsTrue, not, ◌&&◌, ◌||◌, nat_lt, nat_le}
use Rattle.std.proofs.lemmas.Bool.{cases_eq, ltb-false, le-leb, false≢true}
use Rattle.rapid_model.specs.CellData.{CellData}
use Rattle.rapid_model.specs.Own.{part_of, answers_of, has_ended}
use Rattle.rapid_model.specs.declared.event.Event.{Event}
use Rattle.rapid_model.specs.declared.request.Request.{Request}
use Rattle.cell_meaning.specs.Answers.{is_enabled}
use Rattle.cell_meaning.specs.Asking.{Asking}
use Rattle.cell_meaning.specs.Counted.{is_counted, counted, can_be_served}
use Rattle.cell_meaning.specs.Fates.{all_ended, is_spent}
use Rattle.cell_meaning.specs.Histories.{Follows, IsLegal, IsWhole}
use Rattle.cell_meaning.specs.Over.{IsOver}
use Rattle.cell_meaning.specs.Premises.{AsksUntilItsEnd}
use Rattle.cell_meaning.proofs.OneAnswer.{some_answer}

-- if one task has not ended, not all have
pub one_going : (tasks task : ℕ) (history : List Event) → task < tasks → has_ended (part_of task history) ≡ false → all_ended tasks history ≡ false
one_going zero task history lt going = absurd (omega arith)
one_going (suc tasks) task history lt going = elim (cases_eq task tasks) [
  | inl same ↦ both_false (all_ended tasks history) (has_ended (part_of tasks history)) (ap (λ (k : ℕ). has_ended (part_of k history)) (sym same) ∙ going)
  | inr other ↦ ap (λ (b : Bool). b && has_ended (part_of tasks history)) (one_going tasks task history (omega (arith, other)) going)
]
  where
    both_false : (a b : Bool) → b ≡ false → (a && b) ≡ false
    both_false true b h = h
    both_false false b h = refl

-- a request that is not served is counted, and the steps are used up
not_served : (is_counted : Bool) (n steps : ℕ) → (not is_counted || nat_lt n steps) ≡ false → nat_le steps n ≡ true
not_served false n steps h = absurd (false≢true (sym h))
not_served true n steps h = le-leb steps n (omega (arith, ltb-false n steps h))

-- a request of a task that has not ended is refused only if the steps are used up
pub spent_so : (cell : CellData) (history : List Event) (task : ℕ) (request : Request) → task < length cell.tasks → has_ended (part_of task history) ≡ false
    → can_be_served cell history request ≡ false → IsTrue (is_spent cell history)
spent_so cell history task request lt going unserved =
    ap (λ (b : Bool). not b && nat_le cell.steps (counted history)) (one_going (length cell.tasks) task history lt going)
    ∙ not_served (is_counted request) (counted history) cell.steps unserved

-- after a complete history no actor makes a request that is enabled and can be served
pub none_follows : (asks : Asking) (cell : CellData) (history : List Event) (actor : ℕ) (request : Request) → IsWhole asks cell history → asks actor (answers_of actor history) request
    → IsTrue (is_enabled cell history actor request) → IsTrue (can_be_served cell history request) → ⊥
none_follows asks cell history actor request whole asked enabled served =
    some_answer cell history actor request (λ answer is.
    let next : Event = record { actor = actor; request = request; answer = answer } in
    let follows : Follows asks cell history next = record { asked = asked; enabled = enabled; served = served; answered = is } in
    whole.over next follows)

-- a task that makes this request cannot go on
asking_over : (asks : Asking) (cell : CellData) (history : List Event) (task : ℕ) (request : Request) (enabled served : Bool) → task < length cell.tasks → IsWhole asks cell history
    → has_ended (part_of task history) ≡ false → asks task (answers_of task history) request
    → is_enabled cell history task request ≡ enabled → can_be_served cell history request ≡ served → IsOver asks cell history task
asking_over asks cell history task request false served lt whole going asked en se = inr (inl (record { request = request; asked = asked; not_enabled = en }))
asking_over asks cell history task request true false lt whole going asked en se = inr (inr (spent_so cell history task request lt going se))
asking_over asks cell history task request true true lt whole going asked en se =
    absurd (none_follows asks cell history task request whole asked en se)

task_over : (asks : Asking) (cell : CellData) (history : List Event) (task : ℕ) (ended : Bool) → task < length cell.tasks → AsksUntilItsEnd asks cell → IsLegal asks cell history → IsWhole asks cell history
    → has_ended (part_of task history) ≡ ended → IsOver asks cell history task
task_over asks cell history task true lt until legal whole is = inl is
task_over asks cell history task false lt until legal whole is =
    let next = until.goes_on history task lt legal is in
    asking_over asks cell history task next.0 (is_enabled cell history task next.0) (can_be_served cell history next.0) lt whole is next.1 refl refl

pub whole_over : (asks : Asking) (cell : CellData) (history : List Event) (task : ℕ) → task < length cell.tasks → AsksUntilItsEnd asks cell → IsLegal asks cell history → IsWhole asks cell history
    → IsOver asks cell history task
whole_over asks cell history task lt until legal whole = task_over asks cell history task (has_ended (part_of task history)) lt until legal whole refl
