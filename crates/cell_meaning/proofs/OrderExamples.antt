-- Orders on worked examples: each of two tasks ends with its first event.
use Rattle.std.proofs.Common.{◌≡◌, ◌<◌, ℕ, List, [], ◌∷◌, ◌++◌, inl, inr, refl, subst, arith}
use Rattle.rapid_model.specs.CellData.{CellData}
use Rattle.rapid_model.specs.Own.{answers_of}
use Rattle.rapid_model.specs.declared.answer.Answer.TheVariants as answers
use Rattle.rapid_model.specs.declared.event.Event.{Event}
use Rattle.rapid_model.specs.declared.fate.Fate.TheVariants as fates
use Rattle.rapid_model.specs.declared.request.Request.TheVariants as requests
use Rattle.cell_meaning.specs.Asking.{Asking}
use Rattle.cell_meaning.specs.Orders.{TakeChosen, RoundsFrom, IsInOrder}
use Rattle.cell_meaning.specs.Turns.{TakesTurn, TakeTurns, IsRound}
use Rattle.cell_meaning.proofs.ExampleCell.{cell}
use Rattle.cell_meaning.proofs.MoreEvents.{event}

abbrev pair : CellData
pair = record cell { inputs = [] }

abbrev ending : Asking
ending actor answers request = (answers ≡ []) × (request ≡ requests.End fates.Done) × (actor < 2)

abbrev ended : ℕ → Event
ended actor = event actor (requests.End fates.Done) answers.Ok

ends : (h : List Event) (actor : ℕ) → actor < 2 → answers_of actor h ≡ [] → TakesTurn ending pair actor h (h ++ ended actor ∷ [])
ends h actor task none = inl (record { event = ended actor; by = refl; follows = record { asked = (none, refl, task); enabled = refl; served = refl; answered = refl }; added = refl })

rests : (h : List Event) (actor : ℕ) → (actor < 2 → answers_of actor h ≡ [] → ⊥) → TakesTurn ending pair actor h h
rests h actor gone = inr (record {
  none = λ e by follows. gone (subst (λ (k : ℕ). k < 2) by follows.asked.2) (subst (λ (k : ℕ). answers_of k h ≡ []) by follows.asked.0);
  same = refl;
})

-- the input script has no step
no_script : (h : List Event) → TakesTurn ending pair 2 h h
no_script h = rests h 2 (λ task none. absurd (omega (arith, task)))

all_rest : (h : List Event) → (answers_of 0 h ≡ [] → ⊥) → (answers_of 1 h ≡ [] → ⊥) → IsRound ending pair h h
unfolding TakeTurns
all_rest h a b = (h, (h, rests h 0 (λ task. a), (h, rests h 1 (λ task. b), refl)), no_script h)

abbrev a_then_b : List Event
a_then_b = ended 0 ∷ ended 1 ∷ []

abbrev b_then_a : List Event
b_then_a = ended 1 ∷ ended 0 ∷ []

-- the round from no events
first_round : IsRound ending pair [] a_then_b
unfolding TakeTurns
first_round = (a_then_b, (ended 0 ∷ [], ends [] 0 (omega arith) refl, (a_then_b, ends (ended 0 ∷ []) 1 (omega arith) refl, refl)), no_script a_then_b)

-- the round after B has ended
second_round : IsRound ending pair (ended 1 ∷ []) b_then_a
unfolding TakeTurns
second_round = (b_then_a, (b_then_a, ends (ended 1 ∷ []) 0 (omega arith) refl, (b_then_a, rests b_then_a 1 (λ task none. cc), refl)), no_script b_then_a)

-- by turns A ends first
by_turns : IsInOrder ending pair [] a_then_b
unfolding TakeChosen RoundsFrom
by_turns = record { first = []; chosen = refl; rounds = 1; made = ([], refl, first_round); over = all_rest a_then_b (λ none. cc) (λ none. cc) }

-- a turn of B at first changes the run
b_first : IsInOrder ending pair (1 ∷ []) b_then_a
unfolding TakeChosen RoundsFrom
b_first = record {
  first = ended 1 ∷ [];
  chosen = (ended 1 ∷ [], ends [] 1 (omega arith) refl, refl);
  rounds = 1;
  made = (ended 1 ∷ [], refl, second_round);
  over = all_rest b_then_a (λ none. cc) (λ none. cc);
}

-- a turn of an actor that cannot step changes nothing: a task that has ended, and the input script, which has no step
b_twice : IsInOrder ending pair (1 ∷ 1 ∷ []) b_then_a
unfolding TakeChosen RoundsFrom
b_twice = record {
  first = ended 1 ∷ [];
  chosen = (ended 1 ∷ [], ends [] 1 (omega arith) refl, (ended 1 ∷ [], rests (ended 1 ∷ []) 1 (λ task none. cc), refl));
  rounds = 1;
  made = (ended 1 ∷ [], refl, second_round);
  over = all_rest b_then_a (λ none. cc) (λ none. cc);
}

script_first : IsInOrder ending pair (2 ∷ []) a_then_b
unfolding TakeChosen RoundsFrom
script_first = record { first = []; chosen = ([], no_script [], refl); rounds = 1; made = ([], refl, first_round); over = all_rest a_then_b (λ none. cc) (λ none. cc) }
