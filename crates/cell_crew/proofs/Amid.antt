-- A machine during a run, and what an event of its own task makes of it.
use Rattle.std.proofs.Common.{◌≡◌, true, false, cond, List, [], ◌∷◌, ◌++◌, Option, Some, None, refl, ap, sym, ◌∙◌, subst}
use Rattle.std.specs.Prelude.{IsSome, is_some, is_none, filter}
use Rattle.std.specs.Option.{option_or}
use Rattle.std.proofs.lemmas.List.{append-nil, map-append}
use Rattle.std.proofs.lemmas.List.Elements.{filter-append}
use Rattle.rapid_model.specs.Own.{fate_of, end_of, has_ended}
use Rattle.rapid_model.specs.declared.answer.Answer.{Answer}
use Rattle.rapid_model.specs.declared.event.Event.{Event}
use Rattle.rapid_model.specs.declared.fate.Fate.{Fate}
use Rattle.rapid_model.specs.declared.request.Request.{Request}
use Rattle.cell_meaning.proofs.MoreEvents.{end_of-more}
use Rattle.cell_core.proofs.Growing.{no_fate}
use Rattle.cell_crew.specs.Courses.{answers_in}
use Rattle.cell_crew.specs.Crew.{answers_before_end}
use Rattle.cell_crew.specs.UnderWay.{UnderWay}

answers_in-append : (mine later : List Event) → answers_in (mine ++ later) ≡ answers_in mine ++ answers_in later
answers_in-append mine later = map-append (λ e. e.answer) mine later

pub answers_in-more : (mine : List Event) (e : Event) → answers_in (mine ++ e ∷ []) ≡ answers_in mine ++ e.answer ∷ []
answers_in-more mine e = answers_in-append mine (e ∷ [])

-- none of these events is an End
neither : {A : Type 0} (told later : Option A) → is_some (option_or told later) ≡ false → (told ≡ None) × (is_some later ≡ false)
neither (Some x) later p = cc
neither None later p = (refl, p)

-- the answer of an event and those after it, if the event had no fate
abbrev and_answer : Answer → List Answer → Option Fate → List Answer
and_answer answer later told = cond (is_none told) (answer ∷ later) later

answers_kept : (told : Option Fate) (e : Event) (kept : List Event) → answers_in (cond (is_none told) (e ∷ kept) kept) ≡ and_answer e.answer (answers_in kept) told
answers_kept None e kept = refl
answers_kept (Some fate) e kept = refl

-- until a task has ended, all its answers are those before its End
pub before_end_all : (mine : List Event) → has_ended mine ≡ false → answers_before_end mine ≡ answers_in mine
before_end_all [] p = refl
before_end_all (e ∷ es) p =
    let w = neither (fate_of e.request) (end_of es) p in
    answers_kept (fate_of e.request) e (filter (λ f. is_none (fate_of f.request)) es)
    ∙ ap (λ (told : Option Fate). and_answer e.answer (answers_before_end es) told) w.0
    ∙ ap (λ (xs : List Answer). e.answer ∷ xs) (before_end_all es w.1)

-- with one more event
before_end_more : (mine : List Event) (e : Event) → answers_before_end (mine ++ e ∷ []) ≡ answers_before_end mine ++ and_answer e.answer [] (fate_of e.request)
before_end_more mine e =
    ap answers_in (filter-append (λ f. is_none (fate_of f.request)) mine (e ∷ []))
    ∙ answers_in-append (filter (λ f. is_none (fate_of f.request)) mine) (cond (is_none (fate_of e.request)) (e ∷ []) [])
    ∙ ap (λ (xs : List Answer). answers_before_end mine ++ xs) (answers_kept (fate_of e.request) e [])

-- whether the task has ended with one more event
pub ended_more : (mine : List Event) (e : Event) → has_ended mine ≡ false → has_ended (mine ++ e ∷ []) ≡ is_some (fate_of e.request)
ended_more mine e p = ap (λ (o : Option Fate). is_some o) (end_of-more mine e) ∙ by (end_of mine) (fate_of e.request) p
  where
    by : (a b : Option Fate) → is_some a ≡ false → is_some (option_or a b) ≡ is_some b
    by None b q = refl
    by (Some x) b q = cc

some_fate : (answers : List Answer) (answer : Answer) (told : Option Fate) → is_some told ≡ true → answers ++ and_answer answer [] told ≡ answers
some_fate answers answer None p = cc
some_fate answers answer (Some fate) p = append-nil answers

module _ {M : Type 0} (stands_for : M → List Answer → Type 0) (due : M → Option Request) where
  -- the machine of a task that its next event ends is under way as it is
  pub way_ended : (m : M) (mine : List Event) (e : Event) → is_some (fate_of e.request) ≡ true → has_ended mine ≡ false → UnderWay stands_for due m mine → UnderWay stands_for due m (mine ++ e ∷ [])
  way_ended m mine e end going way = record {
    stands = subst (λ (xs : List Answer). stands_for m xs) (sym (before_end_more mine e ∙ some_fate (answers_before_end mine) e.answer (fate_of e.request) end)) way.stands;
    asked = way.asked;
  }

  -- and one that has gone on with the answer of its task's next event
  pub way_on : (m later : M) (mine : List Event) (e : Event) → is_some (fate_of e.request) ≡ false → UnderWay stands_for due m mine → IsSome (due later)
      → ((before : List Answer) → stands_for m before → stands_for later (before ++ e.answer ∷ [])) → UnderWay stands_for due later (mine ++ e ∷ [])
  way_on m later mine e no_end way asks on = record {
    stands = subst (λ (xs : List Answer). stands_for later xs) (sym (before_end_more mine e ∙ ap (λ (told : Option Fate). answers_before_end mine ++ and_answer e.answer [] told) (no_fate (fate_of e.request) no_end)))
        (on (answers_before_end mine) way.stands);
    asked = asks;
  }

  pub stood : (m : M) (mine : List Event) → UnderWay stands_for due m mine → has_ended mine ≡ false → stands_for m (answers_in mine)
  stood m mine way going = subst (λ (xs : List Answer). stands_for m xs) (before_end_all mine going) way.stands

  pub has_begun : (m : M) → IsSome (due m) → stands_for m [] → UnderWay stands_for due m []
  has_begun m asks stands = record { stands = stands; asked = asks }
