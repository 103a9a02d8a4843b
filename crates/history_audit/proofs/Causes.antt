-- Why an event does not follow.
use Rattle.std.proofs.Common.{◌≡◌, ◌≢◌, ◌<◌, ◌≤◌, ◌⊎◌, inl, inr, ℕ, true, false, List, [], ◌∷◌, ◌++◌, length, refl, ap, sym, ◌∙◌, subst, arith}
use Rattle.std.specs.Prelude.{IsTrue}
use Rattle.std.proofs.lemmas.Bool.{false≢true}
use Rattle.rapid_model.specs.CellData.{CellData}
use Rattle.rapid_model.specs.Own.{part_of, answers_of, has_ended}
use Rattle.rapid_model.specs.declared.answer.Answer.{Answer}
use Rattle.rapid_model.specs.declared.event.Event.{Event}
use Rattle.rapid_model.specs.declared.request.Request.{Request}
use Rattle.cell_meaning.specs.Answers.{is_enabled, IsAnswer}
use Rattle.cell_meaning.specs.Asking.{Asking}
use Rattle.cell_meaning.specs.Counted.{can_be_served}
use Rattle.cell_meaning.specs.Histories.{Follows, IsLegal}
use Rattle.cell_meaning.specs.Inputs.{inputs_done}
use Rattle.cell_meaning.specs.Premises.{AsksOne, AsksWhatItMay}
use Rattle.cell_meaning.proofs.Asked.{TaskMay, ScriptMay, who_may}
use Rattle.cell_meaning.proofs.OneAnswer.{one_answer}
use Rattle.history_audit.specs.Wrongs.{IsCause, IsDone, IsWrong}
use Rattle.history_audit.specs.declared.wrong.Wrong.{Wrong}
use Rattle.history_audit.specs.declared.wrong.Wrong.TheVariants.{Ended, Asks, Waits, Spent, Answers}

-- an actor that is done asks nothing
pub done_asks_nothing : {X : Type 0} (asks : Asking) (cell : CellData) (before : List Event) (actor : ℕ) (request : Request) → AsksWhatItMay asks cell → IsLegal asks cell before → IsDone cell before actor
    → asks actor (answers_of actor before) request → X
done_asks_nothing {X} asks cell before actor request may legal done asked = by done (who_may cell actor (part_of actor before) request (may.may before actor request legal asked))
  where
    by : IsDone cell before actor → TaskMay cell actor (part_of actor before) request ⊎ ScriptMay cell actor (part_of actor before) request → X
    by (inl ended) (inl task) = absurd (false≢true (sym task.alive ∙ ended.1))
    by (inl ended) (inr script) = absurd (let within = ended.0 in let is = script.script in omega (arith, within, is))
    by (inr done) (inl task) = absurd (let is = done.0 in let within = task.within in omega (arith, is, within))
    by (inr done) (inr script) =
        absurd (let all = done.1 in let left = script.left in let same : length (part_of actor before) ≡ inputs_done cell before = ap (λ (k : ℕ). length (part_of k before)) script.script in omega (arith, all, left, same))

-- what does not follow makes the events no longer legal
pub not_next_by : (asks : Asking) (cell : CellData) (before : List Event) (e : Event) → (Follows asks cell before e → ⊥) → IsLegal asks cell (before ++ e ∷ []) → ⊥
not_next_by asks cell before e never legal = never (legal.at before [] e refl)

-- the actor is done
pub ended_wrong : (asks : Asking) (cell : CellData) (before : List Event) (e : Event) → AsksWhatItMay asks cell → IsLegal asks cell before → IsDone cell before e.actor → IsWrong asks cell before e Ended
ended_wrong asks cell before e may legal done = record {
  not_next = not_next_by asks cell before e (λ follows. done_asks_nothing asks cell before e.actor e.request may legal done follows.asked);
  cause = done;
}

-- what holds of the one request that an actor asks

module _ (asks : Asking) (cell : CellData) (before : List Event) (e : Event) (due : Request) (asked : asks e.actor (answers_of e.actor before) due)
    (alone : (other : Request) → asks e.actor (answers_of e.actor before) other → other ≡ due) where
  -- the event has another one
  pub asks_wrong : (e.request ≡ due → ⊥) → IsWrong asks cell before e (Asks due)
  asks_wrong other = record {
    not_next = not_next_by asks cell before e (λ follows. other (alone e.request follows.asked));
    cause = (asked, other);
  }

  module _ (same : e.request ≡ due) where
    its : asks e.actor (answers_of e.actor before) e.request
    its = subst (λ (r : Request). asks e.actor (answers_of e.actor before) r) (sym same) asked

    -- no steps are left for it
    pub spent_wrong : can_be_served cell before due ≡ false → IsWrong asks cell before e Spent
    spent_wrong unserved =
        let spent : can_be_served cell before e.request ≡ false = ap (λ (r : Request). can_be_served cell before r) same ∙ unserved in
        record {
          not_next = not_next_by asks cell before e (λ follows. false≢true (sym spent ∙ follows.served));
          cause = (its, spent);
        }

    module _ (served : IsTrue (can_be_served cell before due)) where
      served_it : IsTrue (can_be_served cell before e.request)
      served_it = ap (λ (r : Request). can_be_served cell before r) same ∙ served

      -- it is not enabled
      pub waits_wrong : is_enabled cell before e.actor due ≡ false → IsWrong asks cell before e Waits
      waits_wrong closed =
          let waits : is_enabled cell before e.actor e.request ≡ false = ap (λ (r : Request). is_enabled cell before e.actor r) same ∙ closed in
          record {
            not_next = not_next_by asks cell before e (λ follows. false≢true (sym waits ∙ follows.enabled));
            cause = (its, served_it, waits);
          }

      -- the cell has another answer
      pub answers_wrong : (answer : Answer) → IsTrue (is_enabled cell before e.actor due) → IsAnswer cell before e.actor due answer → (e.answer ≡ answer → ⊥) → IsWrong asks cell before e (Answers answer)
      answers_wrong answer enabled is other =
          let its_answer : IsAnswer cell before e.actor e.request answer = subst (λ (r : Request). IsAnswer cell before e.actor r answer) (sym same) is in
          record {
            not_next = not_next_by asks cell before e (λ follows. other (one_answer cell before e.actor e.request e.answer answer follows.answered its_answer));
            cause = (its, served_it, ap (λ (r : Request). is_enabled cell before e.actor r) same ∙ enabled, its_answer, other);
          }

-- an event has one cause
pub one_cause : (asks : Asking) (cell : CellData) (before : List Event) (e : Event) (wrong cause : Wrong) → AsksOne asks → AsksWhatItMay asks cell → IsLegal asks cell before → IsCause asks cell before e wrong
    → IsCause asks cell before e cause → wrong ≡ cause
one_cause asks cell before e wrong cause one may legal first second = by wrong cause first second
  where
    never : {X : Type 0} (request : Request) → IsDone cell before e.actor → asks e.actor (answers_of e.actor before) request → X
    never request done asked = done_asks_nothing asks cell before e.actor request may legal done asked

    -- the event's request is not another one
    alone : {X : Type 0} (request : Request) → asks e.actor (answers_of e.actor before) request → (e.request ≡ request → ⊥) → asks e.actor (answers_of e.actor before) e.request → X
    alone request asked other its = absurd (other (one.one e.actor (answers_of e.actor before) e.request request its asked))

    by : (w c : Wrong) → IsCause asks cell before e w → IsCause asks cell before e c → w ≡ c
    by Ended Ended p q = refl
    by Ended (Asks r) p q = never r p q.0
    by Ended Waits p q = never e.request p q.0
    by Ended Spent p q = never e.request p q.0
    by Ended (Answers a) p q = never e.request p q.0
    by (Asks r) Ended p q = never r q p.0
    by (Asks r) (Asks s) p q = ap (λ (x : Request). Asks x) (one.one e.actor (answers_of e.actor before) r s p.0 q.0)
    by (Asks r) Waits p q = alone r p.0 p.1 q.0
    by (Asks r) Spent p q = alone r p.0 p.1 q.0
    by (Asks r) (Answers a) p q = alone r p.0 p.1 q.0
    by Waits Ended p q = never e.request q p.0
    by Waits (Asks r) p q = alone r q.0 q.1 p.0
    by Waits Waits p q = refl
    by Waits Spent p q = absurd (false≢true (sym q.1 ∙ p.1))
    by Waits (Answers a) p q = absurd (false≢true (sym p.2 ∙ q.2))
    by Spent Ended p q = never e.request q p.0
    by Spent (Asks r) p q = alone r q.0 q.1 p.0
    by Spent Waits p q = absurd (false≢true (sym p.1 ∙ q.1))
    by Spent Spent p q = refl
    by Spent (Answers a) p q = absurd (false≢true (sym p.1 ∙ q.1))
    by (Answers a) Ended p q = never e.request q p.0
    by (Answers a) (Asks r) p q = alone r q.0 q.1 p.0
    by (Answers a) Waits p q = absurd (false≢true (sym q.2 ∙ p.2))
    by (Answers a) Spent p q = absurd (false≢true (sym q.1 ∙ p.1))
    by (Answers a) (Answers b) p q = ap (λ (x : Answer). Answers x) (one_answer cell before e.actor e.request a b p.3 q.3)
