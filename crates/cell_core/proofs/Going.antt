-- A held task has not ended, since a task that has ended asks no more.
use Rattle.std.proofs.Common.{◌≡◌, ◌⊎◌, inl, inr, ℕ, ◌<◌, true, false, List, [], ◌∷◌, ◌++◌, length, Option, None, Some, is_some, sym, ◌∙◌, ap, refl, arith}
use Rattle.std.specs.Option.{option_or}
use Rattle.std.proofs.lemmas.Bool.{cases_eq, false≢true, true≢false}
use Rattle.rapid_model.proofs.OwnEvents.{is_held-more}
use Rattle.rapid_model.specs.CellData.{CellData}
use Rattle.rapid_model.specs.Own.{part_of, end_of, fate_of, has_ended, is_held, is_hold}
use Rattle.rapid_model.specs.declared.event.Event.{Event}
use Rattle.rapid_model.specs.declared.fate.Fate.{Fate}
use Rattle.rapid_model.specs.declared.request.Request.{Request}
use Rattle.rapid_model.specs.declared.request.Request.TheVariants as requests
use Rattle.cell_meaning.proofs.Asked.{TaskMay, ScriptMay, who_may}
use Rattle.cell_meaning.proofs.Lists.{from_front}
use Rattle.cell_meaning.proofs.MoreEvents.{end_of-more, part_of-other, part_of-own}
use Rattle.cell_core.specs.Soundness.{IsSound}

-- a Hold has no fate
hold_tells_none : (request : Request) → is_hold request ≡ true → fate_of request ≡ None
hold_tells_none (requests.Hold seen) hold = refl
hold_tells_none _ hold = absurd (false≢true hold)

told_none : (told later : Option Fate) → is_some told ≡ false → later ≡ None → is_some (option_or told later) ≡ false
told_none None later going none = ap (λ (o : Option Fate). is_some o) none
told_none (Some fate) later going none = absurd (true≢false going)

pub held_going : (cell : CellData) (history : List Event) (task : ℕ) → task < length cell.tasks → IsSound cell history → is_held (part_of task history) ≡ true → has_ended (part_of task history) ≡ false
held_going cell history task within sound =
    from_front (λ h. is_held (part_of task h) ≡ true → has_ended (part_of task h) ≡ false) history (λ held. absurd (false≢true held)) (λ before after e is so. more before after e is so (cases_eq e.actor task))
  where
    alive : (before after : List Event) (e : Event) → history ≡ before ++ e ∷ after → e.actor ≡ task → TaskMay cell e.actor (part_of e.actor before) e.request ⊎ ScriptMay cell e.actor (part_of e.actor before) e.request
        → has_ended (part_of task before) ≡ false
    alive before after e is own (inl known) = ap (λ (k : ℕ). has_ended (part_of k before)) (sym own) ∙ known.alive
    alive before after e is own (inr script) = absurd (let at = script.script in omega (arith, at, within, own))

    more : (before after : List Event) (e : Event) → history ≡ before ++ e ∷ after → (is_held (part_of task before) ≡ true → has_ended (part_of task before) ≡ false) → (e.actor ≡ task) ⊎ (e.actor ≡ task → ⊥)
        → is_held (part_of task (before ++ e ∷ [])) ≡ true → has_ended (part_of task (before ++ e ∷ [])) ≡ false
    more before after e is so (inl own) held =
        let mine = part_of-own task before e own in
        let hold = sym (is_held-more (part_of task before) e) ∙ sym (ap (λ (es : List Event). is_held es) mine) ∙ held in
        let going = alive before after e is own (who_may cell e.actor (part_of e.actor before) e.request (sound.at before after e is).asked) in
        ap (λ (es : List Event). has_ended es) mine ∙ ap (λ (o : Option Fate). is_some o) (end_of-more (part_of task before) e)
        ∙ told_none (end_of (part_of task before)) (fate_of e.request) going (hold_tells_none e.request hold)
    more before after e is so (inr other) held =
        let mine = part_of-other task before e other in
        ap (λ (es : List Event). has_ended es) mine ∙ so (sym (ap (λ (es : List Event). is_held es) mine) ∙ held)
