-- What has held since an event holds, and what holds has held since an event.
use Rattle.std.proofs.Common.{◌≡◌, ◌⊎◌, inl, inr, List, [], ◌∷◌, ◌++◌, refl, sym, ◌∙◌, ap, subst, append_assoc}
use Rattle.rapid_model.specs.CellData.{CellData}
use Rattle.rapid_model.specs.declared.event.Event.{Event}
use Rattle.rapid_model.proofs.Cuts.{last_or_before}
use Rattle.cell_meaning.specs.Premises.{AllAnswered}
use Rattle.cell_meaning.specs.Since.{Since}
use Rattle.cell_meaning.proofs.Lists.{from_front}

no_end : {A : Type 0} (first : List A) (x : A) (later : List A) → [] ≡ first ++ x ∷ later → ⊥
no_end [] x later is = cc
no_end (f ∷ first) x later is = cc

-- one more event, which does not undo it
since_more : (Is Undoes : List Event → Event → Type 0) (history : List Event) (e : Event) → Since Is Undoes history → ¬ Undoes history e → Since Is Undoes (history ++ e ∷ [])
since_more Is Undoes history e s none = record {
  before = s.before;
  event = s.event;
  after = s.after ++ e ∷ [];
  cut = ap (λ (h : List Event). h ++ e ∷ []) s.cut ∙ append_assoc s.before (s.event ∷ s.after) (e ∷ []);
  is = s.is;
  kept = λ first later x is. elim (last_or_before s.after first later e x is) [
    | inl last ↦
        let here : history ≡ s.before ++ s.event ∷ first = s.cut ∙ ap (λ (xs : List Event). s.before ++ s.event ∷ xs) (sym last.0) in
        λ undoes. none (subst (λ (y : Event). Undoes history y) last.1 (subst (λ (h : List Event). Undoes h x) (sym here) undoes))
    | inr early ↦ s.kept first early.0 x early.1
  ];
}

-- it does not hold after no events; if it holds after an event, the event began it, or it held before and the event did
-- not undo it
pub record Told (G State : List Event → Type 0) (Is Undoes : List Event → Event → Type 0) : Type 0 where
  pub nothing : State [] → ⊥
  pub was : (h : List Event) (e : Event) → G (h ++ e ∷ []) → State (h ++ e ∷ []) → Is h e ⊎ (State h × ¬ Undoes h e)

-- what holds of a history holds of each prefix of it
abbrev pub FrontsToo : (List Event → Type 0) → Type 0
FrontsToo G = (xs ys : List Event) → G (xs ++ ys) → G xs

-- of the prefix that ends with an event
pub with_event : (G : List Event → Type 0) → FrontsToo G → (history before after : List Event) (e : Event) → history ≡ before ++ e ∷ after → G history → G (before ++ e ∷ [])
with_event G fronts history before after e is good =
    fronts (before ++ e ∷ []) after (subst G (is ∙ sym (append_assoc before (e ∷ []) after)) good)

pub told : (G State : List Event → Type 0) (Is Undoes : List Event → Event → Type 0) (history : List Event) → FrontsToo G → G history → Told G State Is Undoes → State history → Since Is Undoes history
told G State Is Undoes history fronts good t =
    from_front (λ h. State h → Since Is Undoes h) history (λ s. absurd (t.nothing s))
    (λ before after e is since s. elim (t.was before e (with_event G fronts history before after e is good) s) [
      | inl begun ↦ record { before = before; event = e; after = []; cut = refl; is = begun; kept = λ first later x none. absurd (no_end first x later none) }
      | inr w ↦ since_more Is Undoes before e (since w.0) w.1
    ])

-- what an event begins holds after it, and after each later event that does not undo it
pub record Tells (G State : List Event → Type 0) (Is Undoes : List Event → Event → Type 0) : Type 0 where
  pub made : (h : List Event) (e : Event) → G (h ++ e ∷ []) → Is h e → State (h ++ e ∷ [])
  pub keeps : (h : List Event) (e : Event) → G (h ++ e ∷ []) → State h → ¬ Undoes h e → State (h ++ e ∷ [])

pub tells : (G State : List Event → Type 0) (Is Undoes : List Event → Event → Type 0) (history : List Event) → FrontsToo G → G history → Tells G State Is Undoes → Since Is Undoes history → State history
tells G State Is Undoes history fronts good t s =
    subst State (sym s.cut)
    (from_front (λ first. State (s.before ++ s.event ∷ first)) s.after
    (t.made s.before s.event (with_event G fronts history s.before s.after s.event s.cut good) s.is)
    (λ first later e is stands.
    let h : List Event = s.before ++ s.event ∷ first in
    let cut : history ≡ h ++ e ∷ later = s.cut ∙ ap (λ (xs : List Event). s.before ++ s.event ∷ xs) is ∙ sym (append_assoc s.before (s.event ∷ first) (e ∷ later)) in
    subst State (append_assoc s.before (s.event ∷ first) (e ∷ [])) (t.keeps h e (with_event G fronts history h later e cut good) stands (s.kept first later e is))))

pub answered_fronts : (cell : CellData) → FrontsToo (AllAnswered cell)
answered_fronts cell xs ys asked = record {
  might = λ before after e is. asked.might before (after ++ ys) e (ap (λ (h : List Event). h ++ ys) is ∙ append_assoc before (e ∷ after) ys);
  answered = λ before after e is. asked.answered before (after ++ ys) e (ap (λ (h : List Event). h ++ ys) is ∙ append_assoc before (e ∷ after) ys);
}
