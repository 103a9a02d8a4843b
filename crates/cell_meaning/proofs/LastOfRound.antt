-- The input script's event is the last of its round.
use Rattle.std.proofs.Common.{◌≡◌, inl, inr, ℕ, zero, suc, ◌+◌, ◌<◌, List, [], ◌∷◌, ◌++◌, length, sym, ◌∙◌, ap, subst, arith, append_assoc}
use Rattle.std.proofs.lemmas.List.{append-nil, append_cancel_left}
use Rattle.rapid_model.specs.CellData.{CellData}
use Rattle.rapid_model.specs.declared.event.Event.{Event}
use Rattle.rapid_model.proofs.Cuts.{last_or_before}
use Rattle.cell_meaning.specs.Asking.{Asking}
use Rattle.cell_meaning.specs.Turns.{TakesTurn, TakeTurns, IsRound}

-- all events are by actors below this number
abbrev AllBelow : ℕ → List Event → Type 0
AllBelow n events = (front back : List Event) (e : Event) → events ≡ front ++ e ∷ back → e.actor < n

-- what turns add is by the actors whose turns they are
record Adds (n : ℕ) (before after : List Event) : Type 0 where
  more : List Event
  is : after ≡ before ++ more
  below : AllBelow n more

adds_none : (n : ℕ) (before after : List Event) → after ≡ before → Adds n before after
adds_none n before after same = record { more = []; is = same ∙ sym (append-nil before); below = λ front back e cut. none front back e cut }
  where
    none : (front back : List Event) (e : Event) → [] ≡ front ++ e ∷ back → e.actor < n
    none [] back e cut = cc
    none (f ∷ front) back e cut = cc

adds_one : (n : ℕ) (before between after : List Event) (x : Event) → between ≡ before ++ x ∷ [] → x.actor < n → Adds n between after → Adds n before after
adds_one n before between after x first low later = record {
  more = x ∷ later.more;
  is = later.is ∙ ap (λ (h : List Event). h ++ later.more) first ∙ append_assoc before (x ∷ []) later.more;
  below = λ front back e cut. by front back e cut;
}
  where
    by : (front back : List Event) (e : Event) → x ∷ later.more ≡ front ++ e ∷ back → e.actor < n
    by [] back e cut = let same : x ≡ e = cc in subst (λ (y : Event). y.actor < n) same low
    by (f ∷ front) back e cut = let rest : later.more ≡ front ++ e ∷ back = cc in later.below front back e rest

turns_add : (asks : Asking) (cell : CellData) (n actor left : ℕ) (before after : List Event) → n ≡ actor + left → TakeTurns asks cell actor left before after → Adds n before after
unfolding TakeTurns
turns_add asks cell n actor zero before after count same = adds_none n before after same
turns_add asks cell n actor (suc left) before after count (between, inl s, rest) =
    let by = s.by in
    adds_one n before between after s.event s.added (omega (arith, by, count)) (turns_add asks cell n (actor + 1) left between after (omega (arith, count)) rest)
turns_add asks cell n actor (suc left) before after count (between, inr r, rest) =
    subst (λ (h : List Event). Adds n h after) r.same (turns_add asks cell n (actor + 1) left between after (omega (arith, count)) rest)

pub script_last : (asks : Asking) (cell : CellData) (before after front back : List Event) (e : Event) → IsRound asks cell before after → after ≡ before ++ front ++ e ∷ back → e.actor ≡ length cell.tasks
    → back ≡ []
script_last asks cell before after front back e (between, turns, last) cut by = ending last
  where
    tasks : Adds (length cell.tasks) before between
    tasks = turns_add asks cell (length cell.tasks) 0 (length cell.tasks) before between (omega arith) turns

    no_task : (rest : List Event) → tasks.more ≡ front ++ e ∷ rest → ⊥
    no_task rest is = let low = tasks.below front rest e is in absurd (omega (arith, low, by))

    ending : TakesTurn asks cell (length cell.tasks) between after → back ≡ []
    ending (inr r) = absurd (no_task back (append_cancel_left before tasks.more (front ++ e ∷ back) (sym tasks.is ∙ sym r.same ∙ cut ∙ append_assoc before front (e ∷ back))))
    ending (inl s) =
        let all : tasks.more ++ s.event ∷ [] ≡ front ++ e ∷ back =
        append_cancel_left before (tasks.more ++ s.event ∷ []) (front ++ e ∷ back)
        (sym (append_assoc before tasks.more (s.event ∷ [])) ∙ ap (λ (h : List Event). h ++ s.event ∷ []) (sym tasks.is) ∙ sym s.added ∙ cut ∙ append_assoc before front (e ∷ back)) in
        elim (last_or_before tasks.more front back s.event e all) [
          | inl w ↦
              let these : tasks.more ++ s.event ∷ [] ≡ tasks.more ++ e ∷ back = all ∙ ap (λ (h : List Event). h ++ e ∷ back) w.0 in
              let ends : s.event ∷ [] ≡ e ∷ back = append_cancel_left tasks.more (s.event ∷ []) (e ∷ back) these in
              cc
          | inr w ↦ absurd (no_task w.0 w.1)
        ]
