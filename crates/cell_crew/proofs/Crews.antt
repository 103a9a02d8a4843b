-- Lists of machines.
use Rattle.std.proofs.Common.{◌≡◌, ℕ, zero, suc, ◌+◌, ◌<◌, ◌≤◌, List, [], ◌∷◌, length, map, Option, Some, refl, ap, sym, ◌∙◌, subst, inl, inr, ◌⊎◌, arith}
use Rattle.std.specs.Prelude.{slice_get, slice_set}
use Rattle.std.specs.List.{AllByRecursion}
use Rattle.std.proofs.lemmas.Bool.{cases_lt}
use Rattle.std.proofs.lemmas.Option.{slice_get_within}
use Rattle.rapid_model.specs.CellData.{CellData}
use Rattle.rapid_model.specs.Own.{part_of}
use Rattle.rapid_model.specs.declared.answer.Answer.{Answer}
use Rattle.rapid_model.specs.declared.event.Event.{Event}
use Rattle.rapid_model.specs.declared.request.Request.{Request}
use Rattle.cell_meaning.specs.Asking.{Asking}
use Rattle.cell_meaning.specs.Turns.{TakesTurn}
use Rattle.cell_meaning.proofs.MoreEvents.{part_of-other}
use Rattle.cell_crew.specs.UnderWay.{UnderWay, AreUnderWay}

-- an element after a write is the one written, or was there before
get_set : {A : Type 0} (xs : List A) (k j : ℕ) (v x : A) → slice_get (slice_set xs k v) j ≡ Some x → ((k ≡ j) × (x ≡ v)) ⊎ ((k ≡ j → ⊥) × (slice_get xs j ≡ Some x))
get_set [] k j v x p = cc
get_set (y ∷ xs) zero zero v x p = let same : v ≡ x = cc in inl (refl, sym same)
get_set (y ∷ xs) zero (suc j) v x p = inr (λ q. omega arith, p)
get_set (y ∷ xs) (suc k) zero v x p = inr (λ q. omega arith, p)
get_set (y ∷ xs) (suc k) (suc j) v x p =
    elim (get_set xs k j v x p) [
      | inl w ↦ inl (ap suc w.0, w.1)
      | inr w ↦ inr (λ q. w.0 (omega arith), w.1)
    ]

-- an element written over one with the same image changes no image
pub map_set : {M P : Type 0} (f : M → P) (xs : List M) (k : ℕ) (m later : M) → slice_get xs k ≡ Some m → f later ≡ f m → map f (slice_set xs k later) ≡ map f xs
map_set f [] k m later at same = refl
map_set {P = P} f (x ∷ xs) zero m later at same = let is : x ≡ m = cc in ap (λ (y : P). y ∷ map f xs) (same ∙ ap f (sym is))
map_set {P = P} f (x ∷ xs) (suc k) m later at same = ap (λ (ys : List P). f x ∷ ys) (map_set f xs k m later at same)

-- the image of an element
pub map_at : {M P : Type 0} (f : M → P) (xs : List M) (k : ℕ) (m : M) → slice_get xs k ≡ Some m → slice_get (map f xs) k ≡ Some (f m)
map_at f [] k m at = cc
map_at f (x ∷ xs) zero m at = let is : x ≡ m = cc in ap (λ y. Some (f y)) is
map_at f (x ∷ xs) (suc k) m at = map_at f xs k m at

-- a turn leaves the events of the other actors as they are
pub turn_others : (asks : Asking) (cell : CellData) (actor other : ℕ) (before after : List Event) → TakesTurn asks cell actor before after → (actor ≡ other → ⊥) → part_of other after ≡ part_of other before
turn_others asks cell actor other before after (inl s) apart =
    ap (λ (h : List Event). part_of other h) s.added ∙ part_of-other other before s.event (λ own. apart (sym s.by ∙ own))
turn_others asks cell actor other before after (inr r) apart = ap (λ (h : List Event). part_of other h) r.same

-- what holds of all elements holds of each
pub all_at : {A : Type 0} (Q : A → Type 0) (xs : List A) (j : ℕ) (x : A) → AllByRecursion Q xs → slice_get xs j ≡ Some x → Q x
all_at Q [] j x all at = cc
all_at Q (y ∷ xs) zero x all at = let is : y ≡ x = cc in subst (λ z. Q z) is all.0
all_at Q (y ∷ xs) (suc j) x all at = all_at Q xs j x all.1 at

module _ {M : Type 0} (stands_for : M → List Answer → Type 0) (due : M → Option Request) where
  -- the machines after the turn of one
  pub under_way_turn : (asks : Asking) (cell : CellData) (machines : List M) (k : ℕ) (later : M) (before after : List Event) → AreUnderWay stands_for due machines before
      → UnderWay stands_for due later (part_of k after) → TakesTurn asks cell k before after → AreUnderWay stands_for due (slice_set machines k later) after
  under_way_turn asks cell machines k later before after ways way turn = record {
    each = λ task m at.
        elim (get_set machines k task later m at) [
          | inl w ↦ subst (λ (j : ℕ). UnderWay stands_for due m (part_of j after)) w.0 (subst (λ (x : M). UnderWay stands_for due x (part_of k after)) (sym w.1) way)
          | inr w ↦ subst (λ (es : List Event). UnderWay stands_for due m es) (sym (turn_others asks cell k task before after turn w.0)) (ways.each task m w.1)
        ];
  }

  -- the machines after a turn of an actor that is none of their tasks
  pub under_way_other : (asks : Asking) (cell : CellData) (machines : List M) (actor : ℕ) (before after : List Event) → length machines ≤ actor → AreUnderWay stands_for due machines before
      → TakesTurn asks cell actor before after → AreUnderWay stands_for due machines after
  under_way_other asks cell machines actor before after none ways turn = record {
    each = λ task m at.
        let here : task < length machines = slice_get_within machines task m at in
        subst (λ (es : List Event). UnderWay stands_for due m es) (sym (turn_others asks cell actor task before after turn (λ same. omega (arith, here, none, same)))) (ways.each task m at);
  }

module _ {M P : Type 0} (program : M → P) (is_fresh : M → Type 0) (stands_for : M → List Answer → Type 0) (due : M → Option Request) where
  -- the machines before this place have asked their first request, and the others nothing
  pub record HaveAsked (start machines : List M) (k : ℕ) : Type 0 where
    pub programs : map program machines ≡ map program start
    pub asked : (j : ℕ) (m : M) → j < k → slice_get machines j ≡ Some m → UnderWay stands_for due m []
    pub rest : (j : ℕ) (m : M) → k ≤ j → slice_get machines j ≡ Some m → is_fresh m

  pub have_asked_none : (machines : List M) → AllByRecursion is_fresh machines → HaveAsked machines machines 0
  have_asked_none machines all = record {
    programs = refl;
    asked = λ j m lt at. absurd (omega arith);
    rest = λ j m le at. all_at is_fresh machines j m all at;
  }

  pub have_asked_more : (start machines : List M) (k : ℕ) (m later : M) → HaveAsked start machines k → slice_get machines k ≡ Some m → program later ≡ program m → UnderWay stands_for due later []
      → HaveAsked start (slice_set machines k later) (k + 1)
  have_asked_more start machines k m later have at same way = record {
    programs = map_set program machines k m later at same ∙ have.programs;
    asked = λ j x lt found.
        elim (get_set machines k j later x found) [
          | inl w ↦ subst (λ (y : M). UnderWay stands_for due y []) (sym w.1) way
          | inr w ↦ have.asked j x (elim (cases_lt j k) [ inl less ↦ less | inr ge ↦ absurd (w.0 (omega arith)) ]) w.1
        ];
    rest = λ j x le found.
        elim (get_set machines k j later x found) [
          | inl w ↦ absurd (omega (arith, w.0))
          | inr w ↦ have.rest j x (omega arith) w.1
        ];
  }

  -- once all have, they are under way
  pub have_asked_all : (start machines : List M) (k : ℕ) → HaveAsked start machines k → length machines ≤ k → AreUnderWay stands_for due machines []
  have_asked_all start machines k have all = record {
    each = λ task m at. have.asked task m (let lt : task < length machines = slice_get_within machines task m at in omega (arith, lt, all)) at;
  }
