-- Lists of views of which one changes, or to which one is added.
use Rattle.std.proofs.Common.{◌≡◌, ◌≢◌, ◌⊎◌, inl, inr, ⊎_elim, ℕ, zero, suc, false, List, [], ◌∷◌, ◌++◌, length, set, refl, sym, ◌∙◌, ap, subst}
use Rattle.std.proofs.lemmas.Bool.{cases_eq}
use mathlib.Core.Option.{some, some-injective, some-ne-none}
use lib.ListN.{get_elem?}
use Rattle.atomic_table.proofs.Lists.{at_set, at_longer, set_else}
use Rattle.cell_gate.specs.declared.view.View.{View}
use Rattle.cell_gate.specs.Rule.{Each, Apart, SomeView, SpeakFor}
use Rattle.cell_gate.specs.Views.{parts}

-- what is written stands there
pub set_at : (views : List View) (seat : ℕ) (v w : View) → get_elem? views seat ≡ some v → get_elem? (set views seat w) seat ≡ some w
set_at [] seat v w at = absurd (some-ne-none v (sym at))
set_at (u ∷ views) zero v w at = refl
set_at (u ∷ views) (suc seat) v w at = set_at views seat v w at

-- what stands after a list
pub at_end : (views : List View) (last v : View) (seat : ℕ) → get_elem? (views ++ last ∷ []) seat ≡ some v → (get_elem? views seat ≡ some v) ⊎ ((seat ≡ length views) × (last ≡ v))
at_end [] last v zero at = inr (refl, some-injective last v at)
at_end [] last v (suc seat) at = absurd (some-ne-none v (sym at))
at_end (u ∷ views) last v zero at = inl at
at_end (u ∷ views) last v (suc seat) at = ⊎_elim (λ there. inl there) (λ (t : (seat ≡ length views) × (last ≡ v)). inr (ap suc t.0, t.1)) (at_end views last v seat at)

pub each_set : (P : ℕ → View → Type 0) (views : List View) (seat : ℕ) (w : View) → (w.spent ≡ false → P seat w) → ((j : ℕ) (u : View) → j ≢ seat → get_elem? views j ≡ some u → u.spent ≡ false → P j u)
    → Each P (set views seat w)
each_set P views seat w here others j u at live =
    ⊎_elim
    (λ (t : (j ≡ seat) × (w ≡ u)). subst (λ (x : ℕ × View). x.1.spent ≡ false → P x.0 x.1) (λ i. (sym t.0 i, t.1 i)) here live)
    (λ (t : (j ≢ seat) × (get_elem? views j ≡ some u)). others j u t.0 t.1 live)
    (at_set views seat j w u at)

pub each_end : (P : ℕ → View → Type 0) (views : List View) (w : View) → P (length views) w → Each P views → Each P (views ++ w ∷ [])
each_end P views w here others j u at live =
    ⊎_elim
    (λ (there : get_elem? views j ≡ some u). others j u there live)
    (λ (t : (j ≡ length views) × (w ≡ u)). subst (λ (x : ℕ × View). P x.0 x.1) (λ i. (sym t.0 i, t.1 i)) here)
    (at_end views w u j at)

-- a view that speaks for no more actors than before
pub apart_set : (views : List View) (seat : ℕ) (v w : View) → get_elem? views seat ≡ some v → v.spent ≡ false → ((actor : ℕ) → SpeakFor actor (parts w) → SpeakFor actor (parts v)) → Apart views → Apart (set views seat w)
apart_set views seat v w here live less apart j k actor a b at_a at_b live_a live_b speaks_a speaks_b =
    ⊎_elim
    (λ (s : (j ≡ seat) × (w ≡ a)).
    let as_v : SpeakFor actor (parts v) = less actor (subst (λ (u : View). SpeakFor actor (parts u)) (sym s.1) speaks_a) in
    ⊎_elim
    (λ (t : (k ≡ seat) × (w ≡ b)). s.0 ∙ sym t.0)
    (λ (t : (k ≢ seat) × (get_elem? views k ≡ some b)). s.0 ∙ apart seat k actor v b here t.1 live live_b as_v speaks_b)
    (at_set views seat k w b at_b))
    (λ (s : (j ≢ seat) × (get_elem? views j ≡ some a)).
    ⊎_elim
    (λ (t : (k ≡ seat) × (w ≡ b)).
    let as_v : SpeakFor actor (parts v) = less actor (subst (λ (u : View). SpeakFor actor (parts u)) (sym t.1) speaks_b) in
    apart j seat actor a v s.1 here live_a live speaks_a as_v ∙ sym t.0)
    (λ (t : (k ≢ seat) × (get_elem? views k ≡ some b)). apart j k actor a b s.1 t.1 live_a live_b speaks_a speaks_b)
    (at_set views seat k w b at_b))
    (at_set views seat j w a at_a)

-- one more view, which speaks for none of the others' actors
pub apart_end : (views : List View) (w : View) → ((j actor : ℕ) (u : View) → get_elem? views j ≡ some u → u.spent ≡ false → SpeakFor actor (parts u) → SpeakFor actor (parts w) → ⊥) → Apart views → Apart (views ++ w ∷ [])
apart_end views w new apart j k actor a b at_a at_b live_a live_b speaks_a speaks_b =
    ⊎_elim
    (λ (s : get_elem? views j ≡ some a).
    ⊎_elim
    (λ (t : get_elem? views k ≡ some b). apart j k actor a b s t live_a live_b speaks_a speaks_b)
    (λ (t : (k ≡ length views) × (w ≡ b)). absurd (new j actor a s live_a speaks_a (subst (λ (u : View). SpeakFor actor (parts u)) (sym t.1) speaks_b)))
    (at_end views w b k at_b))
    (λ (s : (j ≡ length views) × (w ≡ a)).
    ⊎_elim
    (λ (t : get_elem? views k ≡ some b). absurd (new k actor b t live_b speaks_b (subst (λ (u : View). SpeakFor actor (parts u)) (sym s.1) speaks_a)))
    (λ (t : (k ≡ length views) × (w ≡ b)). s.0 ∙ sym t.0)
    (at_end views w b k at_b))
    (at_end views w a j at_a)

pub some_here : (P : View → Type 0) (views : List View) (seat : ℕ) (v w : View) → get_elem? views seat ≡ some v → w.spent ≡ false → P w → SomeView P (set views seat w)
some_here P views seat v w at live so = record { seat = seat; view = w; at = set_at views seat v w at; live = live; so = so }

-- P holds of the view that changed if it did before
pub some_set : (P : View → Type 0) (views : List View) (seat : ℕ) (v w : View) → get_elem? views seat ≡ some v → w.spent ≡ false → (P v → P w) → SomeView P views → SomeView P (set views seat w)
some_set P views seat v w at live so it = elim (cases_eq it.seat seat) [
  | inl same ↦ (let is : it.view ≡ v = some-injective it.view v (sym it.at ∙ ap (λ (k : ℕ). get_elem? views k) same ∙ at) in some_here P views seat v w at live (so (subst P is it.so)))
  | inr other ↦ record { seat = it.seat; view = it.view; at = set_else views seat it.seat w other ∙ it.at; live = it.live; so = it.so }
]

pub some_end : (P : View → Type 0) (views : List View) (w : View) → SomeView P views → SomeView P (views ++ w ∷ [])
some_end P views w it = record { seat = it.seat; view = it.view; at = at_longer views (w ∷ []) it.seat it.view it.at; live = it.live; so = it.so }
