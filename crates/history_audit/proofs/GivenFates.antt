-- The fates that are given with a history.
use Rattle.std.proofs.Common.{◌≡◌, ◌≢◌, ◌<◌, ◌≤◌, ◌⊎◌, inl, inr, ℕ, ◌+◌, Bool, true, false, List, length, get_or, sym, ◌∙◌, subst, arith}
use Rattle.std.specs.Prelude.{◌↔◌, IsTrue, Some, slice_get}
use Rattle.std.proofs.lemmas.Bool.{cases_Bool, cases_lt, false≢true}
use Rattle.std.proofs.lemmas.Option.{get_or_from_slice_get, slice_get-get_or, slice_get_within}
use Rattle.rapid_model.specs.CellData.{CellData}
use Rattle.rapid_model.specs.declared.event.Event.{Event}
use Rattle.rapid_model.specs.declared.fate.Fate.{Fate}
use Rattle.cell_meaning.specs.Asking.{Asking}
use Rattle.cell_meaning.specs.Fates.{fate_after}
use Rattle.cell_meaning.specs.Histories.{IsLegal, IsWhole}
use Rattle.history_audit.specs.Audits.{IsFirstWrongFate, IsWrongFate}

-- no earlier fate is wrong
abbrev pub EarlierRight : Asking → CellData → List Event → List Fate → ℕ → Type 0
EarlierRight asks cell history fates k = (task : ℕ) → task < k → ¬ IsWrongFate asks cell history fates task

-- none is, after the last
pub all_right : (asks : Asking) (cell : CellData) (history : List Event) (fates : List Fate) (k : ℕ) → EarlierRight asks cell history fates k → length fates ≤ k → (task : ℕ) → ¬ IsWrongFate asks cell history fates task
all_right asks cell history fates k earlier all task w = earlier task (let lt = slice_get_within fates task w.fate w.given in omega (arith, lt, all)) w

module _ (asks : Asking) (cell : CellData) (history : List Event) (fates : List Fate) (whole : Bool) (is : IsTrue whole ↔ IsWhole asks cell history) where
  right_here : (task : ℕ) (d : Fate) → IsTrue whole × (get_or fates task d ≡ fate_after cell history task) → ¬ IsWrongFate asks cell history fates task
  right_here task d right w = by w.wrong
    where
      by : (IsWhole asks cell history → ⊥) ⊎ (w.fate ≡ fate_after cell history task → ⊥) → ⊥
      by (inl open_still) = open_still (is.0 right.0)
      by (inr other) = other (sym (get_or_from_slice_get fates task w.fate d w.given) ∙ right.1)

  pub one_more_right : (k : ℕ) (d : Fate) → EarlierRight asks cell history fates k → IsTrue whole × (get_or fates k d ≡ fate_after cell history k) → EarlierRight asks cell history fates (k + 1)
  one_more_right k d earlier right task lt = elim (cases_lt task k) [
    | inl less ↦ earlier task less
    | inr ge ↦ (let same : k ≡ task = omega (arith, ge, lt) in subst (λ (n : ℕ). ¬ IsWrongFate asks cell history fates n) same (right_here k d right))
  ]

  -- the first that is wrong
  pub wrong_here : (k : ℕ) (d : Fate) → IsLegal asks cell history → EarlierRight asks cell history fates k → k < length fates → ((IsTrue whole × (get_or fates k d ≡ fate_after cell history k)) → ⊥)
      → IsFirstWrongFate asks cell history fates k
  wrong_here k d legal earlier lt wrong = record {
    legal = legal;
    wrong = record { fate = get_or fates k d; given = slice_get-get_or fates k d lt; wrong = by (cases_Bool whole) };
    first = earlier;
  }
    where
      by : (whole ≡ true) ⊎ (whole ≡ false) → (¬ IsWhole asks cell history) ⊎ (get_or fates k d ≢ fate_after cell history k)
      by (inl yes_whole) = inr (λ same. wrong (yes_whole, same))
      by (inr not_whole) = inl (λ complete. false≢true (sym not_whole ∙ is.1 complete))
