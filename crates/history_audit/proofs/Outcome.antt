-- The outcome of an audit, said of the cell and of the events.
use Rattle.std.proofs.Common.{◌≡◌, ℕ, Bool, List, sym, subst}
use Rattle.std.specs.Prelude.{◌↔◌, IsTrue}
use Rattle.rapid_model.specs.CellData.{CellData}
use Rattle.rapid_model.specs.declared.event.Event.{Event}
use Rattle.rapid_model.specs.declared.fate.Fate.{Fate}
use Rattle.cell_meaning.specs.Asking.{Asking, with_inputs}
use Rattle.cell_meaning.specs.Histories.{IsLegal, IsWhole}
use Rattle.history_audit.specs.Audits.{IsFirstWrongFate, IsPassed, IsWrongFate}

module _ (asks : Asking) (first cell : CellData) (events history : List Event) (fates : List Fate) (same : cell ≡ first) (all : history ≡ events) where
  -- the core's cell is the given one
  pub legal_there : IsLegal (with_inputs asks first) first history → IsLegal (with_inputs asks cell) cell history
  legal_there legal = subst (λ (c : CellData). IsLegal (with_inputs asks c) c history) (sym same) legal

  pub fate_there : (task : ℕ) → IsFirstWrongFate (with_inputs asks cell) cell history fates task → IsFirstWrongFate (with_inputs asks first) first events fates task
  fate_there task wrong =
      subst (λ (h : List Event). IsFirstWrongFate (with_inputs asks first) first h fates task) all (subst (λ (c : CellData). IsFirstWrongFate (with_inputs asks c) c history fates task) same wrong)

  pub passed_there : (whole : Bool) → IsLegal (with_inputs asks first) first history → (IsTrue whole ↔ IsWhole (with_inputs asks cell) cell history)
      → ((task : ℕ) → ¬ IsWrongFate (with_inputs asks cell) cell history fates task) → IsPassed (with_inputs asks first) first events fates whole
  passed_there whole legal is right =
      let passed : IsPassed (with_inputs asks first) first history fates whole = record {
        legal = legal;
        whole_is = subst (λ (c : CellData). IsTrue whole ↔ IsWhole (with_inputs asks c) c history) same is;
        fates_are = λ task. subst (λ (c : CellData). ¬ IsWrongFate (with_inputs asks c) c history fates task) same (right task);
      } in
      subst (λ (h : List Event). IsPassed (with_inputs asks first) first h fates whole) all passed
