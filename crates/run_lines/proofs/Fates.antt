-- The fates of the tasks, one by one.
use Rattle.std.proofs.Common.{◌≡◌, ℕ, zero, suc, ◌+◌, ◌<◌, List, [], ◌∷◌, ◌++◌, length, drop, get_or, ap, sym, ◌∙◌, inl, inr, arith, add-one, drop-cons}
use Rattle.std.proofs.Math.ListN.{get_or-append}
use Rattle.std.proofs.Math.Seq.{get_or-append_seam}
use Rattle.std.proofs.lemmas.Bool.{cases_lt}
use Rattle.rapid_model.specs.CellData.{CellData}
use Rattle.rapid_model.specs.declared.event.Event.{Event}
use Rattle.rapid_model.specs.declared.fate.Fate.{Fate}
use Rattle.cell_meaning.specs.Fates.{fate_after, fates_after}
use Rattle.cell_meaning.proofs.Fates.{length-fates_after}

pub get_or-fates_after : (cell : CellData) (history : List Event) (n k : ℕ) (d : Fate) → k < n → get_or (fates_after cell history n) k d ≡ fate_after cell history k
get_or-fates_after cell history zero k d lt = absurd (omega arith)
get_or-fates_after cell history (suc n) k d lt =
    let long = length-fates_after cell history n in
    elim (cases_lt k n) [
      | inl below ↦ get_or-append (fates_after cell history n) (fate_after cell history n ∷ []) d k (omega (arith, long)) ∙ get_or-fates_after cell history n k d below
      | inr above ↦
          let same : k ≡ length (fates_after cell history n) = omega (arith, long) in
          let is : n ≡ k = omega arith in
          ap (λ (i : ℕ). get_or (fates_after cell history n ++ fate_after cell history n ∷ []) i d) same
          ∙ get_or-append_seam (fates_after cell history n) (fate_after cell history n) [] d ∙ ap (fate_after cell history) is
    ]

-- the fates from task k on
pub drop-fates_after : (cell : CellData) (history : List Event) (n k : ℕ) (d : Fate) → k < n
    → drop k (fates_after cell history n) ≡ fate_after cell history k ∷ drop (k + 1) (fates_after cell history n)
drop-fates_after cell history n k d lt =
    let long = length-fates_after cell history n in
    drop-cons (fates_after cell history n) k d (omega (arith, long))
    ∙ ap (λ (fate : Fate). fate ∷ drop (suc k) (fates_after cell history n)) (get_or-fates_after cell history n k d lt)
    ∙ ap (λ (i : ℕ). fate_after cell history k ∷ drop i (fates_after cell history n)) (sym (add-one k))
