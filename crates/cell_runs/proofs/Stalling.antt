-- At status 8 each task that has not ended waits.
use Rattle.std.proofs.Common.{◌≡◌, ℕ, ◌<◌, Bool, true, false, List, length, refl, inl, subst, arith}
use Rattle.std.specs.Prelude.{if◌then◌else◌}
use Rattle.std.specs.List.{list_any}
use Rattle.rapid_model.specs.CellData.{CellData}
use Rattle.rapid_model.specs.Own.{part_of, answers_of, has_ended}
use Rattle.rapid_model.specs.declared.event.Event.{Event}
use Rattle.rapid_model.specs.declared.request.Request.{Request}
use Rattle.typed_trees.specs.Plain.{TypedTree}
use Rattle.rapid_meaning.specs.Asking.{tree_asks}
use Rattle.cell_meaning.specs.Answers.{is_enabled}
use Rattle.cell_meaning.specs.Asking.{Asking, with_inputs}
use Rattle.cell_meaning.specs.Fates.{all_ended, fates_after, is_spent}
use Rattle.cell_meaning.specs.Histories.{IsLegal, IsWhole}
use Rattle.cell_meaning.specs.Premises.{TasksAskWell}
use Rattle.cell_meaning.proofs.InputScript.{asks_until_its_end, asks_what_it_may, inputs_asked}
use Rattle.cell_meaning.proofs.Stalls.{stalled_waits, whole_stalled}
use Rattle.cell_runs.specs.Outcomes.{WaitsToRise, is_fault, run_status}

-- neither have all ended, nor are the steps spent
record IsEight (ended spent : Bool) : Type 0 where
  going : ended ≡ false
  left : spent ≡ false

-- the status, by whether all have ended, one with a fault, and whether the steps are spent
abbrev of_ends : Bool → Bool → Bool → ℕ
of_ends ended faulty spent = if ended then (if faulty then 1 else 0) else if spent then 9 else 8

eight : (ended faulty spent : Bool) → of_ends ended faulty spent ≡ 8 → IsEight ended spent
eight true true spent is = absurd (omega (arith, is))
eight true false spent is = absurd (omega (arith, is))
eight false faulty true is = absurd (omega (arith, is))
eight false faulty false is = record { going = refl; left = refl }

pub stalled_wait : (cell : CellData) (trees : List TypedTree) (history : List Event) → TasksAskWell (tree_asks trees) cell → IsLegal (with_inputs (tree_asks trees) cell) cell history
    → IsWhole (with_inputs (tree_asks trees) cell) cell history → run_status cell history ≡ 8 → (task : ℕ) → task < length cell.tasks → has_ended (part_of task history) ≡ false
    → WaitsToRise cell trees history task
stalled_wait cell trees history well legal whole status task within going =
    let all : Asking = with_inputs (tree_asks trees) cell in
    let may = asks_what_it_may (tree_asks trees) cell well in
    let is = eight (all_ended (length cell.tasks) history) (list_any is_fault (fates_after cell history (length cell.tasks))) (is_spent cell history) status in
    let stalled = whole_stalled all cell history may (asks_until_its_end (tree_asks trees) cell well) (inputs_asked (tree_asks trees) cell) legal whole is.going is.left in
    let next = well.goes_on history task within legal going in
    let waits = stalled_waits all cell history task next.0 within may legal stalled (inl (record { task = within; asked = next.1 })) in
    record {
      asks = subst (λ (r : Request). tree_asks trees task (answers_of task history) r) waits.0 next.1;
      cannot = subst (λ (r : Request). is_enabled cell history task r ≡ false) waits.0 waits.1;
    }
