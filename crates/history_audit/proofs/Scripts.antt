-- What the input script asks.
use Rattle.std.proofs.Common.{◌≡◌, ◌<◌, inl, inr, ℕ, List, length, ap, sym, ◌∙◌, arith}
use Rattle.std.proofs.lemmas.List.{length-map}
use Rattle.rapid_model.specs.CellData.{CellData}
use Rattle.rapid_model.specs.Own.{part_of, answers_of}
use Rattle.rapid_model.specs.declared.event.Event.{Event}
use Rattle.rapid_model.specs.declared.request.Request.{Request}
use Rattle.rapid_model.specs.declared.request.Request.TheVariants.{Input}
use Rattle.cell_meaning.specs.Asking.{Asking, with_inputs}
use Rattle.cell_meaning.specs.Inputs.{inputs_done}

-- as many answers as steps that are done
pub steps_answered : (cell : CellData) (history : List Event) (actor : ℕ) → actor ≡ length cell.tasks → length (answers_of actor history) ≡ inputs_done cell history
steps_answered cell history actor script = length-map (part_of actor history) (λ e. e.answer) ∙ ap (λ (k : ℕ). length (part_of k history)) script

module _ (asks : Asking) (cell : CellData) (history : List Event) (actor index : ℕ) (script : actor ≡ length cell.tasks) (next : index ≡ inputs_done cell history) where
  -- its next step, while one is left
  pub script_asks : inputs_done cell history < length cell.inputs → with_inputs asks cell actor (answers_of actor history) (Input index)
  script_asks left =
      let count = steps_answered cell history actor script in
      inr (record { script = script; left = omega (arith, count, left); next = ap (λ (k : ℕ). Input k) (next ∙ sym count) })

  -- and nothing else
  pub script_alone : (other : Request) → with_inputs asks cell actor (answers_of actor history) other → other ≡ Input index
  script_alone other (inl task) = let within = task.task in absurd (omega (arith, within, script))
  script_alone other (inr it) = it.next ∙ ap (λ (k : ℕ). Input k) (steps_answered cell history actor script ∙ sym next)
