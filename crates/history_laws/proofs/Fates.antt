-- The fates of the tasks after a history.
use Rattle.std.proofs.Common.{◌≡◌, ℕ, zero, suc, ◌==◌, Bool, true, false, List, [], ◌∷◌, Option, Some, None, refl, subst}
use Rattle.std.specs.Prelude.{if◌then◌else◌}
use Rattle.std.specs.List.{AllByRecursion}
use Rattle.std.specs.Option.{option_or}
use Rattle.rapid_model.specs.CellData.{CellData}
use Rattle.rapid_model.specs.Own.{end_of, fate_of, part_of}
use Rattle.rapid_model.specs.declared.event.Event.{Event}
use Rattle.rapid_model.specs.declared.fate.Fate.{Fate}
use Rattle.rapid_model.specs.declared.fate.Fate.TheVariants.{Cut, Held}
use Rattle.rapid_model.specs.declared.request.Request.{Request}
use Rattle.rapid_model.specs.declared.request.Request.TheVariants as requests
use Rattle.rapid_model.proofs.Lists.{all_more}
use Rattle.cell_meaning.specs.Fates.{fate_after, fates_after, is_spent}
use Rattle.history_text.specs.InRange.{IsEvent, IsFate, IsRequest}
use Rattle.history_laws.proofs.Lists.{filter_all}

-- the fate in a request, else the one in later events
told : (request : Request) (later : Option Fate) (fate : Fate) → IsRequest request → ((f : Fate) → later ≡ Some f → IsFate f) → option_or (fate_of request) later ≡ Some fate → IsFate fate
told (requests.End f) later fate in_range rest is = let same : f ≡ fate = cc in subst IsFate same in_range
told request later fate in_range rest is = rest fate is

end_in : (es : List Event) (fate : Fate) → AllByRecursion IsEvent es → end_of es ≡ Some fate → IsFate fate
end_in [] fate all is = absurd cc
end_in (e ∷ es) fate all is = told e.request (end_of es) fate all.0.request (λ f later. end_in es f all.1 later) is

abbrev standing : CellData → List Event → Option Fate → Fate
standing cell history (Some fate) = fate
standing cell history None = if is_spent cell history then Cut else Held

standing_in : (cell : CellData) (history : List Event) (told : Option Fate) → ((fate : Fate) → told ≡ Some fate → IsFate fate) → IsFate (standing cell history told)
standing_in cell history (Some fate) its = its fate refl
standing_in cell history None its = by (is_spent cell history)
  where
    by : (spent : Bool) → IsFate (if spent then Cut else Held)
    by true = tt
    by false = tt

fate_in : (cell : CellData) (history : List Event) (task : ℕ) → AllByRecursion IsEvent history → IsFate (fate_after cell history task)
fate_in cell history task all =
    standing_in cell history (end_of (part_of task history)) (λ fate is. end_in (part_of task history) fate (filter_all IsEvent (λ (e : Event). e.actor == task) history all) is)

pub fates_in : (cell : CellData) (history : List Event) (tasks : ℕ) → AllByRecursion IsEvent history → AllByRecursion IsFate (fates_after cell history tasks)
fates_in cell history zero all = tt
fates_in cell history (suc tasks) all = all_more IsFate (fates_after cell history tasks) (fate_after cell history tasks) (fates_in cell history tasks all) (fate_in cell history tasks all)
