-- A legal history of a cell fits the cell's names, and its lines are its own.
use Rattle.std.proofs.Common.{◌≡◌, ℕ, List, [], length, refl, arith}
use Rattle.std.specs.Prelude.{IsTrue}
use Rattle.std.specs.List.{AllByRecursion, concat}
use Rattle.rapid_model.specs.CellData.{CellData, IsCell}
use Rattle.rapid_model.specs.Own.{part_of}
use Rattle.rapid_model.specs.declared.event.Event.{Event}
use Rattle.rapid_model.specs.declared.fate.Fate.{Fate}
use Rattle.cell_meaning.specs.Asking.{Asking}
use Rattle.cell_meaning.specs.Fates.{fates_after}
use Rattle.cell_meaning.specs.Histories.{IsLegal}
use Rattle.cell_meaning.specs.Premises.{AllAnswered, AsksWhatItMay}
use Rattle.cell_meaning.proofs.ByTurns.{legal_answered}
use Rattle.history_text.specs.HistoryText.{IsFirstFault, IsHistory, Spells, history_lines}
use Rattle.history_text.specs.InRange.{IsEvent}
use Rattle.history_text.specs.Named.{event_fits}
use Rattle.history_text.proofs.NamesApart.{cell_is_named}
use Rattle.history_text.proofs.NextLines.{spelled_has_no_fault}
use Rattle.history_text.proofs.OneHistory.{read_once}
use Rattle.history_laws.specs.Shown.{names_in}
use Rattle.cell_meaning.proofs.Fates.{length-fates_after}
use Rattle.history_laws.proofs.Fates.{fates_in}
use Rattle.history_laws.proofs.Lists.{both_all, from_cuts}
use Rattle.history_laws.proofs.Named.{event_named}

-- a legal history of a program, and who asks
pub record Legal (asks : Asking) (cell : CellData) (history : List Event) : Type 0 where
  pub limits : IsCell cell
  pub may : AsksWhatItMay asks cell
  pub legal : IsLegal asks cell history
  pub ranges : AllByRecursion IsEvent history

abbrev pub fates_of : CellData → List Event → List Fate
fates_of cell history = fates_after cell history (length cell.tasks)

pub legal_fits : (asks : Asking) (cell : CellData) (history : List Event) → Legal asks cell history → IsHistory (names_in cell) history (fates_of cell history)
legal_fits asks cell history h = record {
  events = both_all IsEvent (λ e. IsTrue (event_fits (names_in cell) e)) history h.ranges
      (from_cuts (λ e. IsTrue (event_fits (names_in cell) e)) history [] history refl
      (λ before after e is. event_named cell (part_of e.actor before) e h.limits (answered.might before after e is) (h.legal.fits before after e is)));
  fates = fates_in cell history (length cell.tasks) h.ranges;
  few = let count : length (fates_of cell history) ≡ length cell.tasks = length-fates_after cell history (length cell.tasks) in omega (arith, count);
}
  where
    answered : AllAnswered cell history
    answered = legal_answered asks cell history h.may h.legal

pub legal_spells : (asks : Asking) (cell : CellData) (history : List Event) → Legal asks cell history
    → Spells (names_in cell) (concat (history_lines (names_in cell) history (fates_of cell history))) history (fates_of cell history)
legal_spells asks cell history h = record { history = legal_fits asks cell history h; text = refl }

pub legal_alone : (asks : Asking) (cell : CellData) (history events : List Event) (fates : List Fate) → Legal asks cell history
    → Spells (names_in cell) (concat (history_lines (names_in cell) history (fates_of cell history))) events fates → (events ≡ history) × (fates ≡ fates_of cell history)
legal_alone asks cell history events fates h other =
    read_once (names_in cell) (concat (history_lines (names_in cell) history (fates_of cell history))) events history fates (fates_of cell history) (cell_is_named cell h.limits) other (legal_spells asks cell history h)

pub legal_faultless : (asks : Asking) (cell : CellData) (history : List Event) (number : ℕ) → Legal asks cell history
    → IsFirstFault (names_in cell) (concat (history_lines (names_in cell) history (fates_of cell history))) number → ⊥
legal_faultless asks cell history number h fault =
    spelled_has_no_fault (names_in cell) (concat (history_lines (names_in cell) history (fates_of cell history))) history (fates_of cell history) number (cell_is_named cell h.limits) (legal_spells asks cell history h) fault
