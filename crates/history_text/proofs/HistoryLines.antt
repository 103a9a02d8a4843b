-- A history consists of whole lines: only the last byte of each ends it.
use Rattle.std.proofs.Common.{◌≡◌, ℕ, true, List, [], ◌∷◌, ◌++◌, Option, Some, None, refl, ap, ◌∙◌, append_assoc}
use Rattle.std.specs.List.{AllByRecursion}
use Rattle.std.specs.Prelude.{codes, IsTrue, slice_get}
use Rattle.rapid_model.specs.Names.{is_short_name}
use Rattle.rapid_model.specs.declared.event.Event.{Event}
use Rattle.rapid_model.specs.declared.fate.Fate.{Fate}
use Rattle.rapid_model.specs.declared.task_row.TaskRow.{TaskRow}
use Rattle.history_text.specs.EventLines.{actor_words, event_line}
use Rattle.history_text.specs.EventWords.{answer_words, request_words}
use Rattle.history_text.specs.HistoryText.{AreNamed, Spells, history_lines, lines_in}
use Rattle.history_text.specs.InRange.{IsEvent, IsFate}
use Rattle.history_text.specs.Lines.{fate_line, fate_lines, fate_words}
use Rattle.history_text.specs.Named.{NamesData, event_fits}
use Rattle.history_text.specs.NextLine.{is_inner}
use Rattle.history_text.proofs.InnerBytes.{inner_answer, inner_both, inner_fate, inner_name, inner_request}
use Rattle.history_text.proofs.NameBytes.{IsName, name_at}
use Rattle.history_text.proofs.LinesIn.{IsLine, lines_again}

-- an event that fits
abbrev pub Fits : NamesData → Event → Type 0
Fits names e = IsEvent e × IsTrue (event_fits names e)

inner_actor : (tasks : List TaskRow) (actor : ℕ) (o : Option TaskRow) → AllByRecursion (λ r. IsTrue (is_short_name r.name)) tasks → slice_get tasks actor ≡ o → is_inner (actor_words tasks actor) ≡ true
inner_actor tasks actor (Some row) form at = rw at (inner_name row.name (name_at tasks actor row form at))
inner_actor tasks actor None form at = rw at refl

regroup_line : (a r w : List ℕ)
    → codes "H " ++ (a ++ (32 ∷ r ++ (codes " > " ++ (w ++ codes "\n")))) ≡ (codes "H " ++ (a ++ (32 ∷ r ++ (codes " > " ++ w)))) ++ 10 ∷ []
regroup_line a r w = simp append_assoc

pub event_line_is : (tasks : List TaskRow) (e : Event) → AreNamed tasks → IsEvent e → IsLine (event_line tasks e)
event_line_is tasks e named range =
    let a = actor_words tasks e.actor in
    let r = request_words e.request in
    let w = answer_words e.answer in
    record {
      front = codes "H " ++ (a ++ (32 ∷ r ++ (codes " > " ++ w)));
      inner = inner_both a (32 ∷ r ++ (codes " > " ++ w)) (inner_actor tasks e.actor (slice_get tasks e.actor) named.form refl)
          (inner_both r (codes " > " ++ w) (inner_request e.request range.request) (inner_answer e.answer range.answer));
      is = regroup_line a r w;
    }

regroup_fate : (name words : List ℕ) → codes "E " ++ (name ++ (32 ∷ words ++ codes "\n")) ≡ (codes "E " ++ (name ++ 32 ∷ words)) ++ 10 ∷ []
regroup_fate name words = simp append_assoc

pub fate_line_is : (row : TaskRow) (fate : Fate) → IsName row.name → IsFate fate → IsLine (fate_line row.name fate)
fate_line_is row fate name range = record {
  front = codes "E " ++ (row.name ++ 32 ∷ fate_words fate);
  inner = inner_both row.name (32 ∷ fate_words fate) (inner_name row.name name) (inner_fate fate range);
  is = regroup_fate row.name (fate_words fate);
}

fate_lines_are : (tasks : List TaskRow) (fates : List Fate) → AllByRecursion (λ r. IsTrue (is_short_name r.name)) tasks → AllByRecursion IsFate fates → AllByRecursion IsLine (fate_lines tasks fates)
fate_lines_are [] fates form range = tt
fate_lines_are (row ∷ rows) [] form range = tt
fate_lines_are (row ∷ rows) (fate ∷ fates) form range = (fate_line_is row fate (name_at (row ∷ rows) 0 row form refl) range.0, fate_lines_are rows fates form.1 range.1)

history_lines_are : (names : NamesData) (events : List Event) (fates : List Fate) → AreNamed names.tasks → AllByRecursion (Fits names) events → AllByRecursion IsFate fates → AllByRecursion IsLine (history_lines names events fates)
history_lines_are names [] fates named fits range = fate_lines_are names.tasks fates named.form range
history_lines_are names (e ∷ es) fates named fits range = (event_line_is names.tasks e named fits.0.0, history_lines_are names es fates named fits.1 range)

-- a text that is a history has its lines
pub spelled_lines : (names : NamesData) (text : List ℕ) (events : List Event) (fates : List Fate) → AreNamed names.tasks → Spells names text events fates → lines_in text ≡ history_lines names events fates
spelled_lines names text events fates named spells =
    ap lines_in spells.text ∙ lines_again (history_lines names events fates) (history_lines_are names events fates named spells.history.events spells.history.fates)
