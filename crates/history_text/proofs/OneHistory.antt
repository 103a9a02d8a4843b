-- A text is that of at most one history that fits.
use Rattle.std.proofs.Common.{◌≡◌, ℕ, ◌≤◌, List, [], ◌∷◌, ◌++◌, length, get_or, refl, sym, ap, ◌∙◌, arith}
use Rattle.std.proofs.lemmas.Option.{same_Some}
use Rattle.std.specs.List.{AllByRecursion}
use Rattle.rapid_model.specs.declared.event.Event.{Event}
use Rattle.rapid_model.specs.declared.fate.Fate.{Fate}
use Rattle.rapid_model.specs.declared.task_row.TaskRow.{TaskRow}
use Rattle.history_text.specs.EventLines.{event_line}
use Rattle.history_text.specs.EventReading.{event_at, fate_line_at}
use Rattle.history_text.specs.HistoryText.{AreNamed, IsHistory, Spells, history_lines}
use Rattle.history_text.specs.InRange.{IsFate}
use Rattle.history_text.specs.Lines.{fate_line, fate_lines}
use Rattle.history_text.specs.Named.{NamesData}
use Rattle.history_text.proofs.EventsAgain.{event_again, fate_line_again}
use Rattle.history_text.proofs.HistoryLines.{Fits, spelled_lines}

-- lines of events and of fates differ

pub event_is_no_fate : (tasks : List TaskRow) (e : Event) (name : List ℕ) (fate : Fate) → event_line tasks e ≡ fate_line name fate → ⊥
event_is_no_fate tasks e name fate same = let first : ◌≡◌ {A = ℕ} 72 69 = ap (λ line. get_or line 0 0) same in absurd (omega (arith, first))

event_once : (names : NamesData) (e f : Event) → AreNamed names.tasks → Fits names e → Fits names f → event_line names.tasks e ≡ event_line names.tasks f → e ≡ f
event_once names e f named one other same =
    same_Some e f (sym (event_again names e [] named one.0 one.1) ∙ ap (λ line. event_at names (line ++ [])) same ∙ event_again names f [] named other.0 other.1)

fate_once : (name : List ℕ) (fate other : Fate) → IsFate fate → IsFate other → fate_line name fate ≡ fate_line name other → fate ≡ other
fate_once name fate other range wide same =
    same_Some fate other (sym (fate_line_again name fate [] range) ∙ ap (λ line. fate_line_at name (line ++ [])) same ∙ fate_line_again name other [] wide)

fates_once : (tasks : List TaskRow) (fates others : List Fate) → AllByRecursion IsFate fates → AllByRecursion IsFate others → length fates ≤ length tasks → length others ≤ length tasks → fate_lines tasks fates ≡ fate_lines tasks others → fates ≡ others
fates_once tasks [] [] range wide few less same = refl
fates_once [] (f ∷ fs) others range wide few less same = absurd (omega arith)
fates_once (row ∷ rows) (f ∷ fs) [] range wide few less same = absurd cc
fates_once [] [] (g ∷ gs) range wide few less same = absurd (omega arith)
fates_once (row ∷ rows) [] (g ∷ gs) range wide few less same = absurd cc
fates_once (row ∷ rows) (f ∷ fs) (g ∷ gs) range wide few less same =
    let first : fate_line row.name f ≡ fate_line row.name g = cc in
    let more : fate_lines rows fs ≡ fate_lines rows gs = cc in
    let one : f ≡ g = fate_once row.name f g range.0 wide.0 first in
    let rest : fs ≡ gs = fates_once rows fs gs range.1 wide.1 (omega arith) (omega arith) more in
    cc

-- a line of an event is not the first line of fates
pub no_event_first : (tasks tasks' : List TaskRow) (e : Event) (more : List (List ℕ)) (fates : List Fate) → event_line tasks e ∷ more ≡ fate_lines tasks' fates → ⊥
no_event_first tasks [] e more fates same = absurd cc
no_event_first tasks (row ∷ rows) e more [] same = absurd cc
no_event_first tasks (row ∷ rows) e more (fate ∷ fates) same = event_is_no_fate tasks e row.name fate (let first : event_line tasks e ≡ fate_line row.name fate = cc in first)

histories_once : (names : NamesData) (events others : List Event) (fates rest : List Fate) → AreNamed names.tasks → IsHistory names events fates → IsHistory names others rest
    → history_lines names events fates ≡ history_lines names others rest → (events ≡ others) × (fates ≡ rest)
histories_once names [] [] fates rest named one other same = (refl, fates_once names.tasks fates rest one.fates other.fates one.few other.few same)
histories_once names (e ∷ es) [] fates rest named one other same = absurd (no_event_first names.tasks names.tasks e (history_lines names es fates) rest same)
histories_once names [] (g ∷ gs) fates rest named one other same = absurd (no_event_first names.tasks names.tasks g (history_lines names gs rest) fates (sym same))
histories_once names (e ∷ es) (g ∷ gs) fates rest named one other same =
    let first : event_line names.tasks e ≡ event_line names.tasks g = cc in
    let more : history_lines names es fates ≡ history_lines names gs rest = cc in
    let event : e ≡ g = event_once names e g named one.events.0 other.events.0 first in
    let front : IsHistory names es fates = record { events = one.events.1; fates = one.fates; few = one.few } in
    let back : IsHistory names gs rest = record { events = other.events.1; fates = other.fates; few = other.few } in
    let tail = histories_once names es gs fates rest named front back more in
    let events : es ≡ gs = tail.0 in
    (cc, tail.1)

pub read_once : (names : NamesData) (text : List ℕ) (events others : List Event) (fates ends : List Fate) → AreNamed names.tasks → Spells names text events fates → Spells names text others ends → (events ≡ others) × (fates ≡ ends)
read_once names text events others fates ends named one other =
    histories_once names events others fates ends named one.history other.history (sym (spelled_lines names text events fates named one) ∙ spelled_lines names text others ends named other)
