-- A text starts with the line of at most one event, and of at most one fate of a task: the one that is read there.
use Rattle.std.proofs.Common.{◌≡◌, ℕ, ◌<◌, length, true, false, List, ◌++◌, Some, None, sym, ap, ◌∙◌}
use Rattle.std.proofs.lemmas.Option.{same_Some, slice_get-get_or}
use Rattle.std.specs.Prelude.{slice_get, slice_index_or}
use Rattle.rapid_model.specs.declared.event.Event.{Event}
use Rattle.rapid_model.specs.declared.fate.Fate.{Fate}
use Rattle.rapid_model.specs.declared.task_row.TaskRow.{TaskRow}
use Rattle.history_text.specs.EventLines.{event_line}
use Rattle.history_text.specs.EventReading.{event_at, fate_line_at}
use Rattle.history_text.specs.HistoryText.{AreNamed}
use Rattle.history_text.specs.InRange.{IsEvent, IsFate}
use Rattle.history_text.specs.Lines.{fate_line}
use Rattle.history_text.specs.Named.{NamesData, event_fits}
use Rattle.history_text.specs.NextLine.{BeginsEvent, BeginsFate, BeginsNoFate}
use Rattle.history_text.specs.Reading.{after_word}
use Rattle.history_text.proofs.AfterWord.{after_word_again, after_word_takes}
use Rattle.history_text.proofs.EventsAgain.{event_again, fate_line_again}

read_there : (names : NamesData) (text : List ℕ) (e : Event) (more : List ℕ) → AreNamed names.tasks → BeginsEvent names text e more → event_at names text ≡ Some e
read_there names text e more named begins = ap (event_at names) begins.same ∙ event_again names e more named begins.range begins.fits

one_there : (names : NamesData) (text : List ℕ) (read e : Event) (more : List ℕ) → AreNamed names.tasks → event_at names text ≡ Some read → BeginsEvent names text e more → read ≡ e
one_there names text read e more named some begins = same_Some read e (sym some ∙ read_there names text e more named begins)

pub no_event_read : (names : NamesData) (text : List ℕ) → AreNamed names.tasks → event_at names text ≡ None → (e : Event) (more : List ℕ) → BeginsEvent names text e more → ⊥
no_event_read names text named none e more begins = let some = read_there names text e more named begins in absurd cc

pub no_event_fits : (names : NamesData) (text : List ℕ) (read : Event) → AreNamed names.tasks → event_at names text ≡ Some read → event_fits names read ≡ false → (e : Event) (more : List ℕ) → BeginsEvent names text e more → ⊥
no_event_fits names text read named some misfit e more begins =
    let same : read ≡ e = one_there names text read e more named some begins in
    let fits : event_fits names e ≡ true = begins.fits in
    absurd cc

pub no_event_again : (names : NamesData) (text : List ℕ) (read : Event) → AreNamed names.tasks → event_at names text ≡ Some read → after_word (event_line names.tasks read) text ≡ None → (e : Event) (more : List ℕ) → BeginsEvent names text e more → ⊥
no_event_again names text read named some none e more begins =
    let same : read ≡ e = one_there names text read e more named some begins in
    let there : after_word (event_line names.tasks read) text ≡ Some more = ap (λ other. after_word (event_line names.tasks other) text) same ∙ ap (after_word (event_line names.tasks e)) begins.same ∙ after_word_again (event_line names.tasks e) more in
    absurd cc

pub event_there : (names : NamesData) (text : List ℕ) (e : Event) (more : List ℕ) → IsEvent e → event_fits names e ≡ true → after_word (event_line names.tasks e) text ≡ Some more → BeginsEvent names text e more
event_there names text e more range fits there = record { range = range; fits = fits; same = after_word_takes (event_line names.tasks e) text more there }

-- fates

pub task_there : (tasks : List TaskRow) (i : ℕ) (row : TaskRow) → i < length tasks → row ≡ slice_index_or tasks i row → slice_get tasks i ≡ Some row
task_there tasks i row less same = slice_get-get_or tasks i row less ∙ ap Some (sym same)

fate_read_there : (names : NamesData) (done : ℕ) (row : TaskRow) (text : List ℕ) (fate : Fate) (more : List ℕ) → slice_get names.tasks done ≡ Some row → BeginsFate names done text fate more → (text ≡ fate_line row.name fate ++ more) × (fate_line_at row.name text ≡ Some fate)
fate_read_there names done row text fate more at begins =
    let task : begins.row ≡ row = same_Some begins.row row (sym begins.there ∙ at) in
    let same : text ≡ fate_line row.name fate ++ more = begins.same ∙ ap (λ (t : TaskRow). fate_line t.name fate ++ more) task in
    (same, ap (fate_line_at row.name) same ∙ fate_line_again row.name fate more begins.range)

pub no_fate_read : (names : NamesData) (done : ℕ) (row : TaskRow) (text : List ℕ) → slice_get names.tasks done ≡ Some row → fate_line_at row.name text ≡ None → BeginsNoFate names done text
no_fate_read names done row text at none fate more begins = let some = (fate_read_there names done row text fate more at begins).1 in absurd cc

pub no_fate_again : (names : NamesData) (done : ℕ) (row : TaskRow) (text : List ℕ) (read : Fate) → slice_get names.tasks done ≡ Some row → fate_line_at row.name text ≡ Some read → after_word (fate_line row.name read) text ≡ None → BeginsNoFate names done text
no_fate_again names done row text read at some none fate more begins =
    let both = fate_read_there names done row text fate more at begins in
    let same : read ≡ fate = same_Some read fate (sym some ∙ both.1) in
    let there : after_word (fate_line row.name read) text ≡ Some more = ap (λ other. after_word (fate_line row.name other) text) same ∙ ap (after_word (fate_line row.name fate)) both.0 ∙ after_word_again (fate_line row.name fate) more in
    absurd cc

pub fate_there : (names : NamesData) (done : ℕ) (row : TaskRow) (text : List ℕ) (fate : Fate) (more : List ℕ) → slice_get names.tasks done ≡ Some row → IsFate fate → after_word (fate_line row.name fate) text ≡ Some more → BeginsFate names done text fate more
fate_there names done row text fate more at range there = record { row = row; there = at; range = range; same = after_word_takes (fate_line row.name fate) text more there }
