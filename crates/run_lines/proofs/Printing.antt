-- Printing one line after another.
use Rattle.std.proofs.Common.{◌≡◌, ℕ, ◌+◌, ◌<◌, Bool, false, List, [], ◌∷◌, ◌++◌, length, drop, get_or, ap, sym, ◌∙◌, refl, subst, inl, inr, arith, append_assoc}
use Rattle.std.specs.Prelude.{Some, map, slice_get}
use Rattle.std.proofs.lemmas.Bool.{true≢false}
use Rattle.std.proofs.lemmas.Option.{none-some, same_Some, slice_get_cases, get_or_from_slice_get}
use Rattle.rapid_num.specs.declared.joints.Joints.{Joints}
use Rattle.rapid_model.specs.CellData.{CellData}
use Rattle.rapid_model.specs.declared.answer.Answer.{Answer}
use Rattle.rapid_model.specs.declared.answer.Answer.TheVariants as answers
use Rattle.rapid_model.specs.declared.event.Event.{Event}
use Rattle.rapid_model.specs.declared.request.Request.{Request}
use Rattle.rapid_model.specs.declared.request.Request.TheVariants as requests
use Rattle.rapid_model.specs.declared.task_row.TaskRow.{TaskRow}
use Rattle.rapid_model.specs.declared.fate.Fate.{Fate}
use Rattle.cell_meaning.specs.Fates.{fate_after, fates_after}
use Rattle.history_pages.specs.Pages.{given_in, given_to}
use Rattle.history_pages.specs.Requests.{is_lined}
use Rattle.history_text.specs.Lines.{fate_line, fate_lines, line_between, line_of, setpoint_line, task_axes, task_name}
use Rattle.run_lines.proofs.Fates.{drop-fates_after}
use Rattle.run_lines.specs.EventsShown.{shown_line}
use Rattle.sink_lines.specs.Printed.{Seen, Sunk}
use Rattle.sink_lines.specs.Written.{WritesAll, WritesPart}
use Rattle.sink_lines.proofs.Lists.{drop-at, drop-element}
use Rattle.sink_lines.proofs.Gains.{between, gained_none, wrote_more, wrote_part, wrote_first}

-- of all lines, these are still to be written
pub record Printing (all rest : List (List ℕ)) (sink : Sunk) : Type 0 where
  pub done : List (List ℕ)
  pub split : all ≡ done ++ rest
  pub written : WritesAll done sink

pub printing_more : (all : List (List ℕ)) (line : List ℕ) (rest : List (List ℕ)) (a b c : Seen) → Printing all (line ∷ rest) (between a b) → WritesAll (line ∷ []) (between b c) → Printing all rest (between a c)
printing_more all line rest a b c p w = record {
  done = p.done ++ line ∷ [];
  split = p.split ∙ sym (append_assoc p.done (line ∷ []) rest);
  written = wrote_more p.done (line ∷ []) a b c p.written w;
}

pub printing_fails : (all : List (List ℕ)) (line : List ℕ) (rest : List (List ℕ)) (a b c : Seen) → Printing all (line ∷ rest) (between a b) → WritesPart (line ∷ []) (between b c) → WritesPart all (between a c)
printing_fails all line rest a b c p w =
    subst (λ (lines : List (List ℕ)). WritesPart lines (between a c)) (sym p.split)
    (wrote_part p.done (line ∷ rest) a b c p.written (wrote_first (line ∷ []) rest (between b c) w))

-- the lines of the events from k on are that of event k and those after it
lines_split : (line : Event → List ℕ) (history : List Event) (k : ℕ) (e : Event) → k < length history → slice_get history k ≡ Some e
    → map line (drop k history) ≡ line e ∷ map line (drop (k + 1) history)
lines_split line history k e lt at =
    ap (map line) (drop-at history k e lt)
    ∙ ap (λ (x : Event). line x ∷ map line (drop (k + 1) history)) (get_or_from_slice_get history k e e at)

pub event_printed : (line : Event → List ℕ) (history : List Event) (k : ℕ) (all : List (List ℕ)) (a b c : Seen) → k < length history
    → ((e : Event) → slice_get history k ≡ Some e → WritesAll (line e ∷ []) (between b c)) → Printing all (map line (drop k history)) (between a b)
    → Printing all (map line (drop (k + 1) history)) (between a c)
event_printed line history k all a b c lt w p = elim (slice_get_cases history k).1 [
  | inl x ↦ printing_more all (line x.0) (map line (drop (k + 1) history)) a b c
      (subst (λ (rest : List (List ℕ)). Printing all rest (between a b)) (lines_split line history k x.0 lt x.2) p) (w x.0 x.2)
  | inr past ↦ absurd (let m = past.0 in omega (arith, m))
]

pub event_failed : (line : Event → List ℕ) (history : List Event) (k : ℕ) (all : List (List ℕ)) (a b c : Seen) → k < length history
    → ((x : Event) → slice_get history k ≡ Some x → WritesPart (line x ∷ []) (between b c)) → Printing all (map line (drop k history)) (between a b)
    → WritesPart all (between a c)
event_failed line history k all a b c lt w p = elim (slice_get_cases history k).1 [
  | inl x ↦ printing_fails all (line x.0) (map line (drop (k + 1) history)) a b c
      (subst (λ (rest : List (List ℕ)). Printing all rest (between a b)) (lines_split line history k x.0 lt x.2) p) (w x.0 x.2)
  | inr past ↦ absurd (let m = past.0 in omega (arith, m))
]

-- the lines of the tasks from k on are that of task k and those after it
fates_split : (cell : CellData) (history : List Event) (k : ℕ) (row : TaskRow) → k < length cell.tasks → row ≡ get_or cell.tasks k row
    → fate_lines (drop k cell.tasks) (drop k (fates_after cell history (length cell.tasks)))
    ≡ fate_line row.name (fate_after cell history k) ∷ fate_lines (drop (k + 1) cell.tasks) (drop (k + 1) (fates_after cell history (length cell.tasks)))
fates_split cell history k row lt is =
    ap (λ (rows : List TaskRow). fate_lines rows (drop k (fates_after cell history (length cell.tasks))))
    (drop-element cell.tasks k row lt is)
    ∙ ap (fate_lines (row ∷ drop (k + 1) cell.tasks)) (drop-fates_after cell history (length cell.tasks) k (fate_after cell history k) lt)

-- the lines from task k on, once the fate of task k has been looked up
fates_left : (cell : CellData) (history : List Event) (k : ℕ) (row : TaskRow) (fate : Fate) → k < length cell.tasks → row ≡ get_or cell.tasks k row → fate ≡ fate_after cell history k
    → fate_lines (drop k cell.tasks) (drop k (fates_after cell history (length cell.tasks)))
    ≡ fate_line row.name fate ∷ fate_lines (drop (k + 1) cell.tasks) (drop (k + 1) (fates_after cell history (length cell.tasks)))
fates_left cell history k row fate lt is same =
    fates_split cell history k row lt is
    ∙ ap (λ (f : Fate). fate_line row.name f ∷ fate_lines (drop (k + 1) cell.tasks) (drop (k + 1) (fates_after cell history (length cell.tasks)))) (sym same)

pub fate_printed : (cell : CellData) (history : List Event) (k : ℕ) (row : TaskRow) (fate : Fate) (all : List (List ℕ)) (a b c : Seen) → k < length cell.tasks
    → row ≡ get_or cell.tasks k row → fate ≡ fate_after cell history k → WritesAll (fate_line row.name fate ∷ []) (between b c)
    → Printing all (fate_lines (drop k cell.tasks) (drop k (fates_after cell history (length cell.tasks)))) (between a b)
    → Printing all (fate_lines (drop (k + 1) cell.tasks) (drop (k + 1) (fates_after cell history (length cell.tasks)))) (between a c)
fate_printed cell history k row fate all a b c lt is same w p =
    printing_more all (fate_line row.name fate) (fate_lines (drop (k + 1) cell.tasks) (drop (k + 1) (fates_after cell history (length cell.tasks)))) a b c
    (subst (λ (rest : List (List ℕ)). Printing all rest (between a b)) (fates_left cell history k row fate lt is same) p) w

pub fate_failed : (cell : CellData) (history : List Event) (k : ℕ) (row : TaskRow) (fate : Fate) (all : List (List ℕ)) (a b c : Seen) → k < length cell.tasks
    → row ≡ get_or cell.tasks k row → fate ≡ fate_after cell history k → WritesPart (fate_line row.name fate ∷ []) (between b c)
    → Printing all (fate_lines (drop k cell.tasks) (drop k (fates_after cell history (length cell.tasks)))) (between a b)
    → WritesPart all (between a c)
fate_failed cell history k row fate all a b c lt is same w p =
    printing_fails all (fate_line row.name fate) (fate_lines (drop (k + 1) cell.tasks) (drop (k + 1) (fates_after cell history (length cell.tasks)))) a b c
    (subst (λ (rest : List (List ℕ)). Printing all rest (between a b)) (fates_left cell history k row fate lt is same) p) w

-- an event has no line unless it asks for a setpoint or a text to the operator
line_of_none : (name : List ℕ) (axes : ℕ) (request : Request) (answer : Answer) → is_lined request ≡ false → line_between name axes request answer ≡ []
line_of_none name axes (requests.Setpoint to) answer is = absurd (true≢false is)
line_of_none name axes (requests.Say text tail) answer is = absurd (true≢false is)
line_of_none name axes _ answer is = refl

pub unlined : (tasks : List TaskRow) (e : Event) → is_lined e.request ≡ false → line_of tasks e ≡ []
unlined tasks e is = line_of_none (task_name tasks e.actor) (task_axes tasks e.actor) e.request e.answer is

-- an empty line is written by no call
wrote_none : (sink : Seen) → WritesAll ([] ∷ []) (between sink sink)
wrote_none sink = record {
  bytes = gained_none sink.bytes;
  calls = record { calls = []; holds = ([], [], refl, refl, refl); gained = gained_none sink.calls };
  faults = omega arith;
}

pub line_skipped : (full : Bool) (tasks : List TaskRow) (e : Event) (sink : Seen) → full ≡ false → line_of tasks e ≡ [] → WritesAll (shown_line full tasks e ∷ []) (between sink sink)
line_skipped full tasks e sink short none =
    subst (λ (line : List ℕ). WritesAll (line ∷ []) (between sink sink)) (sym (ap (λ (b : Bool). shown_line b tasks e) short ∙ none)) (wrote_none sink)

-- this event of the history, which is e, has no line
no_bytes : (line : List ℕ) → (0 < length line → ⊥) → line ≡ []
no_bytes [] none = refl
no_bytes (b ∷ bs) none = absurd (none (omega arith))

pub without_line : (tasks : List TaskRow) (history : List Event) (k : ℕ) (read e : Event) → slice_get history k ≡ Some read → slice_get history k ≡ Some e → (0 < length (line_of tasks read) → ⊥) → line_of tasks e ≡ []
without_line tasks history k read e is at none =
    let both : Some read ≡ Some e = sym is ∙ at in
    let same : read ≡ e = cc in
    ap (line_of tasks) (sym same) ∙ no_bytes (line_of tasks read) none

-- the line of a setpoint that was given
line_of_given : (tasks : List TaskRow) (own : ℕ) (request : Request) (answer : Answer) (actor : ℕ) (to : Joints) → Some (actor, to) ≡ given_to own request answer
    → setpoint_line (task_name tasks actor) (task_axes tasks actor) to ≡ line_between (task_name tasks own) (task_axes tasks own) request answer
line_of_given tasks own (requests.Setpoint joints) answers.Given actor to is =
    ap (λ (p : ℕ × Joints). setpoint_line (task_name tasks p.0) (task_axes tasks p.0) p.1) (same_Some (actor, to) (own, joints) is)
line_of_given tasks own (requests.Setpoint joints) _ actor to is = absurd (none-some (actor, to) (sym is))
line_of_given tasks own _ answer actor to is = absurd (none-some (actor, to) (sym is))

pub given_line : (full : Bool) (tasks : List TaskRow) (e : Event) (actor : ℕ) (to : Joints) → full ≡ false → Some (actor, to) ≡ given_in e
    → setpoint_line (task_name tasks actor) (task_axes tasks actor) to ≡ shown_line full tasks e
given_line full tasks e actor to short is =
    line_of_given tasks e.actor e.request e.answer actor to is ∙ sym (ap (λ (b : Bool). shown_line b tasks e) short)
