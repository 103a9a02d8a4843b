-- What events set: a write and an input their signals, and what may set none leaves all signals as they are.
use Rattle.std.proofs.Common.{◌≡◌, ℕ, ◌<◌, Bool, false, List, [], ◌∷◌, ◌++◌, length, Option, Some, get_or, set, refl, ap, ◌∙◌}
use Rattle.std.specs.Prelude.{slice_get}
use Rattle.std.proofs.lemmas.Bool.{true≢false}
use Rattle.std.proofs.lemmas.List.{get_or-set_same, get_or-set_other}
use Rattle.rapid_model.specs.CellData.{CellData}
use Rattle.rapid_model.specs.declared.answer.Answer.{Answer}
use Rattle.rapid_model.specs.declared.answer.Answer.TheVariants as answers
use Rattle.rapid_model.specs.declared.event.Event.{Event}
use Rattle.rapid_model.specs.declared.input_row.InputRow.{InputRow}
use Rattle.rapid_model.specs.declared.request.Request.{Request}
use Rattle.rapid_model.specs.declared.request.Request.TheVariants as requests
use Rattle.cell_meaning.specs.Setting.{may_set}
use Rattle.cell_meaning.specs.Since.{IsEvent}
use Rattle.cell_meaning.specs.Stored.{signals_by, signals_after, signal_after, with_input}
use Rattle.cell_meaning.proofs.MoreEvents.{event, signals_after-more}

by_none : (cell : CellData) (h : List Event) (actor : ℕ) (request : Request) (answer : Answer) (signals : List Bool) → may_set request answer ≡ false → signals_by cell h (event actor request answer) signals ≡ signals
by_none cell h actor (requests.WriteS signal value) answers.Ok signals never = absurd (true≢false never)
by_none cell h actor (requests.Input index) answers.Ok signals never = absurd (true≢false never)
by_none cell h actor (requests.ZoneTie old temporary shape signal value) (answers.Number number) signals never = absurd (true≢false never)
by_none cell h actor (requests.ZoneOn number) answers.Ok signals never = absurd (true≢false never)
by_none cell h actor (requests.Setpoint to) answers.Given signals never = absurd (true≢false never)
by_none cell h actor _ _ signals never = refl

pub all_kept : (cell : CellData) (h : List Event) (e : Event) → may_set e.request e.answer ≡ false → signals_after cell (h ++ e ∷ []) ≡ signals_after cell h
all_kept cell h e never = signals_after-more cell h e ∙ by_none cell (h ++ e ∷ []) e.actor e.request e.answer (signals_after cell h) never

-- a write
after_write : (cell : CellData) (h : List Event) (actor signal : ℕ) (value : Bool) (e : Event) → IsEvent actor (requests.WriteS signal value) answers.Ok e
    → signals_after cell (h ++ e ∷ []) ≡ set (signals_after cell h) signal value
after_write cell h actor signal value e is = signals_after-more cell h e ∙ ap (λ (x : Event). signals_by cell (h ++ e ∷ []) x (signals_after cell h)) is

pub written_is : (cell : CellData) (h : List Event) (actor signal : ℕ) (value : Bool) (e : Event) → IsEvent actor (requests.WriteS signal value) answers.Ok e → signal < length (signals_after cell h)
    → signal_after cell (h ++ e ∷ []) signal ≡ value
written_is cell h actor signal value e is within =
    ap (λ (signals : List Bool). get_or signals signal false) (after_write cell h actor signal value e is) ∙ get_or-set_same (signals_after cell h) signal value false within

pub others_kept : (cell : CellData) (h : List Event) (actor signal other : ℕ) (value : Bool) (e : Event) → IsEvent actor (requests.WriteS signal value) answers.Ok e → (other ≡ signal → ⊥)
    → signal_after cell (h ++ e ∷ []) other ≡ signal_after cell h other
others_kept cell h actor signal other value e is differ =
    ap (λ (signals : List Bool). get_or signals other false) (after_write cell h actor signal value e is) ∙ get_or-set_other (signals_after cell h) signal other value false differ

-- an input
after_input : (cell : CellData) (h : List Event) (actor index : ℕ) (row : InputRow) (e : Event) → IsEvent actor (requests.Input index) answers.Ok e → slice_get cell.inputs index ≡ Some row
    → signals_after cell (h ++ e ∷ []) ≡ set (signals_after cell h) row.signal row.value
after_input cell h actor index row e is there =
    signals_after-more cell h e ∙ ap (λ (x : Event). signals_by cell (h ++ e ∷ []) x (signals_after cell h)) is ∙ ap (λ (r : Option InputRow). with_input (signals_after cell h) r) there

pub input_is : (cell : CellData) (h : List Event) (actor index : ℕ) (row : InputRow) (e : Event) → IsEvent actor (requests.Input index) answers.Ok e → slice_get cell.inputs index ≡ Some row
    → row.signal < length (signals_after cell h) → signal_after cell (h ++ e ∷ []) row.signal ≡ row.value
input_is cell h actor index row e is there within =
    ap (λ (signals : List Bool). get_or signals row.signal false) (after_input cell h actor index row e is there) ∙ get_or-set_same (signals_after cell h) row.signal row.value false within

pub others_kept_too : (cell : CellData) (h : List Event) (actor index other : ℕ) (row : InputRow) (e : Event) → IsEvent actor (requests.Input index) answers.Ok e → slice_get cell.inputs index ≡ Some row
    → (other ≡ row.signal → ⊥) → signal_after cell (h ++ e ∷ []) other ≡ signal_after cell h other
others_kept_too cell h actor index other row e is there differ =
    ap (λ (signals : List Bool). get_or signals other false) (after_input cell h actor index row e is there) ∙ get_or-set_other (signals_after cell h) row.signal other row.value false differ
