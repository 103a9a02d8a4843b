-- Each arm is at a position.
use Rattle.std.proofs.Common.{◌≡◌, ◌⊎◌, inl, inr, ℕ, Bool, true, false, cond, List, [], ◌∷◌, Option, Some, None, refl, sym, ◌∙◌, ap, subst}
use Rattle.std.specs.Prelude.{IsTrue, ◌==◌, is_some, slice_get, unwrap_or}
use Rattle.std.specs.Option.{option_and_then, option_map}
use Rattle.std.proofs.lemmas.Bool.{and_parts, eqb-true, false≢true}
use Rattle.rapid_num.specs.declared.joints.Joints.{Joints}
use Rattle.rapid_num.specs.Reach.{is_position}
use Rattle.rapid_model.specs.CellData.{CellData, IsCell}
use Rattle.rapid_model.specs.Fits.{axes_of}
use Rattle.rapid_model.specs.Limits.{is_start, is_within}
use Rattle.rapid_model.specs.Own.{part_of}
use Rattle.rapid_model.specs.Requests.{suits_task}
use Rattle.rapid_model.specs.declared.answer.Answer.{Answer}
use Rattle.rapid_model.specs.declared.answer.Answer.TheVariants as answers
use Rattle.rapid_model.specs.declared.event.Event.{Event}
use Rattle.rapid_model.specs.declared.request.Request.{Request}
use Rattle.rapid_model.specs.declared.request.Request.TheVariants as requests
use Rattle.rapid_model.specs.declared.task_row.TaskRow.{TaskRow}
use Rattle.cell_meaning.specs.Motion.{moved, arm_along, arm_after}
use Rattle.cell_meaning.specs.Premises.{AllAnswered}
use Rattle.cell_meaning.proofs.Asked.{TaskMay, ScriptMay, who_may}
use Rattle.rapid_model.proofs.Cuts.{AtEachCut, cut_if, cut_none, cut_tail}
use Rattle.rapid_model.proofs.TaskRows.{starts_at}

-- the target of a setpoint is a position of an arm with that many axes
abbrev goes_well : ℕ → Request → Bool
goes_well axes (requests.Setpoint to) = is_position axes to
goes_well axes _ = true

suited_well : (cell : CellData) (row : TaskRow) (mine : List Event) (request : Request) → IsTrue (suits_task cell row mine request) → goes_well row.axes request ≡ true
suited_well cell row mine (requests.Setpoint to) h = (and_parts (is_some row.arm) (is_position row.axes to) h).1
suited_well cell row mine _ h = refl

-- an actor's axes are those of its row
pub row_axes : (cell : CellData) (task : ℕ) (row : TaskRow) → slice_get cell.tasks task ≡ Some row → axes_of cell task ≡ row.axes
row_axes cell task row at = ap (λ (o : Option TaskRow). unwrap_or (option_map (λ (r : TaskRow). r.axes) o) 0) at

may_well : (cell : CellData) (actor : ℕ) (mine : List Event) (request : Request) → TaskMay cell actor mine request ⊎ ScriptMay cell actor mine request → goes_well (axes_of cell actor) request ≡ true
may_well cell actor mine request (inl task) =
    subst (λ (axes : ℕ). goes_well axes request ≡ true) (sym (row_axes cell actor task.row task.at)) (suited_well cell task.row mine request task.suits)
may_well cell actor mine request (inr script) = ap (goes_well (axes_of cell actor)) script.next

abbrev AllWell : CellData → List Event → Type 0
AllWell cell history = AtEachCut (λ before e. goes_well (axes_of cell e.actor) e.request ≡ true) history

-- the setpoints of one arm, with that many axes
abbrev ArmWell : ℕ → List Event → Type 0
ArmWell axes mine = AtEachCut (λ before e. goes_well axes e.request ≡ true) mine

asked_well : (cell : CellData) (history : List Event) → AllAnswered cell history → AllWell cell history
asked_well cell history asked before after e p =
    may_well cell e.actor (part_of e.actor before) e.request (who_may cell e.actor (part_of e.actor before) e.request (asked.might before after e p))

kept_if : {A : Type 0} (P : A → Type 0) (b : Bool) (x : A) (kept : List A) → (b ≡ true → P x) → AtEachCut (λ before e. P e) kept → AtEachCut (λ before e. P e) (cond b (x ∷ kept) kept)
kept_if P true x kept one rest = cut_if P true x kept (one refl) rest
kept_if P false x kept one rest = rest

well_part : (cell : CellData) (actor axes : ℕ) (history : List Event) → axes_of cell actor ≡ axes → AllWell cell history → ArmWell axes (part_of actor history)
well_part cell actor axes [] is all = cut_none (λ before e. goes_well axes e.request ≡ true)
well_part cell actor axes (e ∷ es) is all =
    kept_if (λ (x : Event). goes_well axes x.request ≡ true) (e.actor == actor) e (part_of actor es)
    (λ own. subst (λ (count : ℕ). goes_well count e.request ≡ true) (ap (axes_of cell) (eqb-true e.actor actor own) ∙ is) (all [] es e refl))
    (well_part cell actor axes es is (cut_tail (λ (x : Event). goes_well (axes_of cell x.actor) x.request ≡ true) e es all))

moved_well : (axes : ℕ) (position : Joints) (request : Request) (answer : Answer) → is_position axes position ≡ true → goes_well axes request ≡ true → is_position axes (moved position request answer) ≡ true
moved_well axes position (requests.Setpoint to) answers.Given h k = k
moved_well axes position (requests.Setpoint to) _ h k = h
moved_well axes position _ answer h k = h

along_well : (axes : ℕ) (position : Joints) (es : List Event) → is_position axes position ≡ true → ArmWell axes es → is_position axes (arm_along position es) ≡ true
along_well axes position [] h all = h
along_well axes position (e ∷ es) h all =
    along_well axes (moved position e.request e.answer) es (moved_well axes position e.request e.answer h (all [] es e refl)) (cut_tail (λ (x : Event). goes_well axes x.request ≡ true) e es all)

-- where an arm with that many axes is, if it starts so
pub record Stands (axes : ℕ) (arm : Option Joints) : Type 0 where
  pub position : Joints
  pub there : arm ≡ Some position
  pub well : is_position axes position ≡ true

arm_stands : (axes : ℕ) (arm : Option Joints) (mine : List Event) → is_some arm ≡ true → is_start axes arm ≡ true → ArmWell axes mine → Stands axes (option_and_then (λ start. Some (arm_along start mine)) arm)
arm_stands axes None mine has starts well = absurd (false≢true has)
arm_stands axes (Some start) mine has starts well =
    record { position = arm_along start mine; there = refl; well = along_well axes start mine (and_parts (is_within 6 12 axes) (is_position axes start) starts).1 well }

-- the arm of a task that has one is at a position
pub arm_well : (cell : CellData) (history : List Event) (task : ℕ) (row : TaskRow) → IsCell cell → AllAnswered cell history → slice_get cell.tasks task ≡ Some row → is_some row.arm ≡ true
    → Stands row.axes (arm_after cell history task)
arm_well cell history task row limits asked at has =
    let mine = part_of task history in
    let well = well_part cell task row.axes history (row_axes cell task row at) (asked_well cell history asked) in
    let stands = arm_stands row.axes row.arm mine has (starts_at cell.tasks task row limits.starts at) well in
    let is : arm_after cell history task ≡ option_and_then (λ start. Some (arm_along start mine)) row.arm =
    ap (λ (o : Option TaskRow). option_and_then (λ start. Some (arm_along start mine)) (option_and_then (λ (r : TaskRow). r.arm) o)) at in
    record { position = stands.position; there = is ∙ stands.there; well = stands.well }
