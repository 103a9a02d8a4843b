-- What is read off the boards instead of the history.
use Rattle.std.proofs.Common.{◌≡◌, ℕ, zero, suc, ◌<◌, ◌≤◌, Bool, false, List, [], ◌∷◌, ◌++◌, length, Option, None, Some, refl, ◌∙◌, ap, arith}
use Rattle.std.specs.Prelude.{not, ◌&&◌, ◌||◌, nat_le, nat_lt, is_some, IfSome, slice_index_or}
use Rattle.rapid_model.specs.CellData.{CellData}
use Rattle.rapid_model.specs.Limits.{holds_where_there}
use Rattle.rapid_model.specs.Own.{part_of, has_ended, is_held}
use Rattle.rapid_model.specs.Truths.{same_truth}
use Rattle.rapid_model.specs.declared.event.Event.{Event}
use Rattle.rapid_model.specs.declared.fate.Fate.{Fate}
use Rattle.rapid_model.specs.declared.input_row.InputRow.{InputRow}
use Rattle.trap_dispatch.specs.Tasks.{TaskData, is_due, look_answer}
use Rattle.trap_dispatch.specs.Traps.{task_at}
use Rattle.cell_meaning.specs.Changes.{changes_by_others}
use Rattle.cell_meaning.specs.Fates.{all_ended, is_spent, fate_after, fates_after}
use Rattle.cell_meaning.specs.Inputs.{gate_holds}
use Rattle.cell_meaning.specs.Motion.{setpoints_given}
use Rattle.cell_meaning.specs.Rising.{seen_after, can_rise}
use Rattle.cell_meaning.specs.Stalled.{all_rest}
use Rattle.cell_meaning.specs.Stored.{signals_after}
use Rattle.cell_core.specs.Actors.{actor_at}
use Rattle.cell_core.specs.Boards.{BoardData}
use Rattle.cell_core.specs.Keeping.{Keeps}
use Rattle.cell_core.specs.Reading.{all_have_fates, can_go_on, all_stand, is_passed, standing, fates_of}
use Rattle.cell_core.specs.Ready.{CanPass}
use Rattle.cell_core.specs.Answering.{made_by_others}
use Rattle.cell_core.proofs.Answering.{others_made}

pub ended_is : (cell : CellData) (history : List Event) (boards : BoardData) (steps number : ℕ) → Keeps cell history boards steps → number ≤ length cell.tasks
    → is_some (actor_at boards.actors number).end ≡ has_ended (part_of number history)
ended_is cell history boards steps number keeps within = ap (λ (told : Option Fate). is_some told) (keeps.actors number within).end

pub all_ended_is : (cell : CellData) (history : List Event) (boards : BoardData) (steps tasks : ℕ) → Keeps cell history boards steps → tasks ≤ length cell.tasks
    → all_have_fates tasks boards.actors ≡ all_ended tasks history
all_ended_is cell history boards steps zero keeps within = refl
all_ended_is cell history boards steps (suc tasks) keeps within =
    ap (λ (b : Bool). b && is_some (actor_at boards.actors tasks).end) (all_ended_is cell history boards steps tasks keeps (omega arith))
    ∙ ap (λ (b : Bool). all_ended tasks history && b) (ended_is cell history boards steps tasks keeps (omega arith))

pub can_rise_is : (cell : CellData) (history : List Event) (boards : BoardData) (steps task : ℕ) → Keeps cell history boards steps → task ≤ length cell.tasks
    → can_go_on boards task ≡ can_rise cell history task
can_rise_is cell history boards steps task keeps within =
    ap (λ (n : ℕ). nat_lt n (made_by_others boards task) || is_due (look_answer (task_at boards.traps task))) (keeps.actors task within).seen
    ∙ ap (λ (n : ℕ). nat_lt (seen_after history task) n || is_due (look_answer (task_at boards.traps task))) (others_made cell history boards steps task keeps within)
    ∙ ap (λ (ts : List TaskData). nat_lt (seen_after history task) (changes_by_others cell history task) || is_due (look_answer (task_at ts task))) keeps.traps

pub all_rest_is : (cell : CellData) (history : List Event) (boards : BoardData) (steps tasks : ℕ) → Keeps cell history boards steps → tasks ≤ length cell.tasks
    → all_stand tasks boards ≡ all_rest cell tasks history
all_rest_is cell history boards steps zero keeps within = refl
all_rest_is cell history boards steps (suc tasks) keeps within =
    let own = actor_at boards.actors tasks in
    ap (λ (b : Bool). b && (is_some own.end || (own.held && not (can_go_on boards tasks)))) (all_rest_is cell history boards steps tasks keeps (omega arith))
    ∙ ap (λ (b : Bool). all_rest cell tasks history && (b || (own.held && not (can_go_on boards tasks)))) (ended_is cell history boards steps tasks keeps (omega arith))
    ∙ ap (λ (b : Bool). all_rest cell tasks history && (has_ended (part_of tasks history) || (b && not (can_go_on boards tasks)))) (keeps.actors tasks (omega arith)).held
    ∙ ap (λ (b : Bool). all_rest cell tasks history && (has_ended (part_of tasks history) || (is_held (part_of tasks history) && not b))) (can_rise_is cell history boards steps tasks keeps (omega arith))

-- the conditions of a gate
given_is : (cell : CellData) (history : List Event) (boards : BoardData) (steps : ℕ) (given : Option (ℕ × ℕ)) → Keeps cell history boards steps → IfSome given (λ g. g.0 < length boards.actors)
    → holds_where_there (λ g. nat_le g.1 (actor_at boards.actors g.0).given) given ≡ holds_where_there (λ g. nat_le g.1 (setpoints_given history g.0)) given
given_is cell history boards steps None keeps there = refl
given_is cell history boards steps (Some g) keeps there = ap (λ (n : ℕ). nat_le g.1 n) (keeps.actors g.0 (omega (arith, there, keeps.actor_count))).given

pub gate_is : (cell : CellData) (history : List Event) (boards : BoardData) (steps : ℕ) (row : InputRow) → Keeps cell history boards steps → CanPass boards row
    → is_passed boards row ≡ gate_holds cell history row
gate_is cell history boards steps row keeps can =
    let when_on : List Bool → Bool = λ ss. holds_where_there (λ (w : ℕ × Bool). same_truth (slice_index_or ss w.0 false) w.1) row.when in
    let given_on : Bool = holds_where_there (λ (g : ℕ × ℕ). nat_le g.1 (actor_at boards.actors g.0).given) row.given in
    let given_now : Bool = holds_where_there (λ (g : ℕ × ℕ). nat_le g.1 (setpoints_given history g.0)) row.given in
    ap (λ (ss : List Bool). when_on ss && given_on && holds_where_there (λ (count : ℕ). nat_le count boards.counted) row.after) keeps.signals
    ∙ ap (λ (b : Bool). when_on (signals_after cell history) && b && holds_where_there (λ (count : ℕ). nat_le count boards.counted) row.after) (given_is cell history boards steps row.given keeps can.given)
    ∙ ap (λ (n : ℕ). when_on (signals_after cell history) && given_now && holds_where_there (λ (count : ℕ). nat_le count n) row.after) keeps.counted_same

-- a task stands with the fate that its end and the spent steps give it
pub fate_is : (cell : CellData) (history : List Event) (boards : BoardData) (steps task : ℕ) → Keeps cell history boards steps → task ≤ length cell.tasks
    → standing (is_spent cell history) (actor_at boards.actors task).end ≡ fate_after cell history task
fate_is cell history boards steps task keeps within = ap (λ (end : Option Fate). standing (is_spent cell history) end) (keeps.actors task within).end

pub fates_are : (cell : CellData) (history : List Event) (boards : BoardData) (steps tasks : ℕ) → Keeps cell history boards steps → tasks ≤ length cell.tasks
    → fates_of (is_spent cell history) tasks boards.actors ≡ fates_after cell history tasks
fates_are cell history boards steps zero keeps within = refl
fates_are cell history boards steps (suc tasks) keeps within =
    ap (λ (fates : List Fate). fates ++ standing (is_spent cell history) (actor_at boards.actors tasks).end ∷ []) (fates_are cell history boards steps tasks keeps (omega arith))
    ∙ ap (λ (fate : Fate). fates_after cell history tasks ++ fate ∷ []) (fate_is cell history boards steps tasks keeps (omega arith))
