-- What a core keeps before the first event.
use Rattle.std.proofs.Common.{◌≡◌, ℕ, zero, suc, ◌+◌, ◌≤◌, Bool, cond, List, [], ◌∷◌, length, map, replicate, Option, Some, None, Result, Ok, Err, refl, sym, ◌∙◌, ap, subst, arith, length-append}
use Rattle.std.specs.Prelude.{is_some, slice_get}
use Rattle.std.specs.Option.{option_and_then}
use Rattle.std.specs.Result.{IfOk, OkIff, result_ok}
use Rattle.std.proofs.lemmas.Option.{none-some, same_Some}
use Rattle.std.proofs.lemmas.List.{length-map}
use Rattle.std.proofs.lemmas.List.Sums.{sum_by-cons}
use Rattle.rapid_num.specs.declared.joints.Joints.{Joints}
use Rattle.rapid_model.specs.CellData.{CellData, IsCell}
use Rattle.rapid_model.specs.declared.pers_cell.PersCell.{PersCell}
use Rattle.rapid_model.specs.declared.sort.Sort.{Sort}
use Rattle.rapid_model.specs.declared.task_row.TaskRow.{TaskRow}
use Rattle.rapid_model.specs.declared.value.Value.{Value}
use Rattle.persist_store.specs.Stores.{PersData, first_row}
use Rattle.sync_tasks.specs.Meetings.{MeetingsData, before_all as no_stands}
use Rattle.trap_dispatch.specs.Tasks.{TaskData, before_all as no_interrupts}
use Rattle.world_zones.specs.Zones.{ZonesData, before_all as no_own_zones}
use Rattle.cell_meaning.specs.Premises.{StartsFull}
use Rattle.rapid_model.proofs.Cuts.{cut_none}
use Rattle.cell_core.specs.Actors.{before, actor_at}
use Rattle.cell_core.specs.Boards.{BoardData, actors_of, boards_of}
use Rattle.cell_core.specs.Keeping.{Tells, Keeps, fates_count}
use Rattle.cell_core.specs.Soundness.{IsServed}
use Rattle.cell_core.specs.declared.actor.Actor.{Actor}

-- what a call that succeeded gave
pub gave : {T E : Type 0} (r : Result T E) (x : T) (P : T → Type 0) → Some x ≡ result_ok r → IfOk r P → P x
gave (Ok y) x P is so = subst P (sym (same_Some x y is)) so
gave (Err e) x P is so = absurd (none-some x (sym is))

pub converted : {T E : Type 0} (r : Result T E) (x v : T) (P : Type 0) → Some x ≡ result_ok r → OkIff r P v → x ≡ v
converted (Ok y) x v P is so = same_Some x y is ∙ so.1
converted (Err e) x v P is so = absurd (none-some x (sym is))

-- boards that begin as a cell does are those before the first event
pub begun : (cell : CellData) (store : List PersData) (signals : List Bool) (meetings : MeetingsData) (traps : List TaskData) (zones : ZonesData) (actors : List Actor)
    → store ≡ map first_row cell.pers → signals ≡ map (λ row. row.start) cell.signals → meetings ≡ no_stands (length cell.tasks) (length cell.meetings)
    → traps ≡ replicate (length cell.tasks) no_interrupts → zones ≡ no_own_zones cell → actors ≡ actors_of cell.tasks
    → ◌≡◌ {A = BoardData} (record { store = store; signals = signals; meetings = meetings; traps = traps; zones = zones; actors = actors; counted = 0; changes = 0 }) (boards_of cell)
begun cell store signals meetings traps zones actors s g m t z a = rw (s, g, m, t, z, a) refl

-- where an arm is at the start, if the task has one
abbrev start_of : List TaskRow → ℕ → Option Joints
start_of rows task = option_and_then (λ row. row.arm) (slice_get rows task)

actor_starts : (rows : List TaskRow) (number : ℕ) → number ≤ length rows → actor_at (actors_of rows) number ≡ before (start_of rows number)
actor_starts [] zero h = refl
actor_starts [] (suc number) h = absurd (omega arith)
actor_starts (row ∷ rows) zero h = refl
actor_starts (row ∷ rows) (suc number) h = actor_starts rows number (omega arith)

same_arm : (arm : Option Joints) → arm ≡ option_and_then (λ start. Some start) arm
same_arm None = refl
same_arm (Some start) = refl

starts_told : (cell : CellData) (number : ℕ) → Tells cell [] number (before (start_of cell.tasks number)) 0
starts_told cell number = record {
  arm = same_arm (start_of cell.tasks number);
  end = refl;
  held = refl;
  seen = refl;
  given = refl;
  begun = refl;
  left = refl;
  events = refl;
  made = refl;
}

no_fate : (rows : List TaskRow) → fates_count (actors_of rows) ≡ 0
no_fate [] = refl
no_fate (row ∷ rows) = omega (arith, sum_by-cons (λ (a : Actor). cond (is_some a.end) 1 0) (before row.arm) (actors_of rows), no_fate rows)

same_rows : (rows : List PersCell) → (map (λ (r : PersData). r.sort) (map first_row rows) ≡ map (λ (r : PersCell). r.sort) rows) × (map (λ (r : PersData). r.len) (map first_row rows) ≡ map (λ (r : PersCell). r.len) rows)
same_rows [] = (refl, refl)
same_rows (row ∷ rows) =
    (ap (λ (rest : List Sort). row.sort ∷ rest) (same_rows rows).0, ap (λ (rest : List (Option ℕ)). row.len ∷ rest) (same_rows rows).1)

first_elements : (rows : List PersCell) → map (λ (r : PersData). r.values) (map first_row rows) ≡ map (λ (r : PersCell). r.first) rows
first_elements [] = refl
first_elements (row ∷ rows) = ap (λ (rest : List (List Value)). row.first ∷ rest) (first_elements rows)

pub Keeps-none : (cell : CellData) (boards : BoardData) (steps : ℕ) → IsCell cell → StartsFull cell → boards ≡ boards_of cell → steps ≡ cell.steps → Keeps cell [] boards steps
Keeps-none cell boards steps limits full are steps_are = subst (λ (b : BoardData). Keeps cell [] b steps) (sym are) (record {
  limits = limits;
  full = full;
  sound = record { at = cut_none (λ before e. IsServed cell before e) };
  pers = same_rows cell.pers;
  store = first_elements cell.pers;
  signals = refl;
  meetings = refl;
  traps = refl;
  zones = refl;
  actor_count = length-append (map (λ (row : TaskRow). before row.arm) cell.tasks) (before None ∷ []) ∙ ap (λ (n : ℕ). n + 1) (length-map cell.tasks (λ (row : TaskRow). before row.arm));
  actors = λ number h. subst (λ (a : Actor). Tells cell [] number a 0) (sym (actor_starts cell.tasks number h)) (starts_told cell number);
  steps_same = steps_are;
  counted_same = refl;
  changes_few = omega arith;
  within = omega arith;
  script_on = ap (λ (a : Actor). a.end) (actor_starts cell.tasks (length cell.tasks) (omega arith));
  inputs_within = omega (arith, ap (λ (a : Actor). a.events) (actor_starts cell.tasks (length cell.tasks) (omega arith)));
  events = omega (arith, no_fate cell.tasks, ap (λ (a : Actor). a.events) (actor_starts cell.tasks (length cell.tasks) (omega arith)));
})
