-- Places at the gate's table, and what is in hand there.
use Rattle.std.specs.Prelude.{◌≡◌, ℕ, ◌<◌, ◌^◌, Bool, true, false, [], ◌∷◌, length, Option, None, Some}
use mathlib.Core.List.{IsPrefix}
use Rattle.atomic_table.specs.Seated.{TableId}
use Rattle.atomic_table.specs.declared.shared.Seat.{Seat}
use Rattle.rapid_model.specs.Own.{part_of}
use Rattle.cell_core.specs.CoreData.{CoreData}
use Rattle.cell_gate.specs.declared.caller.Caller.{Caller}
use Rattle.cell_gate.specs.declared.part.Part.{Part}
use Rattle.cell_gate.specs.declared.view.View.{View}
use Rattle.cell_gate.specs.GateData.{GateData}
use Rattle.cell_gate.specs.PassData.{PassData}
use Rattle.cell_gate.specs.Steps.{Hand}
use Rattle.cell_gate.specs.Turn.{GainedIf}
use Rattle.cell_gate.specs.Views.{after_take}

-- the words are the turn and the count, and the slot is the core's
abbrev pub IsSized : TableId → Type 0
IsSized table = (table.words ≡ 2) × (table.slots ≡ 1)

abbrev pub IsPlaceOf : TableId → Seat (Option CoreData) View → Type 0
IsPlaceOf table place = (place.table_id ≡ table) × IsSized table

-- the same place at the same table
pub record IsSamePlace (old new : Seat (Option CoreData) View) : Type 0 where
  pub table_is : new.table_id ≡ old.table_id
  pub id_is : new.id ≡ old.id

-- the gate of a place
abbrev pub gate_of : Seat (Option CoreData) View → GateData
gate_of place = record { cell = place.me.0.cell; table = place.table_id }

-- the caller has the same place, speaks for the same actor, and has seen as many events
pub record IsSameCaller (old new : Caller) : Type 0 where
  pub place : IsSamePlace old.place new.place
  pub actor_is : new.actor ≡ old.actor
  pub len_is : new.len ≡ old.len

-- what contracts see of the pass of an actor at the table
abbrev pub pass_of : Caller → PassData
pass_of caller =
    record { gate = gate_of caller.place; actor = caller.actor; seen = caller.place.me.0.seen; mine = caller.place.me.0.mine; looks = caller.place.me.0.looks }

-- what a pass knows of the history
abbrev pub part_told : PassData → Part
part_told p = record { actor = p.actor; seen = p.seen; mine = p.mine }

-- in hand are neither the turn nor the slot
pub record IsIdle (hand : Hand) : Type 0 where
  pub no_turn : hand.0.holds ≡ false
  pub live : hand.0.spent ≡ false
  pub no_slot : hand.1 ≡ []

-- what is in hand at the place of an actor that has seen and done nothing
pub record IsNew (actor : ℕ) (hand : Hand) : Type 0 where
  pub idle : IsIdle hand
  pub actor_is : hand.0.actor ≡ actor
  pub alone : hand.0.joined ≡ []
  pub seen : hand.0.seen ≡ []
  pub mine : hand.0.mine ≡ []
  pub looks : hand.0.looks ≡ 0

-- an actor between two calls: nothing was merged into its view, and it has counted what it has seen
pub record IsBetweenCalls (caller : Caller) : Type 0 where
  pub idle : IsIdle caller.place.me
  pub actor_is : caller.place.me.0.actor ≡ caller.actor
  pub alone : caller.place.me.0.joined ≡ []
  pub len : length caller.place.me.0.seen ≡ caller.len

-- the turn was taken, and the core, with the whole history, is out of the slot
pub record HasTaken (before : Hand) (core : CoreData) (after : Hand) : Type 0 where
  pub me : after ≡ (after_take before.0 core.history, (0, None) ∷ [])
  pub cell : core.cell ≡ before.0.cell
  pub begins : IsPrefix before.0.seen core.history
  pub mine : before.0.mine ≡ part_of before.0.actor core.history

-- the view of an actor in its turn
pub record InTurn (v : View) : Type 0 where
  pub holds : v.holds ≡ true
  pub opened : v.fresh ≡ false
  pub live : v.spent ≡ false
  pub alone : v.joined ≡ []
  pub mine : v.mine ≡ part_of v.actor v.seen

-- an actor in its turn, with the slot empty, and the core, which gained an event of the actor if `grew`
pub record MaySettle (caller : Caller) (core : CoreData) (grew : Bool) : Type 0 where
  pub turn : InTurn caller.place.me.0
  pub slot : caller.place.me.1 ≡ (0, None) ∷ []
  pub actor_is : caller.place.me.0.actor ≡ caller.actor
  pub cell : core.cell ≡ caller.place.me.0.cell
  pub grows : GainedIf caller.place.me.0.actor caller.place.me.0.seen core.history grew

-- what is in hand during a turn, with the core in the slot, which gained an event of the actor if `grew`
pub record MayCount (hand : Hand) (grew : Bool) : Type 0 where
  pub core : CoreData
  pub slot : hand.1 ≡ (0, Some core) ∷ []
  pub turn : InTurn hand.0
  pub grows : GainedIf hand.0.actor hand.0.seen core.history grew
  pub few : length core.history < 2 ^ 64
