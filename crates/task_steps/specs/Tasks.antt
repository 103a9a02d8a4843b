-- A running task, as contracts see it.
use Rattle.std.specs.Prelude.{ℕ, ◌+◌, ◌≡◌, ◌<◌, ◌≤◌, ◌*◌, ◌^◌, List, [], ◌∷◌, length, reverse, ⊤}
use Rattle.std.specs.Option.{option_map}
use Rattle.std.specs.Vec.{vec_capacity}
use Rattle.rapid_limits.specs.declared.TheConstants.{MOST_FRAMES, MOST_FRAME_VALUES}
use Rattle.typed_trees.specs.declared.datum.Datum.{Datum}
use Rattle.rapid_meaning.specs.Data.{values_in}
use Rattle.task_steps.specs.Phases.{AsksItsEnd, phase_of}
use Rattle.task_steps.specs.Points.{way_of}
use Rattle.task_steps.specs.Seen.{Seen}
use Rattle.task_steps.specs.Savings.{saved_of}
use Rattle.task_steps.specs.declared.task.Task.TheInside.{Inside}

abbrev pub seen_task : Inside → Seen
seen_task t = record {
  phase = phase_of t.stage t.asked t.then;
  conf = record { pc = t.pc; stack = t.operands.top; frame = t.frame; saved = saved_of (reverse t.rows.items) t.operands.below; way = option_map way_of t.way };
  data' = record { slots = t.slots.items; frames = t.frames.frames; errno = t.errno; trapped = t.trapped; place = t.place };
  room = record { operands = t.room; slots = length t.slots.items };
}

-- no list with more than `room` operands
abbrev pub Within : ℕ → List (List Datum) → Type 0
Within room [] = ⊤
Within room (stack ∷ more) = (length stack ≤ room) × Within room more

-- Operands and a frame for each routine; neither too many routines nor too many values; no routine with more operands
-- than allowed; room for all; and module data that a u32 counts.
pub record IsTask (t : Inside) : Type 0 where
  pub below : length t.operands.below ≡ length t.rows.items
  pub framed : length t.frames.frames ≡ length t.rows.items
  pub top : length t.operands.top ≤ t.room
  pub within : Within t.room t.operands.below
  pub few : length t.rows.items ≤ MOST_FRAMES
  pub operands : (MOST_FRAMES + 1) * t.room ≤ t.operands.room
  pub waiting : MOST_FRAMES ≤ t.operands.depth
  pub rows : MOST_FRAMES ≤ vec_capacity t.rows
  pub frames : MOST_FRAMES ≤ t.frames.depth
  pub values : MOST_FRAME_VALUES ≤ t.frames.room
  pub few_values : values_in t.frames.frames ≤ MOST_FRAME_VALUES
  pub few_slots : length t.slots.items < 2 ^ 32
  pub over : AsksItsEnd t.stage t.asked
