-- The data of a task, numbered as in its code: an array takes one place for each element. A frame has the parameters,
-- then the routine's data element by element, then three for each FOR: its variable, its last value and its step. A
-- frame is named by the number of frames below it.
use Rattle.std.specs.Prelude.{ℕ, ◌==◌, Bool, List, [], ◌∷◌, length, sum_by, Option, None, Some, if◌then◌else◌, slice_get, slice_set}
use Rattle.std.specs.Option.{option_and_then}
use Rattle.rapid_model.specs.declared.at.At.{At}
use Rattle.typed_trees.specs.declared.datum.Datum.{Datum}
use Rattle.typed_trees.specs.declared.datum.Root.{Root}
use Rattle.typed_trees.specs.declared.datum.Root.TheVariants as roots

-- the data of a routine that was called, and the count of changes by others that the last Look of its statements found
pub record Frame : Type 0 where
  pub values : List Datum
  pub seen : ℕ

-- the modules' data; the frames, innermost first; ERRNO; whether a trap is running; the place of the last Look
pub record Data : Type 0 where
  pub slots : List Datum
  pub frames : List Frame
  pub errno : ℕ
  pub trapped : Bool
  pub place : Option At

-- the frame with this many frames below it
unfoldable pub frame_at : List Frame → ℕ → Option Frame
frame_at [] number = None
frame_at (frame ∷ below) number = if length below == number then Some frame else frame_at below number

-- the frames with that frame replaced
unfoldable pub with_frame : List Frame → ℕ → Frame → List Frame
with_frame [] number new = []
with_frame (frame ∷ below) number new = if length below == number then new ∷ below else frame ∷ with_frame below number new

-- the number of values in all frames
abbrev pub values_in : List Frame → ℕ
values_in frames = sum_by (λ frame. length frame.values) frames

-- what a place of the task's own data holds
abbrev pub datum_at : Root → Data → Option Datum
datum_at (roots.Slot slot) d = slice_get d.slots slot
datum_at (roots.Frame frame at) d = option_and_then (λ f. slice_get f.values at) (frame_at d.frames frame)
datum_at (roots.Pers pers index) d = None

abbrev pub with_datum : Frame → ℕ → Datum → Frame
with_datum frame at new = record frame { values = slice_set frame.values at new }

abbrev pub put_in_frame : List Frame → ℕ → ℕ → Datum → Option Frame → List Frame
put_in_frame frames number at new None = frames
put_in_frame frames number at new (Some frame) = with_frame frames number (with_datum frame at new)

-- the data with this datum at a place of the task's own
abbrev pub put_at : Root → Datum → Data → Data
put_at (roots.Slot slot) new d = record d { slots = slice_set d.slots slot new }
put_at (roots.Frame frame at) new d = record d { frames = put_in_frame d.frames frame at new (frame_at d.frames frame) }
put_at (roots.Pers pers index) new d = d

-- the frames after a Look of the innermost one that found this count of changes
abbrev pub with_seen : ℕ → List Frame → List Frame
with_seen seen [] = []
with_seen seen (frame ∷ below) = record frame { seen = seen } ∷ below

abbrev pub seen_in : List Frame → ℕ
seen_in [] = 0
seen_in (frame ∷ below) = frame.seen

-- the frames without the innermost
abbrev pub below_first : List Frame → List Frame
below_first [] = []
below_first (frame ∷ below) = below
