-- The data of the active routines.
use Rattle.std.specs.Prelude.{ℕ, ◌+◌, ◌-◌, ◌==◌, nat_lt, List, [], ◌∷◌, length, map, take, drop, slice_get, slice_set, Option, None, Some, if◌then◌else◌}
use Rattle.std.specs.Option.{option_map_or}
use Rattle.typed_trees.specs.declared.datum.Datum.{Datum}
use Rattle.rapid_meaning.specs.Data.{Frame}
use Rattle.machine_stacks.specs.declared.mark.Mark.{Mark}

-- the frames, the innermost first, and the room for values in all and for frames
pub record FrameStack : Type 0 where
  pub frames : List Frame
  pub room : ℕ
  pub depth : ℕ

abbrev pub bases_of : List Mark → List ℕ
bases_of marks = map (λ mark. mark.base) marks

-- the frames whose values stand one after the other in a list; the marks, the innermost first, say where each begins
abbrev pub frames_in : List Datum → List Mark → List Frame
frames_in values [] = []
frames_in values (mark ∷ marks) = record { values = drop mark.base values; seen = mark.seen } ∷ frames_in (take mark.base values) marks

-- where the values of a frame that begins at an index stand, in a list of this length
abbrev pub index_behind : ℕ → ℕ → ℕ → Option ℕ
index_behind base len at = if nat_lt at (len - base) then Some (base + at) else None

-- where a value of the frame with so many below it stands in a list of this length
unfoldable pub index_in : ℕ → List Mark → ℕ → ℕ → Option ℕ
index_in len [] frame at = None
index_in len (mark ∷ marks) frame at = if length marks == frame then index_behind mark.base len at else index_in mark.base marks frame at

-- by the marks from the first frame on, a frame ends where the next one begins, and the last one with the list
abbrev pub end_of : ℕ → List Mark → ℕ → ℕ
end_of len marks next = option_map_or (λ mark. mark.base) (slice_get marks next) len

-- the list with a datum at an index, if there is one
abbrev pub written : Option ℕ → Datum → List Datum → List Datum
written None new values = values
written (Some index) new values = slice_set values index new
