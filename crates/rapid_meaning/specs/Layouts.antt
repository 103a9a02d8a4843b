-- Where the data of a tree's rows begin.
use Rattle.std.specs.Prelude.{ℕ, List, map, ◌++◌, length, take, replicate, sum, Option, None, slice_get}
use Rattle.std.specs.Option.{option_and_then}
use Rattle.rapid_model.specs.Sorts.{width}
use Rattle.typed_trees.specs.Plain.{TypedRoutine, TypedTree}
use Rattle.typed_trees.specs.declared.expr.TreeRoot.{TreeRoot}
use Rattle.typed_trees.specs.declared.expr.TreeRoot.TheVariants as roots

-- how many places each row of the module data takes
abbrev pub slot_widths : TypedTree → List ℕ
slot_widths tree = map (λ row. width row.len) tree.slots

-- the lengths of a routine's parameters and data, if they are arrays of its own
abbrev pub local_lengths : TypedRoutine → List (Option ℕ)
local_lengths routine = replicate (length routine.params) None ++ map (λ row. row.len) routine.locals

-- how many places a routine's parameters, data and FORs take
abbrev pub local_widths : TypedRoutine → List ℕ
local_widths routine = map width (local_lengths routine) ++ replicate routine.loops 3

-- the place of the first datum of a row
abbrev pub slot_start : TypedTree → ℕ → ℕ
slot_start tree row = sum (take row (slot_widths tree))

abbrev pub local_start : TypedRoutine → ℕ → ℕ
local_start routine row = sum (take row (local_widths routine))

-- the length of the array at a root
abbrev pub length_at : TypedTree → TypedRoutine → TreeRoot → Option ℕ
length_at tree routine (roots.Slot row) = option_and_then (λ s. s.len) (slice_get tree.slots row)
length_at tree routine (roots.Local row) = option_and_then (λ len. len) (slice_get (local_lengths routine) row)
length_at tree routine (roots.Ref row) = None
length_at tree routine (roots.Pers row) = option_and_then (λ p. p.len) (slice_get tree.pers row)
