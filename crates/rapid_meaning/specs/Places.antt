-- Places of data, and how they are read and written (RAPID Kernel, data references).
use Rattle.std.specs.Prelude.{ℕ, ◌+◌, ◌-◌, true, false, Bool, List, [], ◌∷◌, length, Option, None, Some, slice_get}
use Rattle.std.specs.Option.{option_and_then, option_map}
use Rattle.rapid_model.specs.declared.answer.Answer.{Answer}
use Rattle.rapid_model.specs.declared.answer.Answer.TheVariants as answers
use Rattle.rapid_model.specs.declared.fate.Fault.TheVariants.{IndexRange}
use Rattle.rapid_model.specs.declared.part_name.PartName.{PartName}
use Rattle.rapid_model.specs.declared.part_name.PartName.TheVariants as parts
use Rattle.rapid_model.specs.declared.path.Path.{Path}
use Rattle.rapid_model.specs.declared.request.Request.TheVariants.{ReadP, WriteP, TestSet}
use Rattle.rapid_model.specs.declared.value.Value.{Value}
use Rattle.rapid_model.specs.declared.value.Value.TheVariants as values
use Rattle.rapid_values.specs.Values.{part_of, put_part}
use Rattle.typed_trees.specs.Plain.{TypedRoutine, TypedTree}
use Rattle.typed_trees.specs.declared.datum.Datum.{Datum}
use Rattle.typed_trees.specs.declared.datum.Datum.TheVariants as datums
use Rattle.typed_trees.specs.declared.datum.Lvalue.{Lvalue}
use Rattle.typed_trees.specs.declared.datum.Root.{Root}
use Rattle.typed_trees.specs.declared.datum.Root.TheVariants as roots
use Rattle.typed_trees.specs.declared.expr.TreeRoot.{TreeRoot}
use Rattle.typed_trees.specs.declared.expr.TreeRoot.TheVariants as tree_roots
use Rattle.rapid_values.specs.Elements.{element_number}
use Rattle.rapid_meaning.specs.Data.{Data, Frame, below_first, datum_at, put_at}
use Rattle.rapid_meaning.specs.Doings.{Doing, Gives, Misfit, Asks, Reads, Writes, Act, ◌>>=◌, ◌>>◌, done, fault, or_misfit, tells}
use Rattle.rapid_meaning.specs.Layouts.{slot_start, local_start}
use Rattle.rapid_meaning.specs.Values.{num_in, truth_in, value_in}

abbrev pub at_root : Root → Lvalue
at_root root = record { root = root; part = parts.Whole }

-- a place among the data of the innermost frame
abbrev pub own_place : ℕ → List Frame → Lvalue
own_place at frames = at_root (roots.Frame (length (below_first frames)) at)

abbrev pub place_in : Datum → Option Lvalue
place_in (datums.Place place) = Some place
place_in _ = None

-- the place that a reference parameter of the innermost frame stands for
abbrev pub kept_place : ℕ → List Frame → Option Lvalue
kept_place at [] = None
kept_place at (frame ∷ below) = option_and_then place_in (slice_get frame.values at)

-- the place of the first datum at a root
abbrev pub rooted : TypedTree → TypedRoutine → TreeRoot → Doing Lvalue
rooted tree routine (tree_roots.Slot row) = Gives (at_root (roots.Slot (slot_start tree row)))
rooted tree routine (tree_roots.Local row) = Reads (λ d. Gives (own_place (local_start routine row) d.frames))
rooted tree routine (tree_roots.Ref row) = Reads (λ d. or_misfit (kept_place (local_start routine row) d.frames))
rooted tree routine (tree_roots.Pers row) = or_misfit (option_map (λ pers. at_root (roots.Pers pers 0)) (slice_get tree.pers_of row))

-- the root of an element, counted from 1, of the array at a root
abbrev pub element_root : Root → ℕ → Root
element_root (roots.Slot slot) number = roots.Slot (slot + (number - 1))
element_root (roots.Frame frame at) number = roots.Frame frame (at + (number - 1))
element_root (roots.Pers pers index) number = roots.Pers pers number

-- the place of an element, counted from 1, of the array at a place
abbrev pub place_of_element : Lvalue → ℕ → Lvalue
place_of_element place number = record place { root = element_root place.root number }

-- the place, if its root is among these data; persistents belong to the cell
abbrev pub there_in : Data → Lvalue → Root → Option Lvalue
there_in d place (roots.Pers pers index) = Some place
there_in d place root = option_map (λ held. place) (datum_at root d)

-- the place of an element that exists
abbrev pub at_element : Lvalue → ℕ → Doing Lvalue
at_element place number = Reads (λ d. or_misfit (there_in d (place_of_element place number) (element_root place.root number)))

-- an index that is not a whole number, or outside the array, is a fault
abbrev pub element_or_fault : Lvalue → Option ℕ → Doing Lvalue
element_or_fault place None = fault IndexRange
element_or_fault place (Some number) = at_element place number

-- the element that an index names, in an array of this length
abbrev pub indexed : Option ℕ → Lvalue → Value → Doing Lvalue
indexed None place index = Misfit
indexed (Some len) place index = do
  n ← num_in index
  element_or_fault place (element_number len n)

-- a part of a part; robot and external axes are numbered together
abbrev pub part_within : PartName → PartName → Option PartName
part_within parts.Whole part = Some part
part_within outer parts.Whole = Some outer
part_within parts.Robax (parts.Axis number) = Some (parts.Axis number)
part_within parts.Extax (parts.Axis number) = Some (parts.Axis number)
part_within outer part = None

-- the part of a place
abbrev pub part_at : PartName → Lvalue → Doing Lvalue
part_at part place = or_misfit (option_map (λ inner. record place { part = inner }) (part_within place.part part))

-- a part of what a place holds; only a value has parts other than the whole
abbrev pub part_in : PartName → Datum → Option Datum
part_in part (datums.Plain v) = option_map datums.Plain (part_of v part)
part_in parts.Whole held = Some held
part_in part held = None

-- what a place holds, with a part replaced; it keeps its form
abbrev pub put_in : PartName → Datum → Datum → Option Datum
put_in part (datums.Plain new) (datums.Plain v) = option_map datums.Plain (put_part v part new)
put_in parts.Whole (datums.Mark number) (datums.Mark old) = Some (datums.Mark number)
put_in parts.Whole (datums.Shape shape) (datums.Shape old) = Some (datums.Shape shape)
put_in part new held = None

abbrev pub path_of : ℕ → PartName → Path
path_of index part = record { index = index; part = part }

abbrev pub when_read : Answer → Doing Datum
when_read (answers.Val v) = Gives (datums.Plain v)
when_read _ = Misfit

-- reads a place: a persistent by a request, other data silently
abbrev pub load_from : Root → PartName → Doing Datum
load_from (roots.Pers pers index) part = Asks (ReadP pers (path_of index part)) when_read
load_from root part = Reads (λ d. or_misfit (option_and_then (part_in part) (datum_at root d)))

abbrev pub load : Lvalue → Doing Datum
load place = load_from place.root place.part

abbrev pub read_value : Lvalue → Doing Value
read_value place = load place >>= value_in

abbrev pub writes_at : Root → Data → Option Datum → Act
writes_at root d None = Misfit
writes_at root d (Some new) = Writes (put_at root new d) done

-- writes a place: a persistent by a request, other data silently; the other parts of the datum stay
abbrev pub store_at : Root → PartName → Datum → Act
store_at (roots.Pers pers index) part new = do
  v ← value_in new
  tells (WriteP pers (path_of index part) v)
store_at root part new = Reads (λ d. writes_at root d (option_and_then (put_in part new) (datum_at root d)))

abbrev pub store : Lvalue → Datum → Act
store place new = store_at place.root place.part new

abbrev pub write_value : Lvalue → Value → Act
write_value place v = store place (datums.Plain v)

abbrev pub when_tested : Answer → Doing Bool
when_tested (answers.Yes met) = Gives met
when_tested _ = Misfit

-- TRUE if the bool variable was FALSE, which then becomes TRUE
abbrev pub set_unless : Lvalue → Bool → Doing Bool
set_unless place true = Gives false
set_unless place false = do
  write_value place (values.Bool true)
  Gives true

-- TestAndSet: a persistent by one request, a variable silently
abbrev pub test_at : Root → Lvalue → Doing Bool
test_at (roots.Pers pers index) place = Asks (TestSet pers (path_of index place.part)) when_tested
test_at root place = do
  v ← read_value place
  b ← truth_in v
  set_unless place b

abbrev pub test_and_set : Lvalue → Doing Bool
test_and_set place = test_at place.root place
