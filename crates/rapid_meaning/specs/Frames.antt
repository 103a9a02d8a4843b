-- The data of a task at its start, and of a routine at its call (RAPID Kernel, data declarations).
use Rattle.std.specs.Prelude.{◌+◌, ◌*◌, ◌&&◌, nat_lt, nat_le, Bool, false, List, [], ◌∷◌, ◌++◌, length, replicate, flat_map, None, if◌then◌else◌}
use Rattle.rapid_limits.specs.declared.TheConstants.{MOST_FRAMES, MOST_FRAME_VALUES}
use Rattle.rapid_model.specs.declared.fate.Fault.TheVariants.{DepthLimit}
use Rattle.typed_trees.specs.Plain.{TypedRoutine, TypedTree}
use Rattle.typed_trees.specs.declared.datum.Datum.{Datum}
use Rattle.typed_trees.specs.declared.datum.Datum.TheVariants.{Plain}
use Rattle.rapid_meaning.specs.Data.{Data, Frame, below_first, values_in}
use Rattle.rapid_meaning.specs.Doings.{Reads, Writes, Act, done, change, fault}
use Rattle.rapid_meaning.specs.Values.{whole}

-- module data have their initial values, ERRNO is 0, and no routine has been called
abbrev pub initial : TypedTree → Data
initial tree = record { slots = flat_map (λ row. row.first) tree.slots; frames = []; errno = 0; trapped = false; place = None }

-- the initial values of a routine's own data, and of its FORs
abbrev pub first_values : TypedRoutine → List Datum
first_values routine = flat_map (λ row. row.first) routine.locals ++ replicate (3 * routine.loops) (Plain (whole 0))

abbrev pub frame_of : TypedRoutine → List Datum → Frame
frame_of routine args = record { values = args ++ first_values routine; seen = 0 }

-- another frame keeps to the limits on frames and on their values in all
abbrev pub has_room : List Frame → Frame → Bool
has_room frames frame = nat_lt (length frames) MOST_FRAMES && nat_le (values_in frames + length frame.values) MOST_FRAME_VALUES

abbrev pub enters : Frame → Act
enters frame = Reads (λ d. if has_room d.frames frame then Writes (record d { frames = frame ∷ d.frames }) done else fault DepthLimit)

-- leaves the routine
abbrev pub leaves : Act
leaves = change (λ d. record d { frames = below_first d.frames })
