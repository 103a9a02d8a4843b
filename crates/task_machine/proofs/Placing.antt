-- What asks a Look has kept its place first.
use Rattle.std.proofs.Common.{ℕ, zero, suc, ◌+◌, ◌/◌, ◌%◌, ◌==◌, Bool, true, false, not, ℤ, pos, negsuc, List, [], ◌∷◌, Option, None, Some, Result, Ok, Err, if◌then◌else◌}
use Rattle.std.specs.Option.{option_map}
use Rattle.std.specs.Ordering.{int_eq}
use Rattle.std.specs.Prelude.{IsSome, ⊤, ◌&&◌, bytes_eq, int_lt, nat_le, nat_lt, position}
use Rattle.rapid_limits.specs.declared.TheConstants.{MOST_TASKS}
use Rattle.rapid_num.specs.Reach.{is_reachable}
use Rattle.rapid_num.specs.declared.joints.Joints.{Joints}
use Rattle.rapid_num.specs.declared.shape.Shape.{Shape}
use Rattle.joint_clip.specs.Shapes.{made_shape}
use Rattle.joint_clip.specs.declared.shape_fault.ShapeFault.{ShapeFault}
use Rattle.rapid_model.specs.Fits.{Fitting}
use Rattle.rapid_model.specs.declared.answer.Answer.{Answer}
use Rattle.rapid_model.specs.declared.answer.Answer.TheVariants as answers
use Rattle.rapid_model.specs.declared.fate.Fault.TheVariants.{JointRange, RaiseRange, SignalValue, Speed}
use Rattle.rapid_model.specs.declared.part_name.PartName.{PartName}
use Rattle.rapid_model.specs.declared.request.Request.{Request}
use Rattle.rapid_model.specs.declared.request.Request.TheVariants.{Look, Position}
use Rattle.rapid_model.specs.declared.value.Value.{Value}
use Rattle.rapid_model.specs.declared.value.Value.TheVariants as values
use Rattle.rapid_values.specs.Elements.{element_number}
use Rattle.typed_trees.specs.declared.datum.Datum.{Datum}
use Rattle.typed_trees.specs.declared.datum.Datum.TheVariants as datums
use Rattle.typed_trees.specs.declared.datum.Lvalue.{Lvalue}
use Rattle.typed_trees.specs.declared.datum.Root.{Root}
use Rattle.typed_trees.specs.declared.datum.Root.TheVariants as roots
use Rattle.rapid_meaning.specs.Answering.{Outcome, Asking, performed}
use Rattle.rapid_meaning.specs.Data.{Data}
use Rattle.rapid_meaning.specs.Doings.{Doing, Gives, Raises, Asks, Ends, Misfit, Reads, Writes, Does, ◌>>=◌, after, fault, or_misfit}
use Rattle.rapid_meaning.specs.Flows.{Way}
use Rattle.rapid_meaning.specs.Interrupts.{when_connected, when_known, when_ordered}
use Rattle.rapid_meaning.specs.Meetings.{task_or_fault, with_task, with_tasks}
use Rattle.rapid_meaning.specs.Moves.{aim, cap_of, when_given, when_located}
use Rattle.rapid_meaning.specs.Places.{at_element, element_or_fault, indexed, load, load_from, part_at, part_within, read_value, set_unless, store, store_at, test_and_set, test_at, when_read, write_value, writes_at}
use Rattle.rapid_meaning.specs.Signals.{when_written}
use Rattle.rapid_meaning.specs.Statements.{raised}
use Rattle.rapid_meaning.specs.Values.{applied, bit_in, num_in, opposite, target_in, text_in, tool_speed_in, truth_in, value_in, with_sign}
use Rattle.rapid_meaning.specs.Zones.{define, define_home, defined, home_high, home_low, on_axes, position_or_fault, shaped, when_numbered, when_zoned}
use Rattle.rapid_values.specs.declared.applied.Applied.{Applied}
use Rattle.rapid_values.specs.declared.applied.Applied.TheVariants as applies
use Rattle.stack_code.specs.CodeRuns.{no_part}

-- a Look is asked with a place
abbrev pub Due : Request → Data → Type 0
Due Look d = IsSome d.place
Due request d = ⊤

-- what a doing asks first, with these data
abbrev pub Placed : {A : Type 0} → Doing A → Data → Type 0
Placed (Asks request k) d = Due request d
Placed (Reads k) d = Placed (k d) d
Placed (Writes e m) d = Placed m e
Placed m d = ⊤

-- one after the other
pub placed_after : {A B : Type 0} (m : Doing A) (f : A → Doing B) (r : ℕ → Doing B) (d : Data) → Placed m d → ((v : A) (e : Data) → Placed (f v) e) → ((n : ℕ) (e : Data) → Placed (r n) e)
    → Placed (after m f r) d
unfolding after
placed_after (Gives v) f r d own next failed = next v d
placed_after (Raises n) f r d own next failed = failed n d
placed_after (Asks request k) f r d own next failed = own
placed_after (Ends fate) f r d own next failed = tt
placed_after Misfit f r d own next failed = tt
placed_after (Reads k) f r d own next failed = placed_after (k d) f r d own next failed
placed_after (Writes e m) f r d own next failed = placed_after m f r e own next failed
placed_after (Does p k h) f r d own next failed = tt

pub placed_then : {A B : Type 0} (m : Doing A) (f : A → Doing B) (d : Data) → Placed m d → ((v : A) (e : Data) → Placed (f v) e) → Placed (m >>= f) d
placed_then m f d own next = placed_after m f Raises d own next (λ n e. tt)

pub placed_if : {A : Type 0} (b : Bool) (m n : Doing A) (d : Data) → Placed m d → Placed n d → Placed (if b then m else n) d
placed_if true m n d own other = own
placed_if false m n d own other = other

-- the data when it asks
abbrev pub AskedWith : {A : Type 0} → Outcome A → Type 0
AskedWith (Asking request d) = Due request d
AskedWith o = ⊤

pub placed_asks : {A : Type 0} (by : Bool → Fitting) (m : Doing A) (d : Data) → Placed m d → AskedWith (performed by no_part m d [])
unfolding performed
placed_asks by (Gives v) d own = tt
placed_asks by (Raises n) d own = tt
placed_asks by (Asks request k) d own = own
placed_asks by (Ends fate) d own = tt
placed_asks by Misfit d own = tt
placed_asks by (Reads k) d own = placed_asks by (k d) d own
placed_asks by (Writes e m) d own = placed_asks by m e own
placed_asks by (Does p k h) d own = tt

-- what is expected of data and values
pub placed_or_misfit : {A : Type 0} (o : Option A) (d : Data) → Placed (or_misfit o) d
placed_or_misfit None d = tt
placed_or_misfit (Some v) d = tt

pub placed_value : (x : Datum) (d : Data) → Placed (value_in x) d
placed_value (datums.Plain v) d = tt
placed_value x d = tt

pub placed_num : (v : Value) (d : Data) → Placed (num_in v) d
placed_num (values.Num n) d = tt
placed_num v d = tt

pub placed_truth : (v : Value) (d : Data) → Placed (truth_in v) d
placed_truth (values.Bool b) d = tt
placed_truth v d = tt

pub placed_text : (v : Value) (d : Data) → Placed (text_in v) d
placed_text (values.Text text) d = tt
placed_text v d = tt

pub placed_target : (v : Value) (d : Data) → Placed (target_in v) d
placed_target (values.Target joints) d = tt
placed_target v d = tt

pub placed_speed : (v : Value) (d : Data) → Placed (tool_speed_in v) d
placed_speed (values.Speed (tool ∷ others)) d = tt
placed_speed v d = tt

pub placed_bit : (v : Value) (d : Data) → Placed (bit_in v) d
placed_bit (values.Num n) d =
    let last : Placed (if int_eq n (pos 1_000) then Gives true else fault SignalValue) d = placed_if {A = Bool} (int_eq n (pos 1_000)) (Gives true) (fault SignalValue) d tt tt in
    placed_if {A = Bool} (int_eq n (pos 0)) (Gives false) (if int_eq n (pos 1_000) then Gives true else fault SignalValue) d tt last
placed_bit v d = tt

pub placed_sign : (v : Value) (d : Data) → Placed (with_sign true v) d
placed_sign (values.Num n) d = tt
placed_sign v d = tt

pub placed_not : (v : Value) (d : Data) → Placed (opposite v) d
placed_not (values.Bool b) d = tt
placed_not v d = tt

pub placed_applied : (a : Applied) (d : Data) → Placed (applied a) d
placed_applied (applies.Gives v) d = tt
placed_applied (applies.Raises n) d = tt
placed_applied applies.OutOfRange d = tt
placed_applied applies.Unfit d = tt

pub placed_raised : (v : Value) (d : Data) → Placed (raised v) d
placed_raised (values.Num (pos n)) d = placed_if {A = ⊤} (n % 1_000 == 0 && nat_le 1 (n / 1_000) && nat_le (n / 1_000) 90) (Raises (n / 1_000)) (fault RaiseRange) d tt tt
placed_raised (values.Num (negsuc n)) d = tt
placed_raised v d = tt

-- places
pub placed_read : (a : Answer) (d : Data) → Placed (when_read a) d
placed_read (answers.Val v) d = tt
placed_read a d = tt

placed_load_from : (root : Root) (part : PartName) (d : Data) → Placed (load_from root part) d
placed_load_from (roots.Pers pers index) part d = tt
placed_load_from root part d = placed_or_misfit _ d

pub placed_load : (p : Lvalue) (d : Data) → Placed (load p) d
placed_load p d = placed_load_from p.root p.part d

pub placed_read_value : (p : Lvalue) (d : Data) → Placed (read_value p) d
placed_read_value p d = placed_then (load p) value_in d (placed_load p d) placed_value

placed_writes : (root : Root) (d : Data) (new : Option Datum) → Placed (writes_at root d new) d
placed_writes root d None = tt
placed_writes root d (Some new) = tt

placed_store_at : (root : Root) (part : PartName) (new : Datum) (d : Data) → Placed (store_at root part new) d
placed_store_at (roots.Pers pers index) part new d = placed_then (value_in new) _ d (placed_value new d) (λ v e. tt)
placed_store_at root part new d = placed_writes root d _

pub placed_store : (p : Lvalue) (new : Datum) (d : Data) → Placed (store p new) d
placed_store p new d = placed_store_at p.root p.part new d

placed_element : (p : Lvalue) (o : Option ℕ) (d : Data) → Placed (element_or_fault p o) d
placed_element p None d = tt
placed_element p (Some number) d = placed_or_misfit _ d

pub placed_indexed : (len : ℕ) (p : Lvalue) (v : Value) (d : Data) → Placed (indexed (Some len) p v) d
placed_indexed len p v d = placed_then (num_in v) _ d (placed_num v d) (λ n e. placed_element p (element_number len n) e)

pub placed_part : (part : PartName) (p : Lvalue) (d : Data) → Placed (part_at part p) d
placed_part part p d = placed_or_misfit (option_map (λ inner. record p { part = inner }) (part_within p.part part)) d

placed_set_unless : (p : Lvalue) (b : Bool) (d : Data) → Placed (set_unless p b) d
placed_set_unless p true d = tt
placed_set_unless p false d = placed_then (write_value p (values.Bool true)) _ d (placed_store p (datums.Plain (values.Bool true)) d) (λ v e. tt)

placed_own_test : (p : Lvalue) (d : Data) → Placed (read_value p >>= λ v. truth_in v >>= λ b. set_unless p b) d
placed_own_test p d = placed_then (read_value p) _ d (placed_read_value p d) (λ v e. placed_then (truth_in v) _ e (placed_truth v e) (λ b f. placed_set_unless p b f))

placed_test_at : (root : Root) (p : Lvalue) (d : Data) → Placed (test_at root p) d
placed_test_at (roots.Pers pers index) p d = tt
placed_test_at root p d = placed_own_test p d

pub placed_test : (p : Lvalue) (d : Data) → Placed (test_and_set p) d
placed_test p d = placed_test_at p.root p d

-- meetings
pub placed_task : (o : Option ℕ) (d : Data) → Placed (task_or_fault o) d
placed_task None d = tt
placed_task (Some task) d = placed_if {A = ℕ} (nat_lt task MOST_TASKS) (Gives task) Misfit d tt tt

pub placed_tasks : (names : List (List ℕ)) (list : Lvalue) (left number set : ℕ) (d : Data) → Placed (with_tasks names list left number set) d
unfolding with_tasks
placed_tasks names list zero number set d = tt
placed_tasks names list (suc left) number set d =
    placed_then (at_element list number) _ d (placed_or_misfit _ d) (λ place e.
    placed_then (read_value place) _ e (placed_read_value place e) (λ v f.
    placed_then (text_in v) _ f (placed_text v f) (λ name g.
    placed_then (task_or_fault (position (bytes_eq name) names)) _ g (placed_task (position (bytes_eq name) names) g) (λ task h. placed_tasks names list left (number + 1) (with_task task set) h))))

-- moves
pub placed_way : (axes : ℕ) (target : Joints) (cap : ℕ) (a : Answer) (d : Data) → Placed (when_located axes target cap a) d
placed_way axes target cap (answers.At start) d = tt
placed_way axes target cap a d = tt

pub placed_aim : (axes : ℕ) (target : Joints) (speed : ℤ) (d : Data) → Placed (aim axes target speed) d
placed_aim axes target speed d =
    let begins : Doing Way = Asks Position (when_located axes target (cap_of speed)) in
    let last : Placed (if not (int_lt (pos 0) speed) then fault Speed else begins) d = placed_if {A = Way} (not (int_lt (pos 0) speed)) (fault Speed) begins d tt tt in
    placed_if {A = Way} (not (is_reachable axes target)) (fault JointRange) (if not (int_lt (pos 0) speed) then fault Speed else begins) d tt last

pub placed_given : {A : Type 0} (next : Doing A) (a : Answer) (d : Data) → Placed next d → Placed (when_given next a) d
placed_given next answers.Given d own = own
placed_given next (answers.Stopped zone) d own = tt
placed_given next a d own = tt

-- interrupts, signals and zones
pub placed_connected : (p : Lvalue) (a : Answer) (d : Data) → Placed (when_connected p a) d
placed_connected p (answers.Number number) d = placed_store p (datums.Mark number) d
placed_connected p answers.Already d = tt
placed_connected p answers.NoMore d = tt
placed_connected p a d = tt

pub placed_ordered : (a : Answer) (d : Data) → Placed (when_ordered a) d
placed_ordered answers.Ok d = tt
placed_ordered answers.Unknown d = tt
placed_ordered answers.Already d = tt
placed_ordered a d = tt

pub placed_known : (a : Answer) (d : Data) → Placed (when_known a) d
placed_known answers.Ok d = tt
placed_known answers.Unknown d = tt
placed_known a d = tt

pub placed_written : (a : Answer) (d : Data) → Placed (when_written a) d
placed_written answers.Ok d = tt
placed_written answers.Tied d = tt
placed_written a d = tt

pub placed_numbered : (p : Lvalue) (a : Answer) (d : Data) → Placed (when_numbered p a) d
placed_numbered p (answers.Number number) d = placed_store p (datums.Mark number) d
placed_numbered p answers.ZoneUsed d = tt
placed_numbered p answers.ZoneFull d = tt
placed_numbered p answers.Tied d = tt
placed_numbered p a d = tt

pub placed_zoned : (a : Answer) (d : Data) → Placed (when_zoned a) d
placed_zoned answers.Ok d = tt
placed_zoned answers.NoZone d = tt
placed_zoned a d = tt

placed_shaped : (p : Lvalue) (r : Result Shape ShapeFault) (d : Data) → Placed (shaped p r) d
placed_shaped p (Ok shape) d = placed_store p (datums.Shape (Some shape)) d
placed_shaped p (Err why) d = tt

pub placed_define : (axes : ℕ) (p : Lvalue) (inside : Bool) (low high : Joints) (d : Data) → Placed (define axes p inside low high) d
placed_define axes p inside low high d = placed_shaped p (made_shape inside low high axes) d

placed_position : (o : Option (List ℤ)) (d : Data) → Placed (position_or_fault o) d
placed_position None d = tt
placed_position (Some axes) d = tt

pub placed_home : (axes : ℕ) (p : Lvalue) (inside : Bool) (middle delta : Joints) (d : Data) → Placed (define_home axes p inside middle delta) d
placed_home axes p inside middle delta d =
    placed_then (position_or_fault (on_axes home_low middle.axis delta.axis)) _ d (placed_position _ d) (λ low e.
    placed_then (position_or_fault (on_axes home_high middle.axis delta.axis)) _ e (placed_position _ e) (λ high f. placed_define axes p inside low high f))

pub placed_defined : (o : Option Shape) (d : Data) → Placed (defined o) d
placed_defined None d = tt
placed_defined (Some shape) d = tt
