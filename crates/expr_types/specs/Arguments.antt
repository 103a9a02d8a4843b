-- Arguments, each for what its callee needs. If a value is allowed, value gives the argument's typed form as one, by
-- what is required of it; index gives that of the index in it.
use Rattle.std.specs.Prelude.{ℕ, ℤ, pos, Bool, true, false, not, ◌&&◌, ◌||◌, List, [], codes, Option, Some, None, is_some, slice_get, Ok, Err, if◌then◌else◌}
use Rattle.std.specs.Ordering.{int_eq}
use Rattle.std.specs.Str.{str_eq_ignore_ascii_case}
use Rattle.rapid_num.specs.Literal.{literal_value}
use Rattle.raw_trees.specs.Plain.{PlainName, PlainExpr, PlainHeld, Number, Place, NotHeld, Held, PlaceOf}
use Rattle.rapid_model.specs.declared.predefined.Predefined.{Predefined}
use Rattle.rapid_model.specs.declared.predefined.Predefined.TheVariants as predefineds
use Rattle.rapid_model.specs.declared.sort.Sort.{Sort}
use Rattle.rapid_model.specs.declared.sort.Sort.TheVariants as sorts
use Rattle.rapid_model.specs.declared.part_name.PartName.TheVariants as parts
use Rattle.rapid_builtins.specs.declared.need.Need.{Need}
use Rattle.rapid_builtins.specs.declared.need.Need.TheVariants as needs
use Rattle.typed_trees.specs.Plain
use Rattle.typed_trees.specs.Plain.{TypedExpr, TypedHeld, TypedArg, Given, Lent, OfSignal, OfMeeting, Itself}
use Rattle.typed_trees.specs.declared.expr.TreeRoot.{TreeRoot}
use Rattle.typed_trees.specs.declared.expr.TreeRoot.TheVariants as roots
use Rattle.rule_checks.specs.declared.rule.TypeRule.{TypeRule}
use Rattle.rule_checks.specs.declared.rule.TypeRule.TheVariants.{NoName, NotThis, TypeClash, ReadOnly, BadRef, CornerZone, ToolOnly, SyncName}
use Rattle.data_scopes.specs.declared.meant.Meant.{Meant}
use Rattle.data_scopes.specs.declared.meant.Meant.TheVariants as meants
use Rattle.rule_checks.specs.Checks.{◌>>=◌, must}
use Rattle.rule_checks.specs.TypeChecks.{Checked}
use Rattle.data_scopes.specs.Meetings.{is_meeting, meetings_before}
use Rattle.data_scopes.specs.Rows.{begin_of}
use Rattle.rapid_model.specs.Sorts.{has_values}
use Rattle.named_data.specs.declared.named.Access.{Access}
use Rattle.named_data.specs.declared.named.Access.TheVariants as accesses
use Rattle.named_data.specs.declared.named.NamedDatum.{NamedDatum}
use Rattle.named_data.specs.declared.named.Source.{Source}
use Rattle.named_data.specs.declared.named.Source.TheVariants as sources
use Rattle.named_data.specs.declared.wanted.Wanted.{Wanted}
use Rattle.named_data.specs.declared.wanted.Wanted.TheVariants.{Is, Nothing, Reference, ReferenceTo, Meeting}
use Rattle.named_data.specs.Rules.{Site, fail, at_byte}
use Rattle.named_data.specs.Wants.{same_sort}
use Rattle.named_data.specs.Data.{NamedPart, named, datum_at, place, part_at, whole_of, is_empty}

abbrev pub is_held : PlainHeld → Bool
is_held NotHeld = false
is_held (Held e) = true

-- neither index nor components
abbrev pub is_whole : PlainExpr → Bool
is_whole (Place at (PlaceOf name held components)) = not (is_held held) && is_empty components
is_whole e = false

-- just a name with this spelling
abbrev pub is_bare : List ℕ → PlainExpr → Bool
is_bare text (Place at (PlaceOf name NotHeld [])) = str_eq_ignore_ascii_case text name.text
is_bare text _ = false

-- the name that an expression is, if it has neither index nor components
abbrev pub bare : PlainExpr → Option PlainName
bare (Place at (PlaceOf name NotHeld [])) = Some name
bare _ = None

-- places with this access may be passed
abbrev pub lends : Need → Access → Bool
lends (needs.Var sort) accesses.Var = true
lends (needs.Pers sort) accesses.Pers = true
lends (needs.VarOrPers sort) accesses.Var = true
lends (needs.VarOrPers sort) accesses.Pers = true
lends (needs.VarOrPers sort) accesses.Either = true
lends (needs.Written sort) accesses.Var = true
lends (needs.Written sort) accesses.Pers = true
lends (needs.Written sort) accesses.Either = true
lends needs.WorldZone accesses.Var = true
lends _ _ = false

-- places of this type may be passed
abbrev pub takes : Need → Sort → Bool
takes (needs.Var wanted) sort = same_sort sort wanted
takes (needs.Pers wanted) sort = same_sort sort wanted
takes (needs.VarOrPers wanted) sort = same_sort sort wanted
takes (needs.Written wanted) sort = same_sort sort wanted
takes needs.WorldZone sort = same_sort sort sorts.WzTemporary || same_sort sort sorts.WzStationary
takes _ sort = false

abbrev pub is_written : Need → Bool
is_written (needs.Written sort) = true
is_written _ = false

-- what is never written: a CONST, the variable of a FOR, ERRNO, a predefined datum
abbrev pub is_fixed : Source → Bool
is_fixed (sources.Place root accesses.Fixed) = true
is_fixed (sources.Place root access) = false
is_fixed (sources.Value value) = true
is_fixed sources.Errno = true
is_fixed (sources.Signal number) = false

-- a place passed by reference, if the rule holds
abbrev pub lent : Site → Bool → ℕ → TypeRule → NamedPart → Source → Checked TypedArg
lent site holds at rule p (sources.Place root access) =
    must holds (at_byte site at rule) >>= (λ _. Ok (Lent (Plain.PlaceOf root p.index p.part p.sort)))
lent site holds at rule p _ = fail site at rule

-- how the place of a source may be accessed; a source without a place is never written
abbrev pub access_in : Source → Access
access_in (sources.Place root access) = access
access_in _ = accesses.Fixed

-- the root of the place of a source
abbrev pub root_of : Source → Option TreeRoot
root_of (sources.Place root access) = Some root
root_of _ = None

-- a place that the callee reads and writes, a place of a type, or an array without an index
abbrev pub lent_as : Site → Need → ℕ → NamedPart → Checked TypedArg
lent_as site need at p =
    must (not (is_written need && is_fixed p.source)) (at_byte site at ReadOnly) >>= (λ _.
    lent site (lends need (access_in p.source) && takes need p.sort) at BadRef p p.source)

abbrev pub lent_of : Site → Sort → ℕ → NamedPart → Checked TypedArg
lent_of site sort at p = lent site (same_sort p.sort sort) at TypeClash p p.source

-- arrays with elements of this type may be passed
abbrev pub array_fits : Need → Sort → Bool
array_fits needs.TaskList sort = same_sort sorts.Tasks sort
array_fits _ sort = has_values sort

abbrev pub lent_whole : Site → Need → ℕ → Bool → NamedPart → Checked TypedArg
lent_whole site need at bare p = lent site (p.array && bare && array_fits need p.sort) at TypeClash p p.source

-- what is required of a reference that is not a place: nothing fits, and brackets have the needed type
abbrev pub referred : Need → Wanted
referred (needs.Var sort) = ReferenceTo sort
referred (needs.Pers sort) = ReferenceTo sort
referred (needs.VarOrPers sort) = ReferenceTo sort
referred (needs.Written sort) = ReferenceTo sort
referred _ = Reference

-- a place that the callee reads and writes
abbrev pub reference : Site → Need → PlainExpr → (Wanted → Checked TypedExpr) → Checked TypedHeld → Checked TypedArg
reference site need (Place at (PlaceOf name held components)) value index =
    place site false name (is_held held) index components >>= (λ p.
    must (not (is_written need && is_fixed p.source)) (at_byte site at ReadOnly) >>= (λ _.
    lent site (lends need (access_in p.source) && takes need p.sort) at BadRef p p.source))
reference site need e value index = value (referred need) >>= (λ t. fail site (begin_of e) BadRef)

-- a place of a type, of any kind
abbrev pub any_place : Site → Sort → PlainExpr → (Wanted → Checked TypedExpr) → Checked TypedHeld → Checked TypedArg
any_place site sort (Place at (PlaceOf name held components)) value index =
    place site false name (is_held held) index components >>= (λ p. lent site (same_sort p.sort sort) at TypeClash p p.source)
any_place site sort e value index = value Nothing >>= (λ t. fail site (begin_of e) TypeClash)

-- an array without an index
abbrev pub whole_array : Site → (Sort → Bool) → PlainExpr → (Wanted → Checked TypedExpr) → Checked TypedHeld → Checked TypedArg
whole_array site of_sort (Place at (PlaceOf name held components)) value index =
    place site true name (is_held held) index components >>= (λ p.
    lent site (p.array && not (is_held held) && is_empty components && of_sort p.sort) at TypeClash p p.source)
whole_array site of_sort e value index = value Nothing >>= (λ t. fail site (begin_of e) TypeClash)

abbrev pub is_one : Option ℤ → Bool
is_one None = false
is_one (Some n) = int_eq n (pos 1_000)

-- what is required of the number of a dimension: as there is only one, a literal with value 1
abbrev pub one_dimension : PlainExpr → Wanted
one_dimension (Number at text) = if is_one (literal_value text) then Is sorts.Num else Nothing
one_dimension _ = Nothing

-- a predefined name that stands for itself, and is not looked up
abbrev pub itself : Site → Predefined → List ℕ → TypeRule → PlainExpr → Checked TypedArg
itself site name text rule e = must (is_bare text e) (at_byte site (begin_of e) rule) >>= (λ _. Ok (Itself name))

-- the signal is an output or an input, as needed
abbrev pub has_direction : Bool → Option Bool → Bool
has_direction wanted None = false
has_direction true (Some output) = output
has_direction false (Some output) = not output

abbrev pub signal_meant : Site → Bool → ℕ → Option Meant → Checked TypedArg
signal_meant site output at None = fail site at NoName
signal_meant site output at (Some (meants.Signal number)) =
    must (has_direction output (slice_get site.names.outputs number)) (at_byte site at TypeClash) >>= (λ _. Ok (OfSignal number))
signal_meant site output at (Some _) = fail site at NotThis

-- the name of a signal
abbrev pub signal : Site → Bool → PlainExpr → (Wanted → Checked TypedExpr) → Checked TypedArg
signal site output (Place at (PlaceOf name NotHeld [])) value = signal_meant site output at (named site name)
signal site output e value = value Nothing >>= (λ t. fail site (begin_of e) TypeClash)

abbrev pub meeting_meant : Site → ℕ → Option Meant → Checked TypedArg
meeting_meant site at None = fail site at NoName
meeting_meant site at (Some (meants.Slot number)) =
    must (is_meeting (slice_get site.names.rows.slots number)) (at_byte site at SyncName) >>= (λ _. Ok (OfMeeting (meetings_before number site.names.rows.slots)))
meeting_meant site at (Some _) = fail site at SyncName

-- the components after a name are those of the datum that it means, if it means one here
abbrev pub parts_known : Site → Checked NamedDatum → List PlainName → Checked (Unit {0})
parts_known site (Ok d) components = part_at site (whole_of d.sort) components >>= (λ c. Ok tt)
parts_known site (Err fault) components = Ok tt

-- the name of a module's VAR syncident
abbrev pub meeting : Site → PlainExpr → (Wanted → Checked TypedExpr) → Checked TypedHeld → Checked TypedArg
meeting site (Place at (PlaceOf name NotHeld [])) value index = meeting_meant site at (named site name)
meeting site (Place at (PlaceOf name held components)) value index =
    must (is_some (named site name)) (at_byte site at NoName) >>= (λ _. index >>= (λ i.
    parts_known site (datum_at site name) components >>= (λ _. fail site at SyncName)))
meeting site e value index = value Meeting >>= (λ t. fail site (begin_of e) SyncName)

abbrev pub whole_pers : Site → Bool → ℕ → Sort → Source → Checked TypedArg
whole_pers site bare at sort (sources.Place (roots.Pers number) access) =
    must bare (at_byte site at BadRef) >>= (λ _. Ok (Lent (Plain.PlaceOf (roots.Pers number) Plain.NotHeld parts.Whole sort)))
whole_pers site bare at sort _ = fail site at BadRef

-- the name of a declared PERS, an array or not
abbrev pub pers_name : Site → PlainExpr → (Wanted → Checked TypedExpr) → Checked TypedHeld → Checked TypedArg
pers_name site (Place at (PlaceOf name held components)) value index =
    datum_at site name >>= (λ d. index >>= (λ i. part_at site (whole_of d.sort) components >>= (λ c.
    whole_pers site (not (is_held held) && is_empty components) at d.sort d.source)))
pers_name site e value index = value Reference >>= (λ t. fail site (begin_of e) BadRef)

abbrev pub argument : Site → Need → PlainExpr → (Wanted → Checked TypedExpr) → Checked TypedHeld → Checked TypedArg
argument site (needs.Value sort) e value index = value (Is sort) >>= (λ t. Ok (Given t))
argument site (needs.Signal output) e value index = signal site output e value
argument site (needs.Var sort) e value index = reference site (needs.Var sort) e value index
argument site (needs.Pers sort) e value index = reference site (needs.Pers sort) e value index
argument site (needs.VarOrPers sort) e value index = reference site (needs.VarOrPers sort) e value index
argument site (needs.Written sort) e value index = reference site (needs.Written sort) e value index
argument site needs.WorldZone e value index = reference site needs.WorldZone e value index
argument site (needs.Place sort) e value index = any_place site sort e value index
argument site needs.Array e value index = whole_array site has_values e value index
argument site needs.TaskList e value index = whole_array site (same_sort sorts.Tasks) e value index
argument site needs.One e value index = value (one_dimension e) >>= (λ t. Ok (Given t))
argument site needs.Fine e value index = itself site predefineds.Fine (codes "fine") CornerZone e
argument site needs.Tool e value index = itself site predefineds.Tool0 (codes "tool0") ToolOnly e
argument site needs.WorkObject e value index = itself site predefineds.Wobj0 (codes "wobj0") ToolOnly e
argument site needs.Meeting e value index = meeting site e value index
argument site needs.PersName e value index = pers_name site e value index
