-- What a name stands for as a value or a place, and which part of it is meant.
use Rattle.std.specs.Prelude.{ℕ, ◌+◌, Bool, true, false, not, ◌&&◌, ◌||◌, ◌==◌, nat_lt, List, [], ◌∷◌, Option, Some, None, slice_get, Ok}
use Rattle.raw_trees.specs.Plain.{PlainName}
use Rattle.rapid_model.specs.declared.mode.Mode.{Mode}
use Rattle.rapid_model.specs.declared.mode.Mode.TheVariants as modes
use Rattle.rapid_model.specs.declared.predefined.Predefined.{Predefined}
use Rattle.rapid_model.specs.declared.predefined.Predefined.TheVariants as predefineds
use Rattle.rapid_model.specs.declared.sort.Sort.{Sort}
use Rattle.rapid_model.specs.declared.sort.Sort.TheVariants as sorts
use Rattle.rapid_model.specs.declared.value.Value.{Value}
use Rattle.rapid_values.specs.Components.{Component, components, component_of}
use Rattle.rapid_values.specs.Values.{part_of}
use Rattle.rapid_model.specs.declared.part_name.PartName.{PartName}
use Rattle.rapid_model.specs.declared.part_name.PartName.TheVariants as parts
use Rattle.rapid_builtins.specs.Data.{predefined_datum}
use Rattle.typed_trees.specs.Plain.{TypedExpr, TypedHeld, Known, ErrorNumber, SignalValue, Stored, PlaceOf}
use Rattle.typed_trees.specs.declared.expr.TreeRoot.{TreeRoot}
use Rattle.typed_trees.specs.declared.expr.TreeRoot.TheVariants as roots
use Rattle.data_scopes.specs.declared.data_row.DatumRow.{DatumRow}
use Rattle.data_scopes.specs.declared.data_row.ParamRow.{ParamRow}
use Rattle.data_scopes.specs.declared.data_row.Since.{Since}
use Rattle.rule_checks.specs.declared.rule.TypeRule.TheVariants.{NoName, NotThis, TypeClash, ConstOrder, WholeArray}
use Rattle.data_scopes.specs.declared.meant.Meant.{Meant}
use Rattle.data_scopes.specs.declared.meant.Meant.TheVariants as meants
use Rattle.rule_checks.specs.declared.spot.Spot.{Spot}
use Rattle.data_scopes.specs.Called.{local_of, param_of, data_count_of}
use Rattle.rule_checks.specs.Checks.{◌>>=◌, must, found_or}
use Rattle.rule_checks.specs.TypeChecks.{Checked}
use Rattle.data_scopes.specs.Scopes.{meaning}
use Rattle.rapid_model.specs.Sorts.{has_values}
use Rattle.named_data.specs.declared.component.Part.{Part}
use Rattle.named_data.specs.declared.named.Access.{Access}
use Rattle.named_data.specs.declared.named.Access.TheVariants as accesses
use Rattle.named_data.specs.declared.named.Source.{Source}
use Rattle.named_data.specs.declared.named.Source.TheVariants as sources
use Rattle.named_data.specs.declared.named.NamedDatum.{NamedDatum}
use Rattle.named_data.specs.declared.wanted.Wanted.{Wanted}
use Rattle.named_data.specs.Rules.{Site, fail, at_byte}
use Rattle.named_data.specs.Wants.{fits, clash}

-- the declaration comes before the expression at the spot
abbrev pub is_before : Spot → Option Since → Bool
is_before spot None = true
is_before spot (Some since) = nat_lt since.«module» spot.«module» || (since.«module» == spot.«module» && nat_lt since.at spot.at)

-- a VAR is written, a CONST array is not
abbrev pub access_of : Option Since → Access
access_of None = accesses.Var
access_of (Some since) = accesses.Fixed

-- a datum at a place of its own
abbrev pub stored : Site → ℕ → TreeRoot → Option DatumRow → Checked NamedDatum
stored site at root None = fail site at NoName
stored site at root (Some row) =
    must (is_before site.spot row.since) (at_byte site at ConstOrder) >>= (λ _.
    Ok (record { source = sources.Place root (access_of row.since); sort = row.sort; array = row.array }))

abbrev pub persistent : Site → ℕ → ℕ → Option DatumRow → Checked NamedDatum
persistent site at number None = fail site at NoName
persistent site at number (Some row) = Ok (record { source = sources.Place (roots.Pers number) accesses.Pers; sort = row.sort; array = row.array })

-- how what a parameter refers to may be passed on
abbrev pub access_by : Mode → Access
access_by modes.Value = accesses.Var
access_by modes.Var = accesses.Var
access_by modes.Pers = accesses.Pers
access_by modes.Inout = accesses.Either

abbrev pub parameter : Site → ℕ → ℕ → Option ParamRow → Checked NamedDatum
parameter site at index None = fail site at NoName
parameter site at index (Some row) = Ok (record { source = sources.Place (roots.Ref index) (access_by row.mode); sort = row.sort; array = false })

-- a CONST that is not an array, by its kept value
abbrev pub constant : Site → ℕ → Option DatumRow → Option (Option Value) → Checked NamedDatum
constant site at None kept = fail site at NoName
constant site at (Some row) (Some (Some value)) =
    must (is_before site.spot row.since) (at_byte site at ConstOrder) >>= (λ _.
    Ok (record { source = sources.Value value; sort = row.sort; array = false }))
constant site at (Some row) _ = fail site at ConstOrder

-- the index of a FOR's variable comes after the parameters and data of its routine
abbrev pub counter : Site → ℕ → NamedDatum
counter site number = record {
  source = sources.Place (roots.Local (data_count_of site.names.rows site.spot.routine + number)) accesses.Fixed;
  sort = sorts.Num;
  array = false;
}

abbrev pub with_value : Site → ℕ → Option (Sort × Value) → Checked NamedDatum
with_value site at None = fail site at NotThis
with_value site at (Some typed) = Ok (record { source = sources.Value typed.1; sort = typed.0; array = false })

abbrev pub predefined : Site → ℕ → Predefined → Checked NamedDatum
predefined site at predefineds.ErrNo = Ok (record { source = sources.Errno; sort = sorts.Num; array = false })
predefined site at name = with_value site at (predefined_datum name)

-- the datum that a name means; the name of a signal stands for its value
abbrev pub datum_meant : Site → ℕ → Option Meant → Checked NamedDatum
datum_meant site at None = fail site at NoName
datum_meant site at (Some (meants.Slot number)) = stored site at (roots.Slot number) (slice_get site.names.rows.slots number)
datum_meant site at (Some (meants.Local index)) = stored site at (roots.Local index) (local_of site.names.rows site.spot.routine index)
datum_meant site at (Some (meants.Ref index)) = parameter site at index (param_of site.names.rows site.spot.routine index)
datum_meant site at (Some (meants.Pers number)) = persistent site at number (slice_get site.names.rows.pers number)
datum_meant site at (Some (meants.Const number)) = constant site at (slice_get site.names.rows.consts number) (slice_get site.names.kept number)
datum_meant site at (Some (meants.For number)) = Ok (counter site number)
datum_meant site at (Some (meants.Signal number)) = Ok (record { source = sources.Signal number; sort = sorts.Num; array = false })
datum_meant site at (Some (meants.Predefined name)) = predefined site at name
datum_meant site at (Some _) = fail site at NotThis

-- the innermost declaration of the name that is visible
abbrev pub named : Site → PlainName → Option Meant
named site name = meaning site.names.tables site.spot name.text

abbrev pub datum_at : Site → PlainName → Checked NamedDatum
datum_at site name = datum_meant site name.at (named site name)

abbrev pub as_part : Component → Part
as_part c = record { name = c.part; sort = c.sort }

-- the part of a value that components name, from left to right, after a part that is found
abbrev pub part_at : Site → Part → List PlainName → Checked Part
part_at site found [] = Ok found
part_at site found (name ∷ more) =
    found_or (component_of name.text (components found.sort)) (at_byte site name.at NoName) >>= (λ c. part_at site (as_part c) more)

-- a value as a part of itself
abbrev pub whole_of : Sort → Part
whole_of sort = record { name = parts.Whole; sort = sort }

-- a part of what a name stands for, or of an element of it
pub record NamedPart : Type 0 where
  pub source : Source
  pub array : Bool
  pub index : TypedHeld
  pub part : PartName
  pub sort : Sort

-- the list is empty
abbrev pub is_empty : {A : Type 0} → List A → Bool
is_empty [] = true
is_empty (x ∷ xs) = false

-- A place: its name, its index if it has one, its components. An array has an index unless the whole may be named.
abbrev pub place : Site → Bool → PlainName → Bool → Checked TypedHeld → List PlainName → Checked NamedPart
place site whole name indexed index components =
    datum_at site name >>= (λ d.
    must (whole || indexed || not d.array) (at_byte site name.at WholeArray) >>= (λ _.
    index >>= (λ i.
    must (d.array || not indexed) (at_byte site name.at TypeClash) >>= (λ _.
    part_at site (whole_of d.sort) components >>= (λ c.
    Ok (record { source = d.source; array = d.array; index = i; part = c.name; sort = c.sort }))))))

abbrev pub or_whole : Value → Option Value → Value
or_whole whole (Some value) = value
or_whole whole None = whole

abbrev pub value_from : ℕ → NamedPart → Source → TypedExpr
value_from at p (sources.Place root access) = Stored at p.sort (PlaceOf root p.index p.part p.sort)
value_from at p (sources.Value value) = Known at p.sort (or_whole value (part_of value p.part))
value_from at p sources.Errno = ErrorNumber at p.sort
value_from at p (sources.Signal number) = SignalValue at p.sort number

-- an expression of this type in a place with a requirement
abbrev pub given : Site → Wanted → ℕ → Sort → TypedExpr → Checked TypedExpr
given site want at sort tree = must (fits want sort) (at_byte site at (clash want)) >>= (λ _. Ok tree)

-- the value at a place: its type has values
abbrev pub place_value : Site → ℕ → PlainName → Bool → Checked TypedHeld → List PlainName → Wanted → Checked TypedExpr
place_value site at name indexed index components want =
    place site false name indexed index components >>= (λ p.
    must (has_values p.sort) (at_byte site at TypeClash) >>= (λ _.
    given site want at p.sort (value_from at p p.source)))
