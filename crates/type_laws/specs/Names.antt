-- What a name stands for as a value or a place, as facts: no order, and no error.
use Rattle.std.specs.Prelude.{◌≡◌, ℕ, Bool, true, false, not, ◌||◌, List, [], ◌∷◌, Option, Some, None, slice_get}
use Rattle.raw_trees.specs.Plain.{PlainName}
use Rattle.rapid_model.specs.declared.predefined.Predefined.{Predefined}
use Rattle.rapid_model.specs.declared.predefined.Predefined.TheVariants as predefineds
use Rattle.rapid_model.specs.declared.sort.Sort.{Sort}
use Rattle.rapid_model.specs.declared.sort.Sort.TheVariants as sorts
use Rattle.rapid_model.specs.declared.value.Value.{Value}
use Rattle.rapid_values.specs.Components.{Component, components, component_of}
use Rattle.rapid_builtins.specs.Data.{predefined_datum}
use Rattle.typed_trees.specs.Plain.{TypedHeld}
use Rattle.typed_trees.specs.declared.expr.TreeRoot.{TreeRoot}
use Rattle.typed_trees.specs.declared.expr.TreeRoot.TheVariants as roots
use Rattle.data_scopes.specs.declared.data_row.DatumRow.{DatumRow}
use Rattle.data_scopes.specs.declared.data_row.ParamRow.{ParamRow}
use Rattle.data_scopes.specs.declared.meant.Meant.{Meant}
use Rattle.data_scopes.specs.declared.meant.Meant.TheVariants as meants
use Rattle.data_scopes.specs.Called.{local_of, param_of}
use Rattle.named_data.specs.declared.component.Part.{Part}
use Rattle.named_data.specs.declared.named.Source.TheVariants as sources
use Rattle.named_data.specs.declared.named.Access.TheVariants as accesses
use Rattle.named_data.specs.declared.named.NamedDatum.{NamedDatum}
use Rattle.named_data.specs.Rules.{Site}
use Rattle.named_data.specs.Data.{NamedPart, named, is_before, access_of, access_by, counter, as_part, whole_of}

-- a datum at a place of its own; a CONST array is declared before
abbrev pub IsStored : Site → TreeRoot → Option DatumRow → NamedDatum → Type 0
IsStored s root None d = ⊥
IsStored s root (Some row) d =
    (is_before s.spot row.since ≡ true) × (d ≡ record { source = sources.Place root (access_of row.since); sort = row.sort; array = row.array })

abbrev pub IsPersistent : ℕ → Option DatumRow → NamedDatum → Type 0
IsPersistent number None d = ⊥
IsPersistent number (Some row) d = d ≡ record { source = sources.Place (roots.Pers number) accesses.Pers; sort = row.sort; array = row.array }

abbrev pub IsParameter : ℕ → Option ParamRow → NamedDatum → Type 0
IsParameter place None d = ⊥
IsParameter place (Some row) d = d ≡ record { source = sources.Place (roots.Ref place) (access_by row.mode); sort = row.sort; array = false }

-- a CONST that is declared before, by its value
abbrev pub IsConstant : Site → Option DatumRow → Option (Option Value) → NamedDatum → Type 0
IsConstant s (Some row) (Some (Some value)) d =
    (is_before s.spot row.since ≡ true) × (d ≡ record { source = sources.Value value; sort = row.sort; array = false })
IsConstant s row kept d = ⊥

abbrev pub IsKnown : Option (Sort × Value) → NamedDatum → Type 0
IsKnown None d = ⊥
IsKnown (Some typed) d = d ≡ record { source = sources.Value typed.1; sort = typed.0; array = false }

abbrev pub IsPredefined : Predefined → NamedDatum → Type 0
IsPredefined predefineds.ErrNo d = d ≡ record { source = sources.Errno; sort = sorts.Num; array = false }
IsPredefined name d = IsKnown (predefined_datum name) d

-- what is meant is a datum
abbrev pub IsMeant : Site → Option Meant → NamedDatum → Type 0
IsMeant s (Some (meants.Slot number)) d = IsStored s (roots.Slot number) (slice_get s.names.rows.slots number) d
IsMeant s (Some (meants.Local place)) d = IsStored s (roots.Local place) (local_of s.names.rows s.spot.routine place) d
IsMeant s (Some (meants.Ref place)) d = IsParameter place (param_of s.names.rows s.spot.routine place) d
IsMeant s (Some (meants.Pers number)) d = IsPersistent number (slice_get s.names.rows.pers number) d
IsMeant s (Some (meants.Const number)) d = IsConstant s (slice_get s.names.rows.consts number) (slice_get s.names.kept number) d
IsMeant s (Some (meants.For number)) d = d ≡ counter s number
IsMeant s (Some (meants.Signal number)) d = d ≡ record { source = sources.Signal number; sort = sorts.Num; array = false }
IsMeant s (Some (meants.Predefined name)) d = IsPredefined name d
IsMeant s _ d = ⊥

-- the name means this datum
abbrev pub IsDatum : Site → PlainName → NamedDatum → Type 0
IsDatum s name d = IsMeant s (named s name) d

-- each component is one of the type before it, and the last one is this part
abbrev pub IsPart : Part → List PlainName → Part → Type 0
IsPart found [] p = p ≡ found
IsPart found (name ∷ more) p = (c : Component) × (component_of name.text (components found.sort) ≡ Some c) × IsPart (as_part c) more p

-- a name, with an index if its datum is an array (unless the whole may be named), and its components
pub record IsPlace (s : Site) (whole : Bool) (name : PlainName) (indexed : Bool) (index : TypedHeld) (components : List PlainName) (p : NamedPart) : Type 0 where
  pub datum : NamedDatum
  pub part : Part
  pub is_datum : IsDatum s name datum
  pub has_index : (whole || indexed || not datum.array) ≡ true
  pub is_array : (datum.array || not indexed) ≡ true
  pub is_part : IsPart (whole_of datum.sort) components part
  pub is_it : p ≡ record { source = datum.source; array = datum.array; index = index; part = part.name; sort = part.sort }
