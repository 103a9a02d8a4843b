-- What a name stands for, and the part of it that is meant.
use Rattle.std.proofs.Common.{◌≡◌, ◌↔◌, ℕ, Bool, not, ◌||◌, List, [], ◌∷◌, Option, Some, None, slice_get, Ok}
use Rattle.raw_trees.specs.Plain.{PlainName}
use Rattle.rapid_model.specs.declared.predefined.Predefined.{Predefined}
use Rattle.rapid_model.specs.declared.predefined.Predefined.TheVariants as predefineds
use Rattle.rapid_model.specs.declared.sort.Sort.{Sort}
use Rattle.rapid_model.specs.declared.value.Value.{Value}
use Rattle.rapid_values.specs.Components.{components, component_of}
use Rattle.rapid_builtins.specs.Data.{predefined_datum}
use Rattle.typed_trees.specs.Plain.{TypedHeld}
use Rattle.typed_trees.specs.declared.expr.TreeRoot.{TreeRoot}
use Rattle.typed_trees.specs.declared.expr.TreeRoot.TheVariants as roots
use Rattle.data_scopes.specs.declared.data_row.DatumRow.{DatumRow}
use Rattle.data_scopes.specs.declared.data_row.ParamRow.{ParamRow}
use Rattle.rule_checks.specs.declared.rule.TypeRule.TheVariants.{NoName, TypeClash, ConstOrder, WholeArray}
use Rattle.data_scopes.specs.declared.meant.Meant.{Meant}
use Rattle.data_scopes.specs.declared.meant.Meant.TheVariants as meants
use Rattle.data_scopes.specs.Called.{local_of, param_of}
use Rattle.rule_checks.specs.Checks.{◌>>=◌, found_or}
use Rattle.rule_checks.specs.TypeChecks.{Checked}
use Rattle.named_data.specs.declared.component.Part.{Part}
use Rattle.named_data.specs.declared.named.NamedDatum.{NamedDatum}
use Rattle.named_data.specs.Rules.{Site, at_byte}
use Rattle.named_data.specs.Data.{NamedPart, stored, persistent, parameter, constant, with_value, predefined, datum_meant, datum_at, named, is_before, part_at, as_part, whole_of, place}
use Rattle.type_laws.specs.Names.{IsStored, IsPersistent, IsParameter, IsConstant, IsKnown, IsPredefined, IsMeant, IsDatum, IsPart, IsPlace}
use Rattle.type_laws.proofs.Steps.{in_words, done, never, then, found_law, where_it_holds}

module _ (s : Site) (at : ℕ) (d : NamedDatum) where
  stored_law : (root : TreeRoot) (row : Option DatumRow) → (stored s at root row ≡ Ok d) ↔ IsStored s root row d
  stored_law root None = never _ d
  stored_law root (Some row) = where_it_holds s (is_before s.spot row.since) at ConstOrder _ d (done _ d)

  persistent_law : (number : ℕ) (row : Option DatumRow) → (persistent s at number row ≡ Ok d) ↔ IsPersistent number row d
  persistent_law number None = never _ d
  persistent_law number (Some row) = done _ d

  parameter_law : (place : ℕ) (row : Option ParamRow) → (parameter s at place row ≡ Ok d) ↔ IsParameter place row d
  parameter_law place None = never _ d
  parameter_law place (Some row) = done _ d

  constant_law : (row : Option DatumRow) (kept : Option (Option Value)) → (constant s at row kept ≡ Ok d) ↔ IsConstant s row kept d
  constant_law None kept = never _ d
  constant_law (Some row) None = never _ d
  constant_law (Some row) (Some None) = never _ d
  constant_law (Some row) (Some (Some value)) = where_it_holds s (is_before s.spot row.since) at ConstOrder _ d (done _ d)

  known_law : (typed : Option (Sort × Value)) → (with_value s at typed ≡ Ok d) ↔ IsKnown typed d
  known_law None = never _ d
  known_law (Some typed) = done _ d

  predefined_law : (name : Predefined) → (predefined s at name ≡ Ok d) ↔ IsPredefined name d
  predefined_law predefineds.ErrNo = done _ d
  predefined_law name = known_law (predefined_datum name)

  meant_law : (meant : Option Meant) → (datum_meant s at meant ≡ Ok d) ↔ IsMeant s meant d
  meant_law None = never _ d
  meant_law (Some (meants.Slot number)) = stored_law (roots.Slot number) (slice_get s.names.rows.slots number)
  meant_law (Some (meants.Local place)) = stored_law (roots.Local place) (local_of s.names.rows s.spot.routine place)
  meant_law (Some (meants.Ref place)) = parameter_law place (param_of s.names.rows s.spot.routine place)
  meant_law (Some (meants.Pers number)) = persistent_law number (slice_get s.names.rows.pers number)
  meant_law (Some (meants.Const number)) = constant_law (slice_get s.names.rows.consts number) (slice_get s.names.kept number)
  meant_law (Some (meants.For number)) = done _ d
  meant_law (Some (meants.Signal number)) = done _ d
  meant_law (Some (meants.Predefined name)) = predefined_law name
  meant_law (Some _) = never _ d

pub datum_law : (s : Site) (name : PlainName) (d : NamedDatum) → (datum_at s name ≡ Ok d) ↔ IsDatum s name d
datum_law s name d = meant_law s name.at d (named s name)

pub part_law : (s : Site) (found : Part) (components : List PlainName) (p : Part) → (part_at s found components ≡ Ok p) ↔ IsPart found components p
part_law s found [] p = done found p
part_law s found (name ∷ more) p =
    let c = component_of name.text (components found.sort) in
    then (found_or c (at_byte s name.at NoName)) (λ c. part_at s (as_part c) more) p (found_law c (at_byte s name.at NoName)) (λ c. part_law s (as_part c) more p)

-- a place, with the typed forms of its index
pub place_law : {IsIndexed : TypedHeld → Type 0} (s : Site) (whole : Bool) (name : PlainName) (indexed : Bool) (index : Checked TypedHeld) (components : List PlainName) (p : NamedPart)
    → ((i : TypedHeld) → (index ≡ Ok i) ↔ IsIndexed i)
    → (place s whole name indexed index components ≡ Ok p) ↔ ((i : TypedHeld) × IsIndexed i × IsPlace s whole name indexed i components p)
place_law s whole name indexed index components p index_law =
    in_words
    (then (datum_at s name) _ p (datum_law s name) (λ d.
    where_it_holds s (whole || indexed || not d.array) name.at WholeArray _ p (
    then index _ p index_law (λ i.
    where_it_holds s (d.array || not indexed) name.at TypeClash _ p (
    then (part_at s (whole_of d.sort) components) _ p (part_law s (whole_of d.sort) components) (λ c.
    done (record { source = d.source; array = d.array; index = i; part = c.name; sort = c.sort }) p))))))
    (λ (d, is_datum, (has_index, (i, indexed, (is_array, (c, is_part, is_it))))).
    (i, indexed, record { datum = d; part = c; is_datum = is_datum; has_index = has_index; is_array = is_array; is_part = is_part; is_it = is_it }))
    (λ (i, indexed, q). (q.datum, q.is_datum, (q.has_index, (i, indexed, (q.is_array, (q.part, q.is_part, q.is_it))))))

-- a place, and what follows it
pub at_place : {B : Type 0} {IsIndexed : TypedHeld → Type 0} {Q : NamedPart → Type 0} (s : Site) (whole : Bool) (name : PlainName) (indexed : Bool) (index : Checked TypedHeld) (components : List PlainName)
    (f : NamedPart → Checked B) (t : B) → ((i : TypedHeld) → (index ≡ Ok i) ↔ IsIndexed i) → ((p : NamedPart) → (f p ≡ Ok t) ↔ Q p)
    → ((place s whole name indexed index components >>= f) ≡ Ok t) ↔ ((i : TypedHeld) × (p : NamedPart) × IsIndexed i × IsPlace s whole name indexed i components p × Q p)
at_place s whole name indexed index components f t index_law next =
    in_words
    (then (place s whole name indexed index components) f t (λ p. place_law s whole name indexed index components p index_law) next)
    (λ (p, (i, indexed, is_place), next). (i, p, indexed, is_place, next))
    (λ (i, p, indexed, is_place, next). (p, (i, indexed, is_place), next))
