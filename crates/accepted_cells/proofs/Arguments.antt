-- An argument that is right is what its callee needs.
use Rattle.std.proofs.Common.{◌≡◌, Bool, true, false, ◌||◌, ◌&&◌, List, [], Option, Some, None, refl, sym, ap, subst, ◌∙◌, if◌then◌else◌, slice_get}
use Rattle.std.proofs.lemmas.Bool.{and_parts}
use Rattle.raw_trees.specs.Plain.{PlainExpr, PlainName, Number, Place, PlaceOf, NotHeld}
use Rattle.rapid_model.specs.Paths.{part_sort}
use Rattle.rapid_model.specs.Sorts.{has_values}
use Rattle.rapid_model.specs.declared.part_name.PartName.TheVariants as parts
use Rattle.rapid_model.specs.declared.sort.Sort.{Sort}
use Rattle.rapid_model.specs.declared.sort.Sort.TheVariants as sorts
use Rattle.rapid_builtins.specs.declared.need.Need.{Need}
use Rattle.rapid_builtins.specs.declared.need.Need.TheVariants as needs
use Rattle.rapid_num.specs.Literal.{literal_value}
use Rattle.typed_trees.specs.Plain as trees
use Rattle.typed_trees.specs.Plain.{TypedArg, TypedExpr, TypedHeld, TypedPlace, Given, Lent, OfSignal, OfMeeting}
use Rattle.typed_trees.specs.declared.expr.TreeRoot.{TreeRoot}
use Rattle.typed_trees.specs.declared.expr.TreeRoot.TheVariants as roots
use Rattle.named_data.specs.declared.component.Part.{Part}
use Rattle.named_data.specs.declared.named.Access.{Access}
use Rattle.named_data.specs.declared.named.Access.TheVariants as accesses
use Rattle.named_data.specs.declared.named.Source.{Source}
use Rattle.named_data.specs.declared.named.Source.TheVariants as sources
use Rattle.named_data.specs.declared.wanted.Wanted.{Wanted}
use Rattle.named_data.specs.declared.wanted.Wanted.TheVariants.{Is, Nothing}
use Rattle.named_data.specs.Data.{NamedPart, whole_of}
use Rattle.named_data.specs.Rules.{Site}
use Rattle.named_data.specs.Wants.{same_sort}
use Rattle.expr_types.specs.Arguments.{has_direction, is_held, is_one, lends, one_dimension, takes}
use Rattle.cell_assembly.proofs.SoundInfo.{same_sort_is}
use Rattle.type_laws.specs.Calls.{Indexes, IsArgument, IsLent, IsMeeting, IsPersName, IsPlaceArg, IsReference, IsSignal, IsValueArg, IsWhole, Stands, Values}
use Rattle.type_laws.specs.Names as rules
use Rattle.tree_typing.specs.Expressions.{IsArg, IsArray, IsExpr, IsPlace, is_zone}
use Rattle.tree_typing.specs.Kinds.{Kind}
use Rattle.tree_typing.specs.Setting.{Setting}
use Rattle.accepted_cells.proofs.Named.{Right, Suits}
use Rattle.accepted_cells.proofs.Places.{Holds, IsHeld, IsValued, array_typed, may_write, part_typed, place_read, place_typed, valued_part}

-- whether a place has an index
abbrev pub is_indexed : PlainExpr → Bool
is_indexed (Place at (PlaceOf name held components)) = is_held held
is_indexed _ = false

pub typed_as : (c : Setting) (kinds : List Kind) (sort : Sort) (t : TypedExpr) → Right c kinds (Is sort) t → IsExpr c kinds t sort
typed_as c kinds sort t h = subst (IsExpr c kinds t) h.1 h.0

stood : (source : Source) (root : TreeRoot) (access : Access) → Stands source root access → source ≡ sources.Place root access
stood (sources.Place r a) root access (same, way) = λ i. sources.Place (sym same i) (sym way i)
stood _ root access h = absurd h

-- a signal with a direction exists
directed : (output : Bool) (there : Option Bool) → has_direction output there ≡ true → (b : Bool) × (there ≡ Some b)
directed true None e = absurd cc
directed false None e = absurd cc
directed output (Some b) e = (b, refl)

-- what is lent to be written may be written
lends_written : (need : Need) (access : Access) → lends need access ≡ true → may_write access ≡ true
lends_written (needs.Var sort) accesses.Fixed e = absurd cc
lends_written (needs.Pers sort) accesses.Fixed e = absurd cc
lends_written (needs.VarOrPers sort) accesses.Fixed e = absurd cc
lends_written (needs.Written sort) accesses.Fixed e = absurd cc
lends_written needs.WorldZone accesses.Fixed e = absurd cc
lends_written need accesses.Fixed e = absurd cc
lends_written need access e = refl

zone_sort : (sort : Sort) → (same_sort sort sorts.WzTemporary || same_sort sort sorts.WzStationary) ≡ true → is_zone sort ≡ true
zone_sort sorts.WzTemporary e = refl
zone_sort sorts.WzStationary e = refl
zone_sort _ e = absurd cc

module _ (c : Setting) (kinds : List Kind) (s : Site) (suits : Suits c kinds s) where
  -- how an argument is typed as a value, and its index
  abbrev pub RightValue : Values → Type 0
  RightValue IsValue = (want : Wanted) (t : TypedExpr) → IsValue want t → Right c kinds want t

  abbrev pub RightIndex : PlainExpr → Indexes → Type 0
  RightIndex e IsIndexed = (i : TypedHeld) → IsIndexed i → IsHeld c kinds (is_indexed e) i

  value_right : (IsValue : Values) (sort : Sort) (arg : TypedArg) → RightValue IsValue → IsValueArg (Is sort) IsValue arg → IsArg c kinds arg (needs.Value sort)
  value_right IsValue sort arg right (t, value, is) = subst (λ (x : TypedArg). IsArg c kinds x (needs.Value sort)) (sym is) (typed_as c kinds sort t (right (Is sort) t value))

  one_num : (one : Bool) (t : TypedExpr) → Right c kinds (if one then Is sorts.Num else Nothing) t → IsExpr c kinds t sorts.Num
  one_num true t h = typed_as c kinds sorts.Num t h
  one_num false t h = absurd h.1

  one_typed : (e : PlainExpr) (t : TypedExpr) → Right c kinds (one_dimension e) t → IsExpr c kinds t sorts.Num
  one_typed (Number at text) t h = one_num (is_one (literal_value text)) t h
  one_typed _ t h = absurd h.1

  one_right : (e : PlainExpr) (IsValue : Values) (arg : TypedArg) → RightValue IsValue → IsValueArg (one_dimension e) IsValue arg → IsArg c kinds arg needs.One
  one_right e IsValue arg right (t, value, is) = subst (λ (x : TypedArg). IsArg c kinds x needs.One) (sym is) (one_typed e t (right (one_dimension e) t value))

  -- a part at the place of its root
  pub part_right : (name : PlainName) (held : trees.TypedHeld) (indexed : Bool) (components : List PlainName) (p : NamedPart) (root : TreeRoot) (access : Access)
      → rules.IsPlace s false name indexed held components p → Stands p.source root access → IsHeld c kinds indexed held
      → IsPlace c kinds (may_write access) (trees.PlaceOf root p.index p.part p.sort) p.sort × IsValued access p.sort
  part_right name held indexed components p root access is stands index =
      let d = is.datum in
      let q : NamedPart = record { source = d.source; array = d.array; index = held; part = is.part.name; sort = is.part.sort } in
      let there : Stands d.source root access = subst (λ (x : NamedPart). Stands x.source root access) is.is_it stands in
      let holds : Holds c kinds (sources.Place root access) d.sort d.array = subst (λ (x : Source). Holds c kinds x d.sort d.array) (stood d.source root access there) (suits.data_are name d is.is_datum) in
      let part : part_sort d.sort is.part.name ≡ Some is.part.sort = part_typed d.sort (whole_of d.sort) components is.part is.is_part refl in
      subst (λ (x : NamedPart). IsPlace c kinds (may_write access) (trees.PlaceOf root x.index x.part x.sort) x.sort × IsValued access x.sort) (sym is.is_it)
      (place_typed c kinds root access d.sort d.array indexed held is.part holds is.has_index is.is_array index part, valued_part access d.sort is.part.name is.part.sort holds.3 part)

  -- a place that is lent if this holds of it
  place_right : (P : TypedArg → Type 0) (fits : Access → NamedPart → Bool) (e : PlainExpr) (IsIndexed : Indexes) (arg : TypedArg) → RightIndex e IsIndexed
      → ((place : TypedPlace) (access : Access) (p : NamedPart) → fits access p ≡ true → IsPlace c kinds (may_write access) place p.sort → P (Lent place))
      → IsPlaceArg s false fits e IsIndexed arg → P arg
  place_right P fits (Place at (PlaceOf name held components)) IsIndexed arg right next (i, p, indexed, place, lent) =
      subst P (sym lent.is_it)
      (next (trees.PlaceOf lent.root p.index p.part p.sort) lent.access p lent.fitting
      (part_right name i (is_held held) components p lent.root lent.access place lent.stands (right i indexed)).0)
  place_right P fits _ IsIndexed arg right next h = absurd h

  -- a place of a type that the need names
  lent_right : (need : Need) (sort : Sort) (e : PlainExpr) (IsIndexed : Indexes) (arg : TypedArg) → RightIndex e IsIndexed
      → ((own : Sort) → takes need own ≡ true → own ≡ sort) → ((place : TypedPlace) → IsPlace c kinds true place sort → IsArg c kinds (Lent place) need)
      → IsReference s need e IsIndexed arg → IsArg c kinds arg need
  lent_right need sort e IsIndexed arg right same lent h =
      place_right (λ x. IsArg c kinds x need) (λ access p. lends need access && takes need p.sort) e IsIndexed arg right
      (λ place access p fits typed.
      let both = and_parts (lends need access) (takes need p.sort) fits in
      lent place (subst (IsPlace c kinds true place) (same p.sort both.1) (subst (λ (w : Bool). IsPlace c kinds w place p.sort) (lends_written need access both.0) typed))) h

  zone_right : (e : PlainExpr) (IsIndexed : Indexes) (arg : TypedArg) → RightIndex e IsIndexed → IsReference s needs.WorldZone e IsIndexed arg → IsArg c kinds arg needs.WorldZone
  zone_right e IsIndexed arg right h =
      place_right (λ x. IsArg c kinds x needs.WorldZone) (λ access p. lends needs.WorldZone access && takes needs.WorldZone p.sort) e IsIndexed arg right
      (λ place access p fits typed.
      let both = and_parts (lends needs.WorldZone access) (takes needs.WorldZone p.sort) fits in
      (p.sort, zone_sort p.sort both.1, subst (λ (w : Bool). IsPlace c kinds w place p.sort) (lends_written needs.WorldZone access both.0) typed)) h

  -- an array without an index
  whole_right : (P : TypedArg → Type 0) (of_sort : Sort → Bool) (e : PlainExpr) (IsIndexed : Indexes) (arg : TypedArg) → RightIndex e IsIndexed
      → ((place : TypedPlace) (sort : Sort) → of_sort sort ≡ true → IsArray c kinds place sort → P (Lent place)) → IsWhole s of_sort e IsIndexed arg → P arg
  whole_right P of_sort (Place at (PlaceOf name NotHeld [])) IsIndexed arg right next (i, p, indexed, is, lent) =
      let d = is.datum in
      let same : p ≡ record { source = d.source; array = d.array; index = trees.NotHeld; part = parts.Whole; sort = d.sort } =
      is.is_it ∙ ap (λ (x : Part). record { source = d.source; array = d.array; index = i; part = x.name; sort = x.sort }) is.is_part
      ∙ ap (λ (x : TypedHeld). record { source = d.source; array = d.array; index = x; part = parts.Whole; sort = d.sort }) (right i indexed) in
      let lent_it = subst (λ (x : NamedPart). IsLent (λ access p. p.array && of_sort p.sort) x arg) same lent in
      let fits = and_parts d.array (of_sort d.sort) lent_it.fitting in
      let holds : Holds c kinds (sources.Place lent_it.root lent_it.access) d.sort d.array =
      subst (λ (x : Source). Holds c kinds x d.sort d.array) (stood d.source lent_it.root lent_it.access lent_it.stands) (suits.data_are name d is.is_datum) in
      subst P (sym lent_it.is_it)
      (next (trees.PlaceOf lent_it.root trees.NotHeld parts.Whole d.sort) d.sort fits.1
      (array_typed c kinds lent_it.root lent_it.access d.sort (subst (λ (b : Bool). Holds c kinds (sources.Place lent_it.root lent_it.access) d.sort b) fits.0 holds)))
  whole_right P of_sort _ IsIndexed arg right next h = absurd h

  signal_right : (output : Bool) (e : PlainExpr) (arg : TypedArg) → IsSignal s output e arg → IsArg c kinds arg (needs.Signal output)
  signal_right output e arg (number, names, direction, is) =
      let there = directed output (slice_get s.names.outputs number) direction in
      subst (λ (x : TypedArg). IsArg c kinds x (needs.Signal output)) (sym is) (suits.signals number there.0 there.1)

  meeting_right : (e : PlainExpr) (arg : TypedArg) → IsMeeting s e arg → IsArg c kinds arg needs.Meeting
  meeting_right e arg (number, names, meets, is) = subst (λ (x : TypedArg). IsArg c kinds x needs.Meeting) (sym is) (suits.meetings number meets)

  pers_right : (e : PlainExpr) (arg : TypedArg) → IsPersName s e arg → IsArg c kinds arg needs.PersName
  pers_right (Place at (PlaceOf name NotHeld [])) arg (d, number, access, is_datum, stands, is) =
      let holds : Holds c kinds (sources.Place (roots.Pers number) access) d.sort d.array =
      subst (λ (x : Source). Holds c kinds x d.sort d.array) (stood d.source (roots.Pers number) access stands) (suits.data_are name d is_datum) in
      let (len, (p, there, same, long), array, valued) = holds in
      subst (λ (x : TypedArg). IsArg c kinds x needs.PersName) (sym is) (p, there, same)
  pers_right _ arg h = absurd h

  -- an argument is what its callee needs
  pub argument_right : (need : Need) (e : PlainExpr) (IsValue : Values) (IsIndexed : Indexes) (arg : TypedArg) → RightValue IsValue → RightIndex e IsIndexed
      → IsArgument s need e IsValue IsIndexed arg → IsArg c kinds arg need
  argument_right (needs.Value sort) e IsValue IsIndexed arg value index h = value_right IsValue sort arg value h
  argument_right (needs.Signal output) e IsValue IsIndexed arg value index h = signal_right output e arg h
  argument_right (needs.Var sort) e IsValue IsIndexed arg value index h = lent_right (needs.Var sort) sort e IsIndexed arg index (λ own. same_sort_is own sort) (λ place typed. typed) h
  argument_right (needs.Pers sort) e IsValue IsIndexed arg value index h = lent_right (needs.Pers sort) sort e IsIndexed arg index (λ own. same_sort_is own sort) (λ place typed. typed) h
  argument_right (needs.VarOrPers sort) e IsValue IsIndexed arg value index h = lent_right (needs.VarOrPers sort) sort e IsIndexed arg index (λ own. same_sort_is own sort) (λ place typed. typed) h
  argument_right (needs.Written sort) e IsValue IsIndexed arg value index h = lent_right (needs.Written sort) sort e IsIndexed arg index (λ own. same_sort_is own sort) (λ place typed. typed) h
  argument_right needs.WorldZone e IsValue IsIndexed arg value index h = zone_right e IsIndexed arg index h
  argument_right (needs.Place sort) e IsValue IsIndexed arg value index h =
      place_right (λ x. IsArg c kinds x (needs.Place sort)) (λ access p. same_sort p.sort sort) e IsIndexed arg index
      (λ place access p fits typed. subst (IsPlace c kinds false place) (same_sort_is p.sort sort fits) (place_read c kinds (may_write access) place p.sort typed)) h
  argument_right needs.Array e IsValue IsIndexed arg value index h =
      whole_right (λ x. IsArg c kinds x needs.Array) has_values e IsIndexed arg index (λ place sort valued typed. (sort, valued, typed)) h
  argument_right needs.TaskList e IsValue IsIndexed arg value index h =
      whole_right (λ x. IsArg c kinds x needs.TaskList) (same_sort sorts.Tasks) e IsIndexed arg index
      (λ place sort fits typed. subst (IsArray c kinds place) (sym (same_sort_is sorts.Tasks sort fits)) typed) h
  argument_right needs.One e IsValue IsIndexed arg value index h = one_right e IsValue arg value h
  argument_right needs.Fine e IsValue IsIndexed arg value index (bare, is) = subst (λ (x : TypedArg). IsArg c kinds x needs.Fine) (sym is) refl
  argument_right needs.Tool e IsValue IsIndexed arg value index (bare, is) = subst (λ (x : TypedArg). IsArg c kinds x needs.Tool) (sym is) refl
  argument_right needs.WorkObject e IsValue IsIndexed arg value index (bare, is) = subst (λ (x : TypedArg). IsArg c kinds x needs.WorkObject) (sym is) refl
  argument_right needs.Meeting e IsValue IsIndexed arg value index h = meeting_right e arg h
  argument_right needs.PersName e IsValue IsIndexed arg value index h = pers_right e arg h
