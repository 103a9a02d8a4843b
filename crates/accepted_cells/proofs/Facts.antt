-- At each spot, names stand for what the tree of their modules has.
use Rattle.std.proofs.Common.{◌≡◌, ℕ, ◌+◌, ◌-◌, ◌<◌, Bool, true, false, not, List, [], length, map, Option, Some, None, is_some, slice_get, refl, sym, ap, subst, ◌∙◌, if◌then◌else◌, IsTrue, nat_lt, arith}
use Rattle.std.specs.Option.{option_and_then, option_map}
use Rattle.std.proofs.Math.Logic.{⊎_elim}
use Rattle.std.proofs.lemmas.Bool.{lt-ltb}
use Rattle.std.proofs.lemmas.Option.{slice_get_within, same_Some}
use Rattle.raw_trees.specs.Plain.{PlainModule}
use Rattle.rapid_model.specs.declared.mode.Mode.{Mode}
use Rattle.rapid_model.specs.declared.mode.Mode.TheVariants as modes
use Rattle.rapid_model.specs.declared.routine_kind.RoutineKind.{RoutineKind}
use Rattle.rapid_model.specs.Limits.{holds_where_there}
use Rattle.rapid_model.specs.Paths.{has_sort}
use Rattle.rapid_model.specs.declared.predefined.Predefined.{Predefined}
use Rattle.rapid_model.specs.declared.predefined.Predefined.TheVariants as predefineds
use Rattle.rapid_model.specs.declared.signal_row.SignalRow.{SignalRow}
use Rattle.rapid_model.specs.declared.sort.Sort.{Sort}
use Rattle.rapid_model.specs.declared.value.Value.{Value}
use Rattle.rapid_builtins.specs.Data.{predefined_datum}
use Rattle.typed_trees.specs.Plain.{TypedLocal, TypedParam, TypedRoutine, TypedTree}
use Rattle.typed_trees.specs.declared.datum.Datum.{Datum}
use Rattle.typed_trees.specs.declared.expr.TreeRoot.{TreeRoot}
use Rattle.typed_trees.specs.declared.expr.TreeRoot.TheVariants as roots
use Rattle.rule_checks.specs.declared.spot.Spot.{Spot}
use Rattle.data_scopes.specs.declared.data_row.DatumRow.{DatumRow}
use Rattle.data_scopes.specs.declared.data_row.ParamRow.{ParamRow}
use Rattle.data_scopes.specs.declared.data_row.Since.{Since}
use Rattle.data_scopes.specs.declared.meant.Meant.{Meant}
use Rattle.data_scopes.specs.declared.meant.Meant.TheVariants as meants
use Rattle.data_scopes.specs.Called.{kind_of, local_of, param_of, params_in, own_row, data_count_in, data_count_of, value_row}
use Rattle.data_scopes.specs.Meetings.{is_meeting, meetings_before}
use Rattle.data_scopes.specs.Scopes.{Names, RoutineRow, Rows, meaning}
use Rattle.named_data.specs.Data.{access_by, access_of}
use Rattle.named_data.specs.declared.named.Access.{Access}
use Rattle.named_data.specs.declared.named.NamedDatum.{NamedDatum}
use Rattle.named_data.specs.Rules.{Site}
use Rattle.expr_types.specs.Calls as calls
use Rattle.type_laws.specs.Names.{IsConstant, IsKnown, IsMeant, IsParameter, IsPersistent, IsPredefined, IsStored}
use Rattle.name_laws.specs.Declared.{AreEach}
use Rattle.name_laws.specs.Meant.{HasItsRow, Inside}
use Rattle.name_laws.proofs.Tree.{each_length}
use Rattle.name_laws.proofs.Means.{partner}
use Rattle.tree_typing.specs.Expressions.{IsOwn, IsRoot}
use Rattle.tree_typing.specs.Kinds.{Counts, Kind, Owns, Refers, kind_by, kind_in as kind_of_row, kind_of as kind_in, kinds_of, local_kind}
use Rattle.tree_typing.specs.Setting.{Setting}
use Rattle.accepted_cells.proofs.RowKinds.{loop_kind, own_kind, param_kind, reference_kind, value_kind}
use Rattle.accepted_cells.proofs.Lists.{origin}
use Rattle.accepted_cells.proofs.Named.{IsCallable, Suits}
use Rattle.accepted_cells.proofs.Places.{Holds, IsValued, may_write}
use Rattle.accepted_cells.proofs.Routines.{ParamAlike, RoutineAlike, needs_alike}
use Rattle.accepted_cells.proofs.Rows.{IsFixed, IsLike, LocalAlike, PersAlike, SlotAlike, place_behind}

-- a value that is kept is a full one of its CONST's type
abbrev pub Kept : List DatumRow → List (Option Value) → Type 0
Kept consts kept = (k : ℕ) (row : DatumRow) (v : Value) → slice_get consts k ≡ Some row → slice_get kept k ≡ Some (Some v) → IsTrue (has_sort row.sort v)

-- the tree of modules, by the rows of their names
pub record Facts (modules : List PlainModule) (signals : List SignalRow) (c : Setting) (names : Names) : Type 0 where
  pub slots : AreEach SlotAlike names.rows.slots c.tree.slots
  pub pers : AreEach PersAlike names.rows.pers c.tree.pers
  pub routines : AreEach RoutineAlike names.rows.routines c.tree.routines
  pub meant : (spot : Spot) (name : List ℕ) (meant : Meant) → meaning names.tables spot name ≡ Some meant → HasItsRow modules signals c.tree spot name meant
  pub meetings : (number : ℕ) → is_meeting (slice_get names.rows.slots number) ≡ true → meetings_before number names.rows.slots < length c.tree.meetings
  pub outputs : length names.outputs ≡ c.signals
  pub few : length signals ≡ c.signals
  pub axes : names.axes ≡ c.tree.axes

-- the kinds of the rows of the routine around, if there is one
abbrev pub kinds_in : Option TypedRoutine → List Kind
kinds_in None = []
kinds_in (Some t) = kinds_of t

abbrev pub kinds_at : TypedTree → Option ℕ → List Kind
kinds_at tree None = []
kinds_at tree (Some k) = kinds_in (slice_get tree.routines k)

-- predefined data
abbrev is_fine : Option (Sort × Value) → Type 0
is_fine o = IsTrue (holds_where_there (λ typed. has_sort typed.0 typed.1) o)

fine : (name : Predefined) → is_fine (predefined_datum name)
fine predefineds.V5 = refl
fine _ = refl

-- a row of data may be written if it is not a constant's
own_row_typed : (since : Option Since) (variable : Bool) (own sort : Sort) (len : Option ℕ) (first : List Datum) → variable ≡ not (is_some since) → own ≡ sort
    → IsOwn (may_write (access_of since)) (kind_of_row variable own len first) sort len
own_row_typed None true own sort len first e same = (same, refl)
own_row_typed None false own sort len first e same = absurd cc
own_row_typed (Some since) true own sort len first e same = absurd cc
own_row_typed (Some since) false own sort len first e same = (same, refl, refl)

valued_row : (since : Option Since) (variable : Bool) (sort : Sort) → variable ≡ not (is_some since) → IsFixed variable sort → IsValued (access_of since) sort
valued_row None variable sort e fixed = tt
valued_row (Some since) variable sort e fixed = fixed e

free_by : (mode : Mode) (sort : Sort) → IsValued (access_by mode) sort
free_by modes.Value sort = tt
free_by modes.Var sort = tt
free_by modes.Pers sort = tt
free_by modes.Inout sort = tt

-- the first places of a routine are its parameters
place_first : (row : RoutineRow) (k : ℕ) (p : ParamRow) → slice_get row.params k ≡ Some p → own_row row k ≡ Some (value_row p)
place_first row k p is =
    let within : nat_lt k (length row.params) ≡ true = lt-ltb k (length row.params) (slice_get_within row.params k p is) in
    ap (λ (b : Bool). if b then option_map value_row (slice_get row.params k) else slice_get row.locals (k - length row.params)) within ∙ ap (option_map value_row) is

module _ (modules : List PlainModule) (signals : List SignalRow) (c : Setting) (names : Names) (facts : Facts modules signals c names) (other : Names) (like : IsLike names other)
    (kept : Kept names.rows.consts other.kept) (spot : Spot) where
  abbrev here : Site
  here = record { names = other; spot = spot }

  abbrev kinds : List Kind
  kinds = kinds_at c.tree spot.routine

  -- what is at a root with this access, its type, and whether it is an array
  abbrev IsAt : TreeRoot → Access → Sort → Bool → Type 0
  IsAt root access sort array = (len : Option ℕ) × IsRoot c.tree kinds (may_write access) root sort len × (is_some len ≡ array) × IsValued access sort

  -- the routine around, and its row
  pub record Around (t : TypedRoutine) : Type 0 where
    pub number : ℕ
    pub row : RoutineRow
    pub inside : spot.routine ≡ Some number
    pub there : slice_get c.tree.routines number ≡ Some t
    pub has_row : slice_get names.rows.routines number ≡ Some row
    pub alike : RoutineAlike row t
    pub kinds_are : kinds ≡ kinds_of t

  around : (name : List ℕ) (i : Inside modules signals c.tree spot name) → Around i.row
  around name i =
      let o = origin RoutineAlike names.rows.routines c.tree.routines i.routine i.row facts.routines i.has_row in
      record {
        number = i.routine;
        row = o.x;
        inside = i.is_inside;
        there = i.has_row;
        has_row = o.is;
        alike = o.such;
        kinds_are = ap (kinds_at c.tree) i.is_inside ∙ ap kinds_in i.has_row;
      }

  module _ (t : TypedRoutine) (a : Around t) where
    place_is : (place : ℕ) (row : DatumRow) → local_of other.rows spot.routine place ≡ Some row → own_row a.row place ≡ Some row
    place_is place row e =
        sym (ap (λ (rs : Rows). local_of rs spot.routine place) like.rows ∙ ap (λ (o : Option ℕ). local_of names.rows o place) a.inside ∙ ap (option_and_then (λ x. own_row x place)) a.has_row) ∙ e

    param_is : (place : ℕ) (row : ParamRow) → param_of other.rows spot.routine place ≡ Some row → slice_get a.row.params place ≡ Some row
    param_is place row e =
        sym (ap (λ (rs : Rows). param_of rs spot.routine place) like.rows ∙ ap (λ (o : Option ℕ). param_of names.rows o place) a.inside ∙ ap (λ (o : Option RoutineRow). slice_get (params_in o) place) a.has_row) ∙ e

    -- a parameter by value
    value_at : (place : ℕ) (row : DatumRow) (p : TypedParam) → own_row a.row place ≡ Some row → slice_get t.params place ≡ Some p → kind_in p ≡ Owns p.sort None → IsAt (roots.Local place) (access_of row.since) row.sort row.array
    value_at place row p e is kind =
        let o = origin ParamAlike a.row.params t.params place p a.alike.params is in
        let same : value_row o.x ≡ row = same_Some (value_row o.x) row (sym (place_first a.row place o.x o.is) ∙ e) in
        let sort : p.sort ≡ row.sort = o.such.1 ∙ ap (λ x. x.sort) same in (
          None,
          (Owns p.sort None, ap (λ (ks : List Kind). slice_get ks place) a.kinds_are ∙ param_kind t place p is ∙ ap Some kind, (sort, refl)),
          ap (λ x. x.array) same,
          subst (λ (x : DatumRow). IsValued (access_of x.since) x.sort) same tt,
        )

    datum_at : (place k : ℕ) (row : DatumRow) (l : TypedLocal) → own_row a.row place ≡ Some row → place ≡ length t.params + k → slice_get t.locals k ≡ Some l → IsAt (roots.Local place) (access_of row.since) row.sort row.array
    datum_at place k row l e behind is =
        let o = origin LocalAlike a.row.locals t.locals k l a.alike.locals is in
        let long = each_length ParamAlike a.row.params t.params a.alike.params in
        let same : o.x ≡ row = same_Some o.x row (sym (place_behind a.row k place (omega (arith, behind, long)) ∙ o.is) ∙ e) in (
          l.len,
          (
            local_kind l,
            ap (λ (ks : List Kind). slice_get ks place) a.kinds_are ∙ own_kind t k place l behind is,
            own_row_typed row.since l.variable l.sort row.sort l.len l.first (o.such.2 ∙ ap (λ x. not (is_some x.since)) same) (o.such.0 ∙ ap (λ x. x.sort) same),
          ),
          o.such.1 ∙ ap (λ x. x.array) same,
          valued_row row.since l.variable row.sort (o.such.2 ∙ ap (λ x. not (is_some x.since)) same) (subst (λ (x : DatumRow). IsFixed l.variable x.sort) same o.such.3),
        )

    reference_at : (place : ℕ) (row : ParamRow) (p : TypedParam) → slice_get a.row.params place ≡ Some row → slice_get t.params place ≡ Some p → kind_in p ≡ Refers p.sort → IsAt (roots.Ref place) (access_by row.mode) row.sort false
    reference_at place row p e is kind =
        let o = origin ParamAlike a.row.params t.params place p a.alike.params is in
        let same : o.x ≡ row = same_Some o.x row (sym o.is ∙ e) in
        let sort : p.sort ≡ row.sort = o.such.1 ∙ ap (λ x. x.sort) same in
        (None, (ap (λ (ks : List Kind). slice_get ks place) a.kinds_are ∙ param_kind t place p is ∙ ap Some kind ∙ ap (λ (x : Sort). Some (Refers x)) sort, refl), refl, free_by row.mode row.sort)

    pub loop_at : (k : ℕ) → k < t.loops → slice_get kinds (data_count_of other.rows spot.routine + k) ≡ Some Counts
    loop_at k few =
        let params = each_length ParamAlike a.row.params t.params a.alike.params in
        let rows = each_length LocalAlike a.row.locals t.locals a.alike.locals in
        let many : data_count_of other.rows spot.routine ≡ length a.row.params + length a.row.locals =
        ap (λ (rs : Rows). data_count_of rs spot.routine) like.rows ∙ ap (data_count_of names.rows) a.inside ∙ ap data_count_in a.has_row in
        ap (λ (ks : List Kind). slice_get ks (data_count_of other.rows spot.routine + k)) a.kinds_are
        ∙ loop_kind t k (data_count_of other.rows spot.routine + k) (omega (arith, many, params, rows)) few

  -- what has a place of its own
  stored_holds : (root : TreeRoot) (row : Option DatumRow) (d : NamedDatum) → ((r : DatumRow) → row ≡ Some r → IsAt root (access_of r.since) r.sort r.array) → IsStored here root row d → Holds c kinds d.source d.sort d.array
  stored_holds root None d at h = absurd h
  stored_holds root (Some r) d at (before, is) = subst (λ (x : NamedDatum). Holds c kinds x.source x.sort x.array) (sym is) (at r refl)

  slot_holds : (number : ℕ) (d : NamedDatum) → IsStored here (roots.Slot number) (slice_get other.rows.slots number) d → Holds c kinds d.source d.sort d.array
  slot_holds number d h =
      stored_holds (roots.Slot number) (slice_get other.rows.slots number) d (λ r is.
      let p = partner SlotAlike names.rows.slots c.tree.slots number r facts.slots (ap (λ (rs : Rows). slice_get rs.slots number) (sym like.rows) ∙ is) in (
        p.y.len,
        (p.y, p.is, own_row_typed r.since p.y.variable p.y.sort r.sort p.y.len p.y.first p.such.2 p.such.0),
        p.such.1,
        valued_row r.since p.y.variable r.sort p.such.2 p.such.3,
      )) h

  local_holds : (place : ℕ) (name : List ℕ) (d : NamedDatum) → HasItsRow modules signals c.tree spot name (meants.Local place) → IsStored here (roots.Local place) (local_of other.rows spot.routine place) d
      → Holds c kinds d.source d.sort d.array
  local_holds place name d has h =
      stored_holds (roots.Local place) (local_of other.rows spot.routine place) d (λ row is.
      ⊎_elim
      (λ p.
      let a = around name p.inside in
      value_at p.inside.row a place row p.row (place_is p.inside.row a place row is) p.has_row (ap (λ (m : Mode). kind_by m p.row.sort) p.is_row.mode ∙ value_kind p.p.mode p.row.sort p.handed))
      (λ l.
      let a = around name l.inside in
      datum_at l.inside.row a place l.index row l.row (place_is l.inside.row a place row is) l.behind l.has_row)
      has) h

  parameter_holds : (place : ℕ) (name : List ℕ) (row : Option ParamRow) (d : NamedDatum) → param_of other.rows spot.routine place ≡ row → HasItsRow modules signals c.tree spot name (meants.Ref place)
      → IsParameter place row d → Holds c kinds d.source d.sort d.array
  parameter_holds place name None d e has h = absurd h
  parameter_holds place name (Some row) d e p is =
      let a = around name p.inside in
      subst (λ (x : NamedDatum). Holds c kinds x.source x.sort x.array) (sym is)
      (reference_at p.inside.row a place row p.row (param_is p.inside.row a place row e) p.has_row (ap (λ (m : Mode). kind_by m p.row.sort) p.is_row.mode ∙ reference_kind p.p.mode p.row.sort p.handed))

  pers_holds : (number : ℕ) (row : Option DatumRow) (d : NamedDatum) → slice_get other.rows.pers number ≡ row → IsPersistent number row d → Holds c kinds d.source d.sort d.array
  pers_holds number None d e h = absurd h
  pers_holds number (Some r) d e is =
      let p = partner PersAlike names.rows.pers c.tree.pers number r facts.pers (ap (λ (rs : Rows). slice_get rs.pers number) (sym like.rows) ∙ e) in
      subst (λ (x : NamedDatum). Holds c kinds x.source x.sort x.array) (sym is) (p.y.len, (p.y, p.is, p.such.0, refl), p.such.1, tt)

  constant_holds : (number : ℕ) (row : Option DatumRow) (value : Option (Option Value)) (d : NamedDatum) → slice_get other.rows.consts number ≡ row → slice_get other.kept number ≡ value → IsConstant here row value d
      → Holds c kinds d.source d.sort d.array
  constant_holds number (Some row) (Some (Some v)) d e k (before, is) =
      subst (λ (x : NamedDatum). Holds c kinds x.source x.sort x.array) (sym is) (kept number row v (ap (λ (rs : Rows). slice_get rs.consts number) (sym like.rows) ∙ e) k)
  constant_holds number _ _ d e k h = absurd h

  known_holds : (o : Option (Sort × Value)) (d : NamedDatum) → is_fine o → IsKnown o d → Holds c kinds d.source d.sort d.array
  known_holds None d f h = absurd h
  known_holds (Some typed) d f is = subst (λ (x : NamedDatum). Holds c kinds x.source x.sort x.array) (sym is) f

  predefined_holds : (name : Predefined) (d : NamedDatum) → IsPredefined name d → Holds c kinds d.source d.sort d.array
  predefined_holds predefineds.ErrNo d is = subst (λ (x : NamedDatum). Holds c kinds x.source x.sort x.array) (sym is) refl
  predefined_holds name d h = known_holds (predefined_datum name) d (fine name) h

  signal_holds : (number : ℕ) (name : List ℕ) (d : NamedDatum) → HasItsRow modules signals c.tree spot name (meants.Signal number) → IsMeant here (Some (meants.Signal number)) d → Holds c kinds d.source d.sort d.array
  signal_holds number name d has is =
      let within = slice_get_within signals number has.row has.has_row in
      let few = facts.few in
      subst (λ (x : NamedDatum). Holds c kinds x.source x.sort x.array) (sym is) (refl, omega (arith, within, few))

  counter_holds : (number : ℕ) (name : List ℕ) (d : NamedDatum) → HasItsRow modules signals c.tree spot name (meants.For number) → IsMeant here (Some (meants.For number)) d → Holds c kinds d.source d.sort d.array
  counter_holds number name d has is =
      let a = around name has.inside in
      subst (λ (x : NamedDatum). Holds c kinds x.source x.sort x.array) (sym is) (None, (Counts, loop_at has.inside.row a number has.has_place, (refl, refl)), refl, refl)

  has_row : (name : List ℕ) (meant : Meant) → meaning other.tables spot name ≡ Some meant → HasItsRow modules signals c.tree spot name meant
  has_row name meant e = facts.meant spot name meant (ap (λ tables. meaning tables spot name) (sym like.tables) ∙ e)

  -- what a name means is there
  meant_holds : (meant : Option Meant) (name : List ℕ) (d : NamedDatum) → meaning other.tables spot name ≡ meant → IsMeant here meant d → Holds c kinds d.source d.sort d.array
  meant_holds (Some (meants.Slot number)) name d e h = slot_holds number d h
  meant_holds (Some (meants.Local place)) name d e h = local_holds place name d (has_row name (meants.Local place) e) h
  meant_holds (Some (meants.Ref place)) name d e h = parameter_holds place name (param_of other.rows spot.routine place) d refl (has_row name (meants.Ref place) e) h
  meant_holds (Some (meants.Pers number)) name d e h = pers_holds number (slice_get other.rows.pers number) d refl h
  meant_holds (Some (meants.Const number)) name d e h = constant_holds number (slice_get other.rows.consts number) (slice_get other.kept number) d refl refl h
  meant_holds (Some (meants.For number)) name d e h = counter_holds number name d (has_row name (meants.For number) e) h
  meant_holds (Some (meants.Signal number)) name d e h = signal_holds number name d (has_row name (meants.Signal number) e) h
  meant_holds (Some (meants.Predefined p)) name d e h = predefined_holds p d h
  meant_holds _ name d e h = absurd h

  callable_by : (number : ℕ) (kind : RoutineKind) (o : Option RoutineRow) → slice_get other.rows.routines number ≡ o → option_map (λ row. row.kind) o ≡ Some kind → IsCallable c other.rows number kind
  callable_by number kind None is e = absurd cc
  callable_by number kind (Some row) is e =
      let p = partner RoutineAlike names.rows.routines c.tree.routines number row facts.routines (ap (λ (rs : Rows). slice_get rs.routines number) (sym like.rows) ∙ is) in
      record {
        routine = p.y;
        there = p.is;
        same_kind = p.such.kind ∙ same_Some row.kind kind e;
        result = p.such.result ∙ sym (ap (option_and_then (λ x. x.result)) is);
        params = needs_alike row.params p.y.params p.such.params ∙ ap (map calls.need_of) (sym (ap params_in is));
      }

  callable : (number : ℕ) (kind : RoutineKind) → kind_of other.rows number ≡ Some kind → IsCallable c other.rows number kind
  callable number kind e = callable_by number kind (slice_get other.rows.routines number) refl e

  pub suits : Suits c kinds here
  suits = record {
    data_are = λ name d h. meant_holds (meaning other.tables spot name.text) name.text d refl h;
    routines = callable;
    signals = λ signal output is.
        let within = slice_get_within other.outputs signal output is in
        let long = facts.outputs in
        let same = ap length like.outputs in
        omega (arith, within, long, same);
    meetings = λ number is.
        subst (λ (rs : Rows). meetings_before number rs.slots < length c.tree.meetings) (sym like.rows) (facts.meetings number (subst (λ (rs : Rows). is_meeting (slice_get rs.slots number) ≡ true) like.rows is));
    axes = like.axes ∙ facts.axes;
  }
