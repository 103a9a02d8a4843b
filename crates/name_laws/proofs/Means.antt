-- What a name means has its row.
use Rattle.std.proofs.Common.{◌≡◌, inl, inr, ℕ, zero, suc, ◌+◌, ◌<◌, Bool, true, false, ◌||◌, List, [], ◌∷◌, length, Some, slice_get, refl, sym, ap, subst, if◌then◌else◌}
use Rattle.std.specs.Str.{str_to_ascii_lowercase}
use Rattle.std.proofs.lemmas.Option.{slice_get_within}
use Rattle.raw_trees.specs.Plain.{PlainDatum, PlainParam, PlainRoutine, PlainItem, PlainModule, Datum, Routine}
use Rattle.rapid_model.specs.declared.mode.Mode.{Mode}
use Rattle.rapid_model.specs.declared.mode.Mode.TheVariants as modes
use Rattle.rapid_model.specs.declared.signal_row.SignalRow.{SignalRow}
use Rattle.rapid_model.specs.Names.{IsOneName}
use Rattle.rule_checks.specs.declared.spot.Spot.{Spot}
use Rattle.typed_trees.specs.Plain.{TypedTree}
use Rattle.data_scopes.specs.declared.meant.Meant.{Meant}
use Rattle.data_scopes.specs.declared.meant.Meant.TheVariants as meants
use Rattle.data_scopes.specs.Loops.{loops_in_routine}
use Rattle.data_scopes.specs.Numbers.{Tally, is_pers, is_scalar_const, item_meant, param_meant, tables_of}
use Rattle.data_scopes.specs.Scopes.{Loop, Tables, meaning}
use Rattle.name_laws.specs.Declared.{IsSeen, AreEach}
use Rattle.name_laws.specs.Rows.{IsParamRow, IsLocalRow}
use Rattle.name_laws.specs.Meant.{HasItsRow, Inside, StandsInFor, is_by_value}
use Rattle.name_laws.specs.Meant as specs
use Rattle.name_laws.proofs.Seen.{PlaceEntry}
use Rattle.name_laws.proofs.Sources.{sources_such}
use Rattle.name_laws.proofs.Tree.{Checked, IsInTree, DatumIn, each_length}

-- the partner of an element
pub record Partner {A B : Type 0} (R : A → B → Type 0) (ys : List B) (k : ℕ) (x : A) : Type 0 where
  pub y : B
  pub is : slice_get ys k ≡ Some y
  pub such : R x y

pub partner : {A B : Type 0} (R : A → B → Type 0) (xs : List A) (ys : List B) (k : ℕ) (x : A) → AreEach R xs ys → slice_get xs k ≡ Some x → Partner R ys k x
partner R [] ys k x h is = absurd (cc)
partner R (z ∷ xs) [] k x h is = absurd h
partner R (z ∷ xs) (y ∷ ys) zero x h is = let same : z ≡ x = cc in record { y = y; is = refl; such = subst (λ w. R w y) same h.0 }
partner R (z ∷ xs) (y ∷ ys) (suc k) x h is = let p = partner R xs ys k x h.1 is in record { y = p.y; is = p.is; such = p.such }

module _ (modules : List PlainModule) (signals : List SignalRow) (axes : ℕ) (tree : TypedTree) (checked : Checked modules signals axes tree) (spot : Spot) (name : List ℕ) where
  abbrev tables : Tables
  tables = tables_of modules signals

  abbrev Q : Meant → Type 0
  Q = HasItsRow modules signals tree spot name

  abbrev A : ℕ → Tally → PlainItem → Type 0
  A = IsInTree tables tree.slots tree.pers tree.routines modules

  datum_row : (number : ℕ) (c : Tally) (local task : Bool) (d : PlainDatum) (at : ℕ) (scalar pers : Bool) → IsSeen modules spot name number (Datum local task d at) →
      DatumIn tables tree.slots tree.pers tree.routines number c (local || task) d scalar pers → Q (if scalar then meants.Const c.consts else if pers then meants.Pers c.pers else meants.Slot c.slots)
  datum_row number c local task d at true pers seen h = tt
  datum_row number c local task d at false true seen h =
      record { number = number; local = local; task = task; d = d; at = at; row = h.row; seen = seen; has_row = h.has_row; is_row = h.is_row }
  datum_row number c local task d at false false seen h =
      record { number = number; local = local; task = task; d = d; at = at; row = h.row; seen = seen; has_row = h.has_row; is_row = h.is_row }

  item_row : (number : ℕ) (c : Tally) (item : PlainItem) → A number c item → IsSeen modules spot name number item → Q (item_meant c item)
  item_row number c (Datum local task d at) h seen = datum_row number c local task d at (is_scalar_const d) (is_pers d.kind) seen h.1
  item_row number c (Routine r) h seen = record { number = number; r = r; row = h.1.row; seen = seen; has_row = h.1.has_row; is_row = h.1.is_row }

  param_row : (inside : Inside modules signals tree spot name) (index : ℕ) (p : PlainParam) → slice_get inside.r.params index ≡ Some p → IsOneName name p.name.text → (by_value : Bool) → is_by_value p.mode ≡ by_value →
      specs.IsParam modules signals tree spot name by_value index
  param_row inside index p is named by_value handed =
      let found = partner (IsParamRow tables inside.number inside.routine) inside.r.params inside.row.params index p inside.is_row.params is in
      record { inside = inside; p = p; row = found.y; is_param = is; named = named; handed = handed; has_row = found.is; is_row = found.such }

  param_by_mode : (index : ℕ) (mode : Mode) → ((by_value : Bool) → is_by_value mode ≡ by_value → specs.IsParam modules signals tree spot name by_value index) → Q (param_meant index mode)
  param_by_mode index modes.Value h = inl (h true refl)
  param_by_mode index modes.Inout h = h false refl
  param_by_mode index modes.Var h = h false refl
  param_by_mode index modes.Pers h = h false refl

  local_row : (inside : Inside modules signals tree spot name) (index consts : ℕ) (d : PlainDatum) → slice_get inside.r.locals index ≡ Some d → IsOneName name d.name.text → (scalar : Bool) → is_scalar_const d ≡ scalar →
      Q (if scalar then meants.Const consts else meants.Local (length inside.r.params + index))
  local_row inside index consts d is named true scalar = tt
  local_row inside index consts d is named false scalar =
      let found = partner (IsLocalRow tables inside.number inside.routine) inside.r.locals inside.row.locals index d inside.is_row.locals is in
      inr (record {
        inside = inside;
        index = index;
        d = d;
        row = found.y;
        is_datum = is;
        behind = ap (λ n. n + index) (each_length (IsParamRow tables inside.number inside.routine) inside.r.params inside.row.params inside.is_row.params);
        named = named;
        no_constant = scalar;
        has_row = found.is;
        is_row = found.such;
      })

  own_row : (first : ℕ) (inside : Inside modules signals tree spot name) (meant : Meant) → PlaceEntry first inside.r (str_to_ascii_lowercase name) meant → Q meant
  own_row first inside meant (inl e) =
      subst Q (sym e.means) (param_by_mode e.index e.p.mode (param_row inside e.index e.p e.is_param e.named))
  own_row first inside meant (inr e) =
      subst Q (sym e.means) (local_row inside e.index e.consts e.d e.is_datum e.named (is_scalar_const e.d) refl)

  -- the routine around the spot
  abbrev around : (number : ℕ) (c : Tally) (r : PlainRoutine) → A number c (Routine r) → spot.routine ≡ Some c.routines → Inside modules signals tree spot name
  around number c r h is = record { routine = c.routines; number = number; r = r; row = h.1.row; is_inside = is; stands = h.0; has_row = h.1.has_row; is_row = h.1.is_row }

  loop_row : (number : ℕ) (c : Tally) (r : PlainRoutine) → A number c (Routine r) → spot.routine ≡ Some c.routines → (k : ℕ) (loop : Loop) → slice_get (loops_in_routine r) k ≡ Some loop → str_to_ascii_lowercase name ≡ loop.name → (nearer : List ℕ) → StandsInFor (loops_in_routine r) (str_to_ascii_lowercase name) k spot.within nearer → Q (meants.For k)
  loop_row number c r h is k loop there named nearer stands = record {
    inside = around number c r h is;
    loop = loop;
    nearer = nearer;
    is_loop = there;
    named = named;
    stands = stands;
    has_place = subst (λ n. k < n) (sym h.1.is_row.loops) (slice_get_within (loops_in_routine r) k loop there);
  }

  pub has_its_row : (meant : Meant) → meaning tables spot name ≡ Some meant → Q meant
  has_its_row meant is =
      sources_such modules signals spot name A checked.all (λ number c item h. h.0) Q
      (record {
        items = item_row;
        places = λ number c r h is meant entry. own_row c.consts (around number c r h is) meant entry;
        loops = loop_row;
        script = λ k row there named. record { row = row; has_row = there; named = named };
      })
      (record { instructions = λ i. tt; functions = λ f. tt; predefined = λ p. tt }) meant is
