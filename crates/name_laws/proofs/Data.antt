-- The rows of a task's data in its typed tree.
use Rattle.std.proofs.Common.{◌≡◌, ℕ, ◌+◌, Bool, true, false, ◌||◌, List, [], ◌∷◌, ◌++◌, length, Option, Some, None, Ok, slice_get, is_some, refl, sym, ap, subst, ◌∙◌, if◌then◌else◌, length-append, append_assoc, arith}
use Rattle.std.proofs.lemmas.List.{append-nil, length-replicate}
use Rattle.raw_trees.specs.Plain.{PlainExpr, PlainDatum, PlainRoutine, PlainItem, Datum, Routine}
use Rattle.rapid_model.specs.declared.sort.Sort.{Sort}
use Rattle.rapid_model.specs.declared.value.Value.{Value}
use Rattle.rapid_model.proofs.Lists.{between}
use Rattle.typed_trees.specs.Plain.{TypedLocal}
use Rattle.constant_meaning.specs.Constants.{Elements}
use Rattle.rule_checks.specs.TypeChecks.{Checked}
use Rattle.rule_checks.proofs.Steps.{behind, ok_same}
use Rattle.data_scopes.specs.Called.{local_of}
use Rattle.data_scopes.specs.Numbers.{Tally, is_pers, is_scalar_const, after_item}
use Rattle.data_scopes.specs.Scopes.{Names, Rows}
use Rattle.data_scopes.proofs.Within.{after_by}
use Rattle.decl_types.specs.Values.{Initial, initial, init_rule, len_of, length_at, values_at, site_of}
use Rattle.decl_types.specs.Data.{Progress, Inner, sort_in, keeping, with_const, with_slot, with_pers, inner_row, of_modules, datum_const, datum_pers, datum_slot, local, locals, entered, left, routine, item, items, data_of}
use Rattle.decl_types.specs.Parts.{slot_row, pers_row}
use Rattle.decl_types.proofs.Sound.{kept_rows}
use Rattle.name_laws.proofs.Meetings.{AreAlike, alike_more}
use Rattle.name_laws.proofs.Items.{Done, Fact, IsWalk, IsFront, front_more, stays}

-- an array has a length, and nothing else has one
module _ (names : Names) (number : ℕ) (around : Option ℕ) (known : Elements) where
  len_some : (e : Option PlainExpr) (len : Option ℕ) → len_of names number around known e ≡ Ok len → is_some len ≡ is_some e
  len_some None len is = ap is_some (sym (ok_same None len is))
  len_some (Some e) len is =
      behind (is_some len ≡ true) len (length_at (site_of names number around e) known e) _ is (λ n counted done. ap is_some (sym (ok_same (Some n) len done)))

  pub initial_len : (sort : Sort) (d : PlainDatum) (i : Initial) → initial names number around known sort d ≡ Ok i → is_some i.len ≡ is_some d.len
  initial_len sort d i is =
      let P : Type 0 = is_some i.len ≡ is_some d.len in
      behind P i (init_rule names number around d) _ is (λ u has rest.
      behind P i (len_of names number around known d.len) _ rest (λ len found more.
      behind P i (values_at names number around known sort len d.first) _ more (λ vs were done.
      ap (λ x. is_some x.len) (sym (ok_same _ i done)) ∙ len_some d.len len found)))

module _ (rows : Rows) where
  -- of a datum of a routine, at this place after its parameters
  pub record IsLocalOf (around index : ℕ) (d : PlainDatum) (t : TypedLocal) : Type 0 where
    pub i : Initial
    pub is : t ≡ inner_row d (sort_in (local_of rows (Some around) index)) i
    pub array : is_some i.len ≡ is_some d.len

  abbrev pub AreLocalsOf : ℕ → ℕ → List PlainDatum → List TypedLocal → Type 0
  AreLocalsOf around index [] [] = Unit {0}
  AreLocalsOf around index (d ∷ ds) (t ∷ ts) = IsLocalOf around index d t × AreLocalsOf around (index + 1) ds ts
  AreLocalsOf around index _ _ = ⊥

  record LocalsDone (around index : ℕ) (ds : List PlainDatum) (n m : Inner) : Type 0 where
    pub ts : List TypedLocal
    pub is : m.rows ≡ n.rows ++ ts
    pub each : AreLocalsOf around index ds ts
    pub same : m.names.rows ≡ rows

  record WithLocal (n : Inner) (t : TypedLocal) (m : Inner) : Type 0 where
    pub behind : m.rows ≡ n.rows ++ t ∷ []
    pub longer : length m.known ≡ length n.known + 1
    pub same : m.names.rows ≡ n.names.rows

  abbrev pub local_by : Inner → PlainDatum → Sort → Initial → Bool → Option (List Value) → Inner
  local_by n d sort i scalar elements =
      if scalar then record {
        names = keeping n.names n.consts i.values;
        consts = n.consts + 1;
        known = n.known ++ None ∷ [];
        rows = n.rows ++ inner_row d sort i ∷ [];
      } else record {
        names = n.names;
        consts = n.consts;
        known = n.known ++ elements ∷ [];
        rows = n.rows ++ inner_row d sort i ∷ [];
      }

  local_added : (n : Inner) (d : PlainDatum) (sort : Sort) (i : Initial) (scalar : Bool) (elements : Option (List Value)) → WithLocal n (inner_row d sort i) (local_by n d sort i scalar elements)
  local_added n d sort i true elements = record { behind = refl; longer = length-append n.known (None ∷ []); same = kept_rows n.names n.consts i.values }
  local_added n d sort i false elements = record { behind = refl; longer = length-append n.known (elements ∷ []); same = refl }

  locals_done : (number around index : ℕ) (slots : List (Option (List Value))) (ds : List PlainDatum) (n m : Inner) → n.names.rows ≡ rows → length n.known ≡ index → locals number around slots ds n ≡ Ok m → LocalsDone around index ds n m
  locals_done number around index slots [] n m same long e =
      subst (LocalsDone around index [] n) (ok_same n m e) (record { ts = []; is = sym (append-nil n.rows); each = tt; same = same })
  locals_done number around index slots (d ∷ ds) n m same long e =
      let P : Type 0 = LocalsDone around index (d ∷ ds) n m in
      behind P m (local number around slots d n) _ e (λ u one rest.
      let sort = sort_in (local_of n.names.rows (Some around) (length n.known)) in
      behind P u (initial n.names number (Some around) (record { slots = slots; locals = n.known }) sort d) _ one (λ i is done.
      let t = inner_row d sort i in
      let added : WithLocal n t u = subst (WithLocal n t) (ok_same _ u done) (local_added n d sort i (is_scalar_const d) _) in
      let after = locals_done number around (index + 1) slots ds u m (added.same ∙ same) (added.longer ∙ ap (λ k. k + 1) long) rest in
      record {
        ts = t ∷ after.ts;
        is = after.is ∙ ap (λ l. l ++ after.ts) added.behind ∙ append_assoc n.rows (t ∷ []) after.ts;
        each = (
          record {
            i = i;
            is = ap (λ r. inner_row d (sort_in (local_of r (Some around) (length n.known))) i) same ∙ ap (λ k. inner_row d (sort_in (local_of rows (Some around) k)) i) long;
            array = initial_len n.names number (Some around) (record { slots = slots; locals = n.known }) sort d i is;
          },
          after.each,
        );
        same = after.same;
      }))

  -- as many rows as were counted, and the rows of the names unchanged
  pub record AreCounted (c : Tally) (p : Progress) : Type 0 where
    pub slots : c.slots ≡ length p.slots
    pub pers : c.pers ≡ length p.pers
    pub routines : c.routines ≡ length p.locals
    pub same : p.names.rows ≡ rows
    pub alike : AreAlike p.slots rows.slots

  pub record Grow (p q : Progress) : Type 0 where
    pub slots : IsFront p.slots q.slots
    pub pers : IsFront p.pers q.pers
    pub locals : IsFront p.locals q.locals

  pub record PersIn (p : Progress) (number : ℕ) (c : Tally) (own : Bool) (d : PlainDatum) : Type 0 where
    pub i : Initial
    pub is : slice_get p.pers c.pers ≡ Some (pers_row number own d (sort_in (slice_get rows.pers c.pers)) i)
    pub array : is_some i.len ≡ is_some d.len

  pub record SlotIn (p : Progress) (c : Tally) (d : PlainDatum) : Type 0 where
    pub i : Initial
    pub is : slice_get p.slots c.slots ≡ Some (slot_row d (sort_in (slice_get rows.slots c.slots)) i)
    pub array : is_some i.len ≡ is_some d.len

  abbrev pub DatumIn : Progress → ℕ → Tally → Bool → PlainDatum → Bool → Bool → Type 0
  DatumIn p number c own d true pers = Unit {0}
  DatumIn p number c own d false true = PersIn p number c own d
  DatumIn p number c own d false false = SlotIn p c d

  pub record LocalsIn (p : Progress) (c : Tally) (r : PlainRoutine) : Type 0 where
    pub ts : List TypedLocal
    pub is : slice_get p.locals c.routines ≡ Some ts
    pub each : AreLocalsOf c.routines (length r.params) r.locals ts

  abbrev pub RowIn : Progress → Fact
  RowIn p number c (Datum local task d at) = DatumIn p number c (local || task) d (is_scalar_const d) (is_pers d.kind)
  RowIn p number c (Routine r) = LocalsIn p c r

  datum_later : (p q : Progress) (number : ℕ) (c : Tally) (own : Bool) (d : PlainDatum) (scalar pers : Bool) → Grow p q → DatumIn p number c own d scalar pers → DatumIn q number c own d scalar pers
  datum_later p q number c own d true pers g h = tt
  datum_later p q number c own d false true g h = record { i = h.i; is = g.pers c.pers _ h.is; array = h.array }
  datum_later p q number c own d false false g h = record { i = h.i; is = g.slots c.slots _ h.is; array = h.array }

  row_later : (p q : Progress) (number : ℕ) (c : Tally) (item : PlainItem) → Grow p q → RowIn p number c item → RowIn q number c item
  row_later p q number c (Datum local task d at) g h = datum_later p q number c (local || task) d (is_scalar_const d) (is_pers d.kind) g h
  row_later p q number c (Routine r) g h = record { ts = h.ts; is = g.locals c.routines h.ts h.is; each = h.each }

  abbrev pub datum_by : ℕ → Bool → PlainDatum → Progress → Bool → Bool → Checked Progress
  datum_by number own d p scalar pers =
      if scalar then datum_const number d p
      else if pers then datum_pers number own d p
      else datum_slot number d p

  datum_done : (number : ℕ) (c : Tally) (own : Bool) (d : PlainDatum) (p q : Progress) (scalar pers : Bool) → AreCounted c p → datum_by number own d p scalar pers ≡ Ok q →
      Done AreCounted Grow (after_by c scalar pers) (λ q. DatumIn q number c own d scalar pers) p q
  datum_done number c own d p q true pers h e =
      let Is : Progress → Type 0 = Done AreCounted Grow (after_by c true pers) (λ q. DatumIn q number c own d true pers) p in
      behind (Is q) q (initial p.names number None (of_modules p) (sort_in (slice_get p.names.rows.consts p.consts)) d) _ e (λ i is done.
      subst Is (ok_same (with_const p i) q done) (
        record { slots = h.slots; pers = h.pers; routines = h.routines; same = kept_rows p.names p.consts i.values ∙ h.same; alike = h.alike },
        record { slots = stays p.slots; pers = stays p.pers; locals = stays p.locals },
        tt,
      ))
  datum_done number c own d p q false true h e =
      let Is : Progress → Type 0 = Done AreCounted Grow (after_by c false true) (λ q. DatumIn q number c own d false true) p in
      let sort = sort_in (slice_get p.names.rows.pers (length p.pers)) in
      behind (Is q) q (initial p.names number None (of_modules p) sort d) _ e (λ i is done.
      let row = pers_row number own d sort i in
      let there : slice_get (p.pers ++ row ∷ []) c.pers ≡ Some row = ap (slice_get (p.pers ++ row ∷ [])) h.pers ∙ between p.pers [] row in
      let named : row ≡ pers_row number own d (sort_in (slice_get rows.pers c.pers)) i =
      ap (λ r. pers_row number own d (sort_in (slice_get r.pers (length p.pers))) i) h.same ∙ ap (λ k. pers_row number own d (sort_in (slice_get rows.pers k)) i) (sym h.pers) in
      subst Is (ok_same (with_pers p number own d sort i) q done) (
        record { slots = h.slots; pers = omega (arith, h.pers, length-append p.pers (row ∷ [])); routines = h.routines; same = h.same; alike = h.alike },
        record { slots = stays p.slots; pers = front_more p.pers row; locals = stays p.locals },
        record { i = i; is = there ∙ ap Some named; array = initial_len p.names number None (of_modules p) sort d i is },
      ))
  datum_done number c own d p q false false h e =
      let Is : Progress → Type 0 = Done AreCounted Grow (after_by c false false) (λ q. DatumIn q number c own d false false) p in
      let sort = sort_in (slice_get p.names.rows.slots (length p.slots)) in
      behind (Is q) q (initial p.names number None (of_modules p) sort d) _ e (λ i is done.
      let row = slot_row d sort i in
      let there : slice_get (p.slots ++ row ∷ []) c.slots ≡ Some row = ap (slice_get (p.slots ++ row ∷ [])) h.slots ∙ between p.slots [] row in
      let named : row ≡ slot_row d (sort_in (slice_get rows.slots c.slots)) i =
      ap (λ r. slot_row d (sort_in (slice_get r.slots (length p.slots))) i) h.same ∙ ap (λ k. slot_row d (sort_in (slice_get rows.slots k)) i) (sym h.slots) in
      subst Is (ok_same (with_slot p d sort i) q done) (
        record { slots = omega (arith, h.slots, length-append p.slots (row ∷ [])); pers = h.pers; routines = h.routines; same = h.same; alike = alike_more p.slots rows.slots row h.alike (ap (λ r. sort_in (slice_get r.slots (length p.slots))) h.same) },
        record { slots = front_more p.slots row; pers = stays p.pers; locals = stays p.locals },
        record { i = i; is = there ∙ ap Some named; array = initial_len p.names number None (of_modules p) sort d i is },
      ))

  routine_done : (number : ℕ) (c : Tally) (r : PlainRoutine) (p q : Progress) → AreCounted c p → routine number r p ≡ Ok q → Done AreCounted Grow (after_item c (Routine r)) (λ q. LocalsIn q c r) p q
  routine_done number c r p q h e =
      let Is : Progress → Type 0 = Done AreCounted Grow (after_item c (Routine r)) (λ q. LocalsIn q c r) p in
      behind (Is q) q (locals number (length p.locals) p.known r.locals (entered p r.params)) _ e (λ n is done.
      let all = locals_done number (length p.locals) (length r.params) p.known r.locals (entered p r.params) n h.same (length-replicate (length r.params) None) is in
      let there : slice_get (p.locals ++ n.rows ∷ []) c.routines ≡ Some n.rows = ap (slice_get (p.locals ++ n.rows ∷ [])) h.routines ∙ between p.locals [] n.rows in
      let each : AreLocalsOf c.routines (length r.params) r.locals all.ts = subst (λ k. AreLocalsOf k (length r.params) r.locals all.ts) (sym h.routines) all.each in
      subst Is (ok_same (left p n) q done) (
        record { slots = h.slots; pers = h.pers; routines = omega (arith, h.routines, length-append p.locals (n.rows ∷ [])); same = all.same; alike = h.alike },
        record { slots = stays p.slots; pers = stays p.pers; locals = front_more p.locals n.rows },
        record { ts = n.rows; is = there; each = subst (AreLocalsOf c.routines (length r.params) r.locals) (sym all.is) each },
      ))

  item_done : (number : ℕ) (c : Tally) (i : PlainItem) (p q : Progress) → AreCounted c p → item number i p ≡ Ok q → AreCounted (after_item c i) q × Grow p q × RowIn q number c i
  item_done number c (Datum local task d at) p q h e = datum_done number c (local || task) d p q (is_scalar_const d) (is_pers d.kind) h e
  item_done number c (Routine r) p q h e = routine_done number c r p q h e

  pub data_walk : IsWalk Progress item items data_of AreCounted Grow RowIn
  data_walk = record {
    no_items = λ number s. refl;
    more_items = λ number i is s. refl;
    no_modules = λ number s. refl;
    more_modules = λ number m ms s. refl;
    same = λ s. record { slots = stays s.slots; pers = stays s.pers; locals = stays s.locals };
    then = λ s t u g h. record {
      slots = λ k x is. h.slots k x (g.slots k x is);
      pers = λ k x is. h.pers k x (g.pers k x is);
      locals = λ k x is. h.locals k x (g.locals k x is);
    };
    later = row_later;
    one = item_done;
  }
