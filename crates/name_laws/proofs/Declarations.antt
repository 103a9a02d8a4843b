-- The rows of declarations among a task's names.
use Rattle.std.proofs.Common.{◌≡◌, ℕ, Bool, true, false, List, [], ◌∷◌, ◌++◌, length, Option, Some, None, Ok, slice_get, refl, sym, ap, subst, ◌∙◌, length-append, append_assoc, arith}
use Rattle.std.proofs.lemmas.List.{append-nil}
use Rattle.raw_trees.specs.Plain.{PlainDatum, PlainParam, PlainRoutine, PlainItem, PlainName, Datum, Routine}
use Rattle.rapid_model.specs.declared.sort.Sort.{Sort}
use Rattle.rapid_model.proofs.Lists.{between}
use Rattle.rule_checks.specs.Checks.{found_or}
use Rattle.rule_checks.specs.declared.rule.TypeRule.TheVariants.{NoName, NotThis}
use Rattle.rule_checks.specs.declared.spot.Spot.{Spot}
use Rattle.rule_checks.specs.TypeChecks.{TypeBreak, at_spot}
use Rattle.rule_checks.proofs.Steps.{behind, ok_same}
use Rattle.data_scopes.specs.declared.data_row.DatumRow.{DatumRow}
use Rattle.data_scopes.specs.declared.data_row.ParamRow.{ParamRow}
use Rattle.data_scopes.specs.Declarations.{spot_of, sort_at, type_of}
use Rattle.data_scopes.specs.Numbers.{Tally, is_pers, is_scalar_const}
use Rattle.data_scopes.specs.Rows.{datum_row, param_row, param_rows, local_rows, result_row, routine_row, item_rows, items_rows, modules_rows, rows_by}
use Rattle.data_scopes.specs.Scopes.{Tables, RoutineRow, Rows, meaning}
use Rattle.data_scopes.proofs.Within.{after_by}
use Rattle.name_laws.specs.Declared.{IsType, IsResultType, AreEach}
use Rattle.name_laws.proofs.Items.{Fact, IsWalk, Stepped, IsFront, front_more, stays}

-- what is there
found_some : {A : Type 0} (o : Option A) (b : TypeBreak) (x : A) → found_or o b ≡ Ok x → o ≡ Some x
found_some None b x e = absurd (cc)
found_some (Some y) b x e = ap Some (ok_same y x e)

pub type_found : (tables : Tables) (spot : Spot) (name : PlainName) (sort : Sort) → sort_at tables spot name ≡ Ok sort → IsType tables spot name sort
type_found tables spot name sort e =
    behind (IsType tables spot name sort) sort (found_or (meaning tables spot name.text) (at_spot spot NoName)) _ e (λ meant is rest.
    record {
      meant = meant;
      means = found_some (meaning tables spot name.text) (at_spot spot NoName) meant is;
      is_type = found_some (type_of meant) (at_spot spot NotThis) sort rest;
    })

module _ (tables : Tables) where
  -- of a datum, by the number of its module, and of its routine if it is in one
  abbrev pub IsDatumRow : ℕ → Option ℕ → PlainDatum → DatumRow → Type 0
  IsDatumRow number routine d row = IsType tables (spot_of number routine d.sort) d.sort row.sort

  pub datum_typed : (number : ℕ) (routine : Option ℕ) (d : PlainDatum) (row : DatumRow) → datum_row tables number routine d ≡ Ok row → IsDatumRow number routine d row
  datum_typed number routine d row e =
      behind (IsDatumRow number routine d row) row (sort_at tables (spot_of number routine d.sort) d.sort) _ e (λ sort is done.
      subst (IsDatumRow number routine d) (ok_same _ _ done) (type_found tables (spot_of number routine d.sort) d.sort sort is))

  pub record IsParam (number routine : ℕ) (p : PlainParam) (row : ParamRow) : Type 0 where
    pub mode : row.mode ≡ p.mode
    pub sort : IsType tables (spot_of number (Some routine) p.sort) p.sort row.sort

  param_typed : (number routine : ℕ) (p : PlainParam) (row : ParamRow) → param_row tables number routine p ≡ Ok row → IsParam number routine p row
  param_typed number routine p row e =
      behind (IsParam number routine p row) row (sort_at tables (spot_of number (Some routine) p.sort) p.sort) _ e (λ sort is done.
      subst (IsParam number routine p) (ok_same _ _ done) (record { mode = refl; sort = type_found tables (spot_of number (Some routine) p.sort) p.sort sort is }))

  -- rows after these, one for each declaration
  record Behind {A B : Type 0} (IsSuch : A → B → Type 0) (xs : List A) (before past : List B) : Type 0 where
    pub ys : List B
    pub is : past ≡ before ++ ys
    pub each : AreEach IsSuch xs ys

  one_behind : {A B : Type 0} (IsSuch : A → B → Type 0) (x : A) (xs : List A) (before past : List B) (y : B) → IsSuch x y → Behind IsSuch xs (before ++ y ∷ []) past → Behind IsSuch (x ∷ xs) before past
  one_behind IsSuch x xs before past y such b = record { ys = y ∷ b.ys; is = b.is ∙ append_assoc before (y ∷ []) b.ys; each = (such, b.each) }

  none_behind : {A B : Type 0} (IsSuch : A → B → Type 0) (before past : List B) → before ≡ past → Behind IsSuch [] before past
  none_behind IsSuch before past same = record { ys = []; is = sym same ∙ sym (append-nil before); each = tt }

  params_behind : (number routine : ℕ) (ps : List PlainParam) (before past : List ParamRow) → param_rows tables number routine ps before ≡ Ok past → Behind (IsParam number routine) ps before past
  params_behind number routine [] before past e = none_behind (IsParam number routine) before past (ok_same _ _ e)
  params_behind number routine (p ∷ ps) before past e =
      behind (Behind (IsParam number routine) (p ∷ ps) before past) past (param_row tables number routine p) _ e (λ row is rest.
      one_behind (IsParam number routine) p ps before past row (param_typed number routine p row is) (params_behind number routine ps (before ++ row ∷ []) past rest))

  locals_behind : (number routine : ℕ) (ds : List PlainDatum) (before past : List DatumRow) → local_rows tables number routine ds before ≡ Ok past → Behind (IsDatumRow number (Some routine)) ds before past
  locals_behind number routine [] before past e = none_behind (IsDatumRow number (Some routine)) before past (ok_same _ _ e)
  locals_behind number routine (d ∷ ds) before past e =
      behind (Behind (IsDatumRow number (Some routine)) (d ∷ ds) before past) past (datum_row tables number (Some routine) d) _ e (λ row is rest.
      one_behind (IsDatumRow number (Some routine)) d ds before past row (datum_typed number (Some routine) d row is) (locals_behind number routine ds (before ++ row ∷ []) past rest))

  result_typed : (number routine : ℕ) (name : Option PlainName) (result : Option Sort) → result_row tables number routine name ≡ Ok result → IsResultType tables (spot_of number (Some routine)) name result
  result_typed number routine None result e = subst (IsResultType tables (spot_of number (Some routine)) None) (ok_same None result e) tt
  result_typed number routine (Some name) result e =
      behind (IsResultType tables (spot_of number (Some routine)) (Some name) result) result (sort_at tables (spot_of number (Some routine) name) name) _ e (λ sort is done.
      subst (IsResultType tables (spot_of number (Some routine)) (Some name)) (ok_same (Some sort) result done) (type_found tables (spot_of number (Some routine) name) name sort is))

  pub record IsRoutine (number routine : ℕ) (r : PlainRoutine) (row : RoutineRow) : Type 0 where
    pub result : IsResultType tables (spot_of number (Some routine)) r.result row.result
    pub params : AreEach (IsParam number routine) r.params row.params
    pub locals : AreEach (IsDatumRow number (Some routine)) r.locals row.locals

  routine_typed : (number routine : ℕ) (r : PlainRoutine) (row : RoutineRow) → routine_row tables number routine r ≡ Ok row → IsRoutine number routine r row
  routine_typed number routine r row e =
      let P : Type 0 = IsRoutine number routine r row in
      behind P row (result_row tables number routine r.result) _ e (λ result is rest.
      behind P row (param_rows tables number routine r.params []) _ rest (λ params are more.
      behind P row (local_rows tables number routine r.locals []) _ more (λ locals were done.
      let ps = params_behind number routine r.params [] params are in
      let ls = locals_behind number routine r.locals [] locals were in
      subst (IsRoutine number routine r) (ok_same _ _ done) (record {
        result = result_typed number routine r.result result is;
        params = subst (AreEach (IsParam number routine) r.params) (sym ps.is) ps.each;
        locals = subst (AreEach (IsDatumRow number (Some routine)) r.locals) (sym ls.is) ls.each;
      }))))

  -- as many rows as were counted
  pub record AreCounted (c : Tally) (rows : Rows) : Type 0 where
    pub slots : c.slots ≡ length rows.slots
    pub pers : c.pers ≡ length rows.pers
    pub routines : c.routines ≡ length rows.routines

  pub record Grow (rows more : Rows) : Type 0 where
    pub slots : IsFront rows.slots more.slots
    pub pers : IsFront rows.pers more.pers
    pub routines : IsFront rows.routines more.routines

  abbrev pub DatumIn : Rows → ℕ → Tally → PlainDatum → Bool → Bool → Type 0
  DatumIn rows number c d true pers = Unit {0}
  DatumIn rows number c d false true = (row : DatumRow) × (slice_get rows.pers c.pers ≡ Some row) × IsDatumRow number None d row
  DatumIn rows number c d false false = (row : DatumRow) × (slice_get rows.slots c.slots ≡ Some row) × IsDatumRow number None d row

  -- a declaration has its row
  abbrev pub RowIn : Rows → Fact
  RowIn rows number c (Datum local task d at) = DatumIn rows number c d (is_scalar_const d) (is_pers d.kind)
  RowIn rows number c (Routine r) = (row : RoutineRow) × (slice_get rows.routines c.routines ≡ Some row) × IsRoutine number c.routines r row

  datum_later : (rows more : Rows) (number : ℕ) (c : Tally) (d : PlainDatum) (scalar pers : Bool) → Grow rows more → DatumIn rows number c d scalar pers → DatumIn more number c d scalar pers
  datum_later rows more number c d true pers g h = tt
  datum_later rows more number c d false true g (row, is, typed) = (row, g.pers c.pers row is, typed)
  datum_later rows more number c d false false g (row, is, typed) = (row, g.slots c.slots row is, typed)

  row_later : (rows more : Rows) (number : ℕ) (c : Tally) (item : PlainItem) → Grow rows more → RowIn rows number c item → RowIn more number c item
  row_later rows more number c (Datum local task d at) g h = datum_later rows more number c d (is_scalar_const d) (is_pers d.kind) g h
  row_later rows more number c (Routine r) g (row, is, typed) = (row, g.routines c.routines row is, typed)

  datum_stepped : (number : ℕ) (c : Tally) (d : PlainDatum) (rows : Rows) (row : DatumRow) (scalar pers : Bool) → AreCounted c rows → IsDatumRow number None d row →
      AreCounted (after_by c scalar pers) (rows_by rows scalar pers row) × Grow rows (rows_by rows scalar pers row) × DatumIn (rows_by rows scalar pers row) number c d scalar pers
  datum_stepped number c d rows row true pers h typed = (
    record { slots = h.slots; pers = h.pers; routines = h.routines },
    record { slots = stays rows.slots; pers = stays rows.pers; routines = stays rows.routines },
    tt,
  )
  datum_stepped number c d rows row false true h typed = (
    record { slots = h.slots; pers = omega (arith, h.pers, length-append rows.pers (row ∷ [])); routines = h.routines },
    record { slots = stays rows.slots; pers = front_more rows.pers row; routines = stays rows.routines },
    (row, ap (slice_get (rows.pers ++ row ∷ [])) h.pers ∙ between rows.pers [] row, typed),
  )
  datum_stepped number c d rows row false false h typed = (
    record { slots = omega (arith, h.slots, length-append rows.slots (row ∷ [])); pers = h.pers; routines = h.routines },
    record { slots = front_more rows.slots row; pers = stays rows.pers; routines = stays rows.routines },
    (row, ap (slice_get (rows.slots ++ row ∷ [])) h.slots ∙ between rows.slots [] row, typed),
  )

  item_stepped : (number : ℕ) (c : Tally) (item : PlainItem) (rows got : Rows) → AreCounted c rows → item_rows tables number item rows ≡ Ok got → Stepped AreCounted Grow RowIn number c item rows got
  item_stepped number c (Datum local task d at) rows got h e =
      behind (Stepped AreCounted Grow RowIn number c (Datum local task d at) rows got) got (datum_row tables number None d) _ e (λ row is done.
      subst (Stepped AreCounted Grow RowIn number c (Datum local task d at) rows) (ok_same _ _ done)
      (datum_stepped number c d rows row (is_scalar_const d) (is_pers d.kind) h (datum_typed number None d row is)))
  item_stepped number c (Routine r) rows got h e =
      behind (Stepped AreCounted Grow RowIn number c (Routine r) rows got) got (routine_row tables number (length rows.routines) r) _ e (λ row is done.
      subst (Stepped AreCounted Grow RowIn number c (Routine r) rows) (ok_same _ _ done) (
        record { slots = h.slots; pers = h.pers; routines = omega (arith, h.routines, length-append rows.routines (row ∷ [])) },
        record { slots = stays rows.slots; pers = stays rows.pers; routines = front_more rows.routines row },
        (
          row,
          ap (slice_get (rows.routines ++ row ∷ [])) h.routines ∙ between rows.routines [] row,
          subst (λ n. IsRoutine number n r row) (sym h.routines) (routine_typed number (length rows.routines) r row is),
        ),
      ))

  pub rows_walk : IsWalk Rows (item_rows tables) (items_rows tables) (modules_rows tables) AreCounted Grow RowIn
  rows_walk = record {
    no_items = λ number s. refl;
    more_items = λ number item items s. refl;
    no_modules = λ number s. refl;
    more_modules = λ number m ms s. refl;
    same = λ s. record { slots = stays s.slots; pers = stays s.pers; routines = stays s.routines };
    then = λ s t u g h. record {
      slots = λ k x is. h.slots k x (g.slots k x is);
      pers = λ k x is. h.pers k x (g.pers k x is);
      routines = λ k x is. h.routines k x (g.routines k x is);
    };
    later = row_later;
    one = item_stepped;
  }
