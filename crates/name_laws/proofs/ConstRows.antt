-- The rows of CONSTs that are not arrays, by their numbers over modules and routines.
use Rattle.std.proofs.Common.{◌≡◌, ℕ, zero, suc, ◌+◌, Bool, true, false, ◌&&◌, List, [], ◌∷◌, ◌++◌, length, Option, Some, None, is_some, is_none, Ok, slice_get, refl, sym, ap, subst, ◌∙◌, if◌then◌else◌, length-append, append_assoc, arith}
use Rattle.std.proofs.lemmas.List.{append-nil}
use Rattle.rapid_model.proofs.Lists.{between}
use Rattle.raw_trees.specs.Plain.{PlainExpr, PlainDatum, PlainRoutine, PlainItem, Datum, Routine}
use Rattle.rule_checks.proofs.Steps.{behind, ok_same}
use Rattle.data_scopes.specs.declared.data_row.DatumRow.{DatumRow}
use Rattle.data_scopes.specs.declared.data_row.Since.{Since}
use Rattle.data_scopes.specs.Declarations.{spot_of, sort_at}
use Rattle.data_scopes.specs.Numbers.{Tally, is_const, is_pers, is_scalar_const, scalar_consts}
use Rattle.data_scopes.specs.Rows.{datum_row, item_rows, items_rows, local_rows, modules_rows, param_rows, result_row, routine_row, scalar_rows, since_of, value_at, rows_by}
use Rattle.data_scopes.specs.Scopes.{Tables, RoutineRow, Rows}
use Rattle.data_scopes.proofs.Within.{after_by}
use Rattle.name_laws.specs.Constants.{IsConstRow}
use Rattle.name_laws.specs.Declared.{AreEach, IsType}
use Rattle.name_laws.proofs.Declarations.{type_found}
use Rattle.name_laws.proofs.Items.{Fact, IsFront, IsWalk, Stepped, front_more, stays, front_append}

-- how many CONSTs that are not arrays come before a place
abbrev pub consts_before : ℕ → List PlainDatum → ℕ
consts_before zero ds = 0
consts_before (suc index) [] = 0
consts_before (suc index) (d ∷ ds) = (if is_scalar_const d then 1 else 0) + consts_before index ds

pub before_more : (ds : List PlainDatum) (index : ℕ) (d : PlainDatum) → slice_get ds index ≡ Some d → consts_before (suc index) ds ≡ consts_before index ds + (if is_scalar_const d then 1 else 0)
before_more [] index d is = absurd (cc is)
before_more (e ∷ ds) zero d is =
    let same : e ≡ d = cc is in
    ap (λ x. (if is_scalar_const x then 1 else 0) + 0) same ∙ omega arith
before_more (e ∷ ds) (suc index) d is =
    let here : ℕ = if is_scalar_const e then 1 else 0 in
    ap (λ n. here + n) (before_more ds index d is) ∙ omega arith

-- the row of a datum as it is found
pub record IsFull (tables : Tables) (number : ℕ) (routine : Option ℕ) (d : PlainDatum) (row : DatumRow) : Type 0 where
  pub sort : IsType tables (spot_of number routine d.sort) d.sort row.sort
  pub array : row.array ≡ is_some d.len
  pub since : row.since ≡ since_of number d

module _ (tables : Tables) where
  full : (number : ℕ) (routine : Option ℕ) (d : PlainDatum) (row : DatumRow) → datum_row tables number routine d ≡ Ok row → IsFull tables number routine d row
  full number routine d row e =
      behind (IsFull tables number routine d row) row (sort_at tables (spot_of number routine d.sort) d.sort) _ e (λ sort is done.
      subst (IsFull tables number routine d) (ok_same _ _ done) (record { sort = type_found tables (spot_of number routine d.sort) d.sort sort is; array = refl; since = refl }))

  -- rows after these, one for each datum
  record Behind (number routine : ℕ) (ds : List PlainDatum) (before past : List DatumRow) : Type 0 where
    pub ys : List DatumRow
    pub is : past ≡ before ++ ys
    pub each : AreEach (IsFull tables number (Some routine)) ds ys

  locals_behind : (number routine : ℕ) (ds : List PlainDatum) (before past : List DatumRow) → local_rows tables number routine ds before ≡ Ok past → Behind number routine ds before past
  locals_behind number routine [] before past e = record { ys = []; is = sym (ok_same before past e) ∙ sym (append-nil before); each = tt }
  locals_behind number routine (d ∷ ds) before past e =
      behind (Behind number routine (d ∷ ds) before past) past (datum_row tables number (Some routine) d) _ e (λ row is rest.
      let b = locals_behind number routine ds (before ++ row ∷ []) past rest in
      record { ys = row ∷ b.ys; is = b.is ∙ append_assoc before (row ∷ []) b.ys; each = (full number (Some routine) d row is, b.each) })

  routine_full : (number routine : ℕ) (r : PlainRoutine) (row : RoutineRow) → routine_row tables number routine r ≡ Ok row → AreEach (IsFull tables number (Some routine)) r.locals row.locals
  routine_full number routine r row e =
      let P : Type 0 = AreEach (IsFull tables number (Some routine)) r.locals row.locals in
      behind P row (result_row tables number routine r.result) _ e (λ result is rest.
      behind P row (param_rows tables number routine r.params []) _ rest (λ params are more.
      behind P row (local_rows tables number routine r.locals []) _ more (λ locals were done.
      let b = locals_behind number routine r.locals [] locals were in
      subst (λ (x : RoutineRow). AreEach (IsFull tables number (Some routine)) r.locals x.locals) (ok_same _ _ done) (subst (AreEach (IsFull tables number (Some routine)) r.locals) (sym b.is) b.each))))

  -- whether a row is that of a CONST that is not an array
  abbrev row_if : Bool → DatumRow → List DatumRow → List DatumRow
  row_if b row rows = if b then row ∷ rows else rows

  scalar_if : (const : Bool) (len : Option PlainExpr) (since : Since) (row : DatumRow) (rows : List DatumRow)
      → (if is_some (if const then Some since else None) then (if is_some len then rows else row ∷ rows) else rows) ≡ row_if (const && is_none len) row rows
  scalar_if true None since row rows = refl
  scalar_if true (Some e) since row rows = refl
  scalar_if false len since row rows = refl

  scalars_with : (number : ℕ) (routine : Option ℕ) (d : PlainDatum) (row : DatumRow) (rows : List DatumRow) → IsFull tables number routine d row → scalar_rows (row ∷ rows) ≡ row_if (is_scalar_const d) row (scalar_rows rows)
  scalars_with number routine d row rows is =
      ap (λ b. if is_some row.since then (if b then scalar_rows rows else row ∷ scalar_rows rows) else scalar_rows rows) is.array
      ∙ ap (λ s. if is_some s then (if is_some d.len then scalar_rows rows else row ∷ scalar_rows rows) else scalar_rows rows) is.since
      ∙ scalar_if (is_const d.kind) d.len (record { «module» = number; at = value_at d.name d.first }) row (scalar_rows rows)

  -- a CONST that is not an array has its row as such
  const_is : (const : Bool) (len : Option PlainExpr) → (const && is_none len) ≡ true → (const ≡ true) × (is_some len ≡ false)
  const_is true None e = (refl, refl)
  const_is true (Some e') e = absurd (cc e)
  const_is false len e = absurd (cc e)

  pub const_row : (number : ℕ) (routine : Option ℕ) (d : PlainDatum) (row : DatumRow) → is_scalar_const d ≡ true → IsFull tables number routine d row → IsConstRow tables number routine d row
  const_row number routine d row scalar is =
      let (const, no_len) = const_is (is_const d.kind) d.len scalar in
      let since : Since = record { «module» = number; at = value_at d.name d.first } in
      record { constant = scalar; sort = is.sort; no_array = is.array ∙ no_len; since = is.since ∙ ap (λ b. let s : Option Since = if b then Some since else None in s) const }

  -- the row of a CONST among those of a list of data
  record IsConstAt (number routine : ℕ) (d : PlainDatum) (rows : List DatumRow) (k : ℕ) : Type 0 where
    pub row : DatumRow
    pub is : slice_get rows k ≡ Some row
    pub is_row : IsConstRow tables number (Some routine) d row

  const_at : (number routine : ℕ) (ds : List PlainDatum) (rows : List DatumRow) → AreEach (IsFull tables number (Some routine)) ds rows → (index : ℕ) (d : PlainDatum) → slice_get ds index ≡ Some d → is_scalar_const d ≡ true
      → IsConstAt number routine d (scalar_rows rows) (consts_before index ds)
  const_at number routine [] rows each index d is scalar = absurd (cc is)
  const_at number routine (e ∷ ds) [] each index d is scalar = absurd each
  const_at number routine (e ∷ ds) (row ∷ rows) each zero d is scalar =
      let same : e ≡ d = cc is in
      let e_scalar = subst (λ x. is_scalar_const x ≡ true) (sym same) scalar in
      let first = scalars_with number (Some routine) e row rows each.0 ∙ ap (λ b. row_if b row (scalar_rows rows)) e_scalar in
      record {
        row = row;
        is = ap (λ xs. slice_get xs 0) first;
        is_row = subst (λ x. IsConstRow tables number (Some routine) x row) same (const_row number (Some routine) e row e_scalar each.0);
      }
  const_at number routine (e ∷ ds) (row ∷ rows) each (suc index) d is scalar =
      let more = const_at number routine ds rows each.1 index d is scalar in
      record { row = more.row; is = ap (λ xs. slice_get xs (consts_before (suc index) (e ∷ ds))) (scalars_with number (Some routine) e row rows each.0) ∙ past (is_scalar_const e) ∙ more.is; is_row = more.is_row }
    where
      past : (b : Bool) → slice_get (row_if b row (scalar_rows rows)) ((if b then 1 else 0) + consts_before index ds) ≡ slice_get (scalar_rows rows) (consts_before index ds)
      past true = let n : 1 + consts_before index ds ≡ suc (consts_before index ds) = omega arith in ap (slice_get (row ∷ scalar_rows rows)) n
      past false = let n : 0 + consts_before index ds ≡ consts_before index ds = omega arith in ap (slice_get (scalar_rows rows)) n

  one_counted : (b : Bool) (row : DatumRow) (rows : List DatumRow) (n : ℕ) → length rows ≡ n → length (row_if b row rows) ≡ (if b then 1 else 0) + n
  one_counted true row rows n is = omega (arith, is)
  one_counted false row rows n is = omega (arith, is)

  as_many_consts : (number routine : ℕ) (ds : List PlainDatum) (rows : List DatumRow) → AreEach (IsFull tables number (Some routine)) ds rows → length (scalar_rows rows) ≡ scalar_consts ds
  as_many_consts number routine [] [] each = refl
  as_many_consts number routine [] (row ∷ rows) each = absurd each
  as_many_consts number routine (d ∷ ds) [] each = absurd each
  as_many_consts number routine (d ∷ ds) (row ∷ rows) each =
      ap length (scalars_with number (Some routine) d row rows each.0) ∙ one_counted (is_scalar_const d) row (scalar_rows rows) (scalar_consts ds) (as_many_consts number routine ds rows each.1)

  -- as many rows as were counted
  pub record AreCounted (c : Tally) (rows : Rows) : Type 0 where
    pub consts : c.consts ≡ length rows.consts
    pub routines : c.routines ≡ length rows.routines

  abbrev pub Grow : Rows → Rows → Type 0
  Grow rows more = IsFront rows.consts more.consts

  -- a CONST of a module has its row
  pub record DatumConst (rows : Rows) (number : ℕ) (c : Tally) (d : PlainDatum) : Type 0 where
    pub row : DatumRow
    pub is : slice_get rows.consts c.consts ≡ Some row
    pub is_row : IsConstRow tables number None d row

  abbrev pub DatumIn : Rows → ℕ → Tally → PlainDatum → Bool → Type 0
  DatumIn rows number c d true = DatumConst rows number c d
  DatumIn rows number c d false = Unit {0}

  -- and so have those of a routine
  pub record LocalConst (rows : Rows) (number : ℕ) (c : Tally) (r : PlainRoutine) (index : ℕ) (d : PlainDatum) : Type 0 where
    pub row : DatumRow
    pub is : slice_get rows.consts (c.consts + consts_before index r.locals) ≡ Some row
    pub is_row : IsConstRow tables number (Some c.routines) d row

  abbrev pub RowIn : Rows → Fact
  RowIn rows number c (Datum local task d at) = DatumIn rows number c d (is_scalar_const d)
  RowIn rows number c (Routine r) = (index : ℕ) (d : PlainDatum) → slice_get r.locals index ≡ Some d → is_scalar_const d ≡ true → LocalConst rows number c r index d

  datum_later : (rows more : Rows) (number : ℕ) (c : Tally) (d : PlainDatum) (scalar : Bool) → Grow rows more → DatumIn rows number c d scalar → DatumIn more number c d scalar
  datum_later rows more number c d true g h = record { row = h.row; is = g c.consts h.row h.is; is_row = h.is_row }
  datum_later rows more number c d false g h = tt

  row_later : (rows more : Rows) (number : ℕ) (c : Tally) (item : PlainItem) → Grow rows more → RowIn rows number c item → RowIn more number c item
  row_later rows more number c (Datum local task d at) g h = datum_later rows more number c d (is_scalar_const d) g h
  row_later rows more number c (Routine r) g h = λ index d is scalar. let l = h index d is scalar in record { row = l.row; is = g (c.consts + consts_before index r.locals) l.row l.is; is_row = l.is_row }

  datum_stepped : (number : ℕ) (c : Tally) (d : PlainDatum) (rows : Rows) (row : DatumRow) (scalar pers : Bool) → is_scalar_const d ≡ scalar → AreCounted c rows → IsFull tables number None d row
      → AreCounted (after_by c scalar pers) (rows_by rows scalar pers row) × Grow rows (rows_by rows scalar pers row) × DatumIn (rows_by rows scalar pers row) number c d scalar
  datum_stepped number c d rows row true pers is h typed = (
    record { consts = omega (arith, h.consts, length-append rows.consts (row ∷ [])); routines = h.routines },
    front_more rows.consts row,
    record { row = row; is = ap (slice_get (rows.consts ++ row ∷ [])) h.consts ∙ between rows.consts [] row; is_row = const_row number None d row is typed },
  )
  datum_stepped number c d rows row false true is h typed = (record { consts = h.consts; routines = h.routines }, stays rows.consts, tt)
  datum_stepped number c d rows row false false is h typed = (record { consts = h.consts; routines = h.routines }, stays rows.consts, tt)

  behind_front : {A : Type 0} (xs ys : List A) (n k : ℕ) → n ≡ length xs → slice_get (xs ++ ys) (n + k) ≡ slice_get ys k
  behind_front [] ys n k is = let e : n + k ≡ k = omega (arith, is) in ap (slice_get ys) e
  behind_front (x ∷ xs) ys zero k is = absurd (omega (arith, is))
  behind_front (x ∷ xs) ys (suc n) k is = let e : suc n + k ≡ suc (n + k) = omega arith in ap (slice_get (x ∷ (xs ++ ys))) e ∙ behind_front xs ys n k (omega (arith, is))

  item_stepped : (number : ℕ) (c : Tally) (item : PlainItem) (rows got : Rows) → AreCounted c rows → item_rows tables number item rows ≡ Ok got → Stepped AreCounted Grow RowIn number c item rows got
  item_stepped number c (Datum local task d at) rows got h e =
      behind (Stepped AreCounted Grow RowIn number c (Datum local task d at) rows got) got (datum_row tables number None d) _ e (λ row is done.
      subst (Stepped AreCounted Grow RowIn number c (Datum local task d at) rows) (ok_same _ _ done)
      (datum_stepped number c d rows row (is_scalar_const d) (is_pers d.kind) refl h (full number None d row is)))
  item_stepped number c (Routine r) rows got h e =
      behind (Stepped AreCounted Grow RowIn number c (Routine r) rows got) got (routine_row tables number (length rows.routines) r) _ e (λ row is done.
      let each = subst (λ n. AreEach (IsFull tables number (Some n)) r.locals row.locals) (sym h.routines) (routine_full number (length rows.routines) r row is) in
      subst (Stepped AreCounted Grow RowIn number c (Routine r) rows) (ok_same _ _ done) (
        record {
          consts = omega (arith, h.consts, length-append rows.consts (scalar_rows row.locals), as_many_consts number c.routines r.locals row.locals each);
          routines = omega (arith, h.routines, length-append rows.routines (row ∷ []));
        },
        front_append rows.consts (scalar_rows row.locals),
        λ index d there scalar.
            let at = const_at number c.routines r.locals row.locals each index d there scalar in
            record { row = at.row; is = behind_front rows.consts (scalar_rows row.locals) c.consts (consts_before index r.locals) h.consts ∙ at.is; is_row = at.is_row },
      ))

  pub consts_walk : IsWalk Rows (item_rows tables) (items_rows tables) (modules_rows tables) AreCounted Grow RowIn
  consts_walk = record {
    no_items = λ number s. refl;
    more_items = λ number item items s. refl;
    no_modules = λ number s. refl;
    more_modules = λ number m ms s. refl;
    same = λ s. stays s.consts;
    then = λ s t u g h. λ k x is. h k x (g k x is);
    later = row_later;
    one = item_stepped;
  }
