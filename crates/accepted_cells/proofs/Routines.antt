-- The routines of the tree: which declaration each comes from, and how it agrees with its row among the names.
use Rattle.std.proofs.Common.{◌≡◌, ℕ, suc, ◌+◌, Bool, true, false, List, [], ◌∷◌, ◌++◌, length, map, Option, Some, None, slice_get, refl, sym, ap, subst, ◌∙◌, if◌then◌else◌, arith}
use Rattle.std.specs.Option.{option_and_then, option_map}
use Rattle.std.proofs.lemmas.Option.{get_or_from_slice_get, slice_get_within}
use Rattle.raw_trees.specs.Plain.{PlainItem, PlainModule, PlainParam, PlainRoutine, Datum, Routine}
use Rattle.rapid_model.specs.declared.mode.Mode.{Mode}
use Rattle.rapid_builtins.specs.Parameters.{parameter_need}
use Rattle.typed_trees.specs.Plain.{TypedLocal, TypedParam, TypedRoutine}
use Rattle.data_scopes.specs.declared.data_row.DatumRow.{DatumRow}
use Rattle.data_scopes.specs.declared.data_row.ParamRow.{ParamRow}
use Rattle.data_scopes.specs.Called.{params_in}
use Rattle.data_scopes.specs.Numbers.{is_pers, is_scalar_const}
use Rattle.data_scopes.specs.Scopes.{Names, RoutineRow, Rows, Tables}
use Rattle.data_scopes.specs.Rows.{rows_by}
use Rattle.expr_types.specs.Calls as calls
use Rattle.data_scopes.proofs.ListAt.{list_at-there}
use Rattle.task_types.specs.Task.{is_main, main_among, routines_in, routines_of, typed_params}
use Rattle.type_laws.specs.DeclaredNames.{AreItemRows, AreModuleRows, IsRoutineRow}
use Rattle.type_laws.specs.Tasks.{AreItemRoutines, AreRoutines, IsRoutine}
use Rattle.name_laws.specs.Declared.{AreEach}
use Rattle.name_laws.proofs.Means.{partner}
use Rattle.tree_typing.specs.Kinds.{need_of}
use Rattle.accepted_cells.proofs.Lists.{AreFrom, Behind, each_of, from_at, from_length, none_behind, one_behind, then_behind}
use Rattle.accepted_cells.proofs.Rows.{LocalAlike, LocalsAlike, params_long}

abbrev pub ParamAlike : ParamRow → TypedParam → Type 0
ParamAlike row param = (param.mode ≡ row.mode) × (param.sort ≡ row.sort)

-- a routine of the tree, and its row among the names
pub record RoutineAlike (row : RoutineRow) (t : TypedRoutine) : Type 0 where
  pub kind : t.kind ≡ row.kind
  pub result : t.result ≡ row.result
  pub params : AreEach ParamAlike row.params t.params
  pub locals : AreEach LocalAlike row.locals t.locals

params_alike : (ps : List PlainParam) (rows : List ParamRow) → length ps ≡ length rows → AreEach ParamAlike rows (typed_params ps rows)
params_alike [] [] e = tt
params_alike [] (row ∷ rows) e = absurd (omega arith)
params_alike (p ∷ ps) [] e = absurd (omega arith)
params_alike (p ∷ ps) (row ∷ rows) e = ((refl, refl), params_alike ps rows (omega arith))

-- the needs of parameters that agree
pub needs_alike : (rows : List ParamRow) (params : List TypedParam) → AreEach ParamAlike rows params → map need_of params ≡ map calls.need_of rows
needs_alike [] [] h = refl
needs_alike [] (p ∷ ps) h = absurd h
needs_alike (row ∷ rows) [] h = absurd h
needs_alike (row ∷ rows) (p ∷ ps) h =
    let one : need_of p ≡ calls.need_of row = ap (λ (m : Mode). parameter_need m p.sort) h.0.0 ∙ ap (parameter_need row.mode) h.0.1 in
    let more = needs_alike rows ps h.1 in
    cc

module _ (tables : Tables) where
  -- the row of a routine in the module with a number
  pub record IsRowOf (k : ℕ) (r : PlainRoutine) (row : RoutineRow) : Type 0 where
    pub number : ℕ
    pub is : IsRoutineRow tables number k r row

  no_routine : (rows : Rows) (scalar pers : Bool) (row : DatumRow) → (rows_by rows scalar pers row).routines ≡ rows.routines
  no_routine rows true pers row = refl
  no_routine rows false true row = refl
  no_routine rows false false row = refl

  items_rows : (number : ℕ) (items : List PlainItem) (before past : Rows) → AreItemRows tables number items before past → Behind IsRowOf (routines_in items) before.routines past.routines
  items_rows number [] before past is = none_behind IsRowOf before.routines past.routines (ap (λ x. x.routines) is)
  items_rows number (Datum local task d at ∷ items) before past (middle, (row, is_row, is), rest) =
      let same : middle.routines ≡ before.routines = ap (λ x. x.routines) is ∙ no_routine before (is_scalar_const d) (is_pers d.kind) row in
      subst (λ l. Behind IsRowOf (routines_in items) l past.routines) same (items_rows number items middle past rest)
  items_rows number (Routine r ∷ items) before past (middle, (row, is_row, is), rest) =
      then_behind IsRowOf (r ∷ []) (routines_in items) before.routines middle.routines past.routines
      (one_behind IsRowOf r before.routines middle.routines row (ap (λ x. x.routines) is) (record { number = number; is = is_row })) (items_rows number items middle past rest)

  pub modules_rows : (number : ℕ) (ms : List PlainModule) (before past : Rows) → AreModuleRows tables number ms before past → Behind IsRowOf (routines_of ms) before.routines past.routines
  modules_rows number [] before past is = none_behind IsRowOf before.routines past.routines (ap (λ x. x.routines) is)
  modules_rows number (m ∷ ms) before past (middle, here, rest) =
      then_behind IsRowOf (routines_in m.items) (routines_of ms) before.routines middle.routines past.routines (items_rows number m.items before middle here) (modules_rows (number + 1) ms middle past rest)

module _ (names : Names) (locals : List (List TypedLocal)) where
  -- the typed form of a routine in the module with a number
  pub record IsTypedOf (k : ℕ) (r : PlainRoutine) (t : TypedRoutine) : Type 0 where
    pub number : ℕ
    pub is : IsRoutine names locals number k r t

  items_typed : (number : ℕ) (items : List PlainItem) (before past : List TypedRoutine) → AreItemRoutines names locals number items before past → Behind IsTypedOf (routines_in items) before past
  items_typed number [] before past is = none_behind IsTypedOf before past is
  items_typed number (Datum local task d at ∷ items) before past h = items_typed number items before past h
  items_typed number (Routine r ∷ items) before past (t, is, rest) =
      then_behind IsTypedOf (r ∷ []) (routines_in items) before (before ++ t ∷ []) past
      (one_behind IsTypedOf r before (before ++ t ∷ []) t refl (record { number = number; is = is })) (items_typed number items (before ++ t ∷ []) past rest)

  pub modules_typed : (number : ℕ) (ms : List PlainModule) (before past : List TypedRoutine) → AreRoutines names locals number ms before past → Behind IsTypedOf (routines_of ms) before past
  modules_typed number [] before past is = none_behind IsTypedOf before past is
  modules_typed number (m ∷ ms) before past (middle, here, rest) =
      then_behind IsTypedOf (routines_in m.items) (routines_of ms) before middle past (items_typed number m.items before middle here) (modules_typed (number + 1) ms middle past rest)

  module _ (tables : Tables) where
    alike_at : (k : ℕ) (r : PlainRoutine) (row : RoutineRow) (t : TypedRoutine) → slice_get names.rows.routines k ≡ Some row → AreEach LocalsAlike names.rows.routines locals → IsRowOf tables k r row → IsTypedOf k r t → RoutineAlike row t
    alike_at k r row t there held of_row of_typed =
        let (result, params, data_rows, is_result, are_params, are_locals, is_row) = of_row.is in
        let (ts, middle, h, loops, are, is_handler, is) = of_typed.is in
        let mine = partner LocalsAlike names.rows.routines locals k row held there in
        let many : length row.params ≡ 0 + length r.params = ap (λ x. length x.params) is_row ∙ params_long tables of_row.number k r.params [] params are_params in
        let long : length r.params ≡ length row.params = omega (arith, many) in
        let same_params : t.params ≡ typed_params r.params row.params = ap (λ x. x.params) is ∙ ap (λ o. typed_params r.params (params_in o)) there in
        let same_locals : t.locals ≡ mine.y = ap (λ x. x.locals) is ∙ list_at-there locals k mine.y (slice_get_within locals k mine.y mine.is) (sym (get_or_from_slice_get locals k mine.y mine.y mine.is)) in
        record {
          kind = ap (λ x. x.kind) is ∙ sym (ap (λ x. x.kind) is_row);
          result = ap (λ x. x.result) is ∙ ap (option_and_then (λ x. x.result)) there;
          params = subst (AreEach ParamAlike row.params) (sym same_params) (params_alike r.params row.params long);
          locals = subst (AreEach LocalAlike row.locals) (sym same_locals) mine.such;
        }

    pub routines_alike : (rs : List PlainRoutine) (ts : List TypedRoutine) → AreEach LocalsAlike names.rows.routines locals → AreFrom (IsRowOf tables) 0 rs names.rows.routines → AreFrom IsTypedOf 0 rs ts
        → AreEach RoutineAlike names.rows.routines ts
    routines_alike rs ts held of_rows of_typed =
        each_of RoutineAlike names.rows.routines ts (sym (from_length (IsRowOf tables) 0 rs names.rows.routines of_rows) ∙ from_length IsTypedOf 0 rs ts of_typed) (λ k row t there is.
        let a = from_at (IsRowOf tables) 0 rs names.rows.routines k row of_rows there in
        let b = from_at IsTypedOf 0 rs ts k t of_typed is in
        let same : b.x ≡ a.x = let e : Some b.x ≡ Some a.x = sym b.is ∙ a.is in cc in
        let e : 0 + k ≡ k = omega arith in
        alike_at k a.x row t there held (subst (λ n. IsRowOf tables n a.x row) e a.such) (subst (λ n. IsTypedOf n a.x t) e (subst (λ r. IsTypedOf (0 + k) r t) same b.such)))

-- the main among routines
pub record IsMainOf (rs : List PlainRoutine) (k : ℕ) : Type 0 where
  pub r : PlainRoutine
  pub there : slice_get rs k ≡ Some r
  pub is : is_main r ≡ true

main_later : (r : PlainRoutine) (rs : List PlainRoutine) (k : ℕ) (o : Option ℕ) → option_map suc o ≡ Some k → ((j : ℕ) → o ≡ Some j → IsMainOf rs j) → IsMainOf (r ∷ rs) k
main_later r rs k None e later = absurd cc
main_later r rs k (Some j) e later =
    let found = later j refl in
    let same : suc j ≡ k = cc in
    subst (IsMainOf (r ∷ rs)) same (record { r = found.r; there = found.there; is = found.is })

main_by : (r : PlainRoutine) (rs : List PlainRoutine) (k : ℕ) (b : Bool) (o : Option ℕ) → is_main r ≡ b → (if b then Some 0 else option_map suc o) ≡ Some k → ((j : ℕ) → o ≡ Some j → IsMainOf rs j) → IsMainOf (r ∷ rs) k
main_by r rs k true o is e later = let same : 0 ≡ k = cc in subst (IsMainOf (r ∷ rs)) same (record { r = r; there = refl; is = is })
main_by r rs k false o is e later = main_later r rs k o e later

pub main_there : (rs : List PlainRoutine) (k : ℕ) → main_among rs ≡ Some k → IsMainOf rs k
main_there [] k e = absurd cc
main_there (r ∷ rs) k e = main_by r rs k (is_main r) (main_among rs) refl e (main_there rs)
