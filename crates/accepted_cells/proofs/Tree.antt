-- The tree of a task whose modules are right is well typed.
use Rattle.std.proofs.Common.{◌≡◌, ℕ, zero, suc, ◌+◌, ◌<◌, ◌≤◌, Bool, true, false, not, ◌&&◌, List, [], ◌∷◌, length, replicate, Option, Some, None, Ok, slice_get, refl, sym, ap, subst, ◌∙◌, IsTrue, arith}
use Rattle.std.specs.Prelude.{codes}
use Rattle.std.specs.List.{All, list_all}
use Rattle.std.specs.Str.{str_eq_ignore_ascii_case}
use Rattle.std.proofs.lemmas.Bool.{and_parts}
use Rattle.std.proofs.lemmas.List.{length-map}
use Rattle.std.proofs.lemmas.List.Elements.{All-cons, All-head, All-nil, All-tail}
use Rattle.std.proofs.lemmas.Option.{slice_get_within}
use Rattle.raw_trees.specs.Plain as Raw
use Rattle.raw_trees.specs.Plain.{PlainModule, PlainParam, PlainRoutine, stmts_of}
use Rattle.rapid_model.specs.declared.routine_kind.RoutineKind.{RoutineKind}
use Rattle.rapid_model.specs.declared.routine_kind.RoutineKind.TheVariants as routines
use Rattle.rapid_model.specs.Limits.{holds_where_there, is_axes, is_within}
use Rattle.rapid_model.specs.Sorts.{has_values}
use Rattle.rapid_model.specs.declared.signal_row.SignalRow.{SignalRow}
use Rattle.rapid_model.specs.declared.value.Value.{Value}
use Rattle.rapid_meaning.proofs.Begins.{Anything}
use Rattle.typed_trees.specs.Plain.{TypedPers, TypedRoutine, TypedStmts, TypedTree}
use Rattle.typed_trees.specs.Sound.{fits, is_sound}
use Rattle.typed_trees.specs.Labels.{error_part}
use Rattle.data_scopes.specs.declared.data_row.ParamRow.{ParamRow}
use Rattle.data_scopes.specs.Called.{params_of, result_of}
use Rattle.data_scopes.specs.Numbers.{tables_of}
use Rattle.data_scopes.specs.Rows.{no_rows}
use Rattle.data_scopes.specs.Meetings.{meetings_before}
use Rattle.data_scopes.specs.Scopes.{Names, Rows, Tables, list_at, meaning}
use Rattle.named_data.specs.Data.{is_empty}
use Rattle.decl_types.specs.Data.{Inner, Progress, beginning}
use Rattle.stmt_types.specs.Bodies as bodies
use Rattle.stmt_types.specs.Bodies.{Body, into, outside}
use Rattle.task_types.specs.Task.{body_of, is_main, is_procedure, routines_of, task_of, typed_params}
use Rattle.task_types.proofs.Sound.{task_sound}
use Rattle.type_laws.specs.Statements.{AreStmts as AreTypedStmts}
use Rattle.type_laws.specs.Tasks.{IsHandler as IsTypedHandler, IsRoutine as IsTypedRoutine, IsTyped}
use Rattle.type_laws.proofs.Rows.{names_law}
use Rattle.type_laws.proofs.TaskLaws.{task_law}
use Rattle.name_laws.specs.Declared.{AreEach}
use Rattle.name_laws.specs.Jumps.{JumpsLand, Land, LandInElse}
use Rattle.name_laws.proofs.Means.{has_its_row}
use Rattle.name_laws.proofs.RoutineJumps.{jumps_right}
use Rattle.name_laws.proofs.Tree.{meetings_checked, task_checked}
use Rattle.tree_typing.specs.Kinds.{Counts, Kind}
use Rattle.tree_typing.specs.Setting.{Setting}
use Rattle.tree_typing.specs.Statements.{AreStmts, Around}
use Rattle.tree_typing.proofs.Rows.{all_at}
use Rattle.tree_typing.specs.WellTyped as specs
use Rattle.tree_typing.specs.WellTyped.{IsHandler, IsMain, IsRoutine, WellTyped, around_in}
use Rattle.accepted_cells.specs.Traps.{TakesByKind, TrapsTakeNothing}
use Rattle.accepted_cells.proofs.Data.{LocalFirst, SlotFirst, Valued, data_visits}
use Rattle.accepted_cells.proofs.Facts.{Facts, kinds_at, kinds_in, loop_at, suits}
use Rattle.accepted_cells.proofs.Labels.{owned}
use Rattle.accepted_cells.proofs.Lists.{AreFrom, all_behind, all_of, from_at, from_to, origin}
use Rattle.accepted_cells.proofs.Named.{Suits}
use Rattle.accepted_cells.proofs.Routines.{IsRowOf, IsTypedOf, RoutineAlike, main_there, modules_rows, modules_typed, routines_alike}
use Rattle.accepted_cells.proofs.Rows.{Aligned, Grows, LocalsAlike, PersAlike, SlotAlike, Visits, modules_aligned}
use Rattle.accepted_cells.proofs.Statements.{inside, stmts_grow, stmts_right}

abbrev AnyInner : List (Option (List Value)) → Inner → Type 0
AnyInner slots n = Unit {0}

any_visits : (names : Names) → Visits names Anything AnyInner
any_visits names = record {
  on_const = λ number d p i row like there initial h. tt;
  on_pers = λ number own d p sort i h. tt;
  on_slot = λ number d p sort i like initial h. tt;
  on_enter = λ p params h. tt;
  on_local = λ number routine slots d n i row like there initial h. tt;
  on_leave = λ p n h k. tt;
}

none_kept : (n k : ℕ) (v : Value) → slice_get (replicate n None) k ≡ Some (Some v) → ⊥
none_kept zero k v is = cc
none_kept (suc n) zero v is = let e : ◌≡◌ {A = Option Value} None (Some v) = cc in cc
none_kept (suc n) (suc k) v is = none_kept n k v is

all_lists : {A : Type 0} (P : A → Type 0) (lists : List (List A)) (k : ℕ) → All (All P) lists → All P (list_at lists k)
all_lists P [] k h = All-nil P
all_lists P (xs ∷ more) zero h = All-head (All P) xs more h
all_lists P (xs ∷ more) (suc k) h = all_lists P more k (All-tail (All P) xs more h)

sound_valued : (rows : List TypedPers) → list_all is_sound rows ≡ true → All (λ (row : TypedPers). IsTrue (has_values row.sort)) rows
sound_valued [] h = All-nil (λ (row : TypedPers). IsTrue (has_values row.sort))
sound_valued (row ∷ rows) h =
    let parts = and_parts (is_sound row) (list_all is_sound rows) h in
    let short = holds_where_there (is_within 1 1_000) row.len in
    let fit = holds_where_there (fits row) row.first in
    let own = (and_parts (has_values row.sort) short (and_parts (has_values row.sort && short) fit parts.0).0).0 in
    All-cons (λ (row : TypedPers). IsTrue (has_values row.sort)) row rows own (sound_valued rows parts.1)

-- main is a procedure without parameters
procedure_kind : (kind : RoutineKind) → is_procedure kind ≡ true → kind ≡ routines.Proc
procedure_kind routines.Proc e = refl
procedure_kind _ e = absurd cc

empty_params : (ps : List PlainParam) → is_empty ps ≡ true → ps ≡ []
empty_params [] e = refl
empty_params (p ∷ ps) e = absurd cc

main_parts : (r : PlainRoutine) → is_main r ≡ true → (is_procedure r.kind ≡ true) × (is_empty r.params ≡ true)
main_parts r is =
    let outer : Bool = not r.local in
    let all = and_parts (outer && is_procedure r.kind && is_empty r.params) (str_eq_ignore_ascii_case (codes "main") r.name.text) is in
    let most = and_parts (outer && is_procedure r.kind) (is_empty r.params) all.0 in
    ((and_parts outer (is_procedure r.kind) most.0).1, most.1)

no_params : (ps : List PlainParam) (rows : List ParamRow) → ps ≡ [] → typed_params ps rows ≡ []
no_params [] rows e = refl
no_params (p ∷ ps) rows e = absurd cc

takes_right : (kind : RoutineKind) (ps : List PlainParam) (rows : List ParamRow) → TakesByKind kind ps → specs.TakesByKind kind (typed_params ps rows)
takes_right routines.Proc ps rows h = tt
takes_right routines.Func ps rows h = tt
takes_right routines.Trap ps rows h = no_params ps rows h

module _ (modules : List PlainModule) (tasks : List (List ℕ)) (signals : List SignalRow) (axes : ℕ) (tree : TypedTree) (typed : IsTyped modules tasks signals axes tree) where
  abbrev c : Setting
  c = record { signals = length signals; tree = tree }

  abbrev names : Names
  names = typed.names

  abbrev p : Progress
  p = typed.data_are

  abbrev tables : Tables
  tables = tables_of modules signals

  is_task : task_of modules tasks signals axes ≡ Ok tree
  is_task = (task_law modules tasks signals axes tree).1 typed

  rows_are : names.rows ≡ typed.are_names.rows
  rows_are = ap (λ n. n.rows) typed.are_names.are_names

  module _ (K : Progress → Type 0) (L : List (Option (List Value)) → Inner → Type 0) (visits : Visits names K L) (start : K (beginning names)) where
    aligned : Aligned tables names K L visits names.rows p
    aligned =
        let rows = typed.are_names.rows in
        let begin : Aligned tables names K L visits no_rows (beginning names) =
        record { like = record { tables = refl; rows = refl; outputs = refl; axes = refl }; slots = tt; pers = tt; routines = tt; consts = refl; held = start } in
        let same = sym rows_are in
        let grows : Grows rows names.rows = subst (λ (r : Rows). Grows r names.rows) rows_are (record { consts = λ k x is. is; slots = λ k x is. is; pers = λ k x is. is; routines = λ k x is. is }) in
        subst (λ (r : Rows). Aligned tables names K L visits r p) same (modules_aligned tables names K L visits 0 modules no_rows rows (beginning names) p typed.are_names.are_rows grows typed.are_data begin)

  shape : Aligned tables names Anything AnyInner (any_visits names) names.rows p
  shape = aligned Anything AnyInner (any_visits names) tt

  -- the tree's routines, each by its declaration
  abbrev Of : ℕ → PlainRoutine → TypedRoutine → Type 0
  Of = IsTypedOf p.names p.locals

  of_typed : AreFrom Of 0 (routines_of modules) tree.routines
  of_typed =
      subst (AreFrom Of 0 (routines_of modules)) (sym (ap (λ t. t.routines) typed.is_tree))
      (all_behind Of (routines_of modules) typed.routines (modules_typed p.names p.locals 0 modules [] typed.routines typed.are_routines))

  of_rows : AreFrom (IsRowOf tables) 0 (routines_of modules) p.names.rows.routines
  of_rows =
      subst (λ (r : Rows). AreFrom (IsRowOf tables) 0 (routines_of modules) r.routines) (sym (shape.like.rows ∙ rows_are))
      (all_behind (IsRowOf tables) (routines_of modules) typed.are_names.rows.routines (modules_rows tables 0 modules no_rows typed.are_names.rows typed.are_names.are_rows))

  facts : Facts modules signals c names
  facts = record {
    slots = subst (AreEach SlotAlike names.rows.slots) (sym (ap (λ t. t.slots) typed.is_tree)) shape.slots;
    pers = subst (AreEach PersAlike names.rows.pers) (sym (ap (λ t. t.pers) typed.is_tree)) shape.pers;
    routines =
        subst (λ (r : Rows). AreEach RoutineAlike r.routines tree.routines) shape.like.rows
        (routines_alike p.names p.locals tables (routines_of modules) tree.routines
        (subst (λ (r : Rows). AreEach LocalsAlike r.routines p.locals) (sym shape.like.rows) shape.routines) of_rows of_typed);
    meant = λ spot name meant is.
        has_its_row modules signals axes tree (task_checked modules tasks signals axes tree is_task) spot name meant
        (ap (λ t. meaning t spot name) (sym (ap (λ n. n.tables) typed.are_names.are_names)) ∙ is);
    meetings = λ number meets.
        let named = (names_law modules signals axes names).1 typed.are_names in
        let there = meetings_checked modules tasks signals axes tree names named is_task number meets in
        slice_get_within tree.meetings (meetings_before number names.rows.slots) there.row.name there.has_name;
    outputs = ap (λ n. length n.outputs) typed.are_names.are_names ∙ length-map signals (λ row. row.output);
    few = refl;
    axes = ap (λ n. n.axes) typed.are_names.are_names ∙ sym (ap (λ t. t.axes) typed.is_tree);
  }

  valued : Valued names.rows.consts p
  valued =
      let start : Valued names.rows.consts (beginning names) = record {
        kept = λ k row v there is. absurd (none_kept _ k v (ap (λ n. slice_get n.kept k) (sym typed.are_names.are_names) ∙ is));
        known = refl;
        slots = All-nil SlotFirst;
        locals = All-nil (All LocalFirst);
      } in
      (aligned (Valued names.rows.consts) _ (data_visits modules signals c names facts) start).held

  -- a routine of the tree
  module _ (k number : ℕ) (r : PlainRoutine) (t : TypedRoutine) (there : slice_get tree.routines k ≡ Some t) where
    abbrev body : Body
    body = body_of p.names number k r

    abbrev kinds : List Kind
    kinds = kinds_at tree (Some k)

    here : (around : bodies.Around) (at : ℕ) → Suits c kinds (bodies.site body around at)
    here around at = suits modules signals c names facts p.names shape.like valued.kept (bodies.site body around at).spot

    counts : (n : ℕ) → n < t.loops → slice_get kinds (bodies.counter_index body n) ≡ Some Counts
    counts n few =
        let o = origin RoutineAlike names.rows.routines tree.routines k t facts.routines there in
        loop_at modules signals c names facts p.names shape.like valued.kept (bodies.site body (outside false) 0).spot t
        (record { number = k; row = o.x; inside = refl; there = there; has_row = o.is; alike = o.such; kinds_are = ap kinds_in there }) n few

    lands : JumpsLand t
    lands = (jumps_right modules tasks signals axes tree is_task k t there).lands

    -- what encloses the statements of a list of it
    around_are : (handler : Bool) (list : TypedStmts) → t.kind ≡ r.kind → t.result ≡ result_of p.names.rows k → inside c kinds body t.loops here counts handler (list ∷ []) ≡ around_in t handler list
    around_are handler list kind result = λ i. record { places = ap kinds_in there i; kind = sym kind i; result = sym result i; handler = handler; lists = list ∷ [] }

    list_right : (handler : Bool) (list : List Raw.PlainStmt) (next : ℕ) (ts : TypedStmts) (past : ℕ) → t.kind ≡ r.kind → t.result ≡ result_of p.names.rows k
        → AreTypedStmts body (stmts_of list) (into (outside handler) (stmts_of list)) next ts past → past ≤ t.loops → Land (owned (ts ∷ [])) ts → AreStmts c (around_in t handler ts) ts
    list_right handler list next ts past kind result are few land =
        subst (λ (a : Around). AreStmts c a ts) (around_are handler ts kind result)
        (stmts_right c kinds body t.loops here counts (stmts_of list) (into (outside handler) (stmts_of list)) next ts past (ts ∷ []) are few land)

    handler_grows : (handler : Option (List Raw.PlainStmt)) (next : ℕ) (h : Option TypedStmts) (past : ℕ) → IsTypedHandler body handler next h past → next ≤ past
    handler_grows None next h past (is, same) = omega arith
    handler_grows (Some list) next h past (ts, are, is) = stmts_grow body (stmts_of list) (into (outside true) (stmts_of list)) next ts past are

    handler_right : (handler : Option (List Raw.PlainStmt)) (next : ℕ) (h : Option TypedStmts) (past : ℕ) → t.kind ≡ r.kind → t.result ≡ result_of p.names.rows k → IsTypedHandler body handler next h past → past ≤ t.loops
        → LandInElse [] (error_part h) → IsHandler c t h
    handler_right None next h past kind result (is, same) few land = subst (IsHandler c t) (sym is) tt
    handler_right (Some list) next h past kind result (ts, are, is) few land =
        let lands : LandInElse [] (error_part (Some ts)) = subst (λ (x : Option TypedStmts). LandInElse [] (error_part x)) is land in
        subst (IsHandler c t) (sym is) (list_right true list next ts past kind result are few lands)

    routine_right : IsTypedRoutine p.names p.locals number k r t → TakesByKind r.kind r.params → IsRoutine c t
    routine_right (ts, middle, h, loops, are, is_handler, is) takes =
        let kind : t.kind ≡ r.kind = ap (λ x. x.kind) is in
        let result : t.result ≡ result_of p.names.rows k = ap (λ x. x.result) is in
        let many : t.loops ≡ loops = ap (λ x. x.loops) is in
        let grows = handler_grows r.handler middle h loops is_handler in
        let same_list : t.list ≡ ts = ap (λ x. x.list) is in
        let same_handler : t.handler ≡ h = ap (λ x. x.handler) is in
        record {
          locals = subst (All LocalFirst) (sym (ap (λ x. x.locals) is)) (all_lists LocalFirst p.locals k valued.locals);
          list =
              subst (λ (l : TypedStmts). AreStmts c (around_in t false l) l) (sym same_list)
              (list_right false r.list 0 ts middle kind result are (omega (arith, many, grows)) (subst (λ (l : TypedStmts). Land (owned (l ∷ [])) l) same_list lands.list));
          handler =
              subst (IsHandler c t) (sym same_handler)
              (handler_right r.handler middle h loops kind result is_handler (omega (arith, many)) (subst (λ (x : Option TypedStmts). LandInElse [] (error_part x)) same_handler lands.handler));
          takes =
              subst (λ (ps : _). specs.TakesByKind t.kind ps) (sym (ap (λ x. x.params) is))
              (subst (λ (x : RoutineKind). specs.TakesByKind x (typed_params r.params (params_of p.names.rows k))) (sym kind) (takes_right r.kind r.params (params_of p.names.rows k) takes));
        }

  all_routines : TrapsTakeNothing modules → All (IsRoutine c) tree.routines
  all_routines takes =
      all_of (IsRoutine c) tree.routines (λ k t there.
      let o = from_at Of 0 (routines_of modules) tree.routines k t of_typed there in
      let e : 0 + k ≡ k = omega arith in
      let of : Of k o.x t = subst (λ n. Of n o.x t) e o.such in
      routine_right k of.number o.x t there of.is (all_at (λ (r : PlainRoutine). TakesByKind r.kind r.params) (routines_of modules) k o.x takes o.is))

  is_main_right : IsMain tree
  is_main_right =
      let found = main_there (routines_of modules) typed.main typed.has_main in
      let o = from_to Of 0 (routines_of modules) tree.routines typed.main found.r of_typed found.there in
      let (ts, middle, h, loops, are, is_handler, is) = o.such.is in
      let main = main_parts found.r found.is in
      record {
        routine = o.y;
        there = ap (slice_get tree.routines) (ap (λ t. t.main) typed.is_tree) ∙ o.is;
        procedure = ap (λ x. x.kind) is ∙ procedure_kind found.r.kind main.0;
        takes_nothing = ap (λ x. x.params) is ∙ no_params found.r.params _ (empty_params found.r.params main.1);
      }

  pub tree_right : TrapsTakeNothing modules → IsTrue (is_axes axes) → WellTyped (length signals) tree
  tree_right takes counted = record {
    slots = subst (All SlotFirst) (sym (ap (λ t. t.slots) typed.is_tree)) valued.slots;
    pers = sound_valued tree.pers (task_sound modules tasks signals axes tree is_task);
    routines = all_routines takes;
    main = is_main_right;
    axes = subst (λ (count : ℕ). IsTrue (is_axes count)) (sym (ap (λ t. t.axes) typed.is_tree)) counted;
  }
