-- The typed tree of a task's modules, or the first broken rule: at declared names and their types' names, then in other
-- parts of declarations, then in the routines' statements, each over the modules in order; then NoMain, then DataRange.
use Rattle.std.specs.Prelude.{ℕ, ◌+◌, Bool, true, false, not, ◌&&◌, nat_le, suc, List, [], ◌∷◌, ◌++◌, codes, length, Option, Some, None, Ok, if◌then◌else◌}
use Rattle.std.specs.Option.{option_map}
use Rattle.std.specs.Str.{str_eq_ignore_ascii_case}
use Rattle.rapid_limits.specs.declared.TheConstants.{MOST_VALUES}
use Rattle.raw_trees.specs.Plain.{PlainName, PlainParam, PlainRoutine, PlainItem, PlainModule, Datum, Routine, stmts_of}
use Rattle.rapid_model.specs.declared.routine_kind.RoutineKind.{RoutineKind}
use Rattle.rapid_model.specs.declared.routine_kind.RoutineKind.TheVariants as kinds
use Rattle.rapid_model.specs.declared.signal_row.SignalRow.{SignalRow}
use Rattle.rapid_model.specs.declared.sort.Sort.TheVariants as sorts
use Rattle.raw_trees.specs.Plain as Raw
use Rattle.typed_trees.specs.Plain.{TypedStmts, TypedParam, TypedLocal, TypedRoutine, TypedSlot, TypedTree}
use Rattle.data_scopes.specs.declared.data_row.ParamRow.{ParamRow}
use Rattle.rule_checks.specs.declared.rule.TypeRule.TheVariants.{NoMain, DataRange}
use Rattle.data_scopes.specs.Called.{params_of, result_of}
use Rattle.rule_checks.specs.Checks.{◌>>=◌, must}
use Rattle.rule_checks.specs.TypeChecks.{Checked}
use Rattle.data_scopes.specs.Naming.{names_of}
use Rattle.data_scopes.specs.Scopes.{Names, list_at}
use Rattle.named_data.specs.Rules.{Site, fail, at_byte}
use Rattle.named_data.specs.Wants.{same_sort}
use Rattle.named_data.specs.Data.{is_empty}
use Rattle.decl_types.specs.Data.{Progress, beginning, data_of}
use Rattle.stmt_types.specs.Bodies.{Body, Typed, outside, stmts, into}
use Rattle.stmt_types.specs.Labels.{labels_in_routine}

-- the ERROR part, if there is one, after this many FORs
abbrev pub handler_of : Body → Option (List Raw.PlainStmt) → ℕ → Checked (Typed (Option TypedStmts))
handler_of body None next = Ok (record { tree = None; next = next })
handler_of body (Some list) next =
    stmts body (stmts_of list) (into (outside true) (stmts_of list)) next >>= (λ l. Ok (record { tree = Some l.tree; next = l.next }))

abbrev pub body_of : Names → ℕ → ℕ → PlainRoutine → Body
body_of names number routine r =
    record { names = names; «module» = number; routine = routine; kind = r.kind; labels = labels_in_routine r }

-- a parameter by its name and its row
abbrev pub typed_params : List PlainParam → List ParamRow → List TypedParam
typed_params (p ∷ ps) (row ∷ rows) = record { name = p.name.text; mode = row.mode; sort = row.sort } ∷ typed_params ps rows
typed_params _ _ = []

-- a routine with this number, with its data; the number of the next FOR is how many it has
abbrev pub typed_routine : Names → List (List TypedLocal) → ℕ → ℕ → PlainRoutine → Checked TypedRoutine
typed_routine names locals number routine r =
    let body = body_of names number routine r in
    stmts body (stmts_of r.list) (into (outside false) (stmts_of r.list)) 0 >>= (λ l.
    handler_of body r.handler l.next >>= (λ h.
    Ok (record {
      name = r.name.text;
      «module» = number;
      kind = r.kind;
      result = result_of names.rows routine;
      params = typed_params r.params (params_of names.rows routine);
      locals = list_at locals routine;
      list = l.tree;
      handler = h.tree;
      loops = h.next;
      at = r.at;
    })))

-- these routines and that of an item of a module
abbrev pub item_bodies : Names → List (List TypedLocal) → ℕ → PlainItem → List TypedRoutine → Checked (List TypedRoutine)
item_bodies names locals number (Datum local task d at) rs = Ok rs
item_bodies names locals number (Routine r) rs = typed_routine names locals number (length rs) r >>= (λ t. Ok (rs ++ t ∷ []))

abbrev pub items_bodies : Names → List (List TypedLocal) → ℕ → List PlainItem → List TypedRoutine → Checked (List TypedRoutine)
items_bodies names locals number [] rs = Ok rs
items_bodies names locals number (i ∷ is) rs = item_bodies names locals number i rs >>= (λ more. items_bodies names locals number is more)

-- the modules, given the number of the first
abbrev pub bodies : Names → List (List TypedLocal) → ℕ → List PlainModule → List TypedRoutine → Checked (List TypedRoutine)
bodies names locals number [] rs = Ok rs
bodies names locals number (m ∷ ms) rs =
    items_bodies names locals number m.items rs >>= (λ more. bodies names locals (number + 1) ms more)

abbrev pub is_procedure : RoutineKind → Bool
is_procedure kinds.Proc = true
is_procedure kinds.Func = false
is_procedure kinds.Trap = false

-- the procedure main: it is not LOCAL and has no parameters
abbrev pub is_main : PlainRoutine → Bool
is_main r = not r.local && is_procedure r.kind && is_empty r.params && str_eq_ignore_ascii_case (codes "main") r.name.text

-- the routines of the modules, in order
abbrev pub routines_in : List PlainItem → List PlainRoutine
routines_in [] = []
routines_in (Datum local task d at ∷ is) = routines_in is
routines_in (Routine r ∷ is) = r ∷ routines_in is

abbrev pub routines_of : List PlainModule → List PlainRoutine
routines_of [] = []
routines_of (m ∷ ms) = routines_in m.items ++ routines_of ms

-- the number of the first main among routines
abbrev pub main_among : List PlainRoutine → Option ℕ
main_among [] = None
main_among (r ∷ rs) = if is_main r then Some 0 else option_map suc (main_among rs)

-- the first byte of the first module
abbrev pub top : Names → Site
top names = record { names = names; spot = record { «module» = 0; routine = None; within = None; at = 0 } }

abbrev pub main_or : Site → Option ℕ → Checked ℕ
main_or s (Some routine) = Ok routine
main_or s None = fail s 0 NoMain

abbrev pub meeting_names : List TypedSlot → List (List ℕ)
meeting_names [] = []
meeting_names (row ∷ rows) = if same_sort row.sort sorts.SyncIdent then row.name ∷ meeting_names rows else meeting_names rows

abbrev pub tree_of : List PlainModule → List (List ℕ) → ℕ → Progress → List TypedRoutine → ℕ → TypedTree
tree_of modules tasks axes p routines main = record {
  modules = length modules;
  tasks = tasks;
  slots = p.slots;
  pers = p.pers;
  meetings = meeting_names p.slots;
  routines = routines;
  main = main;
  pers_of = [];
  meeting_of = [];
  axes = axes;
}

-- the typed tree of a task's modules, with these tasks and signals, and an arm with this many axes, 0 without an arm
abbrev pub task_of : List PlainModule → List (List ℕ) → List SignalRow → ℕ → Checked TypedTree
task_of modules tasks signals axes =
    names_of modules signals axes >>= (λ names.
    data_of 0 modules (beginning names) >>= (λ p.
    bodies p.names p.locals 0 modules [] >>= (λ routines.
    main_or (top p.names) (main_among (routines_of modules)) >>= (λ main.
    must (nat_le p.values MOST_VALUES) (at_byte (top p.names) 0 DataRange) >>= (λ _.
    Ok (tree_of modules tasks axes p routines main))))))
