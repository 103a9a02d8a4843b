-- The typed trees of a task's modules: each declared name is valid, each datum has its length and first values, each
-- statement its typed form; there is a main, and the modules' data are not too many.
use Rattle.std.specs.Prelude.{◌≡◌, ℕ, ◌+◌, Bool, true, false, List, [], ◌∷◌, ◌++◌, length, Option, Some, None, nat_le}
use Rattle.rapid_limits.specs.declared.TheConstants.{MOST_VALUES}
use Rattle.raw_trees.specs.Plain as Raw
use Rattle.raw_trees.specs.Plain.{PlainRoutine, PlainItem, PlainModule, Datum, Routine, stmts_of}
use Rattle.rapid_model.specs.declared.signal_row.SignalRow.{SignalRow}
use Rattle.typed_trees.specs.Plain.{TypedStmts, TypedLocal, TypedRoutine, TypedTree}
use Rattle.data_scopes.specs.Called.{params_of, result_of}
use Rattle.data_scopes.specs.Scopes.{Names, list_at}
use Rattle.decl_types.specs.Data.{Progress, beginning}
use Rattle.stmt_types.specs.Bodies.{Body, outside, into}
use Rattle.task_types.specs.Task.{body_of, typed_params, main_among, routines_of, tree_of}
use Rattle.type_laws.specs.Statements.{AreStmts}
use Rattle.type_laws.specs.DeclaredNames.{AreNames}
use Rattle.type_laws.specs.Data.{AreModulesData}

-- the ERROR part; its first FOR has the number next, and the one after it the number past
abbrev pub IsHandler : Body → Option (List Raw.PlainStmt) → ℕ → Option TypedStmts → ℕ → Type 0
IsHandler body None next h past = (h ≡ None) × (past ≡ next)
IsHandler body (Some list) next h past =
    (ts : TypedStmts) × AreStmts body (stmts_of list) (into (outside true) (stmts_of list)) next ts past × (h ≡ Some ts)

-- a routine with this number, with its data; its FORs are numbered from 0 through its list and its ERROR part
abbrev pub IsRoutine : Names → List (List TypedLocal) → ℕ → ℕ → PlainRoutine → TypedRoutine → Type 0
IsRoutine names locals number routine r t =
    (ts : TypedStmts) × (middle : ℕ) × (h : Option TypedStmts) × (loops : ℕ)
    × AreStmts (body_of names number routine r) (stmts_of r.list) (into (outside false) (stmts_of r.list)) 0 ts middle
    × IsHandler (body_of names number routine r) r.handler middle h loops
    × (t ≡ record {
      name = r.name.text;
      «module» = number;
      kind = r.kind;
      result = result_of names.rows routine;
      params = typed_params r.params (params_of names.rows routine);
      locals = list_at locals routine;
      list = ts;
      handler = h;
      loops = loops;
      at = r.at;
    })

abbrev pub AreItemRoutines : Names → List (List TypedLocal) → ℕ → List PlainItem → List TypedRoutine → List TypedRoutine → Type 0
AreItemRoutines names locals number [] before past = past ≡ before
AreItemRoutines names locals number (Datum local task d at ∷ is) before past = AreItemRoutines names locals number is before past
AreItemRoutines names locals number (Routine r ∷ is) before past =
    (t : TypedRoutine) × IsRoutine names locals number (length before) r t × AreItemRoutines names locals number is (before ++ t ∷ []) past

-- the routines of modules, given the number of the first
abbrev pub AreRoutines : Names → List (List TypedLocal) → ℕ → List PlainModule → List TypedRoutine → List TypedRoutine → Type 0
AreRoutines names locals number [] before past = past ≡ before
AreRoutines names locals number (m ∷ ms) before past =
    (middle : List TypedRoutine) × AreItemRoutines names locals number m.items before middle × AreRoutines names locals (number + 1) ms middle past

-- the typed tree of a task's modules, with these tasks and signals, and an arm with this many axes, 0 without an arm
pub record IsTyped (modules : List PlainModule) (tasks : List (List ℕ)) (signals : List SignalRow) (axes : ℕ) (tree : TypedTree) : Type 0 where
  pub names : Names
  pub data_are : Progress
  pub routines : List TypedRoutine
  pub main : ℕ
  pub are_names : AreNames modules signals axes names
  pub are_data : AreModulesData 0 modules (beginning names) data_are
  pub are_routines : AreRoutines data_are.names data_are.locals 0 modules [] routines
  pub has_main : main_among (routines_of modules) ≡ Some main
  pub few_values : nat_le data_are.values MOST_VALUES ≡ true
  pub is_tree : tree ≡ tree_of modules tasks axes data_are routines main
