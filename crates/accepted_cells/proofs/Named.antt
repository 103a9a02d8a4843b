-- What expressions may use at a site of a tree that is checked.
use Rattle.std.proofs.Common.{◌≡◌, ℕ, ◌<◌, true, Bool, List, length, map, Some, slice_get}
use Rattle.raw_trees.specs.Plain.{PlainName}
use Rattle.rapid_model.specs.declared.routine_kind.RoutineKind.{RoutineKind}
use Rattle.typed_trees.specs.Plain.{TypedExpr, TypedRoutine}
use Rattle.data_scopes.specs.Called.{kind_of, params_of, result_of}
use Rattle.data_scopes.specs.Meetings.{is_meeting, meetings_before}
use Rattle.data_scopes.specs.Scopes.{Rows}
use Rattle.named_data.specs.declared.named.NamedDatum.{NamedDatum}
use Rattle.named_data.specs.declared.wanted.Wanted.{Wanted}
use Rattle.named_data.specs.Rules.{Site}
use Rattle.expr_types.specs.Calls as calls
use Rattle.expr_types.specs.Typing.{sort_of}
use Rattle.type_laws.specs.Names.{IsDatum}
use Rattle.tree_typing.specs.Expressions.{IsExpr}
use Rattle.tree_typing.specs.Kinds.{Kind, need_of}
use Rattle.tree_typing.specs.Setting.{Setting}
use Rattle.accepted_cells.proofs.Places.{Holds}
use Rattle.accepted_cells.proofs.Sorts.{IsWanted}

-- the routine of this number is in the tree, of this kind, with the result and the parameters of its row
pub record IsCallable (c : Setting) (rows : Rows) (number : ℕ) (kind : RoutineKind) : Type 0 where
  pub routine : TypedRoutine
  pub there : slice_get c.tree.routines number ≡ Some routine
  pub same_kind : routine.kind ≡ kind
  pub result : routine.result ≡ result_of rows number
  pub params : map need_of routine.params ≡ map calls.need_of (params_of rows number)

-- names at the site stand for what the tree has; `kinds` are those of the enclosing routine
pub record Suits (c : Setting) (kinds : List Kind) (s : Site) : Type 0 where
  pub data_are : (name : PlainName) (d : NamedDatum) → IsDatum s name d → Holds c kinds d.source d.sort d.array
  pub routines : (number : ℕ) (kind : RoutineKind) → kind_of s.names.rows number ≡ Some kind → IsCallable c s.names.rows number kind
  pub signals : (signal : ℕ) (output : Bool) → slice_get s.names.outputs signal ≡ Some output → signal < c.signals
  pub meetings : (number : ℕ) → is_meeting (slice_get s.names.rows.slots number) ≡ true → meetings_before number s.names.rows.slots < length c.tree.meetings
  pub axes : s.names.axes ≡ c.tree.axes

-- a typed form is one of its own type, which is what is wanted
abbrev pub Right : Setting → List Kind → Wanted → TypedExpr → Type 0
Right c kinds want t = IsExpr c kinds t (sort_of t) × IsWanted want (sort_of t)
