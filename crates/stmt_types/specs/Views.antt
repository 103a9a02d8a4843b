-- How contracts see typed forms with the number of the next FOR, and their context.
use Rattle.std.specs.Prelude.{map, option_map}
use Rattle.typed_trees.specs.Plain
use Rattle.typed_trees.specs.declared.bounds.Bounds.{Bounds}
use Rattle.typed_trees.specs.Plain.{arms_of, cases_of, else_of, stmts_of}
use Rattle.typed_trees.specs.Views.{view_arm, view_case, view_expr, view_list, view_stmt}
use Rattle.stmt_types.specs.declared.around.Around.{Around}
use Rattle.stmt_types.specs.declared.body.Body.{Body}
use Rattle.stmt_types.specs.declared.typed_rows.TypedArms.{TypedArms}
use Rattle.stmt_types.specs.declared.typed_rows.TypedCases.{TypedCases}
use Rattle.stmt_types.specs.declared.typed_rows.TypedElse.{TypedElse}
use Rattle.stmt_types.specs.declared.typed_rows.TypedList.{TypedList}
use Rattle.stmt_types.specs.declared.typed_rows.TypedOne.{TypedOne}
use Rattle.stmt_types.specs.Bodies
use Rattle.stmt_types.specs.Labels.{labels_around}

abbrev pub view_body : Body → Bodies.Body
view_body body = record {
  names = body.scopes.now;
  «module» = body.«module»;
  routine = body.routine;
  kind = body.kind;
  labels = body.labels.now;
}

abbrev pub view_around : Around → Bodies.Around
view_around around = record { within = around.within; labels = labels_around around.levels.now; handler = around.handler }

abbrev pub view_bounds : Bounds → Bodies.Bounds
view_bounds b = record { first = view_expr b.first; last = view_expr b.last; step = option_map view_expr b.step }

abbrev pub view_typed_one : TypedOne → Bodies.Typed Plain.TypedStmt
view_typed_one t = record { tree = view_stmt t.stmt; next = t.next }

abbrev pub view_typed_list : TypedList → Bodies.Typed Plain.TypedStmts
view_typed_list l = record { tree = stmts_of (view_list l.list); next = l.next }

abbrev pub view_typed_arms : TypedArms → Bodies.Typed Plain.TypedArms
view_typed_arms t = record { tree = arms_of (map view_arm t.arms.items); next = t.next }

abbrev pub view_typed_cases : TypedCases → Bodies.Typed Plain.TypedCases
view_typed_cases t = record { tree = cases_of (map view_case t.cases.items); next = t.next }

abbrev pub view_typed_else : TypedElse → Bodies.Typed Plain.TypedElse
view_typed_else t = record { tree = else_of (option_map view_list t.other); next = t.next }
