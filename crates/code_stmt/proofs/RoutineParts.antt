-- The parts of the routine of a context.
use Rattle.std.proofs.Common.{◌≡◌, Option, option_map, sym, ap, ◌∙◌}
use Rattle.std.specs.declared.alloc.Global.{Global}
use Rattle.std.specs.declared.vec.Vec.{Vec}
use Rattle.typed_trees.specs.Plain.{TypedRoutine, stmts_of}
use Rattle.typed_trees.specs.Views.{view_list, view_routine}
use Rattle.typed_trees.specs.declared.routine.Routine.{Routine}
use Rattle.typed_trees.specs.declared.stmt.Stmt.{Stmt}
use Rattle.code_expr.specs.Contexts.{routine_of}
use Rattle.code_expr.specs.declared.context.Context.{Context}

pub list_in : (at : Context) (r : Routine) → view_routine r ≡ routine_of at → stmts_of (view_list r.list) ≡ (routine_of at).list
list_in at r same = ap (λ (routine : TypedRoutine). routine.list) same

pub handler_in : (at : Context) (r : Routine) (handler : Option (Vec Stmt Global)) → view_routine r ≡ routine_of at → r.handler ≡ handler → (routine_of at).handler ≡ option_map (λ list. stmts_of (view_list list)) handler
handler_in at r handler same is = ap (λ (routine : TypedRoutine). routine.handler) (sym same) ∙ ap (option_map (λ (list : Vec Stmt Global). stmts_of (view_list list))) is
