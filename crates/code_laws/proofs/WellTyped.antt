-- A well typed tree whose labels are numbered in text order is orderly.
use Rattle.std.proofs.Common.{◌≡◌, refl, sym, ap, ◌∙◌, ℕ, Bool, true, false, IsTrue, get_or, List, [], ◌∷◌, inl, inr, length, map, Option, None, Some, slice_get, arith}
use Rattle.std.specs.Prelude.{All}
use Rattle.std.proofs.lemmas.List.{length-map}
use Rattle.rapid_model.specs.declared.instruction.Instruction.{Instruction}
use Rattle.rapid_model.specs.declared.instruction.Instruction.TheVariants as instructions
use Rattle.rapid_model.specs.declared.part_name.PartName.TheVariants as parts
use Rattle.rapid_model.specs.declared.sort.Sort.{Sort}
use Rattle.rapid_values.specs.Components.{Component, components}
use Rattle.rapid_model.specs.declared.routine_kind.RoutineKind.{RoutineKind}
use Rattle.rapid_model.specs.declared.routine_kind.RoutineKind.TheVariants as kinds
use Rattle.rapid_builtins.specs.Calls as builtins
use Rattle.rapid_builtins.specs.Calls.{OptionRow, function_needs, instruction_needs}
use Rattle.rapid_builtins.specs.declared.need.Need.{Need}
use Rattle.rapid_builtins.specs.declared.need.Need.TheVariants as needs
use Rattle.typed_trees.specs.Plain as trees
use Rattle.typed_trees.specs.Plain.{TypedArg, TypedArgs, TypedArgument, TypedArms, TypedCases, TypedElse, TypedExpr, TypedExprs, TypedParam, TypedPlace, TypedRoutine, TypedSteps, TypedStmt, TypedStmts, TypedTree, NoExprs, MoreExprs, NoSteps, MoreSteps, NotHeld, Held, PlaceOf, Given, Lent, OfSignal, OfMeeting, Itself, Optional, NoArgument, Argument, NoArgs, MoreArgs, NoStmts, MoreStmts, NoArms, MoreArms, NoCases, MoreCases, NoElse, Else}
use Rattle.typed_trees.specs.declared.expr.TreeRoot.TheVariants as roots
use Rattle.rapid_meaning.specs.Answering.{is_trap_kind}
use Rattle.rapid_meaning.specs.Instructions.{needed, options}
use Rattle.tree_typing.specs.Expressions.{AreArgs, AreComponents, AreSteps, IsArg, IsArray, IsExpr, IsPersName, IsPlace}
use Rattle.tree_typing.specs.Instructions.{AreNeeded, AreOptions, IsOption, IsOptionArg}
use Rattle.tree_typing.specs.Kinds.{Kind, need_of}
use Rattle.tree_typing.specs.Setting.{Setting}
use Rattle.tree_typing.specs.Statements.{Around, AreArms, AreCaseValues, AreCases, AreStmts, IsElse, IsStep, IsStmt, into}
use Rattle.tree_typing.specs.WellTyped.{IsHandler, IsMain, IsRoutine, TakesByKind, WellTyped, around_in}
use Rattle.code_laws.specs.Calls.{ArgCalls, ArgsCalls, ArgumentCalls, ArmsCalls, CasesCalls, ElseCalls, ExprCalls, ExprsCalls, IsBare, IsProcedure, MaybeCalls, PlaceCalls, StepsCalls, StmtCalls, StmtsCalls, Takes, args_count}
use Rattle.code_laws.specs.Orderly.{IsOrderly, IsOrderlyRoutine, NumbersLabels, PartCalls}

-- a number has at most one routine
one_routine : (tree : TypedTree) (called : ℕ) (a b : TypedRoutine) → slice_get tree.routines called ≡ Some a → slice_get tree.routines called ≡ Some b → a ≡ b
one_routine tree called a b first second = cc

-- as many arguments as are needed
counted : (c : Setting) (kinds : List Kind) (args : TypedArgs) (list : List Need) → AreArgs c kinds args list → args_count args ≡ length list
counted c kinds NoArgs [] are = refl
counted c kinds NoArgs (need ∷ others) are = absurd are
counted c kinds (MoreArgs arg more) [] are = absurd are
counted c kinds (MoreArgs arg more) (need ∷ others) are = let rest : args_count more ≡ length others = counted c kinds more others are.1 in omega arith

takes : (c : Setting) (kinds : List Kind) (called : ℕ) (routine : TypedRoutine) (args : TypedArgs) → slice_get c.tree.routines called ≡ Some routine
    → AreArgs c kinds args (map need_of routine.params) → Takes c.tree called (args_count args)
takes c kinds called routine args there are other found =
    counted c kinds args (map need_of routine.params) are
    ∙ (length-map routine.params need_of ∙ ap (λ (r : TypedRoutine). length r.params) (one_routine c.tree called routine other there found))

-- an array and the name of a persistent have no index
array_calls : (c : Setting) (kinds : List Kind) (p : TypedPlace) (sort : Sort) → IsArray c kinds p sort → PlaceCalls c.tree p
array_calls c kinds (PlaceOf root NotHeld part own) sort is = tt
array_calls c kinds (PlaceOf root (Held e) part own) sort is = absurd is

name_calls : (c : Setting) (p : TypedPlace) → IsPersName c p → PlaceCalls c.tree p
name_calls c (PlaceOf root NotHeld part own) is = tt
name_calls c (PlaceOf (roots.Pers row) (Held e) part own) is = absurd is
name_calls c (PlaceOf root (Held e) part own) is = absurd is

mutual
  expr_calls : (c : Setting) (kinds : List Kind) (e : TypedExpr) (sort : Sort) → IsExpr c kinds e sort → ExprCalls c.tree e
  expr_calls c kinds (trees.Known at own v) sort is = tt
  expr_calls c kinds (trees.ErrorNumber at own) sort is = tt
  expr_calls c kinds (trees.SignalValue at own signal) sort is = tt
  expr_calls c kinds (trees.Stored at own p) sort is = place_calls c kinds false p sort is.2
  expr_calls c kinds (trees.Group at own e) sort is = expr_calls c kinds e sort is.1
  expr_calls c kinds (trees.Aggregate at own es) sort is = exprs_calls c kinds es (components own) is.2
  expr_calls c kinds (trees.Builtin at own function args) sort is = args_calls c kinds args (function_needs function) is.3
  expr_calls c kinds (trees.Invoke at own called args) sort is = (takes c kinds called is.1 args is.2 is.5, args_calls c kinds args (map need_of is.1.params) is.5)
  expr_calls c kinds (trees.Not at own e) sort is = expr_calls c kinds e _ is.2
  expr_calls c kinds (trees.Signed at own minus e) sort is = expr_calls c kinds e _ is.2
  expr_calls c kinds (trees.Chain at own e steps) sort is = (expr_calls c kinds e is.1 is.2, steps_calls c kinds steps is.1 sort is.3)

  exprs_calls : (c : Setting) (kinds : List Kind) (es : TypedExprs) (list : List Component) → AreComponents c kinds es list → ExprsCalls c.tree es
  exprs_calls c kinds NoExprs list are = tt
  exprs_calls c kinds (MoreExprs e es) [] are = absurd are
  exprs_calls c kinds (MoreExprs e es) (component ∷ more) are = (expr_calls c kinds e component.sort are.0, exprs_calls c kinds es more are.1)

  steps_calls : (c : Setting) (kinds : List Kind) (steps : TypedSteps) (first sort : Sort) → AreSteps c kinds steps first sort → StepsCalls c.tree steps
  steps_calls c kinds NoSteps first sort are = tt
  steps_calls c kinds (MoreSteps o e steps) first sort are = (expr_calls c kinds e first are.2, steps_calls c kinds steps are.0 sort are.3)

  place_calls : (c : Setting) (kinds : List Kind) (written : Bool) (p : TypedPlace) (sort : Sort) → IsPlace c kinds written p sort → PlaceCalls c.tree p
  place_calls c kinds written (PlaceOf root NotHeld part own) sort is = tt
  place_calls c kinds written (PlaceOf root (Held e) part own) sort is = expr_calls c kinds e _ is.5

  arg_calls : (c : Setting) (kinds : List Kind) (arg : TypedArg) (need : Need) → IsArg c kinds arg need → ArgCalls c.tree arg
  arg_calls c kinds (Given e) (needs.Value sort) is = expr_calls c kinds e sort is
  arg_calls c kinds (Given e) needs.One is = expr_calls c kinds e _ is
  arg_calls c kinds (Lent p) (needs.Var sort) is = place_calls c kinds true p sort is
  arg_calls c kinds (Lent p) (needs.Pers sort) is = place_calls c kinds true p sort is
  arg_calls c kinds (Lent p) (needs.VarOrPers sort) is = place_calls c kinds true p sort is
  arg_calls c kinds (Lent p) (needs.Written sort) is = place_calls c kinds true p sort is
  arg_calls c kinds (Lent p) (needs.Place sort) is = place_calls c kinds false p sort is
  arg_calls c kinds (Lent p) needs.WorldZone is = place_calls c kinds true p is.0 is.2
  arg_calls c kinds (Lent p) needs.Array is = array_calls c kinds p is.0 is.2
  arg_calls c kinds (Lent p) needs.TaskList is = array_calls c kinds p _ is
  arg_calls c kinds (Lent p) needs.PersName is = name_calls c p is
  arg_calls c kinds (OfSignal signal) need is = tt
  arg_calls c kinds (OfMeeting meeting) need is = tt
  arg_calls c kinds (Itself name) need is = tt
  arg_calls c kinds (Given e) need is = absurd is
  arg_calls c kinds (Lent p) need is = absurd is
  arg_calls c kinds (Optional name value) need is = absurd is

  args_calls : (c : Setting) (kinds : List Kind) (args : TypedArgs) (list : List Need) → AreArgs c kinds args list → ArgsCalls c.tree args
  args_calls c kinds NoArgs list are = tt
  args_calls c kinds (MoreArgs arg more) [] are = absurd are
  args_calls c kinds (MoreArgs arg more) (need ∷ others) are = (arg_calls c kinds arg need are.0, args_calls c kinds more others are.1)

-- instructions

option_calls : (c : Setting) (kinds : List Kind) (arg : TypedArg) (need : Option Need) → IsOptionArg c kinds (Argument arg) need → ArgCalls c.tree arg
option_calls c kinds arg None is = absurd is
option_calls c kinds arg (Some need) is = arg_calls c kinds arg need is

value_calls : (c : Setting) (kinds : List Kind) (name : List ℕ) (value : TypedArgument) (rows : List OptionRow) → IsOption c kinds name value rows → ArgumentCalls c.tree value
value_calls c kinds name NoArgument rows is = tt
value_calls c kinds name (Argument arg) [] is = absurd is
value_calls c kinds name (Argument arg) (row ∷ rows) (inl here) = option_calls c kinds arg row.value here.1
value_calls c kinds name (Argument arg) (row ∷ rows) (inr later) = value_calls c kinds name (Argument arg) rows later

given_calls : (c : Setting) (kinds : List Kind) (args : TypedArgs) (list : List Need) (rows : List OptionRow) → AreNeeded c kinds (needed args) list → AreOptions c kinds (options args) rows
    → ArgsCalls c.tree args
given_calls c kinds NoArgs list rows are others = tt
given_calls c kinds (MoreArgs (Optional name value) more) list rows are others = (value_calls c kinds name value rows others.0, given_calls c kinds more list rows are others.1)
given_calls c kinds (MoreArgs arg more) [] rows are others = absurd are
given_calls c kinds (MoreArgs arg more) (need ∷ list) rows are others = (arg_calls c kinds arg need are.0, given_calls c kinds more list rows are.1 others)

-- statements

bare_name : (c : Setting) (kinds : List Kind) (arg : TypedArg) (more : List TypedArg) → IsArg c kinds arg needs.PersName → IsBare instructions.IPers (arg ∷ more)
bare_name c kinds (Lent (PlaceOf (roots.Pers row) NotHeld parts.Whole own)) more is = tt
bare_name c kinds (Lent p) more is = absurd is
bare_name c kinds arg more is = absurd is

bare : (c : Setting) (kinds : List Kind) (instruction : Instruction) (args : List TypedArg) → AreNeeded c kinds args (instruction_needs instruction) → IsBare instruction args
bare c kinds instructions.IPers [] are = tt
bare c kinds instructions.IPers (arg ∷ more) are = bare_name c kinds arg more are.0
bare c kinds instruction args are = tt

maybe_calls : (c : Setting) (kinds : List Kind) (step : Option TypedExpr) → IsStep c kinds step → MaybeCalls c.tree step
maybe_calls c kinds None is = tt
maybe_calls c kinds (Some e) is = expr_calls c kinds e _ is

case_calls : (c : Setting) (kinds : List Kind) (es : TypedExprs) (sort : Sort) → AreCaseValues c kinds es sort → ExprsCalls c.tree es
case_calls c kinds NoExprs sort are = tt
case_calls c kinds (MoreExprs e es) sort are = (expr_calls c kinds e sort are.0, case_calls c kinds es sort are.1)

procedure : (tree : TypedTree) (called : ℕ) (routine : TypedRoutine) → slice_get tree.routines called ≡ Some routine → routine.kind ≡ kinds.Proc → IsProcedure tree called
procedure tree called routine there kind other found = ap (λ (r : TypedRoutine). r.kind) (one_routine tree called other routine found there) ∙ kind

mutual
  stmt_calls : (c : Setting) (around : Around) (s : TypedStmt) → IsStmt c around s → StmtCalls c.tree s
  stmt_calls c around (trees.Assign at p e) is = (place_calls c around.places true p is.0 is.2, expr_calls c around.places e is.0 is.3)
  stmt_calls c around (trees.Instruct at instruction args) is = (
    given_calls c around.places args (instruction_needs instruction) (builtins.options instruction) is.are_needed is.are_options,
    bare c around.places instruction (needed args) is.are_needed,
  )
  stmt_calls c around (trees.Call at called args) is =
      (takes c around.places called is.0 args is.1 is.3, args_calls c around.places args (map need_of is.0.params) is.3, procedure c.tree called is.0 is.1 is.2)
  stmt_calls c around (trees.Label at label) is = tt
  stmt_calls c around (trees.Goto at label) is = tt
  stmt_calls c around (trees.Return at None) is = tt
  stmt_calls c around (trees.Return at (Some e)) is = expr_calls c around.places e is.0 is.3
  stmt_calls c around (trees.Exit at) is = tt
  stmt_calls c around (trees.Raise at None) is = tt
  stmt_calls c around (trees.Raise at (Some e)) is = expr_calls c around.places e _ is
  stmt_calls c around (trees.Retry at) is = tt
  stmt_calls c around (trees.TryNext at) is = tt
  stmt_calls c around (trees.Connect at p trap) is = place_calls c around.places true p _ is.0
  stmt_calls c around (trees.If at arms other) is = (arms_calls c around arms is.0, else_calls c around other is.1)
  stmt_calls c around (trees.IfOne at e one) is = (expr_calls c around.places e _ is.0, stmt_calls c around one is.1)
  stmt_calls c around (trees.For at local first last step list) is =
      (expr_calls c around.places first _ is.1, expr_calls c around.places last _ is.2, maybe_calls c around.places step is.3, stmts_calls c (into around list) list is.4)
  stmt_calls c around (trees.While at e list) is = (expr_calls c around.places e _ is.0, stmts_calls c (into around list) list is.1)
  stmt_calls c around (trees.Test at e cases other) is = (expr_calls c around.places e is.0 is.2, cases_calls c around cases is.0 is.3, else_calls c around other is.4)

  stmts_calls : (c : Setting) (around : Around) (list : TypedStmts) → AreStmts c around list → StmtsCalls c.tree list
  stmts_calls c around NoStmts are = tt
  stmts_calls c around (MoreStmts s more) are = (stmt_calls c around s are.0, stmts_calls c around more are.1)

  arms_calls : (c : Setting) (around : Around) (arms : TypedArms) → AreArms c around arms → ArmsCalls c.tree arms
  arms_calls c around NoArms are = tt
  arms_calls c around (MoreArms e list more) are = (expr_calls c around.places e _ are.0, stmts_calls c (into around list) list are.1, arms_calls c around more are.2)

  cases_calls : (c : Setting) (around : Around) (cases : TypedCases) (sort : Sort) → AreCases c around cases sort → CasesCalls c.tree cases
  cases_calls c around NoCases sort are = tt
  cases_calls c around (MoreCases es list more) sort are =
      (case_calls c around.places es sort are.0, stmts_calls c (into around list) list are.1, cases_calls c around more sort are.2)

  else_calls : (c : Setting) (around : Around) (other : TypedElse) → IsElse c around other → ElseCalls c.tree other
  else_calls c around NoElse is = tt
  else_calls c around (Else list) is = stmts_calls c (into around list) list is

-- routines and trees

part_calls : (c : Setting) (routine : TypedRoutine) (part : Option TypedStmts) → IsHandler c routine part → PartCalls c.tree part
part_calls c routine None is = tt
part_calls c routine (Some list) is = stmts_calls c (around_in routine true list) list is

no_params : (kind : RoutineKind) (params : List TypedParam) → TakesByKind kind params → IsTrue (is_trap_kind kind) → params ≡ []
no_params kinds.Trap params by trap = by
no_params kind params by trap = absurd cc

orderly_routine : (c : Setting) (routine : TypedRoutine) → IsRoutine c routine → NumbersLabels routine → IsOrderlyRoutine c.tree routine
orderly_routine c routine is labels = record {
  list = stmts_calls c (around_in routine false routine.list) routine.list is.list;
  part = part_calls c routine routine.handler is.handler;
  labels = labels;
  traps = λ trap. no_params routine.kind routine.params is.takes trap;
}

main_takes : (tree : TypedTree) (main : IsMain tree) → Takes tree tree.main 0
main_takes tree main other found =
    ap (λ (params : List TypedParam). length params) (sym main.takes_nothing) ∙ ap (λ (r : TypedRoutine). length r.params) (one_routine tree tree.main main.routine other main.there found)

pub orderly : (signals : ℕ) (tree : TypedTree) → WellTyped signals tree → All NumbersLabels tree.routines → IsOrderly tree
orderly signals tree typed labels = record {
  routines = λ k d within.
      orderly_routine (record { signals = signals; tree = tree }) (get_or tree.routines k d) (typed.routines k d within) (labels k d within);
  main = main_takes tree typed.main;
}
