-- A tree that is well typed stays so with other numbers of its persistents and meetings.
use Rattle.std.proofs.Common.{inl, inr, ℕ, Bool, true, false, List, [], ◌∷◌, map, Option, Some, None}
use Rattle.std.proofs.lemmas.List.Elements.{All-weaker}
use Rattle.rapid_model.specs.declared.part_name.PartName.TheVariants as parts
use Rattle.rapid_model.specs.declared.sort.Sort.{Sort}
use Rattle.rapid_model.specs.declared.sort.Sort.TheVariants as sorts
use Rattle.rapid_values.specs.Components.{Component, components}
use Rattle.rapid_builtins.specs.Calls.{OptionRow, function_needs, instruction_needs, options as option_rows}
use Rattle.rapid_builtins.specs.declared.need.Need.{Need}
use Rattle.rapid_builtins.specs.declared.need.Need.TheVariants as needs
use Rattle.typed_trees.specs.Plain.{TypedArg, TypedArgs, TypedArgument, TypedArms, TypedCases, TypedElse, TypedExpr, TypedExprs, TypedPlace, TypedRoutine, TypedStmt, TypedStmts, TypedSteps, TypedTree, Known, ErrorNumber, SignalValue, Stored, Group, Aggregate, Builtin, Invoke, Not, Signed, Chain, NoExprs, MoreExprs, NoSteps, MoreSteps, NotHeld, Held, PlaceOf, Given, Lent, OfSignal, OfMeeting, Itself, Optional, NoArgument, Argument, NoArgs, MoreArgs, Assign, Instruct, Call, Label, Goto, Return, Exit, Raise, Retry, TryNext, Connect, If, IfOne, For, While, Test, NoStmts, MoreStmts, NoArms, MoreArms, NoCases, MoreCases, NoElse, Else}
use Rattle.typed_trees.specs.declared.expr.TreeRoot.{TreeRoot}
use Rattle.typed_trees.specs.declared.expr.TreeRoot.TheVariants as roots
use Rattle.cell_assembly.specs.Made.{with_numbers}
use Rattle.rapid_meaning.specs.Instructions.{needed, options}
use Rattle.tree_typing.specs.Expressions.{AreArgs, AreComponents, AreSteps, IsArg, IsArray, IsExpr, IsPersName, IsPlace, IsRoot}
use Rattle.tree_typing.specs.Instructions.{AreNeeded, AreOptions, IsOption, IsOptionArg}
use Rattle.tree_typing.specs.Kinds.{Kind, need_of}
use Rattle.tree_typing.specs.Setting.{Setting}
use Rattle.tree_typing.specs.Statements.{AreArms, AreCaseValues, AreCases, AreStmts, Around, IsElse, IsStep, IsStmt, into}
use Rattle.tree_typing.specs.WellTyped.{IsHandler, IsRoutine, WellTyped, around_in}

module _ (signals : ℕ) (tree : TypedTree) (pers_of meeting_of : List ℕ) where
  abbrev c : Setting
  c = record { signals = signals; tree = tree }

  -- the same with other numbers
  abbrev d : Setting
  d = record { signals = signals; tree = with_numbers tree pers_of meeting_of }

  module _ (kinds : List Kind) where
    root_same : (written : Bool) (root : TreeRoot) (sort : Sort) (len : Option ℕ) → IsRoot c.tree kinds written root sort len → IsRoot d.tree kinds written root sort len
    root_same written (roots.Slot row) sort len h = h
    root_same written (roots.Local row) sort len h = h
    root_same written (roots.Ref row) sort len h = h
    root_same written (roots.Pers row) sort len h = h

    array_same : (p : TypedPlace) (sort : Sort) → IsArray c kinds p sort → IsArray d kinds p sort
    array_same (PlaceOf root NotHeld parts.Whole own) sort h = (h.0, h.1, root_same false root sort (Some h.1) h.2)
    array_same _ sort h = absurd h

    name_same : (p : TypedPlace) → IsPersName c p → IsPersName d p
    name_same (PlaceOf (roots.Pers row) NotHeld parts.Whole own) h = h
    name_same _ h = absurd h

    mutual
      expr_same : (e : TypedExpr) (sort : Sort) → IsExpr c kinds e sort → IsExpr d kinds e sort
      expr_same (Known at own v) sort h = h
      expr_same (ErrorNumber at own) sort h = h
      expr_same (SignalValue at own signal) sort h = h
      expr_same (Stored at own p) sort h = (h.0, h.1, place_same false p sort h.2)
      expr_same (Group at own e) sort h = (h.0, expr_same e sort h.1)
      expr_same (Aggregate at own es) sort h = (h.0, h.1, components_same es (components own) h.2)
      expr_same (Builtin at own function args) sort h = (h.0, h.1, h.2, args_same args (function_needs function) h.3)
      expr_same (Invoke at own called args) sort h = (h.0, h.1, h.2, h.3, h.4, args_same args (map need_of h.1.params) h.5)
      expr_same (Not at own e) sort h = (h.0, h.1, expr_same e sorts.Bool h.2)
      expr_same (Signed at own minus e) sort h = (h.0, h.1, expr_same e sorts.Num h.2)
      expr_same (Chain at own e steps) sort h = (h.0, h.1, expr_same e h.1 h.2, steps_same steps h.1 sort h.3)

      components_same : (es : TypedExprs) (cs : List Component) → AreComponents c kinds es cs → AreComponents d kinds es cs
      components_same NoExprs [] h = tt
      components_same NoExprs (k ∷ cs) h = absurd h
      components_same (MoreExprs e es) [] h = absurd h
      components_same (MoreExprs e es) (k ∷ cs) h = (expr_same e k.sort h.0, components_same es cs h.1)

      steps_same : (steps : TypedSteps) (first sort : Sort) → AreSteps c kinds steps first sort → AreSteps d kinds steps first sort
      steps_same NoSteps first sort h = h
      steps_same (MoreSteps o e steps) first sort h = (h.0, h.1, expr_same e first h.2, steps_same steps h.0 sort h.3)

      place_same : (written : Bool) (p : TypedPlace) (sort : Sort) → IsPlace c kinds written p sort → IsPlace d kinds written p sort
      place_same written (PlaceOf root NotHeld part own) sort h = (h.0, h.1, root_same written root h.1 None h.2, h.3)
      place_same written (PlaceOf root (Held e) part own) sort h = (h.0, h.1, h.2, root_same written root h.1 (Some h.2) h.3, h.4, expr_same e sorts.Num h.5)

      arg_same : (arg : TypedArg) (need : Need) → IsArg c kinds arg need → IsArg d kinds arg need
      arg_same (Given e) (needs.Value sort) h = expr_same e sort h
      arg_same (Given e) needs.One h = expr_same e sorts.Num h
      arg_same (Lent p) (needs.Var sort) h = place_same true p sort h
      arg_same (Lent p) (needs.Pers sort) h = place_same true p sort h
      arg_same (Lent p) (needs.VarOrPers sort) h = place_same true p sort h
      arg_same (Lent p) (needs.Written sort) h = place_same true p sort h
      arg_same (Lent p) (needs.Place sort) h = place_same false p sort h
      arg_same (Lent p) needs.WorldZone h = (h.0, h.1, place_same true p h.0 h.2)
      arg_same (Lent p) needs.Array h = (h.0, h.1, array_same p h.0 h.2)
      arg_same (Lent p) needs.TaskList h = array_same p sorts.Tasks h
      arg_same (Lent p) needs.PersName h = name_same p h
      arg_same (OfSignal signal) (needs.Signal output) h = h
      arg_same (OfMeeting meeting) needs.Meeting h = h
      arg_same (Itself name) needs.Fine h = h
      arg_same (Itself name) needs.Tool h = h
      arg_same (Itself name) needs.WorkObject h = h
      arg_same _ _ h = absurd h

      args_same : (args : TypedArgs) (ns : List Need) → AreArgs c kinds args ns → AreArgs d kinds args ns
      args_same NoArgs [] h = tt
      args_same NoArgs (need ∷ ns) h = absurd h
      args_same (MoreArgs arg more) [] h = absurd h
      args_same (MoreArgs arg more) (need ∷ ns) h = (arg_same arg need h.0, args_same more ns h.1)

    needed_same : (args : List TypedArg) (ns : List Need) → AreNeeded c kinds args ns → AreNeeded d kinds args ns
    needed_same [] [] h = tt
    needed_same [] (need ∷ ns) h = absurd h
    needed_same (arg ∷ more) [] h = absurd h
    needed_same (arg ∷ more) (need ∷ ns) h = (arg_same arg need h.0, needed_same more ns h.1)

    option_arg_same : (value : TypedArgument) (need : Option Need) → IsOptionArg c kinds value need → IsOptionArg d kinds value need
    option_arg_same NoArgument None h = tt
    option_arg_same (Argument arg) (Some need) h = arg_same arg need h
    option_arg_same _ _ h = absurd h

    option_same : (name : List ℕ) (value : TypedArgument) (rows : List OptionRow) → IsOption c kinds name value rows → IsOption d kinds name value rows
    option_same name value [] h = absurd h
    option_same name value (row ∷ rows) (inl h) = inl (h.0, option_arg_same value row.value h.1)
    option_same name value (row ∷ rows) (inr h) = inr (option_same name value rows h)

    options_same : (args : List TypedArg) (rows : List OptionRow) → AreOptions c kinds args rows → AreOptions d kinds args rows
    options_same [] rows h = tt
    options_same (Optional name value ∷ more) rows h = (option_same name value rows h.0, options_same more rows h.1)
    options_same (_ ∷ more) rows h = absurd h

    step_same : (step : Option TypedExpr) → IsStep c kinds step → IsStep d kinds step
    step_same None h = tt
    step_same (Some e) h = expr_same e sorts.Num h

    values_same : (es : TypedExprs) (sort : Sort) → AreCaseValues c kinds es sort → AreCaseValues d kinds es sort
    values_same NoExprs sort h = tt
    values_same (MoreExprs e es) sort h = (expr_same e sort h.0, values_same es sort h.1)

  mutual
    stmt_same : (s : TypedStmt) (around : Around) → IsStmt c around s → IsStmt d around s
    stmt_same (Assign at p e) around h = (h.0, h.1, place_same around.places true p h.0 h.2, expr_same around.places e h.0 h.3)
    stmt_same (Instruct at instruction args) around h = record {
      arm = h.arm;
      are_needed = needed_same around.places (needed args) (instruction_needs instruction) h.are_needed;
      are_options = options_same around.places (options args) (option_rows instruction) h.are_options;
      chosen = h.chosen;
    }
    stmt_same (Call at called args) around h = (h.0, h.1, h.2, args_same around.places args (map need_of h.0.params) h.3)
    stmt_same (Label at label) around h = tt
    stmt_same (Goto at label) around h = h
    stmt_same (Return at None) around h = h
    stmt_same (Return at (Some e)) around h = (h.0, h.1, h.2, expr_same around.places e h.0 h.3)
    stmt_same (Exit at) around h = tt
    stmt_same (Raise at None) around h = h
    stmt_same (Raise at (Some e)) around h = expr_same around.places e sorts.Num h
    stmt_same (Retry at) around h = h
    stmt_same (TryNext at) around h = h
    stmt_same (Connect at p trap) around h = (place_same around.places true p sorts.IntNum h.0, h.1, h.2, h.3)
    stmt_same (If at arms other) around h = (arms_same arms around h.0, else_same other around h.1)
    stmt_same (IfOne at e one) around h = (expr_same around.places e sorts.Bool h.0, stmt_same one around h.1)
    stmt_same (For at local first last step list) around h = (
      h.0,
      expr_same around.places first sorts.Num h.1,
      expr_same around.places last sorts.Num h.2,
      step_same around.places step h.3,
      stmts_same list (into around list) h.4,
    )
    stmt_same (While at e list) around h = (expr_same around.places e sorts.Bool h.0, stmts_same list (into around list) h.1)
    stmt_same (Test at e cases other) around h = (h.0, h.1, expr_same around.places e h.0 h.2, cases_same cases around h.0 h.3, else_same other around h.4)

    stmts_same : (list : TypedStmts) (around : Around) → AreStmts c around list → AreStmts d around list
    stmts_same NoStmts around h = tt
    stmts_same (MoreStmts s more) around h = (stmt_same s around h.0, stmts_same more around h.1)

    arms_same : (arms : TypedArms) (around : Around) → AreArms c around arms → AreArms d around arms
    arms_same NoArms around h = tt
    arms_same (MoreArms e list more) around h = (expr_same around.places e sorts.Bool h.0, stmts_same list (into around list) h.1, arms_same more around h.2)

    cases_same : (cases : TypedCases) (around : Around) (sort : Sort) → AreCases c around cases sort → AreCases d around cases sort
    cases_same NoCases around sort h = tt
    cases_same (MoreCases es list more) around sort h = (values_same around.places es sort h.0, stmts_same list (into around list) h.1, cases_same more around sort h.2)

    else_same : (other : TypedElse) (around : Around) → IsElse c around other → IsElse d around other
    else_same NoElse around h = tt
    else_same (Else list) around h = stmts_same list (into around list) h

  handler_same : (routine : TypedRoutine) (handler : Option TypedStmts) → IsHandler c routine handler → IsHandler d routine handler
  handler_same routine None h = tt
  handler_same routine (Some list) h = stmts_same list (around_in routine true list) h

  routine_same : (routine : TypedRoutine) → IsRoutine c routine → IsRoutine d routine
  routine_same routine h = record {
    locals = h.locals;
    list = stmts_same routine.list (around_in routine false routine.list) h.list;
    handler = handler_same routine routine.handler h.handler;
    takes = h.takes;
  }

  pub stays : WellTyped signals tree → WellTyped signals (with_numbers tree pers_of meeting_of)
  stays h = record {
    slots = h.slots;
    pers = h.pers;
    routines = All-weaker (IsRoutine c) (IsRoutine d) routine_same tree.routines h.routines;
    main = record { routine = h.main.routine; there = h.main.there; procedure = h.main.procedure; takes_nothing = h.main.takes_nothing };
    axes = h.axes;
  }
