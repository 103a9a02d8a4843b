-- The code of a well typed tree of a task without an arm has no operation that needs one.
use Rattle.std.proofs.Common.{◌≡◌, ℕ, zero, suc, ◌+◌, ◌<◌, Bool, true, false, not, IsTrue, List, [], ◌∷◌, inl, inr, length, map, Option, Some, None, refl, arith}
use Rattle.std.specs.Prelude.{All}
use Rattle.std.specs.List.{cons_option, list_all}
use Rattle.std.specs.Option.{option_map}
use Rattle.std.proofs.lemmas.Bool.{and_parts, not-true}
use Rattle.rapid_model.specs.declared.instruction.Instruction.{Instruction}
use Rattle.rapid_model.specs.declared.instruction.Instruction.TheVariants as instructions
use Rattle.rapid_model.specs.declared.routine_kind.RoutineKind.{RoutineKind}
use Rattle.rapid_model.specs.declared.routine_kind.RoutineKind.TheVariants as kinds
use Rattle.rapid_model.specs.declared.sort.Sort.{Sort}
use Rattle.rapid_model.specs.declared.sort.Sort.TheVariants as sorts
use Rattle.rapid_builtins.specs.Calls as builtins
use Rattle.rapid_builtins.specs.Calls.{OptionRow, instruction_needs}
use Rattle.rapid_builtins.specs.declared.need.Need.{Need}
use Rattle.typed_trees.specs.Plain as trees
use Rattle.typed_trees.specs.Plain.{TypedArg, TypedArgs, TypedArgument, TypedArms, TypedCases, TypedElse, TypedExpr, TypedExprs, TypedRoutine, TypedStmt, TypedStmts, TypedTree, NoExprs, MoreExprs, Given, Lent, OfSignal, OfMeeting, Itself, Optional, NoArgument, Argument, NoStmts, MoreStmts, NoArms, MoreArms, NoCases, MoreCases, NoElse, Else}
use Rattle.rapid_meaning.specs.Instructions.{needed, options}
use Rattle.rapid_meaning.specs.Layouts.{local_start}
use Rattle.tree_typing.specs.Expressions.{AreArgs, IsArg, IsExpr, IsPlace}
use Rattle.tree_typing.specs.Instructions.{AreNeeded, AreOptions, IsInstruction, IsOption, IsOptionArg}
use Rattle.tree_typing.specs.Kinds.{Kind, kinds_of, need_of}
use Rattle.tree_typing.specs.Setting.{Setting}
use Rattle.tree_typing.specs.Statements.{Around, AreArms, AreCaseValues, AreCases, AreStmts, IsElse, IsStep, IsStmt, into}
use Rattle.tree_typing.specs.WellTyped.{IsHandler, IsRoutine, WellTyped, around_in}
use Rattle.stack_code.specs.Compiled.{compiled, end_op, own_end, part_code, part_start, routine_code, routine_labels, routine_size, routines_code}
use Rattle.stack_code.specs.ExprLayouts.{args_code, expr_code, place_code, put}
use Rattle.stack_code.specs.Pieces.{Piece, OfExpr, OfPlace, OfArgs, Does, Waits, GoesTo, Chooses, Travels, bounds_pieces, list_length, meeting_at, meeting_number, order_of, piece_of, pieces, pieces_of_steps, place_at, signal_at, tail_in, tail_kind_in, tie_of, value_at, watched_number}
use Rattle.stack_code.specs.Placed.{Own, Placed}
use Rattle.stack_code.specs.Recipes.{recipe}
use Rattle.stack_code.specs.Sizes.{args_size, arms_size, bounds_size, cases_size, expr_size, place_size, stmt_size, stmts_size, values_size}
use Rattle.stack_code.specs.StmtLayouts.{arms_code, cases_code, else_code, own_of, pieces_code, stmt_code, stmts_code, values_code}
use Rattle.stack_code.specs.declared.op.Op.{Op}
use Rattle.stack_code.specs.declared.op.Op.TheVariants as ops
use Rattle.stack_code.specs.declared.order_on.OrderOn.TheVariants as orders
use Rattle.stack_code.specs.declared.step.Step.{Step}
use Rattle.stack_code.specs.declared.step.Step.TheVariants as steps
use Rattle.task_code.specs.Armless.{is_armless, needs_arm}
use Rattle.code_laws.proofs.ArmlessExprs.{Free, Without, args_free, armless_need, expr_free, given_free, lent_free, place_free}

-- pieces whose code needs no arm

abbrev Needless : Op → Type 0
Needless op = not (needs_arm op) ≡ true

abbrev IsFree : Without → Piece → Type 0
IsFree w (OfExpr e) = (own : Own) (pc : ℕ) (ps : List Placed) → Free ps → Free (expr_code w.c.tree w.routine own pc e ps)
IsFree w (OfPlace p) = (own : Own) (pc : ℕ) (ps : List Placed) → Free ps → Free (place_code w.c.tree w.routine own pc p ps)
IsFree w (OfArgs args) = (own : Own) (pc : ℕ) (ps : List Placed) → Free ps → Free (args_code w.c.tree w.routine own pc args ps)
IsFree w (Does op) = Needless op
IsFree w Waits = Unit {0}
IsFree w (GoesTo label) = Unit {0}
IsFree w (Chooses a b) = Needless a × Needless b
IsFree w Travels = ⊥

abbrev AreFree : Without → List Piece → Type 0
AreFree w [] = Unit {0}
AreFree w (piece ∷ more) = IsFree w piece × AreFree w more

does_free : (own : Own) (op : Op) (ps : List Placed) → Needless op → Free ps → Free (put own op ps)
does_free own op ps spare h = rw spare h

pieces_free : (w : Without) (labels : List ℕ) (own : Own) (pc : ℕ) (list : List Piece) (ps : List Placed) → AreFree w list → Free ps → Free (pieces_code w.c.tree w.routine labels own pc list ps)
unfolding pieces_code
pieces_free w labels own pc [] ps are h = h
pieces_free w labels own pc (OfExpr e ∷ more) ps are h =
    are.0 own pc (pieces_code w.c.tree w.routine labels own (pc + expr_size e) more ps) (pieces_free w labels own (pc + expr_size e) more ps are.1 h)
pieces_free w labels own pc (OfPlace p ∷ more) ps are h =
    are.0 own pc (pieces_code w.c.tree w.routine labels own (pc + place_size p) more ps) (pieces_free w labels own (pc + place_size p) more ps are.1 h)
pieces_free w labels own pc (OfArgs args ∷ more) ps are h =
    are.0 own pc (pieces_code w.c.tree w.routine labels own (pc + args_size args) more ps) (pieces_free w labels own (pc + args_size args) more ps are.1 h)
pieces_free w labels own pc (Does op ∷ more) ps are h =
    does_free own op (pieces_code w.c.tree w.routine labels own (pc + 1) more ps) are.0 (pieces_free w labels own (pc + 1) more ps are.1 h)
pieces_free w labels own pc (Waits ∷ more) ps are h = pieces_free w labels own (pc + 1) more ps are.1 h
pieces_free w labels own pc (GoesTo label ∷ more) ps are h = pieces_free w labels own (pc + 1) more ps are.1 h
pieces_free w labels own pc (Chooses a b ∷ more) ps are h =
    let rest : List Placed = pieces_code w.c.tree w.routine labels own (pc + 1 + 1 + 1 + 1) more ps in
    does_free own a (put own (ops.Jump (pc + 1 + 1 + 1 + 1)) (put own b rest)) are.0.0
    (does_free own b rest are.0.1 (pieces_free w labels own (pc + 1 + 1 + 1 + 1) more ps are.1 h))
pieces_free w labels own pc (Travels ∷ more) ps are h = absurd are.0

-- the steps of an instruction

abbrev IsFreeOption : Without → Option Piece → Type 0
IsFreeOption w None = Unit {0}
IsFreeOption w (Some piece) = IsFree w piece

mapped_free : {A : Type 0} (w : Without) (op : A → Op) (o : Option A) → ((x : A) → Needless (op x)) → IsFreeOption w (option_map (λ x. Does (op x)) o)
mapped_free w op None each = tt
mapped_free w op (Some x) each = each x

value_free : (w : Without) (args : List TypedArg) (list : List Need) (n : ℕ) → AreNeeded w.c w.kinds args list → IsFreeOption w (option_map OfExpr (value_at args n))
value_free w [] list n are = tt
value_free w (arg ∷ more) [] n are = absurd are
value_free w (Given e ∷ more) (need ∷ others) zero are = λ own pc ps h. given_free w own pc e need ps are.0 h
value_free w (arg ∷ more) (need ∷ others) zero are = tt
value_free w (arg ∷ more) (need ∷ others) (suc n) are = value_free w more others n are.1

lent_place_free : (w : Without) (args : List TypedArg) (list : List Need) (n : ℕ) → AreNeeded w.c w.kinds args list → IsFreeOption w (option_map OfPlace (place_at args n))
lent_place_free w [] list n are = tt
lent_place_free w (arg ∷ more) [] n are = absurd are
lent_place_free w (Lent p ∷ more) (need ∷ others) zero are = λ own pc ps h. lent_free w own pc p need ps are.0 h
lent_place_free w (arg ∷ more) (need ∷ others) zero are = tt
lent_place_free w (arg ∷ more) (need ∷ others) (suc n) are = lent_place_free w more others n are.1

-- the value of an option

option_free : (w : Without) (e : TypedExpr) (need : Option Need) → IsOptionArg w.c w.kinds (Argument (Given e)) need → IsFree w (OfExpr e)
option_free w e None is = absurd is
option_free w e (Some need) is = λ own pc ps h. given_free w own pc e need ps is h

chosen_free : (w : Without) (name : List ℕ) (e : TypedExpr) (rows : List OptionRow) → IsOption w.c w.kinds name (Argument (Given e)) rows → IsFree w (OfExpr e)
chosen_free w name e [] is = absurd is
chosen_free w name e (row ∷ rows) (inl here) = option_free w e row.value here.1
chosen_free w name e (row ∷ rows) (inr later) = chosen_free w name e rows later

tail_free : (w : Without) (given : List TypedArg) (rows : List OptionRow) → AreOptions w.c w.kinds given rows → IsFreeOption w (option_map OfExpr (tail_in given))
tail_free w (Optional name (Argument (Given e)) ∷ []) rows are = chosen_free w name e rows are.0
tail_free w given rows are = tt

-- a step that moves the arm, or makes a shape
abbrev step_needs_arm : Step → Bool
step_needs_arm steps.Travel = true
step_needs_arm (steps.Shape home) = true
step_needs_arm step = false

step_free : (w : Without) (args given : List TypedArg) (list : List Need) (rows : List OptionRow) (step : Step) → AreNeeded w.c w.kinds args list → AreOptions w.c w.kinds given rows → step_needs_arm step ≡ false
    → IsFreeOption w (piece_of w.c.tree w.routine args given step)
step_free w args given list rows (steps.Value n) are others spare = value_free w args list n are
step_free w args given list rows (steps.Place n) are others spare = lent_place_free w args list n are
step_free w args given list rows (steps.Count n) are others spare = refl
step_free w args given list rows steps.Drop are others spare = refl
step_free w args given list rows steps.Dup are others spare = refl
step_free w args given list rows steps.Over are others spare = refl
step_free w args given list rows steps.Load are others spare = refl
step_free w args given list rows steps.Store are others spare = refl
step_free w args given list rows steps.Bit are others spare = refl
step_free w args given list rows steps.Still are others spare = refl
step_free w args given list rows steps.Travel are others spare = absurd cc
step_free w args given list rows steps.TestSet are others spare = refl
step_free w args given list rows (steps.Binary o) are others spare = refl
step_free w args given list rows (steps.Irq change) are others spare = refl
step_free w args given list rows (steps.Zone change) are others spare = refl
step_free w args given list rows steps.Wait are others spare = tt
step_free w args given list rows (steps.GetSignal n) are others spare = mapped_free w (λ signal. ops.GetSignal signal) (signal_at args n) (λ signal. refl)
step_free w args given list rows (steps.PutSignal n) are others spare = mapped_free w (λ signal. ops.PutSignal signal) (signal_at args n) (λ signal. refl)
step_free w args given list rows (steps.OrderSignal n) are others spare = mapped_free w (λ signal. order_of (orders.Signal signal) given) (signal_at args n) (λ signal. refl)
step_free w args given list rows (steps.OrderPers n) are others spare =
    mapped_free w (λ watch. order_of (orders.Pers (watched_number w.c.tree watch)) given) (place_at args n) (λ watch. refl)
step_free w args given list rows (steps.TaskSet n) are others spare = mapped_free w (λ place. ops.TaskSet (list_length w.c.tree w.routine place)) (place_at args n) (λ place. refl)
step_free w args given list rows (steps.Arrive n) are others spare = mapped_free w (λ meeting. ops.Arrive (meeting_number w.c.tree meeting)) (meeting_at args n) (λ meeting. refl)
step_free w args given list rows (steps.Shape home) are others spare = absurd cc
step_free w args given list rows steps.ZoneSet are others spare = refl
step_free w args given list rows (steps.ZoneTie n) are others spare = mapped_free w (λ signal. tie_of signal given) (signal_at args n) (λ signal. refl)
step_free w args given list rows steps.Tail are others spare = tail_free w given rows others
step_free w args given list rows steps.Say are others spare = mapped_free w (λ kind. ops.Say kind) (tail_kind_in given) (λ kind. refl)

one_more : (w : Without) (piece : Option Piece) (more : List Piece) → IsFreeOption w piece → AreFree w more → AreFree w (cons_option piece more)
one_more w None more here others = others
one_more w (Some piece) more here others = (here, others)

abbrev are_armless : List Step → Bool
are_armless row = list_all (λ step. not (step_needs_arm step)) row

steps_free : (w : Without) (args given : List TypedArg) (list : List Need) (rows : List OptionRow) (row : List Step) → AreNeeded w.c w.kinds args list → AreOptions w.c w.kinds given rows → are_armless row ≡ true
    → AreFree w (pieces_of_steps w.c.tree w.routine args given row)
steps_free w args given list rows [] are others spare = tt
steps_free w args given list rows (step ∷ row) are others spare =
    let both = and_parts (not (step_needs_arm step)) (are_armless row) spare in
    one_more w (piece_of w.c.tree w.routine args given step) (pieces_of_steps w.c.tree w.routine args given row)
    (step_free w args given list rows step are others (not-true (step_needs_arm step) both.0)) (steps_free w args given list rows row are others both.1)

recipe_free : (instruction : Instruction) → builtins.needs_arm instruction ≡ false → are_armless (recipe instruction) ≡ true
recipe_free instructions.MoveAbsJ spare = absurd cc
recipe_free instructions.WZLimJointDef spare = absurd cc
recipe_free instructions.WZHomeJointDef spare = absurd cc
recipe_free instruction spare = refl

-- statements

of_expr : (w : Without) (e : TypedExpr) (sort : Sort) → IsExpr w.c w.kinds e sort → IsFree w (OfExpr e)
of_expr w e sort is = λ own pc ps h. expr_free w own pc e sort ps is h

of_place : (w : Without) (written : Bool) (p : trees.TypedPlace) (sort : Sort) → IsPlace w.c w.kinds written p sort → IsFree w (OfPlace p)
of_place w written p sort is = λ own pc ps h. place_free w own pc written p sort ps is h

bounds_free : (w : Without) (k : ℕ) (first last : TypedExpr) (step : Option TypedExpr) → IsExpr w.c w.kinds first sorts.Num → IsExpr w.c w.kinds last sorts.Num → IsStep w.c w.kinds step → AreFree w (bounds_pieces k first last step)
bounds_free w k first last (Some step) one two three = (refl, (of_expr w first sorts.Num one, (refl, (of_expr w last sorts.Num two, (refl, (of_expr w step sorts.Num three, (refl, (refl, (refl, tt)))))))))
bounds_free w k first last None one two three = (refl, (of_expr w first sorts.Num one, (refl, (of_expr w last sorts.Num two, (refl, (refl, (refl, (refl, (refl, (refl, (refl, (refl, ((refl, refl), (refl, tt))))))))))))))

values_free : (w : Without) (own : Own) (list pc : ℕ) (es : TypedExprs) (sort : Sort) (ps : List Placed) → AreCaseValues w.c w.kinds es sort → Free ps → Free (values_code w.c.tree w.routine own list pc es ps)
unfolding values_code
values_free w own list pc NoExprs sort ps are h = h
values_free w own list pc (MoreExprs e es) sort ps are h =
    expr_free w own (pc + 1) e sort _ are.0 (values_free w own list (pc + 1 + expr_size e + 1 + 1) es sort ps are.1 h)

instruct_free : (w : Without) (instruction : Instruction) (args : TypedArgs) → IsInstruction w.c w.kinds instruction args
    → AreFree w (pieces_of_steps w.c.tree w.routine (needed args) (options args) (recipe instruction))
instruct_free w instruction args is =
    steps_free w (needed args) (options args) (instruction_needs instruction) (builtins.options instruction) (recipe instruction) is.are_needed is.are_options
    (recipe_free instruction (armless_need w.c (builtins.needs_arm instruction) w.none is.arm))

-- a routine of a task without an arm, around a statement
abbrev in_places : (c : Setting) → c.tree.axes ≡ 0 → Around → TypedRoutine → Without
in_places c none around routine = record { c = c; none = none; kinds = around.places; routine = routine }

mutual
  stmt_free : (c : Setting) (none : c.tree.axes ≡ 0) (routine : TypedRoutine) (around : Around) (labels : List ℕ) (own : Own) (pc : ℕ) (s : TypedStmt) (ps : List Placed) → IsStmt c around s → Free ps
      → Free (stmt_code c.tree routine labels own pc s ps)
  stmt_free c none routine around labels own pc (trees.Assign at p e) ps is h =
      let w = in_places c none around routine in
      pieces_free w labels own (pc + 1) (pieces c.tree routine (trees.Assign at p e)) ps (of_place w true p is.0 is.2, (of_expr w e is.0 is.3, (refl, tt))) h
  stmt_free c none routine around labels own pc (trees.Instruct at instruction args) ps is h =
      let w = in_places c none around routine in
      pieces_free w labels own (pc + 1) (pieces c.tree routine (trees.Instruct at instruction args)) ps (instruct_free w instruction args is) h
  stmt_free c none routine around labels own pc (trees.Call at called args) ps is h =
      let w = in_places c none around routine in
      let passed : IsFree w (OfArgs args) = λ own pc ps h. args_free w own pc args (map need_of is.0.params) ps is.3 h in
      pieces_free w labels own (pc + 1) (pieces c.tree routine (trees.Call at called args)) ps (passed, (refl, tt)) h
  stmt_free c none routine around labels own pc (trees.Label at label) ps is h = h
  stmt_free c none routine around labels own pc (trees.Goto at label) ps is h =
      pieces_free (in_places c none around routine) labels own (pc + 1) (pieces c.tree routine (trees.Goto at label)) ps (tt, tt) h
  stmt_free c none routine around labels own pc (trees.Return at None) ps is h =
      pieces_free (in_places c none around routine) labels own (pc + 1) (pieces c.tree routine (trees.Return at None)) ps (refl, tt) h
  stmt_free c none routine around labels own pc (trees.Return at (Some e)) ps is h =
      let w = in_places c none around routine in
      pieces_free w labels own (pc + 1) (pieces c.tree routine (trees.Return at (Some e))) ps (of_expr w e is.0 is.3, (refl, tt)) h
  stmt_free c none routine around labels own pc (trees.Exit at) ps is h =
      pieces_free (in_places c none around routine) labels own (pc + 1) (pieces c.tree routine (trees.Exit at)) ps (refl, tt) h
  stmt_free c none routine around labels own pc (trees.Raise at None) ps is h =
      pieces_free (in_places c none around routine) labels own (pc + 1) (pieces c.tree routine (trees.Raise at None)) ps (refl, tt) h
  stmt_free c none routine around labels own pc (trees.Raise at (Some e)) ps is h =
      let w = in_places c none around routine in
      pieces_free w labels own (pc + 1) (pieces c.tree routine (trees.Raise at (Some e))) ps (of_expr w e _ is, (refl, tt)) h
  stmt_free c none routine around labels own pc (trees.Retry at) ps is h =
      pieces_free (in_places c none around routine) labels own (pc + 1) (pieces c.tree routine (trees.Retry at)) ps (refl, tt) h
  stmt_free c none routine around labels own pc (trees.TryNext at) ps is h =
      pieces_free (in_places c none around routine) labels own (pc + 1) (pieces c.tree routine (trees.TryNext at)) ps (refl, tt) h
  stmt_free c none routine around labels own pc (trees.Connect at p trap) ps is h =
      let w = in_places c none around routine in
      pieces_free w labels own (pc + 1) (pieces c.tree routine (trees.Connect at p trap)) ps (of_place w true p _ is.0, (refl, (refl, (refl, tt)))) h
  stmt_free c none routine around labels own pc (trees.If at arms other) ps is h =
      arms_free c none routine around labels own (pc + 1) arms _ is.0 (else_free c none routine around labels (pc + 1 + arms_size c.tree routine arms) other ps is.1 h)
  stmt_free c none routine around labels own pc (trees.IfOne at e one) ps is h =
      expr_free (in_places c none around routine) own (pc + 1) e _ _ is.0
      (stmt_free c none routine around labels (own_of c.tree routine (pc + 1 + expr_size e + 1) one) (pc + 1 + expr_size e + 1) one ps is.1 h)
  stmt_free c none routine around labels own pc (trees.For at local first last step list) ps is h =
      let w = in_places c none around routine in
      pieces_free w labels own (pc + 1) (bounds_pieces (local_start routine local) first last step) _ (bounds_free w (local_start routine local) first last step is.1 is.2 is.3)
      (stmts_free c none routine (into around list) labels (pc + 1 + bounds_size routine local first last step + 1 + 1) list _ is.4 h)
  stmt_free c none routine around labels own pc (trees.While at e list) ps is h =
      expr_free (in_places c none around routine) own (pc + 1) e _ _ is.0 (stmts_free c none routine (into around list) labels (pc + 1 + expr_size e + 1) list _ is.1 h)
  stmt_free c none routine around labels own pc (trees.Test at e cases other) ps is h =
      expr_free (in_places c none around routine) own (pc + 1) e is.0 _ is.2
      (cases_free c none routine around labels own (pc + 1 + expr_size e) cases is.0 _ is.3
      (else_free c none routine around labels (pc + 1 + expr_size e + cases_size c.tree routine cases + 1) other ps is.4 h))

  stmts_free : (c : Setting) (none : c.tree.axes ≡ 0) (routine : TypedRoutine) (around : Around) (labels : List ℕ) (pc : ℕ) (list : TypedStmts) (ps : List Placed) → AreStmts c around list → Free ps
      → Free (stmts_code c.tree routine labels pc list ps)
  stmts_free c none routine around labels pc NoStmts ps are h = h
  stmts_free c none routine around labels pc (MoreStmts s more) ps are h =
      stmt_free c none routine around labels (own_of c.tree routine pc s) pc s _ are.0 (stmts_free c none routine around labels (pc + stmt_size c.tree routine s) more ps are.1 h)

  arms_free : (c : Setting) (none : c.tree.axes ≡ 0) (routine : TypedRoutine) (around : Around) (labels : List ℕ) (own : Own) (pc : ℕ) (arms : TypedArms) (ps : List Placed) → AreArms c around arms → Free ps
      → Free (arms_code c.tree routine labels own pc arms ps)
  arms_free c none routine around labels own pc NoArms ps are h = h
  arms_free c none routine around labels own pc (MoreArms e list more) ps are h =
      expr_free (in_places c none around routine) own pc e _ _ are.0
      (stmts_free c none routine (into around list) labels (pc + expr_size e + 1) list _ are.1
      (arms_free c none routine around labels own (pc + expr_size e + 1 + stmts_size c.tree routine list + 1) more ps are.2 h))

  cases_free : (c : Setting) (none : c.tree.axes ≡ 0) (routine : TypedRoutine) (around : Around) (labels : List ℕ) (own : Own) (pc : ℕ) (cases : TypedCases) (sort : Sort) (ps : List Placed) → AreCases c around cases sort → Free ps
      → Free (cases_code c.tree routine labels own pc cases ps)
  cases_free c none routine around labels own pc NoCases sort ps are h = h
  cases_free c none routine around labels own pc (MoreCases es list more) sort ps are h =
      values_free (in_places c none around routine) own (pc + values_size es + 1) pc es sort _ are.0
      (stmts_free c none routine (into around list) labels (pc + values_size es + 1 + 1) list _ are.1
      (cases_free c none routine around labels own (pc + values_size es + 1 + 1 + stmts_size c.tree routine list + 1) more sort ps are.2 h))

  else_free : (c : Setting) (none : c.tree.axes ≡ 0) (routine : TypedRoutine) (around : Around) (labels : List ℕ) (pc : ℕ) (other : TypedElse) (ps : List Placed) → IsElse c around other → Free ps
      → Free (else_code c.tree routine labels pc other ps)
  else_free c none routine around labels pc NoElse ps is h = h
  else_free c none routine around labels pc (Else list) ps is h = stmts_free c none routine (into around list) labels pc list ps is h

-- routines

end_free : (own : Own) (kind : RoutineKind) (ps : List Placed) → Free ps → Free (put own (end_op kind) ps)
end_free own kinds.Func ps h = h
end_free own kind ps h = h

handler_free : (c : Setting) (none : c.tree.axes ≡ 0) (routine : TypedRoutine) (labels : List ℕ) (pc : ℕ) (handler : Option TypedStmts) (ps : List Placed) → IsHandler c routine handler → Free ps
    → Free (part_code c.tree routine labels pc handler ps)
handler_free c none routine labels pc None ps is h = h
handler_free c none routine labels pc (Some list) ps is h = stmts_free c none routine (around_in routine true list) labels pc list _ is h

routine_free : (c : Setting) (none : c.tree.axes ≡ 0) (pc : ℕ) (routine : TypedRoutine) (ps : List Placed) → IsRoutine c routine → Free ps → Free (routine_code c.tree pc routine ps)
routine_free c none pc routine ps is h =
    stmts_free c none routine (around_in routine false routine.list) (routine_labels c.tree routine pc) pc routine.list _ is.list
    (end_free (own_end routine (pc + stmts_size c.tree routine routine.list)) routine.kind (part_code c.tree routine (routine_labels c.tree routine pc) (part_start c.tree routine pc) routine.handler ps)
    (handler_free c none routine (routine_labels c.tree routine pc) (part_start c.tree routine pc) routine.handler ps is.handler h))

routines_free : (c : Setting) (none : c.tree.axes ≡ 0) (pc : ℕ) (routines : List TypedRoutine) → All (IsRoutine c) routines → Free (routines_code c.tree pc routines)
unfolding routines_code
routines_free c none pc [] all = refl
routines_free c none pc (routine ∷ more) all =
    routine_free c none pc routine (routines_code c.tree (pc + routine_size c.tree routine) more) (all 0 routine (omega arith))
    (routines_free c none (pc + routine_size c.tree routine) more (λ k d within. all (suc k) d (omega (arith, within))))

pub armless : (signals : ℕ) (tree : TypedTree) → WellTyped signals tree → tree.axes ≡ 0 → IsTrue (is_armless (compiled tree).ops)
armless signals tree typed none = routines_free (record { signals = signals; tree = tree }) none 0 tree.routines typed.routines
