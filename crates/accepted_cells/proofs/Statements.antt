-- A statement that is right is well typed.
use Rattle.std.proofs.Common.{◌≡◌, ℕ, ◌+◌, ◌<◌, ◌≤◌, Bool, true, false, List, [], ◌∷◌, Option, Some, None, slice_get, refl, sym, ap, subst, ◌∙◌, arith}
use Rattle.raw_trees.specs.Plain.{PlainArgs, PlainArms, PlainCases, PlainElse, PlainExpr, PlainPlace, PlainStmt, PlainStmts, PlaceOf, Assign, Call, Label, Goto, Return, Exit, Raise, Retry, TryNext, Connect, If, IfOne, For, While, Test, NoStmts, MoreStmts, NoArms, MoreArms, NoCases, MoreCases, NoElse, Else}
use Rattle.rapid_model.specs.declared.operator.Operator.TheVariants as operators
use Rattle.rapid_model.specs.declared.routine_kind.RoutineKind.{RoutineKind}
use Rattle.rapid_model.specs.declared.routine_kind.RoutineKind.TheVariants as routines
use Rattle.rapid_model.specs.declared.sort.Sort.{Sort}
use Rattle.rapid_model.specs.declared.sort.Sort.TheVariants as sorts
use Rattle.rapid_model.specs.Sorts.{has_values}
use Rattle.typed_trees.specs.Plain as trees
use Rattle.typed_trees.specs.Plain.{TypedArms, TypedCases, TypedElse, TypedExpr, TypedExprs, TypedPlace, TypedStmt, TypedStmts}
use Rattle.data_scopes.specs.declared.meant.Meant.{Meant}
use Rattle.data_scopes.specs.declared.meant.Meant.TheVariants as meants
use Rattle.data_scopes.specs.Called.{params_of, result_of}
use Rattle.typed_trees.specs.declared.expr.TreeRoot.{TreeRoot}
use Rattle.named_data.specs.declared.named.Access.{Access}
use Rattle.named_data.specs.declared.named.Access.TheVariants as accesses
use Rattle.named_data.specs.declared.named.Source.{Source}
use Rattle.named_data.specs.declared.named.Source.TheVariants as sources
use Rattle.named_data.specs.declared.wanted.Wanted.TheVariants.{Is, Same, Fits}
use Rattle.named_data.specs.Data.{NamedPart, named}
use Rattle.named_data.specs.Rules.{Site}
use Rattle.expr_types.specs.Arguments.{is_fixed, is_held}
use Rattle.expr_types.specs.Calls.{routine_signature, taking}
use Rattle.expr_types.specs.Typing.{sort_of}
use Rattle.stmt_types.specs.Bodies as bodies
use Rattle.stmt_types.specs.Bodies.{Body, counter_index, into, into_loop, place_sort, site}
use Rattle.type_laws.specs.Calls.{Stands}
use Rattle.type_laws.specs.Expressions.{IsExpr as IsTypedExpr}
use Rattle.type_laws.specs.Statements.{AreBranches, AreCaseValues as AreTypedValues, AreChoices, AreStmts as AreTypedStmts, IsCalled, IsConnect, IsNamed, IsOtherwise, IsPlaceOf, IsRaise, IsReturn, IsReturnedValue, IsStep as IsTypedStep, IsStmt as IsTypedStmt, IsTarget}
use Rattle.type_laws.proofs.StatementLaws.{stmts_law}
use Rattle.name_laws.specs.Jumps.{Land, LandInArms, LandInCases, LandInElse, Lands}
use Rattle.name_laws.proofs.Counters.{stmts_next}
use Rattle.tree_typing.specs.Expressions.{IsExpr, IsPlace}
use Rattle.tree_typing.specs.Kinds.{Counts, Kind}
use Rattle.tree_typing.specs.Setting.{Setting}
use Rattle.tree_typing.specs.Statements.{AreArms, AreCaseValues, AreCases, AreStmts, Around, IsElse, IsStep, IsStmt, ReturnsNothing}
use Rattle.accepted_cells.proofs.Arguments.{part_right, typed_as}
use Rattle.accepted_cells.proofs.Calls.{procedure_right}
use Rattle.accepted_cells.proofs.Expressions.{arguments_taken, expr_right, index_right}
use Rattle.accepted_cells.proofs.Instructions.{instruction_right}
use Rattle.accepted_cells.proofs.Places.{IsValued, may_write}
use Rattle.accepted_cells.proofs.Labels.{owned, sees}
use Rattle.accepted_cells.proofs.Named.{Right, Suits}

-- the number of the next FOR does not fall
pub stmts_grow : (body : Body) (list : PlainStmts) (around : bodies.Around) (next : ℕ) (ts : TypedStmts) (past : ℕ) → AreTypedStmts body list around next ts past → next ≤ past
stmts_grow body list around next ts past are =
    let counted = stmts_next body list around None next (record { tree = ts; next = past }) ((stmts_law body list around next (record { tree = ts; next = past })).1 are) in
    omega (arith, counted)

otherwise_grow : (body : Body) (other : PlainElse) (around : bodies.Around) (next : ℕ) (t : TypedElse) (past : ℕ) → IsOtherwise body other around next t past → next ≤ past
unfolding IsOtherwise
otherwise_grow body NoElse around next t past (is, same) = omega arith
otherwise_grow body (Else list) around next t past (l, are, is) = stmts_grow body list (into around list) next l past are

branches_grow : (body : Body) (arms : PlainArms) (s : Site) (around : bodies.Around) (next : ℕ) (ts : TypedArms) (past : ℕ) → AreBranches body arms s around next ts past → next ≤ past
unfolding AreBranches
branches_grow body NoArms s around next ts past (is, same) = omega arith
branches_grow body (MoreArms test list arms) s around next ts past (u, l, us, middle, is_test, are, rest, is) =
    let first = stmts_grow body list (into around list) next l middle are in
    let last = branches_grow body arms s around middle us past rest in
    omega (arith, first, last)

choices_grow : (body : Body) (cases : PlainCases) (s : Site) (sort : Sort) (around : bodies.Around) (next : ℕ) (ts : TypedCases) (past : ℕ) → AreChoices body cases s sort around next ts past → next ≤ past
unfolding AreChoices
choices_grow body NoCases s sort around next ts past (is, same) = omega arith
choices_grow body (MoreCases values list cases) s sort around next ts past (vs, l, us, middle, valued, are, rest, is) =
    let first = stmts_grow body list (into around list) next l middle are in
    let last = choices_grow body cases s sort around middle us past rest in
    omega (arith, first, last)

-- a RETURN without a value
return_alone : (body : Body) (s : Site) (at : ℕ) (kind : RoutineKind) (t : TypedStmt) → IsReturn body s at None kind t → (t ≡ trees.Return at None) × ReturnsNothing kind
return_alone body s at routines.Proc t is = (is, tt)
return_alone body s at routines.Func t is = absurd is
return_alone body s at routines.Trap t is = (is, tt)

-- names stand for what the tree has at each statement of a routine's body, with these kinds and this many FORs
module _ (c : Setting) (kinds : List Kind) (body : Body) (loops : ℕ) (suits : (around : bodies.Around) (at : ℕ) → Suits c kinds (site body around at))
    (counts : (n : ℕ) → n < loops → slice_get kinds (counter_index body n) ≡ Some Counts) where
  -- what encloses a statement there, in these lists
  abbrev pub inside : Bool → List TypedStmts → Around
  inside handler lists = record { places = kinds; kind = body.kind; result = result_of body.names.rows body.routine; handler = handler; lists = lists }

  typed_expr : (around : bodies.Around) (at : ℕ) (e : PlainExpr) (sort : Sort) (t : TypedExpr) → IsTypedExpr (site body around at) e (Is sort) t → IsExpr c kinds t sort
  typed_expr around at e sort t h = typed_as c kinds sort t (expr_right c kinds (site body around at) (suits around at) e (Is sort) t h)

  -- the place of a name, its index and its components
  record IsWritten (p : NamedPart) (place : TypedPlace) : Type 0 where
    pub root : TreeRoot
    pub access : Access
    pub stands : Stands p.source root access
    pub typed : IsPlace c kinds (may_write access) place p.sort
    pub valued : IsValued access p.sort
    pub own : place_sort place ≡ p.sort

  written_right : (around : bodies.Around) (at : ℕ) (written : PlainPlace) (p : NamedPart) (place : TypedPlace) → IsNamed (site body around at) written p → IsPlaceOf p place → IsWritten p place
  written_right around at (PlaceOf name held names) p place (i, index, is_place) (root, access, stands, is) =
      let s : Site = site body around at in
      let right = part_right c kinds s (suits around at) name i (is_held held) names p root access is_place stands (index_right c kinds s (suits around at) held i index) in
      subst (IsWritten p) (sym is) (record { root = root; access = access; stands = stands; typed = right.0; valued = right.1; own = refl })

  -- what is not fixed may be written; an interrupt's number is not fixed
  free_access : (root : TreeRoot) (access : Access) → is_fixed (sources.Place root access) ≡ false → may_write access ≡ true
  free_access root accesses.Fixed free = absurd cc
  free_access root accesses.Var free = refl
  free_access root accesses.Pers free = refl
  free_access root accesses.Either free = refl

  free_written : (source : Source) (root : TreeRoot) (access : Access) → Stands source root access → is_fixed source ≡ false → may_write access ≡ true
  free_written (sources.Place r a) root access (same, way) free = ap may_write way ∙ free_access r a free
  free_written source root access stands free = absurd stands

  number_written : (access : Access) (sort : Sort) → sort ≡ sorts.IntNum → IsValued access sort → may_write access ≡ true
  number_written accesses.Fixed sort e valued = let none : has_values sorts.IntNum ≡ true = subst (λ (x : Sort). has_values x ≡ true) e valued in absurd cc
  number_written access sort e valued = refl

  assign_right : (around : bodies.Around) (lists : List TypedStmts) (at : ℕ) (written : PlainPlace) (value : PlainExpr) (place : TypedPlace) (u : TypedExpr)
      → IsTarget (site body around at) written place → IsTypedExpr (site body around at) value (Is (place_sort place)) u → IsStmt c (inside around.handler lists) (trees.Assign at place u)
  assign_right around lists at written value place u (p, no_signal, is_named, valued, fixed, is_place) part =
      let there : IsWritten p place = written_right around at written p place is_named is_place in (
        p.sort,
        valued,
        subst (λ (w : Bool). IsPlace c kinds w place p.sort) (free_written p.source there.root there.access there.stands fixed) there.typed,
        subst (IsExpr c kinds u) there.own (typed_expr around at value (place_sort place) u part),
      )

  call_right : (around : bodies.Around) (lists : List TypedStmts) (at : ℕ) (args : PlainArgs) (meant : Option Meant) (t : TypedStmt) → IsCalled (site body around at) at args meant t → IsStmt c (inside around.handler lists) t
  call_right around lists at args (Some (meants.Instruction i)) t (us, are, is) =
      subst (IsStmt c (inside around.handler lists)) (sym is) (instruction_right c kinds (site body around at) (suits around at) i args us are)
  call_right around lists at args (Some (meants.Routine number)) t (us, is_kind, (are, rules), is) =
      let s : Site = site body around at in
      subst (IsStmt c (inside around.handler lists)) (sym is)
      (procedure_right c kinds s (suits around at) at args us number is_kind (arguments_taken c kinds s (suits around at) args (taking (routine_signature (params_of s.names.rows number))) us are) rules)
  call_right around lists at args _ t h = absurd h

  returned_right : (around : bodies.Around) (lists : List TypedStmts) (at : ℕ) (e : PlainExpr) (kind : RoutineKind) (result : Option Sort) (t : TypedStmt) → body.kind ≡ kind
      → result_of body.names.rows body.routine ≡ result → IsReturnedValue (site body around at) at e kind result t → IsStmt c (inside around.handler lists) t
  returned_right around lists at e routines.Func (Some sort) t is_kind is_result (u, part, is) =
      subst (IsStmt c (inside around.handler lists)) (sym is) (sort, is_kind, is_result, typed_expr around at e sort u part)
  returned_right around lists at e _ _ t is_kind is_result h = absurd h

  return_right : (around : bodies.Around) (lists : List TypedStmts) (at : ℕ) (value : Option PlainExpr) (t : TypedStmt) → IsReturn body (site body around at) at value body.kind t → IsStmt c (inside around.handler lists) t
  return_right around lists at None t h =
      let alone = return_alone body (site body around at) at body.kind t h in subst (IsStmt c (inside around.handler lists)) (sym alone.0) alone.1
  return_right around lists at (Some e) t h = returned_right around lists at e body.kind (result_of body.names.rows body.routine) t refl refl h

  raise_right : (around : bodies.Around) (lists : List TypedStmts) (at : ℕ) (number : Option PlainExpr) (t : TypedStmt) → IsRaise around (site body around at) at number t → IsStmt c (inside around.handler lists) t
  raise_right around lists at None t (handler, is) = subst (IsStmt c (inside around.handler lists)) (sym is) handler
  raise_right around lists at (Some e) t (u, part, is) = subst (IsStmt c (inside around.handler lists)) (sym is) (typed_expr around at e sorts.Num u part)

  connect_right : (around : bodies.Around) (lists : List TypedStmts) (at : ℕ) (written : PlainPlace) (trap : _) (t : TypedStmt) → IsConnect (site body around at) at written trap t → IsStmt c (inside around.handler lists) t
  connect_right around lists at written trap t (p, place, number, no_signal, is_named, is_int, is_place, is_meant, is_kind, is) =
      let there : IsWritten p place = written_right around at written p place is_named is_place in
      let typed : IsPlace c kinds true place p.sort = subst (λ (w : Bool). IsPlace c kinds w place p.sort) (number_written there.access p.sort is_int there.valued) there.typed in
      let callable = (suits around at).routines number routines.Trap is_kind in
      subst (IsStmt c (inside around.handler lists)) (sym is)
      (subst (IsPlace c kinds true place) is_int typed, callable.routine, callable.there, callable.same_kind)

  step_right : (around : bodies.Around) (at : ℕ) (step : Option PlainExpr) (u : Option TypedExpr) → IsTypedStep (site body around at) step u → IsStep c kinds u
  step_right around at None u is = subst (IsStep c kinds) (sym is) tt
  step_right around at (Some e) u (t, part, is) = subst (IsStep c kinds) (sym is) (typed_expr around at e sorts.Num t part)

  values_right : (around : bodies.Around) (at : ℕ) (sort : Sort) (values : List PlainExpr) (us : TypedExprs) → AreTypedValues (site body around at) sort values us → AreCaseValues c kinds us sort
  values_right around at sort [] us is = subst (λ (x : TypedExprs). AreCaseValues c kinds x sort) (sym is) tt
  values_right around at sort (e ∷ es) us (t, ts, part, rest, is) =
      let h : Right c kinds (Same sort) t = expr_right c kinds (site body around at) (suits around at) e (Same sort) t part in
      subst (λ (x : TypedExprs). AreCaseValues c kinds x sort) (sym is) (subst (IsExpr c kinds t) h.1 h.0, values_right around at sort es ts rest)

  mutual
    unfolding IsTypedStmt AreTypedStmts AreBranches AreChoices IsOtherwise

    stmt_right : (statement : PlainStmt) (around : bodies.Around) (next : ℕ) (t : TypedStmt) (past : ℕ) (lists : List TypedStmts) → IsTypedStmt body statement around next t past → past ≤ loops
        → Lands (owned lists) t → IsStmt c (inside around.handler lists) t
    stmt_right (Assign at written value) around next t past lists (place, u, target, part, is, same) few land =
        subst (IsStmt c (inside around.handler lists)) (sym is) (assign_right around lists at written value place u target part)
    stmt_right (Call at name args) around next t past lists (is_called, same) few land = call_right around lists at args (named (site body around at) name) t is_called
    stmt_right (Label at name) around next t past lists (first, is, same) few land = subst (IsStmt c (inside around.handler lists)) (sym is) tt
    stmt_right (Goto at name) around next t past lists (seen, is, same) few land =
        let lands : Lands (owned lists) (trees.Goto at _) = subst (Lands (owned lists)) is land in
        subst (IsStmt c (inside around.handler lists)) (sym is) (sees _ lists lands)
    stmt_right (Return at value) around next t past lists (h, same) few land = return_right around lists at value t h
    stmt_right (Exit at) around next t past lists (is, same) few land = subst (IsStmt c (inside around.handler lists)) (sym is) tt
    stmt_right (Raise at number) around next t past lists (h, same) few land = raise_right around lists at number t h
    stmt_right (Retry at) around next t past lists (handler, is, same) few land = subst (IsStmt c (inside around.handler lists)) (sym is) handler
    stmt_right (TryNext at) around next t past lists (handler, is, same) few land = subst (IsStmt c (inside around.handler lists)) (sym is) handler
    stmt_right (Connect at written trap) around next t past lists (h, same) few land = connect_right around lists at written trap t h
    stmt_right (If at arms other) around next t past lists (us, v, middle, are, is_other, is) few land =
        let lands : Lands (owned lists) (trees.If at us v) = subst (Lands (owned lists)) is land in
        let grows = otherwise_grow body other around middle v past is_other in
        subst (IsStmt c (inside around.handler lists)) (sym is)
        (branches_right arms at around next us middle lists are (omega (arith, grows, few)) lands.0, otherwise_right other around middle v past lists is_other few lands.1)
    stmt_right (IfOne at test simple) around next t past lists (u, v, is_test, one, is) few land =
        let lands : Lands (owned lists) (trees.IfOne at u v) = subst (Lands (owned lists)) is land in
        subst (IsStmt c (inside around.handler lists)) (sym is) (typed_expr around at test sorts.Bool u is_test, stmt_right simple around next v past lists one few lands)
    stmt_right (For at name first last step list) around next t past lists (f, l, u, ts, is_first, is_last, is_step, are, is) few land =
        let lands : Lands (owned lists) (trees.For at (counter_index body next) f l u ts) = subst (Lands (owned lists)) is land in
        let grows = stmts_grow body list (into_loop around next list) (next + 1) ts past are in
        subst (IsStmt c (inside around.handler lists)) (sym is) (
          counts next (omega (arith, grows, few)),
          typed_expr around at first sorts.Num f is_first,
          typed_expr around at last sorts.Num l is_last,
          step_right around at step u is_step,
          stmts_right list (into_loop around next list) (next + 1) ts past (ts ∷ lists) are few lands,
        )
    stmt_right (While at test list) around next t past lists (u, ts, is_test, are, is) few land =
        let lands : Lands (owned lists) (trees.While at u ts) = subst (Lands (owned lists)) is land in
        subst (IsStmt c (inside around.handler lists)) (sym is) (typed_expr around at test sorts.Bool u is_test, stmts_right list (into around list) next ts past (ts ∷ lists) are few lands)
    stmt_right (Test at value cases other) around next t past lists (u, us, v, middle, part, are, is_other, is) few land =
        let lands : Lands (owned lists) (trees.Test at u us v) = subst (Lands (owned lists)) is land in
        let grows = otherwise_grow body other around middle v past is_other in
        let h : Right c kinds (Fits operators.Equal) u = expr_right c kinds (site body around at) (suits around at) value (Fits operators.Equal) u part in
        subst (IsStmt c (inside around.handler lists)) (sym is) (
          sort_of u,
          h.1,
          h.0,
          choices_right cases at (sort_of u) around next us middle lists are (omega (arith, grows, few)) lands.0,
          otherwise_right other around middle v past lists is_other few lands.1,
        )

    pub stmts_right : (list : PlainStmts) (around : bodies.Around) (next : ℕ) (ts : TypedStmts) (past : ℕ) (lists : List TypedStmts) → AreTypedStmts body list around next ts past → past ≤ loops
        → Land (owned lists) ts → AreStmts c (inside around.handler lists) ts
    stmts_right NoStmts around next ts past lists (is, same) few land = subst (AreStmts c (inside around.handler lists)) (sym is) tt
    stmts_right (MoreStmts first list) around next ts past lists (u, us, middle, one, are, is) few land =
        let lands : Land (owned lists) (trees.MoreStmts u us) = subst (Land (owned lists)) is land in
        let grows = stmts_grow body list around middle us past are in
        subst (AreStmts c (inside around.handler lists)) (sym is)
        (stmt_right first around next u middle lists one (omega (arith, grows, few)) lands.0, stmts_right list around middle us past lists are few lands.1)

    branches_right : (arms : PlainArms) (at : ℕ) (around : bodies.Around) (next : ℕ) (ts : TypedArms) (past : ℕ) (lists : List TypedStmts) → AreBranches body arms (site body around at) around next ts past → past ≤ loops
        → LandInArms (owned lists) ts → AreArms c (inside around.handler lists) ts
    branches_right NoArms at around next ts past lists (is, same) few land = subst (AreArms c (inside around.handler lists)) (sym is) tt
    branches_right (MoreArms test list arms) at around next ts past lists (u, l, us, middle, is_test, are, rest, is) few land =
        let lands : LandInArms (owned lists) (trees.MoreArms u l us) = subst (LandInArms (owned lists)) is land in
        let grows = branches_grow body arms (site body around at) around middle us past rest in
        subst (AreArms c (inside around.handler lists)) (sym is) (
          typed_expr around at test sorts.Bool u is_test,
          stmts_right list (into around list) next l middle (l ∷ lists) are (omega (arith, grows, few)) lands.0,
          branches_right arms at around middle us past lists rest few lands.1,
        )

    choices_right : (cases : PlainCases) (at : ℕ) (sort : Sort) (around : bodies.Around) (next : ℕ) (ts : TypedCases) (past : ℕ) (lists : List TypedStmts) → AreChoices body cases (site body around at) sort around next ts past
        → past ≤ loops → LandInCases (owned lists) ts → AreCases c (inside around.handler lists) ts sort
    choices_right NoCases at sort around next ts past lists (is, same) few land = subst (λ (x : TypedCases). AreCases c (inside around.handler lists) x sort) (sym is) tt
    choices_right (MoreCases values list cases) at sort around next ts past lists (vs, l, us, middle, valued, are, rest, is) few land =
        let lands : LandInCases (owned lists) (trees.MoreCases vs l us) = subst (LandInCases (owned lists)) is land in
        let grows = choices_grow body cases (site body around at) sort around middle us past rest in
        subst (λ (x : TypedCases). AreCases c (inside around.handler lists) x sort) (sym is) (
          values_right around at sort values vs valued,
          stmts_right list (into around list) next l middle (l ∷ lists) are (omega (arith, grows, few)) lands.0,
          choices_right cases at sort around middle us past lists rest few lands.1,
        )

    otherwise_right : (other : PlainElse) (around : bodies.Around) (next : ℕ) (t : TypedElse) (past : ℕ) (lists : List TypedStmts) → IsOtherwise body other around next t past → past ≤ loops
        → LandInElse (owned lists) t → IsElse c (inside around.handler lists) t
    otherwise_right NoElse around next t past lists (is, same) few land = subst (IsElse c (inside around.handler lists)) (sym is) tt
    otherwise_right (Else list) around next t past lists (l, are, is) few land =
        let lands : LandInElse (owned lists) (trees.Else l) = subst (LandInElse (owned lists)) is land in
        subst (IsElse c (inside around.handler lists)) (sym is) (stmts_right list (into around list) next l past (l ∷ lists) are few lands)
