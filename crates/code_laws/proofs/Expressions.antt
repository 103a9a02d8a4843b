-- The code of expressions does what the expressions do.
use Rattle.std.proofs.Common.{◌≡◌, refl, sym, ◌∙◌, subst, ℕ, ◌+◌, ◌≤◌, max, List, [], ◌∷◌, length, map, Some, arith}
use Rattle.rapid_model.specs.declared.function.Function.{Function}
use Rattle.rapid_model.specs.declared.function.Function.TheVariants as functions
use Rattle.rapid_model.specs.declared.value.Value.{Value}
use Rattle.rapid_model.specs.declared.operator.Operator.TheVariants as operators
use Rattle.rapid_values.specs.Values.{made_of}
use Rattle.typed_trees.specs.Plain as trees
use Rattle.typed_trees.specs.Plain.{TypedArgs, TypedExpr, TypedExprs, TypedPlace, TypedSteps, NoExprs, MoreExprs, NoSteps, MoreSteps, NotHeld, Held, PlaceOf, Given, Lent, OfSignal, NoArgs, MoreArgs}
use Rattle.typed_trees.specs.declared.datum.Datum.{Datum}
use Rattle.typed_trees.specs.declared.datum.Datum.TheVariants.{Plain, Place}
use Rattle.rapid_meaning.specs.Doings as doings
use Rattle.rapid_meaning.specs.Doings.{Doing, Gives, Raises, ◌>>=◌, after, or_misfit}
use Rattle.rapid_meaning.specs.Expressions.{along, arguments, builtin, expr, exprs, lent_length, place, returned}
use Rattle.rapid_meaning.specs.Flows.{Flow, Returns, value_of}
use Rattle.rapid_meaning.proofs.Follows.{after_after}
use Rattle.stack_code.specs.Confs.{Conf}
use Rattle.stack_code.specs.Functions.{of_value}
use Rattle.stack_code.specs.ExprLayouts.{args_code, builtin_code, expr_code, exprs_code, index_op, part_code, place_code, put, sign_code, steps_code}
use Rattle.stack_code.specs.Needs.{args_need, builtin_need, expr_need, exprs_need, place_need, steps_need}
use Rattle.stack_code.specs.Placed.{Placed}
use Rattle.stack_code.specs.Raising.{with_result}
use Rattle.stack_code.specs.Sizes.{args_size, builtin_size, expr_size, exprs_size, part_size, place_size, sign_size, steps_size}
use Rattle.stack_code.specs.declared.op.Op.TheVariants as ops
use Rattle.stack_code.specs.declared.unary_op.UnaryOp.TheVariants as unary
use Rattle.stack_code.proofs.Needs.{place_needs, expr_needs}
use Rattle.code_laws.specs.Calls.{ArgsCalls, ExprCalls, ExprsCalls, PlaceCalls, StepsCalls, args_count}
use Rattle.code_laws.proofs.Calling.{call_at}
use Rattle.code_laws.proofs.Claims.{Claims}
use Rattle.code_laws.proofs.CodeOf.{IsCodeOf}
use Rattle.code_laws.proofs.Operands.{pushed}
use Rattle.code_laws.proofs.Ops.{ends_at}
use Rattle.code_laws.proofs.Packs.{pack_sim}
use Rattle.code_laws.proofs.Past.{past_args, past_expr, past_exprs, past_place}
use Rattle.code_laws.proofs.PlaceOps.{index_sim, load_sim, part_sim, root_sim}
use Rattle.code_laws.proofs.Rooms.{above, above_left, decided_room, left_room, operand_room, right_room, skipped_room}
use Rattle.code_laws.proofs.Sim.{Sim, sim_assoc, sim_gives, sim_misfit, sim_then, sim_to}
use Rattle.code_laws.proofs.Spots.{Holds, Pushes, Spot, failing, pushes_to, standing}
use Rattle.code_laws.proofs.ValueOps.{and_sim, binary_sim, dim_sim, errno_sim, here_sim, input_sim, of_value_sim, opposite_sim, or_sim, push_sim, shown_sim, sign_sim, signal_value_sim, test_sim}

-- the value that a FUNC returned is on the operands
gave : (s : Spot) (pc : ℕ) (stack : List Datum) (flow : Flow)
    → Sim s.target s.run (standing s pc (with_result (value_of flow) stack)) (returned flow) (λ v. standing s pc (Plain v ∷ stack)) (failing s)
gave s pc stack (Returns (Some v)) = sim_gives v
gave s pc stack flow = sim_misfit

-- a call, and then the value that it returned
invoked : (s : Spot) (pc x : ℕ) (stack : List Datum) (called : ℕ) (args : Doing (List Datum))
    → Sim s.target s.run (standing s pc stack) (args >>= λ xs. doings.calls called xs) (λ flow. standing s x (with_result (value_of flow) stack)) (failing s)
    → Pushes s pc x stack Plain (args >>= λ xs. doings.calls called xs >>= returned)
unfolding after
invoked s pc x stack called args sim =
    sim_to (sym (after_after args (λ xs. doings.calls called xs) Raises returned Raises)) (sim_then (λ flow. standing s x (with_result (value_of flow) stack)) sim (λ flow. gave s x stack flow))

-- a function of the value of an expression
value_called : (s : Spot) (pc end : ℕ) (stack : List Datum) (function : Function) (e : TypedExpr) (own : Doing Value) (ps : List Placed) → (function ≡ functions.NumToStr → ⊥)
    → Holds s pc (expr_code s.tree s.routine s.own pc e (put s.own (ops.Func function) ps)) → length stack + expr_need e ≤ s.target.code.deepest → pc + (expr_size e + 1) ≡ end
    → Pushes s pc (pc + expr_size e) stack Plain own → Pushes s pc end stack Plain (own >>= of_value function)
value_called s pc end stack function e own ps other there room past sim =
    pushes_to s pc stack Plain (pc + expr_size e + 1) end (omega (arith, past))
    (of_value_sim s pc (pc + expr_size e) stack function own other (past_expr s.target.code s.tree s.routine s.own pc e (put s.own (ops.Func function) ps) there).0 (omega (arith, expr_needs e, room)) sim)

mutual
  unfolding after

  pub expr_sim : (s : Spot) → IsCodeOf s.tree s.target → Claims s.target s.tree s.run → (pc end : ℕ) (stack : List Datum) (e : TypedExpr) (ps : List Placed) → ExprCalls s.tree e
      → Holds s pc (expr_code s.tree s.routine s.own pc e ps) → length stack + expr_need e ≤ s.target.code.deepest → pc + expr_size e ≡ end
      → Pushes s pc end stack Plain (expr s.tree s.routine e)
  expr_sim s code claims pc end stack (trees.Known at sort v) ps calls there room past = pushes_to s pc stack Plain (pc + 1) end past (push_sim s pc stack v there.0 (omega arith))
  expr_sim s code claims pc end stack (trees.ErrorNumber at sort) ps calls there room past = pushes_to s pc stack Plain (pc + 1) end past (errno_sim s pc stack there.0 (omega arith))
  expr_sim s code claims pc end stack (trees.SignalValue at sort signal) ps calls there room past =
      pushes_to s pc stack Plain (pc + 1) end past (signal_value_sim s pc stack signal there.0 (omega arith))
  expr_sim s code claims pc end stack (trees.Stored at sort p) ps calls there room past =
      pushes_to s pc stack Plain (pc + place_size p + 1) end (omega arith)
      (sim_then (λ q. standing s (pc + place_size p) (Place q ∷ stack)) (place_sim s code claims pc (pc + place_size p) stack p (put s.own ops.Load ps) calls there room refl)
      (λ q. load_sim s (pc + place_size p) stack q (past_place s.target.code s.tree s.routine s.own pc p (put s.own ops.Load ps) there).0 (omega (arith, place_needs p))))
  expr_sim s code claims pc end stack (trees.Group at sort e) ps calls there room past = expr_sim s code claims pc end stack e ps calls there room past
  expr_sim s code claims pc end stack (trees.Aggregate at sort es) ps calls there room past =
      pushes_to s pc stack Plain (pc + exprs_size es + 1) end (omega arith)
      (exprs_sim s code claims pc (pc + exprs_size es) stack es (put s.own (ops.Pack sort) ps) (λ vs. or_misfit (made_of sort vs)) (λ v. standing s (pc + exprs_size es + 1) (Plain v ∷ stack)) calls there
      (right_room (length stack) 1 (exprs_need es) s.target.code.deepest room) refl
      (λ vs fits. pack_sim s (pc + exprs_size es) stack sort vs (past_exprs s.target.code s.tree s.routine s.own pc es (put s.own (ops.Pack sort) ps) there).0 fits))
  expr_sim s code claims pc end stack (trees.Builtin at sort function args) ps calls there room past = builtin_sim s code claims pc end stack function args ps calls there room past
  expr_sim s code claims pc end stack (trees.Invoke at sort called args) ps calls there room past =
      pushes_to s pc stack Plain (pc + args_size args + 1) end (omega arith)
      (invoked s pc (pc + args_size args + 1) stack called (arguments s.tree s.routine args)
      (arguments_sim s code claims pc (pc + args_size args) stack args (put s.own (ops.Call called) ps) (λ xs. doings.calls called xs)
      (λ flow. standing s (pc + args_size args + 1) (with_result (value_of flow) stack)) calls.1 there (right_room (length stack) 1 (args_need args) s.target.code.deepest room) refl
      (λ xs many fits. call_at s called (pc + args_size args) xs stack value_of code (past_args s.target.code s.tree s.routine s.own pc args (put s.own (ops.Call called) ps) there).0 fits
      (λ routine found. many ∙ calls.0 routine found) (λ saved. claims.calls called xs saved (λ routine found. many ∙ calls.0 routine found)))))
  expr_sim s code claims pc end stack (trees.Not at sort e) ps calls there room past =
      pushes_to s pc stack Plain (pc + expr_size e + 1) end (omega arith)
      (sim_then (λ v. standing s (pc + expr_size e) (Plain v ∷ stack)) (expr_sim s code claims pc (pc + expr_size e) stack e (put s.own (ops.Unary unary.Not) ps) calls there room refl)
      (λ v. opposite_sim s (pc + expr_size e) stack v (past_expr s.target.code s.tree s.routine s.own pc e (put s.own (ops.Unary unary.Not) ps) there).0 (omega (arith, expr_needs e))))
  expr_sim s code claims pc end stack (trees.Signed at sort minus e) ps calls there room past =
      pushes_to s pc stack Plain (pc + expr_size e + sign_size minus) end (omega arith)
      (sim_then (λ v. standing s (pc + expr_size e) (Plain v ∷ stack)) (expr_sim s code claims pc (pc + expr_size e) stack e (sign_code s.own minus ps) calls there room refl)
      (λ v. sign_sim s (pc + expr_size e) stack minus ps v (past_expr s.target.code s.tree s.routine s.own pc e (sign_code s.own minus ps) there) (omega (arith, expr_needs e))))
  expr_sim s code claims pc end stack (trees.Chain at sort e steps) ps calls there room past =
      sim_then (λ v. standing s (pc + expr_size e) (Plain v ∷ stack))
      (expr_sim s code claims pc (pc + expr_size e) stack e (steps_code s.tree s.routine s.own (pc + expr_size e) steps ps) calls.0 there
      (left_room (length stack) (expr_need e) (steps_need steps) s.target.code.deepest room) refl)
      (λ v. along_sim s code claims (pc + expr_size e) end stack v steps ps calls.1
      (past_expr s.target.code s.tree s.routine s.own pc e (steps_code s.tree s.routine s.own (pc + expr_size e) steps ps) there)
      (right_room (length stack) (expr_need e) (steps_need steps) s.target.code.deepest room) (omega arith))

  -- and then what is made from them
  exprs_sim : (s : Spot) → IsCodeOf s.tree s.target → Claims s.target s.tree s.run → (pc end : ℕ) (stack : List Datum) (es : TypedExprs) (ps : List Placed)
      (k : List Value → Doing Value) (next : Value → Doing Conf) → ExprsCalls s.tree es → Holds s pc (exprs_code s.tree s.routine s.own pc es ps)
      → length stack + exprs_need es ≤ s.target.code.deepest → pc + exprs_size es ≡ end
      → ((vs : List Value) → length (pushed (map Plain vs) stack) ≤ s.target.code.deepest → Sim s.target s.run (standing s end (pushed (map Plain vs) stack)) (k vs) next (failing s))
      → Sim s.target s.run (standing s pc stack) (after (exprs s.tree s.routine es) k Raises) next (failing s)
  exprs_sim s code claims pc end stack NoExprs ps k next calls there room past more =
      subst (λ (x : ℕ). Sim s.target s.run (standing s x stack) (k []) next (failing s)) (omega arith) (more [] (omega arith))
  exprs_sim s code claims pc end stack (MoreExprs e es) ps k next calls there room past more =
      sim_assoc (expr s.tree s.routine e) (λ v. exprs s.tree s.routine es >>= λ vs. Gives (v ∷ vs)) k Raises
      (sim_then (λ v. standing s (pc + expr_size e) (Plain v ∷ stack))
      (expr_sim s code claims pc (pc + expr_size e) stack e (exprs_code s.tree s.routine s.own (pc + expr_size e) es ps) calls.0 there
      (left_room (length stack) (expr_need e) (1 + exprs_need es) s.target.code.deepest room) refl)
      (λ v. sim_assoc (exprs s.tree s.routine es) (λ vs. Gives (v ∷ vs)) k Raises
      (exprs_sim s code claims (pc + expr_size e) end (Plain v ∷ stack) es ps (λ vs. k (v ∷ vs)) next calls.1
      (past_expr s.target.code s.tree s.routine s.own pc e (exprs_code s.tree s.routine s.own (pc + expr_size e) es ps) there)
      (above (length stack) (expr_need e) (exprs_need es) s.target.code.deepest room) (omega arith) (λ vs fits. more (v ∷ vs) fits))))

  -- from a left operand
  along_sim : (s : Spot) → IsCodeOf s.tree s.target → Claims s.target s.tree s.run → (pc end : ℕ) (stack : List Datum) (v : Value) (steps : TypedSteps) (ps : List Placed)
      → StepsCalls s.tree steps → Holds s pc (steps_code s.tree s.routine s.own pc steps ps) → length stack + steps_need steps ≤ s.target.code.deepest → pc + steps_size steps ≡ end
      → Sim s.target s.run (standing s pc (Plain v ∷ stack)) (along s.tree s.routine steps v) (λ w. standing s end (Plain w ∷ stack)) (failing s)
  along_sim s code claims pc end stack v NoSteps ps calls there room past =
      ends_at s (standing s pc (Plain v ∷ stack)) (along s.tree s.routine NoSteps v) (λ w. Plain w ∷ stack) pc end (omega arith) (sim_gives v)
  along_sim s code claims pc end stack v (MoreSteps operators.And e steps) ps calls there room past =
      sim_then (λ w. standing s (pc + 1 + 1 + 1 + expr_size e) (Plain w ∷ stack))
      (and_sim s pc (pc + 1 + 1 + 1 + expr_size e) stack v (expr s.tree s.routine e) there.0 there.1.0 there.1.1.0 (decided_room (length stack) (expr_need e) (steps_need steps) s.target.code.deepest room)
      (expr_sim s code claims (pc + 1 + 1 + 1) (pc + 1 + 1 + 1 + expr_size e) stack e (steps_code s.tree s.routine s.own (pc + 1 + 1 + 1 + expr_size e) steps ps) calls.0 there.1.1.1
      (skipped_room (length stack) (expr_need e) (steps_need steps) s.target.code.deepest room) refl))
      (λ w. along_sim s code claims (pc + 1 + 1 + 1 + expr_size e) end stack w steps ps calls.1
      (past_expr s.target.code s.tree s.routine s.own (pc + 1 + 1 + 1) e (steps_code s.tree s.routine s.own (pc + 1 + 1 + 1 + expr_size e) steps ps) there.1.1.1)
      (right_room (length stack) (max 2 (expr_need e)) (steps_need steps) s.target.code.deepest room) (omega arith))
  along_sim s code claims pc end stack v (MoreSteps operators.Or e steps) ps calls there room past =
      sim_then (λ w. standing s (pc + 1 + 1 + 1 + expr_size e) (Plain w ∷ stack))
      (or_sim s pc (pc + 1 + 1 + 1 + expr_size e) stack v (expr s.tree s.routine e) there.0 there.1.0 there.1.1.0 (decided_room (length stack) (expr_need e) (steps_need steps) s.target.code.deepest room)
      (expr_sim s code claims (pc + 1 + 1 + 1) (pc + 1 + 1 + 1 + expr_size e) stack e (steps_code s.tree s.routine s.own (pc + 1 + 1 + 1 + expr_size e) steps ps) calls.0 there.1.1.1
      (skipped_room (length stack) (expr_need e) (steps_need steps) s.target.code.deepest room) refl))
      (λ w. along_sim s code claims (pc + 1 + 1 + 1 + expr_size e) end stack w steps ps calls.1
      (past_expr s.target.code s.tree s.routine s.own (pc + 1 + 1 + 1) e (steps_code s.tree s.routine s.own (pc + 1 + 1 + 1 + expr_size e) steps ps) there.1.1.1)
      (right_room (length stack) (max 2 (expr_need e)) (steps_need steps) s.target.code.deepest room) (omega arith))
  along_sim s code claims pc end stack v (MoreSteps o e steps) ps calls there room past =
      sim_then (λ w. standing s (pc + expr_size e + 1) (Plain w ∷ stack))
      (binary_sim s pc (pc + expr_size e) stack o v (expr s.tree s.routine e)
      (past_expr s.target.code s.tree s.routine s.own pc e (put s.own (ops.Binary o) (steps_code s.tree s.routine s.own (pc + expr_size e + 1) steps ps)) there).0
      (operand_room (length stack) (expr_need e) (steps_need steps) s.target.code.deepest (expr_needs e) room)
      (expr_sim s code claims pc (pc + expr_size e) (Plain v ∷ stack) e (put s.own (ops.Binary o) (steps_code s.tree s.routine s.own (pc + expr_size e + 1) steps ps)) calls.0 there
      (above_left (length stack) (expr_need e) (steps_need steps) s.target.code.deepest room) refl))
      (λ w. along_sim s code claims (pc + expr_size e + 1) end stack w steps ps calls.1
      (past_expr s.target.code s.tree s.routine s.own pc e (put s.own (ops.Binary o) (steps_code s.tree s.routine s.own (pc + expr_size e + 1) steps ps)) there).1
      (right_room (length stack) (1 + expr_need e) (steps_need steps) s.target.code.deepest room) (omega arith))

  pub place_sim : (s : Spot) → IsCodeOf s.tree s.target → Claims s.target s.tree s.run → (pc end : ℕ) (stack : List Datum) (p : TypedPlace) (ps : List Placed) → PlaceCalls s.tree p
      → Holds s pc (place_code s.tree s.routine s.own pc p ps) → length stack + place_need p ≤ s.target.code.deepest → pc + place_size p ≡ end
      → Pushes s pc end stack Place (place s.tree s.routine p)
  place_sim s code claims pc end stack (PlaceOf root NotHeld part sort) ps calls there room past =
      pushes_to s pc stack Place (pc + 1 + part_size part) end (omega arith)
      (sim_then (λ p. standing s (pc + 1) (Place p ∷ stack)) (root_sim s pc stack root there.0 (omega arith))
      (λ p. part_sim s (pc + 1) stack part ps p there.1 (omega arith)))
  place_sim s code claims pc end stack (PlaceOf root (Held e) part sort) ps calls there room past =
      pushes_to s pc stack Place (pc + 1 + expr_size e + 1 + part_size part) end (omega arith)
      (sim_then (λ p. standing s (pc + 1) (Place p ∷ stack)) (root_sim s pc stack root there.0 (omega arith))
      (λ p. sim_then (λ v. standing s (pc + 1 + expr_size e) (Plain v ∷ Place p ∷ stack))
      (expr_sim s code claims (pc + 1) (pc + 1 + expr_size e) (Place p ∷ stack) e (put s.own (index_op s.tree s.routine root) (part_code s.own part ps)) calls there.1 (omega arith) refl)
      (λ v. sim_then (λ q. standing s (pc + 1 + expr_size e + 1) (Place q ∷ stack))
      (index_sim s (pc + 1 + expr_size e) stack root p v
      (past_expr s.target.code s.tree s.routine s.own (pc + 1) e (put s.own (index_op s.tree s.routine root) (part_code s.own part ps)) there.1).0 (omega (arith, expr_needs e)))
      (λ q. part_sim s (pc + 1 + expr_size e + 1) stack part ps q
      (past_expr s.target.code s.tree s.routine s.own (pc + 1) e (put s.own (index_op s.tree s.routine root) (part_code s.own part ps)) there.1).1 (omega (arith, expr_needs e))))))

  -- the arguments, and what follows them, if there are as many as the call passes, and there is room for them
  pub arguments_sim : (s : Spot) → IsCodeOf s.tree s.target → Claims s.target s.tree s.run → (pc end : ℕ) (stack : List Datum) (args : TypedArgs) (ps : List Placed)
      (k : List Datum → Doing Flow) (next : Flow → Doing Conf) → ArgsCalls s.tree args → Holds s pc (args_code s.tree s.routine s.own pc args ps)
      → length stack + args_need args ≤ s.target.code.deepest → pc + args_size args ≡ end
      → ((xs : List Datum) → length xs ≡ args_count args → length (pushed xs stack) ≤ s.target.code.deepest → Sim s.target s.run (standing s end (pushed xs stack)) (k xs) next (failing s))
      → Sim s.target s.run (standing s pc stack) (after (arguments s.tree s.routine args) k Raises) next (failing s)
  arguments_sim s code claims pc end stack NoArgs ps k next calls there room past more =
      subst (λ (x : ℕ). Sim s.target s.run (standing s x stack) (k []) next (failing s)) (omega arith) (more [] refl (omega arith))
  arguments_sim s code claims pc end stack (MoreArgs (Given e) more_args) ps k next calls there room past more =
      sim_assoc (expr s.tree s.routine e) (λ v. arguments s.tree s.routine more_args >>= λ xs. Gives (Plain v ∷ xs)) k Raises
      (sim_then (λ v. standing s (pc + expr_size e) (Plain v ∷ stack))
      (expr_sim s code claims pc (pc + expr_size e) stack e (args_code s.tree s.routine s.own (pc + expr_size e) more_args ps) calls.0 there
      (left_room (length stack) (expr_need e) (1 + args_need more_args) s.target.code.deepest room) refl)
      (λ v. sim_assoc (arguments s.tree s.routine more_args) (λ xs. Gives (Plain v ∷ xs)) k Raises
      (arguments_sim s code claims (pc + expr_size e) end (Plain v ∷ stack) more_args ps (λ xs. k (Plain v ∷ xs)) next calls.1
      (past_expr s.target.code s.tree s.routine s.own pc e (args_code s.tree s.routine s.own (pc + expr_size e) more_args ps) there)
      (above (length stack) (expr_need e) (args_need more_args) s.target.code.deepest room) (omega arith) (λ xs many fits. more (Plain v ∷ xs) (omega arith) fits))))
  arguments_sim s code claims pc end stack (MoreArgs (Lent p) more_args) ps k next calls there room past more =
      sim_assoc (place s.tree s.routine p) (λ q. arguments s.tree s.routine more_args >>= λ xs. Gives (Place q ∷ xs)) k Raises
      (sim_then (λ q. standing s (pc + place_size p) (Place q ∷ stack))
      (place_sim s code claims pc (pc + place_size p) stack p (args_code s.tree s.routine s.own (pc + place_size p) more_args ps) calls.0 there
      (left_room (length stack) (place_need p) (1 + args_need more_args) s.target.code.deepest room) refl)
      (λ q. sim_assoc (arguments s.tree s.routine more_args) (λ xs. Gives (Place q ∷ xs)) k Raises
      (arguments_sim s code claims (pc + place_size p) end (Place q ∷ stack) more_args ps (λ xs. k (Place q ∷ xs)) next calls.1
      (past_place s.target.code s.tree s.routine s.own pc p (args_code s.tree s.routine s.own (pc + place_size p) more_args ps) there)
      (above (length stack) (place_need p) (args_need more_args) s.target.code.deepest room) (omega arith) (λ xs many fits. more (Place q ∷ xs) (omega arith) fits))))
  arguments_sim s code claims pc end stack (MoreArgs other more_args) ps k next calls there room past more = sim_misfit

  builtin_sim : (s : Spot) → IsCodeOf s.tree s.target → Claims s.target s.tree s.run → (pc end : ℕ) (stack : List Datum) (function : Function) (args : TypedArgs) (ps : List Placed)
      → ArgsCalls s.tree args → Holds s pc (builtin_code s.tree s.routine s.own pc function args ps) → length stack + builtin_need function args ≤ s.target.code.deepest
      → pc + builtin_size function args ≡ end → Pushes s pc end stack Plain (builtin s.tree s.routine function args)
  builtin_sim s code claims pc end stack functions.Abs (MoreArgs (Given e) NoArgs) ps calls there room past =
      value_called s pc end stack functions.Abs e (expr s.tree s.routine e) ps (λ is. absurd cc) there room past
      (expr_sim s code claims pc (pc + expr_size e) stack e (put s.own (ops.Func functions.Abs) ps) calls.0 there room refl)
  builtin_sim s code claims pc end stack functions.Trunc (MoreArgs (Given e) NoArgs) ps calls there room past =
      value_called s pc end stack functions.Trunc e (expr s.tree s.routine e) ps (λ is. absurd cc) there room past
      (expr_sim s code claims pc (pc + expr_size e) stack e (put s.own (ops.Func functions.Trunc) ps) calls.0 there room refl)
  builtin_sim s code claims pc end stack functions.StrLen (MoreArgs (Given e) NoArgs) ps calls there room past =
      value_called s pc end stack functions.StrLen e (expr s.tree s.routine e) ps (λ is. absurd cc) there room past
      (expr_sim s code claims pc (pc + expr_size e) stack e (put s.own (ops.Func functions.StrLen) ps) calls.0 there room refl)
  builtin_sim s code claims pc end stack functions.NumToStr (MoreArgs (Given e) (MoreArgs (Given f) NoArgs)) ps calls there room past =
      pushes_to s pc stack Plain (pc + expr_size e + expr_size f + 1) end (omega arith)
      (sim_then (λ v. standing s (pc + expr_size e) (Plain v ∷ stack))
      (expr_sim s code claims pc (pc + expr_size e) stack e (expr_code s.tree s.routine s.own (pc + expr_size e) f (put s.own (ops.Func functions.NumToStr) ps)) calls.0 there
      (left_room (length stack) (expr_need e) (1 + expr_need f) s.target.code.deepest room) refl)
      (λ v. sim_then (λ w. standing s (pc + expr_size e + expr_size f) (Plain w ∷ Plain v ∷ stack))
      (expr_sim s code claims (pc + expr_size e) (pc + expr_size e + expr_size f) (Plain v ∷ stack) f (put s.own (ops.Func functions.NumToStr) ps) calls.1.0
      (past_expr s.target.code s.tree s.routine s.own pc e (expr_code s.tree s.routine s.own (pc + expr_size e) f (put s.own (ops.Func functions.NumToStr) ps)) there)
      (above (length stack) (expr_need e) (expr_need f) s.target.code.deepest room) refl)
      (λ w. shown_sim s (pc + expr_size e + expr_size f) stack v w
      (past_expr s.target.code s.tree s.routine s.own (pc + expr_size e) f (put s.own (ops.Func functions.NumToStr) ps)
      (past_expr s.target.code s.tree s.routine s.own pc e (expr_code s.tree s.routine s.own (pc + expr_size e) f (put s.own (ops.Func functions.NumToStr) ps)) there)).0
      (omega (arith, expr_needs f, above (length stack) (expr_need e) (expr_need f) s.target.code.deepest room)))))
  builtin_sim s code claims pc end stack functions.Dim (MoreArgs (Lent p) (MoreArgs one NoArgs)) ps calls there room past =
      pushes_to s pc stack Plain (pc + 1) end (omega arith) (dim_sim s pc stack (lent_length s.tree s.routine p) there.0 (omega arith))
  builtin_sim s code claims pc end stack functions.CJointT NoArgs ps calls there room past = pushes_to s pc stack Plain (pc + 1) end past (here_sim s pc stack there.0 (omega arith))
  builtin_sim s code claims pc end stack functions.TestDI (MoreArgs (OfSignal signal) NoArgs) ps calls there room past =
      pushes_to s pc stack Plain (pc + 3) end past (input_sim s pc stack signal ps there room)
  builtin_sim s code claims pc end stack functions.DOutput (MoreArgs (OfSignal signal) NoArgs) ps calls there room past =
      pushes_to s pc stack Plain (pc + 1) end past (signal_value_sim s pc stack signal there.0 (omega (arith, room)))
  builtin_sim s code claims pc end stack functions.TestAndSet (MoreArgs (Lent p) NoArgs) ps calls there room past =
      pushes_to s pc stack Plain (pc + place_size p + 1) end (omega arith)
      (sim_then (λ q. standing s (pc + place_size p) (Place q ∷ stack)) (place_sim s code claims pc (pc + place_size p) stack p (put s.own ops.TestSet ps) calls.0 there room refl)
      (λ q. test_sim s (pc + place_size p) stack q (past_place s.target.code s.tree s.routine s.own pc p (put s.own ops.TestSet ps) there).0 (omega (arith, place_needs p))))
  builtin_sim s code claims pc end stack function other ps calls there room past = sim_misfit
