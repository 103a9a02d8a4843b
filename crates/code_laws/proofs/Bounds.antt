-- The bounds and the step of a FOR.
use Rattle.std.proofs.Common.{◌≡◌, refl, sym, ◌∙◌, subst, ℕ, ◌+◌, ◌≤◌, max, Bool, true, false, List, [], ◌∷◌, length, Option, None, Some, if◌then◌else◌, arith}
use Rattle.std.specs.Prelude.{ℤ, pos, neg_ℤ, int_lt}
use Rattle.rapid_model.specs.Fits.{Fitting}
use Rattle.rapid_model.specs.declared.value.Value.{Value}
use Rattle.rapid_model.specs.declared.value.Value.TheVariants as values
use Rattle.rapid_model.specs.declared.operator.Operator.TheVariants as operators
use Rattle.typed_trees.specs.Plain.{TypedExpr, TypedRoutine, TypedTree}
use Rattle.typed_trees.specs.declared.datum.Datum.{Datum}
use Rattle.typed_trees.specs.declared.datum.Datum.TheVariants.{Plain, Place}
use Rattle.typed_trees.specs.declared.datum.Lvalue.{Lvalue}
use Rattle.rapid_meaning.specs.Answering.{Run}
use Rattle.rapid_meaning.specs.Doings.{Act, ◌>>=◌, ◌>>◌, after}
use Rattle.rapid_meaning.specs.Instructions.{num}
use Rattle.rapid_meaning.specs.Layouts.{local_start}
use Rattle.rapid_meaning.specs.Loops.{bounds, direction, step_value}
use Rattle.rapid_meaning.specs.Places.{write_value}
use Rattle.rapid_meaning.specs.Values.{num_in}
use Rattle.rapid_meaning.proofs.Kept.{RunKept}
use Rattle.rapid_meaning.proofs.Tidy.{t_num, t_step_value, t_write_value}
use Rattle.stack_code.specs.ExprLayouts.{expr_code, put}
use Rattle.stack_code.specs.Needs.{expr_need, pieces_need}
use Rattle.stack_code.specs.Pieces.{bounds_pieces, push, push_down}
use Rattle.stack_code.specs.Placed.{Placed}
use Rattle.stack_code.specs.Sizes.{bounds_size, expr_size, pieces_size}
use Rattle.stack_code.specs.Steps.{counter_at, set_counter_at}
use Rattle.stack_code.specs.StmtLayouts.{pieces_code}
use Rattle.stack_code.specs.declared.op.Op.TheVariants as ops
use Rattle.code_laws.specs.Calls.{ExprCalls, MaybeCalls}
use Rattle.code_laws.proofs.Claims.{Claims}
use Rattle.code_laws.proofs.CodeOf.{IsCodeOf}
use Rattle.code_laws.proofs.Expressions.{expr_sim}
use Rattle.code_laws.proofs.Located.{Alike, alike_first, alike_over, alike_place, alike_then, own_of, place_at}
use Rattle.code_laws.proofs.Ops.{OpAt, ends_at}
use Rattle.code_laws.proofs.Past.{past_expr}
use Rattle.code_laws.proofs.PlaceOps.{load_sim}
use Rattle.code_laws.proofs.Plains.{store_sim}
use Rattle.code_laws.proofs.Rooms.{first_room, second_room}
use Rattle.code_laws.proofs.Same.{same}
use Rattle.code_laws.proofs.Sim.{Sim, sim_gives, sim_like, sim_misfit, sim_then}
use Rattle.code_laws.proofs.Spots.{Holds, Pushes, Spot, failing, sim_op, standing}
use Rattle.code_laws.proofs.Stores.{down_alike, found_alike, store_own, stores_found, stores_up}

local_sim : (s : Spot) (pc : ℕ) (stack : List Datum) (k : ℕ) → OpAt s pc (ops.Local k) → length stack ≤ s.target.code.deepest → Pushes s pc (pc + 1) stack Place (place_at k)
local_sim s pc stack k there room = sim_op s pc stack (ops.Local k) there room (same (place_at k) (λ d. tt))

-- a value that is a num
number : (s : Spot) (pc : ℕ) (stack : List Datum) (v : Value) → Sim s.target s.run (standing s pc (Plain v ∷ stack)) (num_in v) (λ n. standing s pc (Plain (values.Num n) ∷ stack)) (failing s)
number s pc stack (values.Num n) = sim_gives n
number s pc stack v = sim_misfit

num_sim : (s : Spot) → IsCodeOf s.tree s.target → Claims s.target s.tree s.run → (pc : ℕ) (stack : List Datum) (e : TypedExpr) (ps : List Placed) → ExprCalls s.tree e
    → Holds s pc (expr_code s.tree s.routine s.own pc e ps) → length stack + expr_need e ≤ s.target.code.deepest
    → Sim s.target s.run (standing s pc stack) (num s.tree s.routine e) (λ n. standing s (pc + expr_size e) (Plain (values.Num n) ∷ stack)) (failing s)
num_sim s code claims pc stack e ps calls there room =
    sim_then (λ v. standing s (pc + expr_size e) (Plain v ∷ stack)) (expr_sim s code claims pc (pc + expr_size e) stack e ps calls there room refl) (number s (pc + expr_size e) stack)

-- reads one of the three data
counter_sim : (s : Spot) (pc : ℕ) (stack : List Datum) (k : ℕ) → OpAt s pc (ops.Local k) → OpAt s (pc + 1) ops.Load → length stack + 1 ≤ s.target.code.deepest
    → Sim s.target s.run (standing s pc stack) (counter_at k) (λ n. standing s (pc + 1 + 1) (Plain (values.Num n) ∷ stack)) (failing s)
counter_sim s pc stack k there loads room =
    sim_then (λ p. standing s (pc + 1) (Place p ∷ stack)) (local_sim s pc stack k there (omega (arith, room)))
    (λ p. sim_then (λ v. standing s (pc + 1 + 1) (Plain v ∷ stack)) (load_sim s (pc + 1) stack p loads (omega (arith, room))) (number s (pc + 1 + 1) stack))

-- a step of -1 or 1, depending on whether the variable is the greater

chosen_step : (s : Spot) (pc : ℕ) (p : Lvalue) (c : Bool) → OpAt s pc (ops.JumpFalse (pc + 1 + 1 + 1)) → OpAt s (pc + 1) push_down → OpAt s (pc + 1 + 1) (ops.Jump (pc + 1 + 1 + 1 + 1))
    → OpAt s (pc + 1 + 1 + 1) (push 1) → OpAt s (pc + 1 + 1 + 1 + 1) ops.Store → 2 ≤ s.target.code.deepest
    → Sim s.target s.run (standing s pc (Plain (values.Bool c) ∷ Place p ∷ [])) (write_value p (values.Num (if c then neg_ℤ (pos 1_000) else pos 1_000)))
    (λ _. standing s (pc + 1 + 1 + 1 + 1 + 1) []) (failing s)
unfolding after
chosen_step s pc p true unless down jump up there room =
    sim_op s pc (Plain (values.Bool true) ∷ Place p ∷ []) (ops.JumpFalse (pc + 1 + 1 + 1)) unless (omega (arith, room))
    (sim_op s (pc + 1) (Place p ∷ []) push_down down (omega (arith, room))
    (sim_op s (pc + 1 + 1) (Plain (values.Num (neg_ℤ (pos 1_000))) ∷ Place p ∷ []) (ops.Jump (pc + 1 + 1 + 1 + 1)) jump (omega (arith, room))
    (store_sim s (pc + 1 + 1 + 1 + 1) [] p (Plain (values.Num (neg_ℤ (pos 1_000)))) there (omega (arith, room)))))
chosen_step s pc p false unless down jump up there room =
    sim_op s pc (Plain (values.Bool false) ∷ Place p ∷ []) (ops.JumpFalse (pc + 1 + 1 + 1)) unless (omega (arith, room))
    (sim_op s (pc + 1 + 1 + 1) (Place p ∷ []) (push 1) up (omega (arith, room))
    (store_sim s (pc + 1 + 1 + 1 + 1) [] p (Plain (values.Num (pos 1_000))) there (omega (arith, room))))

-- the two others are compared
compared : (s : Spot) (pc : ℕ) (p : Lvalue) (m n : ℤ) → OpAt s pc (ops.Binary operators.Greater) → 3 ≤ s.target.code.deepest
    → Sim s.target s.run (standing s (pc + 1) (Plain (values.Bool (int_lt n m)) ∷ Place p ∷ [])) (write_value p (values.Num (if int_lt n m then neg_ℤ (pos 1_000) else pos 1_000)))
    (λ _. standing s (pc + 1 + 1 + 1 + 1 + 1 + 1) []) (failing s)
    → Sim s.target s.run (standing s pc (Plain (values.Num n) ∷ Plain (values.Num m) ∷ Place p ∷ [])) (write_value p (values.Num (if int_lt n m then neg_ℤ (pos 1_000) else pos 1_000)))
    (λ _. standing s (pc + 1 + 1 + 1 + 1 + 1 + 1) []) (failing s)
unfolding after
compared s pc p m n there room more = sim_op s pc (Plain (values.Num n) ∷ Plain (values.Num m) ∷ Place p ∷ []) (ops.Binary operators.Greater) there (omega (arith, room)) more

-- What the code of the bounds does, place by place: as in an assignment, each place comes before its value. A step that
-- is not given is computed from the other two as they are stored.
abbrev by_places : TypedTree → TypedRoutine → ℕ → TypedExpr → TypedExpr → Option TypedExpr → Act
by_places tree routine k first last (Some step) = place_at k >>= λ p. num tree routine first >>= λ from. place_at (k + 1) >>= λ q. num tree routine last >>= λ to.
    place_at (k + 2) >>= λ r. num tree routine step >>= λ by. write_value r (values.Num by) >> (write_value q (values.Num to) >> write_value p (values.Num from))
by_places tree routine k first last None = place_at k >>= λ p. num tree routine first >>= λ from. place_at (k + 1) >>= λ q. num tree routine last >>= λ to.
    write_value q (values.Num to) >> (write_value p (values.Num from) >> (place_at (k + 2) >>= λ r. counter_at k >>= λ m. counter_at (k + 1) >>= λ n. write_value r (values.Num (direction m n))))

places_sim : (s : Spot) → IsCodeOf s.tree s.target → Claims s.target s.tree s.run → (labels : List ℕ) (pc local : ℕ) (first last : TypedExpr) (step : Option TypedExpr) (ps : List Placed)
    → ExprCalls s.tree first → ExprCalls s.tree last → MaybeCalls s.tree step
    → Holds s pc (pieces_code s.tree s.routine labels s.own pc (bounds_pieces (local_start s.routine local) first last step) ps)
    → pieces_need 0 (bounds_pieces (local_start s.routine local) first last step) ≤ s.target.code.deepest
    → Sim s.target s.run (standing s pc []) (by_places s.tree s.routine (local_start s.routine local) first last step) (λ _. standing s (pc + bounds_size s.routine local first last step) []) (failing s)
unfolding pieces_code pieces_size pieces_need
places_sim s code claims labels pc local first last (Some step) ps calls_first calls_last calls_step there room =
    let k : ℕ = local_start s.routine local in
    let a : ℕ = pc + 1 + expr_size first in
    let b : ℕ = a + 1 + expr_size last in
    let c : ℕ = b + 1 + expr_size step in
    let stores : List Placed = put s.own ops.Store (put s.own ops.Store (put s.own ops.Store ps)) in
    let of_step : List Placed = put s.own (ops.Local (k + 2)) (expr_code s.tree s.routine s.own (b + 1) step stores) in
    let of_last : List Placed = put s.own (ops.Local (k + 1)) (expr_code s.tree s.routine s.own (a + 1) last of_step) in
    let at_last = past_expr s.target.code s.tree s.routine s.own (pc + 1) first of_last there.1 in
    let at_step = past_expr s.target.code s.tree s.routine s.own (a + 1) last of_step at_last.1 in
    let at_stores = past_expr s.target.code s.tree s.routine s.own (b + 1) step stores at_step.1 in
    let room_step : ℕ = max (5 + expr_need step) 6 in
    let room_last : ℕ = max (3 + expr_need last) (max 4 room_step) in
    let room_first : ℕ = max (1 + expr_need first) (max 2 room_last) in
    let r0 : room_first ≤ s.target.code.deepest = second_room 0 room_first s.target.code.deepest room in
    let r1 : room_last ≤ s.target.code.deepest = second_room 2 room_last s.target.code.deepest (second_room (1 + expr_need first) (max 2 room_last) s.target.code.deepest r0) in
    let r2 : room_step ≤ s.target.code.deepest = second_room 4 room_step s.target.code.deepest (second_room (3 + expr_need last) (max 4 room_step) s.target.code.deepest r1) in
    let six : 6 ≤ s.target.code.deepest = second_room (5 + expr_need step) 6 s.target.code.deepest r2 in
    ends_at s (standing s pc []) (by_places s.tree s.routine k first last (Some step)) (λ _. []) (c + 1 + 1 + 1)
    (pc + (1 + (expr_size first + (1 + (expr_size last + (1 + (expr_size step + (1 + (1 + (1 + 0)))))))))) (omega arith)
    (sim_then (λ p. standing s (pc + 1) (Place p ∷ [])) (local_sim s pc [] k there.0 (omega arith)) (λ p.
    sim_then (λ from. standing s a (Plain (values.Num from) ∷ Place p ∷ []))
    (num_sim s code claims (pc + 1) (Place p ∷ []) first of_last calls_first there.1 (first_room (1 + expr_need first) (max 2 room_last) s.target.code.deepest r0)) (λ from.
    sim_then (λ q. standing s (a + 1) (Place q ∷ Plain (values.Num from) ∷ Place p ∷ []))
    (local_sim s a (Plain (values.Num from) ∷ Place p ∷ []) (k + 1) at_last.0 (omega (arith, six))) (λ q.
    sim_then (λ to. standing s b (Plain (values.Num to) ∷ Place q ∷ Plain (values.Num from) ∷ Place p ∷ []))
    (num_sim s code claims (a + 1) (Place q ∷ Plain (values.Num from) ∷ Place p ∷ []) last of_step calls_last at_last.1 (first_room (3 + expr_need last) (max 4 room_step) s.target.code.deepest r1)) (λ to.
    sim_then (λ r. standing s (b + 1) (Place r ∷ Plain (values.Num to) ∷ Place q ∷ Plain (values.Num from) ∷ Place p ∷ []))
    (local_sim s b (Plain (values.Num to) ∷ Place q ∷ Plain (values.Num from) ∷ Place p ∷ []) (k + 2) at_step.0 (omega (arith, six))) (λ r.
    sim_then (λ by. standing s c (Plain (values.Num by) ∷ Place r ∷ Plain (values.Num to) ∷ Place q ∷ Plain (values.Num from) ∷ Place p ∷ []))
    (num_sim s code claims (b + 1) (Place r ∷ Plain (values.Num to) ∷ Place q ∷ Plain (values.Num from) ∷ Place p ∷ []) step stores calls_step at_step.1
    (first_room (5 + expr_need step) 6 s.target.code.deepest r2)) (λ by.
    sim_then (λ _. standing s (c + 1) (Plain (values.Num to) ∷ Place q ∷ Plain (values.Num from) ∷ Place p ∷ []))
    (store_sim s c (Plain (values.Num to) ∷ Place q ∷ Plain (values.Num from) ∷ Place p ∷ []) r (Plain (values.Num by)) at_stores.0 (omega (arith, six))) (λ _.
    sim_then (λ _. standing s (c + 1 + 1) (Plain (values.Num from) ∷ Place p ∷ []))
    (store_sim s (c + 1) (Plain (values.Num from) ∷ Place p ∷ []) q (Plain (values.Num to)) at_stores.1.0 (omega (arith, six))) (λ _.
    store_sim s (c + 1 + 1) [] p (Plain (values.Num from)) at_stores.1.1.0 (omega (arith, six)))))))))))
places_sim s code claims labels pc local first last None ps calls_first calls_last calls_step there room =
    let k : ℕ = local_start s.routine local in
    let a : ℕ = pc + 1 + expr_size first in
    let b : ℕ = a + 1 + expr_size last in
    let c : ℕ = b + 1 + 1 in
    let g : ℕ = c + 1 + 1 + 1 + 1 + 1 in
    let chooses : List Placed = put s.own (ops.JumpFalse (g + 1 + 1 + 1 + 1)) (put s.own push_down (put s.own (ops.Jump (g + 1 + 1 + 1 + 1 + 1)) (put s.own (push 1) (put s.own ops.Store ps)))) in
    let finds : List Placed = put s.own (ops.Local (k + 2)) (put s.own (ops.Local k) (put s.own ops.Load (put s.own (ops.Local (k + 1)) (put s.own ops.Load (put s.own (ops.Binary operators.Greater) chooses))))) in
    let stores : List Placed = put s.own ops.Store (put s.own ops.Store finds) in
    let of_last : List Placed = put s.own (ops.Local (k + 1)) (expr_code s.tree s.routine s.own (a + 1) last stores) in
    let at_last = past_expr s.target.code s.tree s.routine s.own (pc + 1) first of_last there.1 in
    let at_stores = past_expr s.target.code s.tree s.routine s.own (a + 1) last stores at_last.1 in
    let at_finds = at_stores.1.1 in
    let at_binary = at_finds.1.1.1.1.1 in
    let at_chooses = at_binary.1 in
    let room_last : ℕ = max (3 + expr_need last) 4 in
    let room_first : ℕ = max (1 + expr_need first) (max 2 room_last) in
    let r0 : room_first ≤ s.target.code.deepest = second_room 0 room_first s.target.code.deepest room in
    let r1 : room_last ≤ s.target.code.deepest = second_room 2 room_last s.target.code.deepest (second_room (1 + expr_need first) (max 2 room_last) s.target.code.deepest r0) in
    let four : 4 ≤ s.target.code.deepest = second_room (3 + expr_need last) 4 s.target.code.deepest r1 in
    ends_at s (standing s pc []) (by_places s.tree s.routine k first last None) (λ _. []) (g + 1 + 1 + 1 + 1 + 1 + 1)
    (pc + (1 + (expr_size first + (1 + (expr_size last + (1 + (1 + (1 + (1 + (1 + (1 + (1 + (1 + (4 + (1 + 0))))))))))))))) (omega arith)
    (sim_then (λ p. standing s (pc + 1) (Place p ∷ [])) (local_sim s pc [] k there.0 (omega arith)) (λ p.
    sim_then (λ from. standing s a (Plain (values.Num from) ∷ Place p ∷ []))
    (num_sim s code claims (pc + 1) (Place p ∷ []) first of_last calls_first there.1 (first_room (1 + expr_need first) (max 2 room_last) s.target.code.deepest r0)) (λ from.
    sim_then (λ q. standing s (a + 1) (Place q ∷ Plain (values.Num from) ∷ Place p ∷ []))
    (local_sim s a (Plain (values.Num from) ∷ Place p ∷ []) (k + 1) at_last.0 (omega (arith, four))) (λ q.
    sim_then (λ to. standing s b (Plain (values.Num to) ∷ Place q ∷ Plain (values.Num from) ∷ Place p ∷ []))
    (num_sim s code claims (a + 1) (Place q ∷ Plain (values.Num from) ∷ Place p ∷ []) last stores calls_last at_last.1 (first_room (3 + expr_need last) 4 s.target.code.deepest r1)) (λ to.
    sim_then (λ _. standing s (b + 1) (Plain (values.Num from) ∷ Place p ∷ []))
    (store_sim s b (Plain (values.Num from) ∷ Place p ∷ []) q (Plain (values.Num to)) at_stores.0 (omega (arith, four))) (λ _.
    sim_then (λ _. standing s c []) (store_sim s (b + 1) [] p (Plain (values.Num from)) at_stores.1.0 (omega (arith, four))) (λ _.
    sim_then (λ r. standing s (c + 1) (Place r ∷ [])) (local_sim s c [] (k + 2) at_finds.0 (omega arith)) (λ r.
    sim_then (λ m. standing s (c + 1 + 1 + 1) (Plain (values.Num m) ∷ Place r ∷ []))
    (counter_sim s (c + 1) (Place r ∷ []) k at_finds.1.0 at_finds.1.1.0 (omega (arith, four))) (λ m.
    sim_then (λ n. standing s g (Plain (values.Num n) ∷ Plain (values.Num m) ∷ Place r ∷ []))
    (counter_sim s (c + 1 + 1 + 1) (Plain (values.Num m) ∷ Place r ∷ []) (k + 1) at_finds.1.1.1.0 at_finds.1.1.1.1.0 (omega (arith, four))) (λ n.
    compared s g r m n at_binary.0 (omega (arith, four))
    (chosen_step s (g + 1) r (int_lt n m) at_chooses.0 at_chooses.1.0 at_chooses.1.1.0 at_chooses.1.1.1.0 at_chooses.1.1.1.1.0 (omega (arith, four)))))))))))))

-- the same in the order of the rule: given values are evaluated first

abbrev in_order : TypedTree → TypedRoutine → ℕ → ℕ → TypedExpr → TypedExpr → Option TypedExpr → Act
in_order tree routine count k first last step =
    num tree routine first >>= λ from. num tree routine last >>= λ to. step_value tree routine from to step >>= λ increment. stores_up count k from to increment

no_step : (tree : TypedTree) (by : Bool → Fitting) (run : Run) (routine : TypedRoutine) (count k : ℕ) (from to : ℤ)
    → Alike by run count (stores_found count k from to) (step_value tree routine from to None >>= λ increment. stores_up count k from to increment)
unfolding after
no_step tree by run routine count k from to = found_alike by run count k from to

placed_alike : (tree : TypedTree) (by : Bool → Fitting) (run : Run) → RunKept run → (routine : TypedRoutine) (count k : ℕ) (first last : TypedExpr) (step : Option TypedExpr)
    → Alike by run count (by_places tree routine k first last step) (in_order tree routine count k first last step)
placed_alike tree by run kept routine count k first last (Some step) =
    alike_over (alike_place by run count k _) (alike_then by run kept count (num tree routine first) _ _ (t_num tree routine first) (λ from.
    alike_over (alike_place by run count (k + 1) _) (alike_then by run kept count (num tree routine last) _ _ (t_num tree routine last) (λ to.
    alike_over (alike_place by run count (k + 2) _) (alike_then by run kept count (num tree routine step) _ _ (t_num tree routine step) (λ increment.
    down_alike by run count k from to increment))))))
placed_alike tree by run kept routine count k first last None =
    alike_over (alike_place by run count k _) (alike_then by run kept count (num tree routine first) _ _ (t_num tree routine first) (λ from.
    alike_over (alike_place by run count (k + 1) _) (alike_then by run kept count (num tree routine last) _ _ (t_num tree routine last) (λ to.
    no_step tree by run routine count k from to))))

-- the rule, with the variable at x and the other two behind k
abbrev by_rule : TypedTree → TypedRoutine → ℕ → ℕ → TypedExpr → TypedExpr → Option TypedExpr → Act
by_rule tree routine x k first last step =
    num tree routine first >>= λ from. num tree routine last >>= λ to. step_value tree routine from to step >>= λ increment.
    set_counter_at x from >> (set_counter_at (k + 1) to >> set_counter_at (k + 2) increment)

rule_alike : (tree : TypedTree) (by : Bool → Fitting) (run : Run) → RunKept run → (routine : TypedRoutine) (count k : ℕ) (first last : TypedExpr) (step : Option TypedExpr)
    → Alike by run count (by_rule tree routine k k first last step) (in_order tree routine count k first last step)
rule_alike tree by run kept routine count k first last step =
    alike_then by run kept count (num tree routine first) _ _ (t_num tree routine first) (λ from.
    alike_then by run kept count (num tree routine last) _ _ (t_num tree routine last) (λ to.
    alike_then by run kept count (step_value tree routine from to step) _ _ (t_step_value tree routine from to step) (λ increment.
    alike_over (alike_first by run count k _ _) (alike_then by run kept count (store_own count k from) _ _ (t_write_value (own_of count k) (values.Num from)) (λ _.
    alike_over (alike_first by run count (k + 1) _ _) (alike_then by run kept count (store_own count (k + 1) to) _ _ (t_write_value (own_of count (k + 1)) (values.Num to)) (λ _.
    alike_place by run count (k + 2) _)))))))

bounds_alike : (tree : TypedTree) (by : Bool → Fitting) (run : Run) → RunKept run → (routine : TypedRoutine) (count local : ℕ) (first last : TypedExpr) (step : Option TypedExpr)
    → Alike by run count (bounds tree routine local first last step) (in_order tree routine count (local_start routine local) first last step)
bounds_alike tree by run kept routine count local first last step =
    let k : ℕ = local_start routine local in
    let same : k ≡ k + 0 = omega arith in
    subst (λ (x : ℕ). Alike by run count (by_rule tree routine x k first last step) (in_order tree routine count k first last step)) same
    (rule_alike tree by run kept routine count k first last step)

pub bounds_sim : (s : Spot) → IsCodeOf s.tree s.target → Claims s.target s.tree s.run → (labels : List ℕ) (pc local : ℕ) (first last : TypedExpr) (step : Option TypedExpr) (ps : List Placed)
    → ExprCalls s.tree first → ExprCalls s.tree last → MaybeCalls s.tree step
    → Holds s pc (pieces_code s.tree s.routine labels s.own pc (bounds_pieces (local_start s.routine local) first last step) ps)
    → pieces_need 0 (bounds_pieces (local_start s.routine local) first last step) ≤ s.target.code.deepest
    → Sim s.target s.run (standing s pc []) (bounds s.tree s.routine local first last step) (λ _. standing s (pc + bounds_size s.routine local first last step) []) (failing s)
bounds_sim s code claims labels pc local first last step ps calls_first calls_last calls_step there room =
    sim_like (by_places s.tree s.routine (local_start s.routine local) first last step) (bounds s.tree s.routine local first last step)
    (λ d left.
    let count : ℕ = length d.frames in
    (placed_alike s.tree s.target.by s.run claims.kept s.routine count (local_start s.routine local) first last step).same d left refl
    ∙ sym ((bounds_alike s.tree s.target.by s.run claims.kept s.routine count local first last step).same d left refl))
    (places_sim s code claims labels pc local first last step ps calls_first calls_last calls_step there room)
