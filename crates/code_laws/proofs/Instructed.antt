-- The code of each instruction does what the instruction does.
use Rattle.std.proofs.Common.{◌≡◌, refl, sym, ap, ℕ, ◌+◌, Bool, true, false, List, [], ◌∷◌, codes, bytes_eq, arith}
use Rattle.std.specs.Prelude.{⊤}
use Rattle.rapid_num.specs.Arithmetic.{difference_of, sum_of}
use Rattle.rapid_num.specs.declared.joints.Joints.{Joints}
use Rattle.std.specs.Prelude.{pos}
use Rattle.rapid_model.specs.declared.instruction.Instruction.{Instruction}
use Rattle.rapid_model.specs.declared.instruction.Instruction.TheVariants as instructions
use Rattle.rapid_model.specs.declared.part_name.PartName.TheVariants as parts
use Rattle.rapid_model.specs.declared.request.Request.TheVariants as requests
use Rattle.rapid_model.specs.declared.value.Value.TheVariants as values
use Rattle.rapid_model.specs.declared.operator.Operator.TheVariants as operators
use Rattle.typed_trees.specs.Plain.{TypedArg, TypedArgs, TypedExpr, TypedPlace, TypedTree, NotHeld, PlaceOf, Given, Lent, OfSignal, OfMeeting, Optional, Argument, NoArgs, MoreArgs}
use Rattle.typed_trees.specs.declared.datum.Datum.TheVariants.{Plain, Mark, Place}
use Rattle.typed_trees.specs.declared.datum.Lvalue.{Lvalue}
use Rattle.typed_trees.specs.declared.expr.TreeRoot.TheVariants as roots
use Rattle.rapid_meaning.specs.Doings.{Raises, ◌>>=◌, ◌>>◌, after, tells}
use Rattle.rapid_meaning.specs.Expressions.{place}
use Rattle.rapid_meaning.specs.Instructions.{has, instructed, needed, options, ready, tail, tail_named, text}
use Rattle.rapid_meaning.specs.Interrupts.{asks_of_number, number_at}
use Rattle.rapid_meaning.specs.Places.{store}
use Rattle.rapid_meaning.specs.Values.{text_in}
use Rattle.rapid_meaning.specs.Zones.{asks_of_zone, define, define_home}
use Rattle.rapid_meaning.proofs.Follows.{after_after}
use Rattle.stack_code.specs.Needs.{pieces_need}
use Rattle.stack_code.specs.Pieces.{Does, OfExpr, OfPlace, pieces_of_steps, tail_kind}
use Rattle.stack_code.specs.Placed.{Placed}
use Rattle.stack_code.specs.Recipes.{recipe}
use Rattle.stack_code.specs.Sizes.{expr_size, pieces_size}
use Rattle.stack_code.specs.Steps.{act, does}
use Rattle.stack_code.specs.StmtLayouts.{pieces_code}
use Rattle.stack_code.specs.declared.irq_op.IrqOp.TheVariants as irqs
use Rattle.stack_code.specs.declared.op.Op.TheVariants as ops
use Rattle.stack_code.specs.declared.zone_op.ZoneOp.TheVariants as zones
use Rattle.code_laws.specs.Calls.{ArgCalls, ArgsCalls, ExprCalls, IsBare, PlaceCalls}
use Rattle.code_laws.proofs.Alone.{store_alone}
use Rattle.code_laws.proofs.Claims.{Claims}
use Rattle.code_laws.proofs.CodeOf.{IsCodeOf}
use Rattle.code_laws.proofs.InstructionSteps.{of_text, read_then}
use Rattle.code_laws.proofs.Instructions.{Goes, add_goes, alone_goes, clear_goes, count_goes, number_goes, order_goes, reset_goes, say_bool_goes, say_goes, say_num_goes, set_goes, set_to_goes, shape_goes, supervise_goes, test_goes, tie_goes, time_goes, until_goes, wait_for_goes, watch_goes, zone_goes}
use Rattle.code_laws.proofs.InstructionsAlone.{define_alone, home_alone, number_alone, tells_alone, zone_alone}
use Rattle.code_laws.proofs.Same.{no_part_then}
use Rattle.code_laws.proofs.Sim.{sim_from, sim_gives, sim_misfit, sim_to}
use Rattle.code_laws.proofs.Spots.{Spot, here, standing}
use Rattle.code_laws.proofs.Syncs.{sync_goes}

-- the calls in a list of arguments
abbrev pub AreCalls : TypedTree → List TypedArg → Type 0
AreCalls tree [] = ⊤
AreCalls tree (arg ∷ more) = ArgCalls tree arg × AreCalls tree more

pub needed_calls : (tree : TypedTree) (args : TypedArgs) → ArgsCalls tree args → AreCalls tree (needed args)
needed_calls tree NoArgs calls = tt
needed_calls tree (MoreArgs (Optional name value) more) calls = needed_calls tree more calls.1
needed_calls tree (MoreArgs arg more) calls = (calls.0, needed_calls tree more calls.1)

pub options_calls : (tree : TypedTree) (args : TypedArgs) → ArgsCalls tree args → AreCalls tree (options args)
options_calls tree NoArgs calls = tt
options_calls tree (MoreArgs (Optional name value) more) calls = (calls.0, options_calls tree more calls.1)
options_calls tree (MoreArgs arg more) calls = options_calls tree more calls.1

-- a text with a tail, by the name of the option
tail_goes : (s : Spot) → IsCodeOf s.tree s.target → Claims s.target s.tree s.run → (labels : List ℕ) (pc : ℕ) (e f : TypedExpr) (is_num : Bool) (ps : List Placed) → ExprCalls s.tree e → ExprCalls s.tree f
    → Goes s labels pc (OfExpr e ∷ OfExpr f ∷ Does (ops.Say (tail_kind is_num)) ∷ []) ps (text s.tree s.routine e >>= λ t. tail_named s.tree s.routine is_num f >>= λ more. tells (requests.Say t more) >> ready)
tail_goes s code claims labels pc e f true ps calls others = say_num_goes s code claims labels pc e f ps calls others
tail_goes s code claims labels pc e f false ps calls others = say_bool_goes s code claims labels pc e f ps calls others

said_goes : (s : Spot) → IsCodeOf s.tree s.target → Claims s.target s.tree s.run → (labels : List ℕ) (pc : ℕ) (e : TypedExpr) (given : List TypedArg) (ps : List Placed) → ExprCalls s.tree e → AreCalls s.tree given
    → Goes s labels pc (pieces_of_steps s.tree s.routine (Given e ∷ []) given (recipe instructions.TPWrite)) ps (text s.tree s.routine e >>= λ t. tail s.tree s.routine given >>= λ more. tells (requests.Say t more) >> ready)
unfolding after pieces_code pieces_need pieces_size
said_goes s code claims labels pc e [] ps calls others = say_goes s code claims labels pc e ps calls
said_goes s code claims labels pc e (Optional name (Argument (Given f)) ∷ []) ps calls others = tail_goes s code claims labels pc e f (bytes_eq name (codes "Num")) ps calls others.0
said_goes s code claims labels pc e given ps calls others =
    λ there room. read_then s code claims pc [] e ps text_in _ calls there (omega (arith, room)) (of_text s (λ v. standing s (pc + expr_size e) (Plain v ∷ [])) _ (λ t. sim_misfit))

erase_goes : (s : Spot) (labels : List ℕ) (pc : ℕ) (ps : List Placed) → Goes s labels pc [] ps ready
unfolding pieces_size
erase_goes s labels pc ps there room =
    let here_on : pc ≡ pc + 0 = omega arith in
    sim_from (ap (λ (x : ℕ). standing s x []) here_on) (sim_gives true)

-- what the last operations of shapes do
limits_done : (s : Spot) → IsCodeOf s.tree s.target → (inside : Bool) (at : ℕ) (q : Lvalue) (l h : Joints)
    → act (here s at (Plain (values.Target h) ∷ Plain (values.Target l) ∷ Place q ∷ [])) (ops.Shape inside false) ≡ does (here s at (Plain (values.Target h) ∷ Plain (values.Target l) ∷ Place q ∷ [])) [] (define s.tree.axes q inside l h)
unfolding after
limits_done s code inside at q l h =
    ap (λ (axes : ℕ). does (here s at (Plain (values.Target h) ∷ Plain (values.Target l) ∷ Place q ∷ [])) [] (define axes q inside l h)) code.axes

home_done : (s : Spot) → IsCodeOf s.tree s.target → (inside : Bool) (at : ℕ) (q : Lvalue) (m d : Joints)
    → act (here s at (Plain (values.Target d) ∷ Plain (values.Target m) ∷ Place q ∷ [])) (ops.Shape inside true) ≡ does (here s at (Plain (values.Target d) ∷ Plain (values.Target m) ∷ Place q ∷ [])) [] (define_home s.tree.axes q inside m d)
unfolding after
home_done s code inside at q m d =
    ap (λ (axes : ℕ). does (here s at (Plain (values.Target d) ∷ Plain (values.Target m) ∷ Place q ∷ [])) [] (define_home axes q inside m d)) code.axes

-- a zone is freed, and its variable names no zone
free_goes : (s : Spot) → IsCodeOf s.tree s.target → Claims s.target s.tree s.run → (labels : List ℕ) (pc : ℕ) (zone : TypedPlace) (ps : List Placed) → PlaceCalls s.tree zone
    → Goes s labels pc (OfPlace zone ∷ Does ops.Dup ∷ Does ops.Load ∷ Does (ops.Zone zones.Free) ∷ []) ps
    (place s.tree s.routine zone >>= λ q. number_at q >>= λ n. asks_of_zone (requests.ZoneFree n) >> (store q (Mark 0) >> ready))
unfolding after
free_goes s code claims labels pc zone ps calls there room =
    sim_to (λ i. place s.tree s.routine zone >>= λ q. number_at q >>= λ n. sym (freed q n) i)
    (zone_goes s code claims labels pc zone (ops.Zone zones.Free) (λ q n. asks_of_zone (requests.ZoneFree n) >> store q (Mark 0)) ps calls (λ at n q. refl)
    (λ q n. no_part_then (asks_of_zone (requests.ZoneFree n)) (λ _. store q (Mark 0)) (zone_alone (requests.ZoneFree n)) (λ _. store_alone q (Mark 0))) there room)
  where
    freed : (q : Lvalue) (n : ℕ) → ((asks_of_zone (requests.ZoneFree n) >> store q (Mark 0)) >> ready) ≡ (asks_of_zone (requests.ZoneFree n) >> (store q (Mark 0) >> ready))
    freed q n = after_after (asks_of_zone (requests.ZoneFree n)) (λ _. store q (Mark 0)) Raises (λ _. ready) Raises

pub instructed_goes : (s : Spot) → IsCodeOf s.tree s.target → Claims s.target s.tree s.run → (labels : List ℕ) (pc : ℕ) (instruction : Instruction) (args given : List TypedArg) (ps : List Placed)
    → AreCalls s.tree args → AreCalls s.tree given → IsBare instruction args
    → Goes s labels pc (pieces_of_steps s.tree s.routine args given (recipe instruction)) ps (instructed s.tree s.routine instruction args given)
instructed_goes s code claims labels pc instructions.Set (OfSignal signal ∷ []) given ps calls others bare = set_goes s labels pc signal ps
instructed_goes s code claims labels pc instructions.Reset (OfSignal signal ∷ []) given ps calls others bare = reset_goes s labels pc signal ps
instructed_goes s code claims labels pc instructions.SetDO (OfSignal signal ∷ Given e ∷ []) given ps calls others bare = set_to_goes s code claims labels pc signal e ps calls.1.0
instructed_goes s code claims labels pc instructions.WaitDI (OfSignal signal ∷ Given e ∷ []) given ps calls others bare = wait_for_goes s code claims labels pc signal e ps calls.1.0
instructed_goes s code claims labels pc instructions.WaitDO (OfSignal signal ∷ Given e ∷ []) given ps calls others bare = wait_for_goes s code claims labels pc signal e ps calls.1.0
instructed_goes s code claims labels pc instructions.WaitUntil (Given e ∷ []) given ps calls others bare = until_goes s code claims labels pc e ps calls.0
instructed_goes s code claims labels pc instructions.WaitTime (Given e ∷ []) given ps calls others bare = time_goes s code claims labels pc e ps calls.0
instructed_goes s code claims labels pc instructions.WaitTestAndSet (Lent p ∷ []) given ps calls others bare = test_goes s code claims labels pc p ps calls.0
instructed_goes s code claims labels pc instructions.WaitSyncTask (OfMeeting number ∷ Lent list ∷ []) given ps calls others bare = sync_goes s code claims labels pc number list ps calls.1.0
instructed_goes s code claims labels pc instructions.TPWrite (Given e ∷ []) given ps calls others bare = said_goes s code claims labels pc e given ps calls.0 others
instructed_goes s code claims labels pc instructions.TPErase [] given ps calls others bare = erase_goes s labels pc ps
instructed_goes s code claims labels pc instructions.ISignalDI (OfSignal signal ∷ Given e ∷ Lent p ∷ []) given ps calls others bare = order_goes s code claims labels pc signal (has (codes "Single") given) e p ps calls.1.0 calls.1.1.0
instructed_goes s code claims labels pc instructions.ISignalDO (OfSignal signal ∷ Given e ∷ Lent p ∷ []) given ps calls others bare = order_goes s code claims labels pc signal (has (codes "Single") given) e p ps calls.1.0 calls.1.1.0
instructed_goes s code claims labels pc instructions.IPers (Lent (PlaceOf (roots.Pers row) NotHeld parts.Whole sort) ∷ Lent p ∷ []) given ps calls others bare = watch_goes s code claims labels pc row sort (has (codes "Single") given) p ps calls.1.0
instructed_goes s code claims labels pc instructions.IPers (Lent watch ∷ Lent p ∷ []) given ps calls others bare = absurd bare
instructed_goes s code claims labels pc instructions.ISleep (Lent p ∷ []) given ps calls others bare = number_goes s code claims labels pc p (ops.Irq irqs.Sleep) (λ n. asks_of_number (requests.Sleep n)) ps calls.0 (λ at n. refl) (λ n. number_alone (requests.Sleep n))
instructed_goes s code claims labels pc instructions.IWatch (Lent p ∷ []) given ps calls others bare = number_goes s code claims labels pc p (ops.Irq irqs.Watch) (λ n. asks_of_number (requests.Watch n)) ps calls.0 (λ at n. refl) (λ n. number_alone (requests.Watch n))
instructed_goes s code claims labels pc instructions.IDelete (Lent p ∷ []) given ps calls others bare = number_goes s code claims labels pc p (ops.Irq irqs.Delete) (λ n. asks_of_number (requests.Delete n)) ps calls.0 (λ at n. refl) (λ n. number_alone (requests.Delete n))
instructed_goes s code claims labels pc instructions.IDisable [] given ps calls others bare = alone_goes s labels pc (ops.Irq irqs.Disable) (tells requests.Disable) ps refl (tells_alone requests.Disable)
instructed_goes s code claims labels pc instructions.IEnable [] given ps calls others bare = alone_goes s labels pc (ops.Irq irqs.Enable) (tells requests.Enable) ps refl (tells_alone requests.Enable)
instructed_goes s code claims labels pc instructions.WZLimJointDef (Lent shape ∷ Given low ∷ Given high ∷ []) given ps calls others bare =
    shape_goes s code claims labels pc shape low high (ops.Shape (has (codes "Inside") given) false) (λ q l h. define s.tree.axes q (has (codes "Inside") given) l h) ps calls.0 calls.1.0 calls.1.1.0
    (limits_done s code (has (codes "Inside") given)) (λ q l h. define_alone s.tree.axes q (has (codes "Inside") given) l h)
instructed_goes s code claims labels pc instructions.WZHomeJointDef (Lent shape ∷ Given middle ∷ Given delta ∷ []) given ps calls others bare =
    shape_goes s code claims labels pc shape middle delta (ops.Shape (has (codes "Inside") given) true) (λ q m d. define_home s.tree.axes q (has (codes "Inside") given) m d) ps calls.0 calls.1.0 calls.1.1.0
    (home_done s code (has (codes "Inside") given)) (λ q m d. home_alone s.tree.axes q (has (codes "Inside") given) m d)
instructed_goes s code claims labels pc instructions.WZLimSup (Lent zone ∷ Lent shape ∷ []) given ps calls others bare = supervise_goes s code claims labels pc zone shape (has (codes "Temp") given) ps calls.0 calls.1.0
instructed_goes s code claims labels pc instructions.WZDOSet (Lent zone ∷ Lent shape ∷ OfSignal signal ∷ Given e ∷ []) given ps calls others bare = tie_goes s code claims labels pc zone shape signal e (has (codes "Temp") given) ps calls.0 calls.1.0 calls.1.1.1.0
instructed_goes s code claims labels pc instructions.WZDisable (Lent zone ∷ []) given ps calls others bare = zone_goes s code claims labels pc zone (ops.Zone zones.Off) (λ q n. asks_of_zone (requests.ZoneOff n)) ps calls.0 (λ at n q. refl) (λ q n. zone_alone (requests.ZoneOff n))
instructed_goes s code claims labels pc instructions.WZEnable (Lent zone ∷ []) given ps calls others bare = zone_goes s code claims labels pc zone (ops.Zone zones.On) (λ q n. asks_of_zone (requests.ZoneOn n)) ps calls.0 (λ at n q. refl) (λ q n. zone_alone (requests.ZoneOn n))
instructed_goes s code claims labels pc instructions.WZFree (Lent zone ∷ []) given ps calls others bare = free_goes s code claims labels pc zone ps calls.0
instructed_goes s code claims labels pc instructions.Incr (Lent p ∷ []) given ps calls others bare = count_goes s code claims labels pc p (ops.Binary operators.Add) (λ n. sum_of n (pos 1_000)) ps calls.0 (λ at q n. refl)
instructed_goes s code claims labels pc instructions.Decr (Lent p ∷ []) given ps calls others bare = count_goes s code claims labels pc p (ops.Binary operators.Sub) (λ n. difference_of n (pos 1_000)) ps calls.0 (λ at q n. refl)
instructed_goes s code claims labels pc instructions.Clear (Lent p ∷ []) given ps calls others bare = clear_goes s code claims labels pc p ps calls.0
instructed_goes s code claims labels pc instructions.Add (Lent p ∷ Given e ∷ []) given ps calls others bare = add_goes s code claims labels pc p e ps calls.0 calls.1.0
instructed_goes s code claims labels pc instruction args given ps calls others bare = λ there room. sim_misfit
