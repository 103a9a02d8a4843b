-- A meeting of the tasks that a list names.
use Rattle.std.proofs.Common.{◌≡◌, refl, ap, ℕ, zero, suc, ◌+◌, ◌<◌, ◌≤◌, ◌^◌, nat_lt, Bool, true, false, List, [], ◌∷◌, Option, None, Some, position, bytes_eq, slice_get, if◌then◌else◌, arith}
use Rattle.std.specs.Option.{unwrap_or}
use Rattle.std.proofs.lemmas.Bool.{lt-ltb, ltb-true}
use Rattle.rapid_model.specs.declared.fate.Fate.TheVariants as fates
use Rattle.rapid_model.specs.declared.fate.Fault.TheVariants.{TaskName}
use Rattle.rapid_values.proofs.Elements.{thousandths}
use Rattle.typed_trees.specs.Plain.{TypedPlace}
use Rattle.typed_trees.specs.declared.datum.Datum.TheVariants.{Plain, Place}
use Rattle.typed_trees.specs.declared.datum.Lvalue.{Lvalue}
use Rattle.rapid_meaning.specs.Doings.{Doing, Gives, Raises, Misfit, ◌>>=◌, after, or_misfit}
use Rattle.rapid_meaning.specs.Expressions.{lent_length, place}
use Rattle.rapid_meaning.specs.Meetings.{arrive, task_or_fault, tasks_in, with_task, with_tasks}
use Rattle.rapid_meaning.specs.Places.{at_element, read_value}
use Rattle.rapid_meaning.specs.Values.{text_in, whole}
use Rattle.rapid_meaning.proofs.Follows.{after_after}
use Rattle.rapid_meaning.proofs.TaskSets.{with_task_below}
use Rattle.stack_code.specs.Confs.{Conf}
use Rattle.stack_code.specs.Needs.{pieces_need}
use Rattle.stack_code.specs.Pieces.{OfPlace, Does, Waits, list_length, meeting_number}
use Rattle.stack_code.specs.Placed.{Placed}
use Rattle.stack_code.specs.Sizes.{pieces_size, place_size}
use Rattle.stack_code.specs.Steps.{pushes}
use Rattle.stack_code.specs.StmtLayouts.{pieces_code}
use Rattle.stack_code.specs.declared.op.Op.TheVariants as ops
use Rattle.code_laws.specs.Calls.{PlaceCalls}
use Rattle.code_laws.proofs.Alone.{read_value_alone, text_alone, there_alone}
use Rattle.code_laws.proofs.Claims.{Claims}
use Rattle.code_laws.proofs.CodeOf.{IsCodeOf}
use Rattle.code_laws.proofs.InstructionSteps.{place_then, settles}
use Rattle.code_laws.proofs.Instructions.{Goes, settled, through, wait_by}
use Rattle.code_laws.proofs.InstructionsAlone.{arrived_alone}
use Rattle.code_laws.proofs.Ops.{OpAt}
use Rattle.code_laws.proofs.Past.{past_place}
use Rattle.code_laws.proofs.Same.{NoPart, sim_same}
use Rattle.code_laws.proofs.Sim.{Sim, sim_assoc, sim_ends, sim_from, sim_misfit, sim_raises}
use Rattle.code_laws.proofs.Spots.{Spot, failing, here, sim_op, standing}

-- both first do the same, and then each what follows
both : {A B C : Type 0} (s : Spot) (m : Doing A) (f : A → Doing B) (x : B → Doing Conf) (k : B → Doing C) {next : C → Doing Conf} → NoPart m
    → ((v : A) → Sim s.target s.run (after (f v) x (failing s)) (f v >>= k) next (failing s))
    → Sim s.target s.run (after (m >>= f) x (failing s)) ((m >>= f) >>= k) next (failing s)
unfolding after
both s m f x k alone more =
    sim_from (after_after m f Raises x (failing s)) (sim_assoc m f k Raises (sim_same m alone more (λ n. sim_raises n)))

-- a result is followed by what follows it
gives_then : {A C : Type 0} (s : Spot) (v : A) (x : A → Doing Conf) (k : A → Doing C) {next : C → Doing Conf}
    → Sim s.target s.run (x v) (k v) next (failing s) → Sim s.target s.run (after (Gives v) x (failing s)) (Gives v >>= k) next (failing s)
unfolding after
gives_then s v x k more = more

-- a task that was found has one of sixteen numbers
found_then : (s : Spot) (found : Option ℕ) (f : ℕ → Doing ℕ) (x : ℕ → Doing Conf) (k : ℕ → Doing Bool) (next : Bool → Doing Conf)
    → ((task : ℕ) → task < 16 → Sim s.target s.run (after (f task) x (failing s)) (f task >>= k) next (failing s))
    → Sim s.target s.run (after (task_or_fault found >>= f) x (failing s)) ((task_or_fault found >>= f) >>= k) next (failing s)
unfolding after
found_then s None f x k next more = sim_ends (fates.Fault TaskName)
found_then s (Some task) f x k next more = by (nat_lt task 16) refl
  where
    by : (few : Bool) → nat_lt task 16 ≡ few
        → Sim s.target s.run (after ((if few then Gives task else Misfit) >>= f) x (failing s)) (((if few then Gives task else Misfit) >>= f) >>= k) next (failing s)
    by true e = more task (ltb-true task 16 e)
    by false e = sim_misfit

-- the set of tasks that elements name, which a request can name
set_then : (s : Spot) (names : List (List ℕ)) (list : Lvalue) (left number set : ℕ) (x : ℕ → Doing Conf) (k : ℕ → Doing Bool) (next : Bool → Doing Conf) → set < 2 ^ 16
    → ((tasks : ℕ) → tasks < 2 ^ 16 → Sim s.target s.run (x tasks) (k tasks) next (failing s))
    → Sim s.target s.run (after (with_tasks names list left number set) x (failing s)) (with_tasks names list left number set >>= k) next (failing s)
unfolding with_tasks
set_then s names list zero number set x k next few more = gives_then s set x k (more set few)
set_then s names list (suc left) number set x k next few more =
    both s (at_element list number) _ x k (there_alone list number)
    (λ q. both s (read_value q) _ x k (read_value_alone q)
    (λ v. both s (text_in v) _ x k (text_alone v)
    (λ name. found_then s (position (bytes_eq name) names) (λ task. with_tasks names list left (number + 1) (with_task task set)) x k next
    (λ task low. set_then s names list left (number + 1) (with_task task set) x k next (with_task_below 16 task set low few) more))))

-- all have arrived, or the task waits
arrived : (s : Spot) (pc meeting tasks : ℕ) → OpAt s pc (ops.Arrive meeting) → OpAt s (pc + 1) (ops.Wait s.own.retry) → 1 ≤ s.target.code.deepest → tasks < 2 ^ 16
    → Sim s.target s.run (standing s pc (Plain (whole tasks) ∷ [])) (arrive meeting tasks) (settles s (pc + 1 + 1)) (failing s)
unfolding after
arrived s pc meeting tasks there wait room few =
    sim_op s pc (Plain (whole tasks) ∷ []) (ops.Arrive meeting) there room
    (rw (thousandths tasks, lt-ltb tasks (2 ^ 16) few) (through (arrive meeting tasks) arrived_alone (λ b. wait_by s (pc + 1) b wait room) (λ n. sim_raises n)))

met : (s : Spot) → IsCodeOf s.tree s.target → Claims s.target s.tree s.run → (labels : List ℕ) (pc : ℕ) (number : Option ℕ) (list : TypedPlace) (len : Option ℕ) (ps : List Placed) → PlaceCalls s.tree list
    → Goes s labels pc (OfPlace list ∷ Does (ops.TaskSet (unwrap_or len 0)) ∷ Does (ops.Arrive (unwrap_or number 0)) ∷ Waits ∷ []) ps
    (or_misfit number >>= λ meeting. place s.tree s.routine list >>= λ q. tasks_in s.tree.tasks q len >>= λ tasks. arrive meeting tasks)
unfolding after pieces_code pieces_need pieces_size
met s code claims labels pc None list len ps calls there room = sim_misfit
met s code claims labels pc (Some meeting) list None ps calls there room =
    place_then s code claims pc [] list (pieces_code s.tree s.routine labels s.own (pc + place_size list) (Does (ops.TaskSet 0) ∷ Does (ops.Arrive meeting) ∷ Waits ∷ []) ps)
    (λ q. tasks_in s.tree.tasks q None >>= λ tasks. arrive meeting tasks) calls there (omega (arith, room)) (λ q. sim_misfit)
met s code claims labels pc (Some meeting) list (Some len) ps calls there room =
    let behind = past_place s.target.code s.tree s.routine s.own pc list (pieces_code s.tree s.routine labels s.own (pc + place_size list) (Does (ops.TaskSet len) ∷ Does (ops.Arrive meeting) ∷ Waits ∷ []) ps) there in
    settled s (standing s pc []) _ (pc + place_size list + 1 + 1 + 1) (pc + (place_size list + (1 + (1 + (1 + 0))))) (omega arith)
    (place_then s code claims pc [] list (pieces_code s.tree s.routine labels s.own (pc + place_size list) (Does (ops.TaskSet len) ∷ Does (ops.Arrive meeting) ∷ Waits ∷ []) ps)
    (λ q. tasks_in s.tree.tasks q (Some len) >>= λ tasks. arrive meeting tasks) calls there (omega (arith, room))
    (λ q. sim_op s (pc + place_size list) (Place q ∷ []) (ops.TaskSet len) behind.0 (omega (arith, room))
    (sim_from (ap (λ (names : List (List ℕ)). pushes (here s (pc + place_size list) (Place q ∷ [])) [] (λ tasks. Plain (whole tasks)) (with_tasks names q len 1 0)) code.tasks)
    (set_then s s.tree.tasks q len 1 0 (λ tasks. standing s (pc + place_size list + 1) (Plain (whole tasks) ∷ [])) (λ tasks. arrive meeting tasks) _ (omega arith)
    (λ tasks few. arrived s (pc + place_size list + 1) meeting tasks behind.1.0 behind.1.1.0 (omega (arith, room)) few)))))

pub sync_goes : (s : Spot) → IsCodeOf s.tree s.target → Claims s.target s.tree s.run → (labels : List ℕ) (pc number : ℕ) (list : TypedPlace) (ps : List Placed) → PlaceCalls s.tree list
    → Goes s labels pc (OfPlace list ∷ Does (ops.TaskSet (list_length s.tree s.routine list)) ∷ Does (ops.Arrive (meeting_number s.tree number)) ∷ Waits ∷ []) ps
    (or_misfit (slice_get s.tree.meeting_of number) >>= λ meeting. place s.tree s.routine list >>= λ q.
    tasks_in s.tree.tasks q (lent_length s.tree s.routine list) >>= λ tasks. arrive meeting tasks)
sync_goes s code claims labels pc number list ps calls = met s code claims labels pc (slice_get s.tree.meeting_of number) list (lent_length s.tree s.routine list) ps calls
