-- Operations that read and write data.
use Rattle.std.proofs.Common.{◌≡◌, refl, ap, ◌∙◌, subst, ℕ, List, ◌∷◌, Bool, true, false, Option, None, Some}
use Rattle.std.specs.Option.{option_and_then, option_map}
use Rattle.rapid_model.specs.declared.part_name.PartName.{PartName}
use Rattle.rapid_model.specs.declared.request.Request.TheVariants.{WriteP}
use Rattle.rapid_model.specs.declared.value.Value.{Value}
use Rattle.rapid_model.specs.declared.value.Value.TheVariants as values
use Rattle.rapid_values.specs.Values.{put_part}
use Rattle.machine_stacks.specs.Forms.{as_value}
use Rattle.typed_trees.specs.declared.datum.Datum.{Datum}
use Rattle.typed_trees.specs.declared.datum.Datum.TheVariants as datums
use Rattle.typed_trees.specs.declared.datum.Lvalue.{Lvalue}
use Rattle.typed_trees.specs.declared.datum.Root.{Root}
use Rattle.typed_trees.specs.declared.datum.Root.TheVariants as roots
use Rattle.rapid_meaning.specs.Answering.{performed}
use Rattle.rapid_meaning.specs.Data.{Data, datum_at, put_at}
use Rattle.rapid_meaning.specs.Doings.{Act, Doing, Gives, Misfit, Raises, Reads, Writes, after, done, or_misfit, ◌>>=◌}
use Rattle.rapid_meaning.specs.Places.{load_from, part_in, path_of, put_in, set_unless, store_at, test_at, writes_at}
use Rattle.rapid_meaning.specs.Values.{truth_in, value_in}
use Rattle.stack_code.specs.CodeData.{CodeData}
use Rattle.stack_code.specs.Confs.{Conf}
use Rattle.stack_code.specs.Steps.{Here, as_truth, does, pushes, to_next}
use Rattle.task_steps.specs.Alike.{Alike, Turns, with_stack}
use Rattle.task_steps.specs.Doing.{came, here_of}
use Rattle.task_steps.specs.Own.{IsOwn}
use Rattle.task_steps.specs.Seen.{Seen}
use Rattle.task_steps.specs.declared.steps.done.Done.{Done}
use Rattle.task_steps.specs.declared.steps.done.Done.TheVariants as dones
use Rattle.task_steps.specs.declared.requests.pending.Pending.TheVariants as pendings
use Rattle.task_steps.proofs.Along.{alike_is, alike_then}
use Rattle.task_steps.proofs.Readings.{push_read, reads_now, writes_now}

-- a part of a value that is replaced
pub put_plain : (x y : Datum) (v w : Value) (name : PartName) → as_value x ≡ Some v → as_value y ≡ Some w → put_in name x y ≡ option_map datums.Plain (put_part w name v)
put_plain (datums.Plain a) (datums.Plain b) v w name e f =
    let first : a ≡ v = cc in
    let second : b ≡ w = cc in
    ap (λ u. option_map datums.Plain (put_part b name u)) first ∙ ap (λ u. option_map datums.Plain (put_part u name v)) second
put_plain (datums.Plain a) (datums.Mark n) v w name e f = cc
put_plain (datums.Plain a) (datums.Shape s) v w name e f = cc
put_plain (datums.Plain a) (datums.Place p) v w name e f = cc
put_plain (datums.Mark n) y v w name e f = cc
put_plain (datums.Shape s) y v w name e f = cc
put_plain (datums.Place p) y v w name e f = cc

-- what an operation does with the operands that it has popped, and then with the data
pub turns_at : (code : CodeData) (s0 s1 s2 : Seen) (K : Here → List Datum → Doing Conf) (done : Option Done) → s1 ≡ with_stack s1.conf.stack s0
    → Turns code (K (here_of code s1.conf) s1.conf.stack) s1.data' done s2 → ((h : Here) (stack rest : List Datum) → K (record h { conf = record h.conf { stack = stack } }) rest ≡ K h rest)
    → Turns code (K (here_of code s0.conf) s1.conf.stack) s0.data' done s2
turns_at code s0 s1 s2 K done same turn stable =
    let moved : Turns code (K (here_of code (with_stack s1.conf.stack s0).conf) s1.conf.stack) s0.data' done s2 =
    subst (λ (t : Seen). Turns code (K (here_of code t.conf) s1.conf.stack) t.data' done s2) same turn in
    rw (stable (here_of code s0.conf) s1.conf.stack s1.conf.stack) at moved

-- what the task's own data hold is read silently
pub load_own : (code : CodeData) (h : Here) (d : Data) (root : Root) (part : PartName) (o : Option Datum) → IsOwn root → o ≡ option_and_then (part_in part) (datum_at root d)
    → Alike code (pushes h h.conf.stack (λ x. x) (load_from root part)) d (came h (option_map dones.Push o)) d
load_own code h d (roots.Slot slot) part o own is = push_read code h d (λ x. x) (λ e. option_and_then (part_in part) (datum_at (roots.Slot slot) e)) o is
load_own code h d (roots.Frame frame at) part o own is = push_read code h d (λ x. x) (λ e. option_and_then (part_in part) (datum_at (roots.Frame frame at) e)) o is
load_own code h d (roots.Pers pers index) part o own is = absurd own

-- what goes on after something was done
abbrev pub if_put : {A : Type 0} → Option A → Doing Conf → Doing Conf
if_put None next = Misfit
if_put (Some put) next = next

-- a datum is put among the task's own, and then something follows
put_then : {A : Type 0} → (code : CodeData) (C : Act → Doing Conf) (next : Doing Conf) (d e : Data) (root : Root) (part : PartName) (new : Datum) (put : Option A) → IsOwn root
    → ((f : Data → Act) → C (Reads f) ≡ Reads (λ x. C (f x))) → C Misfit ≡ Misfit → ((x : Data) → C (Writes x done) ≡ Writes x next)
    → option_map (λ it. e) put ≡ option_map (λ x. put_at root x d) (option_and_then (put_in part new) (datum_at root d)) → Alike code (C (store_at root part new)) d (if_put put next) e
unfolding performed
put_then {A = A} code C next d e root part new put own reads misfits writes is = at_root root own is
  where
    stopped : Alike code (C Misfit) d Misfit e
    stopped = rw misfits (record { same = λ left. refl })

    put_by : (root : Root) (o : Option Datum) (put : Option A) → option_map (λ it. e) put ≡ option_map (λ x. put_at root x d) o → Alike code (C (writes_at root d o)) d (if_put put next) e
    put_by root None None is = stopped
    put_by root None (Some it) is = cc
    put_by root (Some x) None is = cc
    put_by root (Some x) (Some it) is =
        let same : put_at root x d ≡ e = cc in
        alike_then code _ _ _ d d e (alike_is code _ _ d (writes (put_at root x d)))
        (subst (λ (y : Data). Alike code (Writes (put_at root x d) next) d next y) same (writes_now code (put_at root x d) next d))

    at_root : (root : Root) → IsOwn root → option_map (λ it. e) put ≡ option_map (λ x. put_at root x d) (option_and_then (put_in part new) (datum_at root d)) → Alike code (C (store_at root part new)) d (if_put put next) e
    at_root (roots.Slot slot) own is =
        alike_then code _ _ _ d d e (alike_is code _ _ d (reads (λ x. writes_at (roots.Slot slot) x (option_and_then (put_in part new) (datum_at (roots.Slot slot) x)))))
        (alike_then code _ _ _ d d e (reads_now code (λ x. C (writes_at (roots.Slot slot) x (option_and_then (put_in part new) (datum_at (roots.Slot slot) x)))) d)
        (put_by (roots.Slot slot) (option_and_then (put_in part new) (datum_at (roots.Slot slot) d)) put is))
    at_root (roots.Frame frame at) own is =
        alike_then code _ _ _ d d e (alike_is code _ _ d (reads (λ x. writes_at (roots.Frame frame at) x (option_and_then (put_in part new) (datum_at (roots.Frame frame at) x)))))
        (alike_then code _ _ _ d d e (reads_now code (λ x. C (writes_at (roots.Frame frame at) x (option_and_then (put_in part new) (datum_at (roots.Frame frame at) x)))) d)
        (put_by (roots.Frame frame at) (option_and_then (put_in part new) (datum_at (roots.Frame frame at) d)) put is))
    at_root (roots.Pers pers index) own is = absurd own

pub store_own : {A : Type 0} → (code : CodeData) (h : Here) (d e : Data) (root : Root) (part : PartName) (new : Datum) (put : Option A) → IsOwn root
    → option_map (λ it. e) put ≡ option_map (λ x. put_at root x d) (option_and_then (put_in part new) (datum_at root d))
    → Alike code (does h h.conf.stack (store_at root part new)) d (if_put put (to_next h h.conf.stack)) e
unfolding after
store_own code h d e root part new put own is = put_then code (λ m. does h h.conf.stack m) (to_next h h.conf.stack) d e root part new put own (λ f. refl) refl (λ x. refl) is

-- a value is written to a persistent by a request
pub writes_value : (h : Here) (pers index : ℕ) (part : PartName) (new : Datum) (v : Value) → as_value new ≡ Some v
    → does h h.conf.stack (store_at (roots.Pers pers index) part new) ≡ came h (Some (dones.Ask (WriteP pers (path_of index part) v) pendings.Confirmed))
unfolding after
writes_value h pers index part (datums.Plain w) v e = let same : w ≡ v = cc in ap (λ u. came h (Some (dones.Ask (WriteP pers (path_of index part) u) pendings.Confirmed))) same
writes_value h pers index part (datums.Mark n) v e = cc
writes_value h pers index part (datums.Shape s) v e = cc
writes_value h pers index part (datums.Place p) v e = cc

pub writes_none : (h : Here) (pers index : ℕ) (part : PartName) (new : Datum) → as_value new ≡ None → does h h.conf.stack (store_at (roots.Pers pers index) part new) ≡ came h None
unfolding after
writes_none h pers index part (datums.Plain w) e = cc
writes_none h pers index part (datums.Mark n) e = refl
writes_none h pers index part (datums.Shape s) e = refl
writes_none h pers index part (datums.Place p) e = refl

-- TestAndSet of a bool that is FALSE
pub set_own : {A : Type 0} → (code : CodeData) (h : Here) (d e : Data) (place : Lvalue) (put : Option A) → IsOwn place.root
    → option_map (λ it. e) put ≡ option_map (λ x. put_at place.root x d) (option_and_then (put_in place.part (datums.Plain (values.Bool true))) (datum_at place.root d))
    → Alike code (pushes h h.conf.stack as_truth (set_unless place false)) d (if_put put (to_next h (as_truth true ∷ h.conf.stack))) e
unfolding after
set_own code h d e place put own is =
    put_then code (λ m. pushes h h.conf.stack as_truth (after m (λ it. Gives true) Raises)) (to_next h (as_truth true ∷ h.conf.stack)) d e place.root place.part (datums.Plain (values.Bool true)) put own (λ f. refl) refl (λ x. refl) is

-- a bool of the task's own is read, and then tested
abbrev set_with : Lvalue → Doing Datum → Doing Bool
set_with place read = (read >>= value_in) >>= λ v. truth_in v >>= λ b. set_unless place b

abbrev bool_of : Option Datum → Doing Bool
bool_of o = (or_misfit o >>= value_in) >>= truth_in

pub bool_held : (x : Datum) (v : Value) → as_value x ≡ Some v → value_in x >>= truth_in ≡ truth_in v
unfolding after
bool_held (datums.Plain w) v e = let same : w ≡ v = cc in ap (λ u. truth_in u) same
bool_held (datums.Mark n) v e = cc
bool_held (datums.Shape s) v e = cc
bool_held (datums.Place p) v e = cc

pub no_bool_held : (x : Datum) → as_value x ≡ None → value_in x >>= truth_in ≡ Misfit
unfolding after
no_bool_held (datums.Plain w) e = cc
no_bool_held (datums.Mark n) e = refl
no_bool_held (datums.Shape s) e = refl
no_bool_held (datums.Place p) e = refl

set_then : (place : Lvalue) (o : Option Datum) → set_with place (or_misfit o) ≡ bool_of o >>= λ b. set_unless place b
unfolding after
set_then place None = refl
set_then place (Some (datums.Plain v)) = refl
set_then place (Some (datums.Mark n)) = refl
set_then place (Some (datums.Shape s)) = refl
set_then place (Some (datums.Place p)) = refl

pub test_own : (code : CodeData) (h : Here) (d e : Data) (root : Root) (part : PartName) (was : Option Bool) (m : Doing Conf) → IsOwn root
    → or_misfit was ≡ bool_of (option_and_then (part_in part) (datum_at root d))
    → Alike code (pushes h h.conf.stack as_truth (or_misfit was >>= λ b. set_unless (record { root = root; part = part }) b)) d m e
    → Alike code (pushes h h.conf.stack as_truth (test_at root (record { root = root; part = part }))) d m e
unfolding after
test_own code h d e root part was m own is turn = by root own is turn
  where
    tests : (place : Lvalue) (o : Option Datum) → or_misfit was ≡ bool_of o → Alike code (pushes h h.conf.stack as_truth (or_misfit was >>= λ b. set_unless place b)) d m e
        → Alike code (pushes h h.conf.stack as_truth (set_with place (or_misfit o))) d m e
    tests place o is turn =
        alike_then code _ _ _ d d e (alike_is code _ _ d (ap (λ (x : Doing Bool). pushes h h.conf.stack as_truth x) (set_then place o)))
        (rw is at turn)

    by : (root : Root) → IsOwn root → or_misfit was ≡ bool_of (option_and_then (part_in part) (datum_at root d))
        → Alike code (pushes h h.conf.stack as_truth (or_misfit was >>= λ b. set_unless (record { root = root; part = part }) b)) d m e
        → Alike code (pushes h h.conf.stack as_truth (test_at root (record { root = root; part = part }))) d m e
    by (roots.Slot slot) own is turn =
        alike_then code _ _ _ d d e (reads_now code (λ x. pushes h h.conf.stack as_truth (set_with (record { root = roots.Slot slot; part = part }) (or_misfit (option_and_then (part_in part) (datum_at (roots.Slot slot) x))))) d)
        (tests (record { root = roots.Slot slot; part = part }) (option_and_then (part_in part) (datum_at (roots.Slot slot) d)) is turn)
    by (roots.Frame frame at) own is turn =
        alike_then code _ _ _ d d e (reads_now code (λ x. pushes h h.conf.stack as_truth (set_with (record { root = roots.Frame frame at; part = part }) (or_misfit (option_and_then (part_in part) (datum_at (roots.Frame frame at) x))))) d)
        (tests (record { root = roots.Frame frame at; part = part }) (option_and_then (part_in part) (datum_at (roots.Frame frame at) d)) is turn)
    by (roots.Pers pers index) own is turn = absurd own
