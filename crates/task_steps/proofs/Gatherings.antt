-- A set of the tasks that the elements of a list name, element by element.
use Rattle.std.proofs.Common.{◌≡◌, refl, sym, ap, subst, ◌∙◌, inl, inr, ◌⊎◌, ℕ, suc, ◌+◌, ◌-◌, ◌<◌, ◌≤◌, List, bytes_eq, position, Option, None, Some, Result, Ok, Err, arith}
use Rattle.std.specs.Option.{option_and_then}
use Rattle.rapid_model.specs.declared.fate.Fate.TheVariants as fates
use Rattle.rapid_model.specs.declared.fate.Fault.{Fault}
use Rattle.rapid_model.specs.declared.part_name.PartName.{PartName}
use Rattle.rapid_model.specs.declared.request.Request.TheVariants.{ReadP}
use Rattle.rapid_model.specs.declared.value.Value.{Value}
use Rattle.typed_trees.specs.declared.datum.Datum.TheVariants.{Plain}
use Rattle.typed_trees.specs.declared.datum.Lvalue.{Lvalue}
use Rattle.typed_trees.specs.declared.datum.Root.{Root}
use Rattle.typed_trees.specs.declared.datum.Root.TheVariants as roots
use Rattle.rapid_meaning.specs.Data.{Data, datum_at}
use Rattle.rapid_meaning.specs.Doings.{Doing, Gives, Raises, ◌>>=◌, after, or_misfit}
use Rattle.rapid_meaning.specs.Meetings.{task_or_fault, with_task, with_tasks}
use Rattle.rapid_meaning.specs.Places.{at_element, element_root, load_from, part_in, path_of, place_of_element, read_value, there_in}
use Rattle.rapid_meaning.specs.Values.{text_in, value_in, whole}
use Rattle.rapid_meaning.proofs.Follows.{after_after}
use Rattle.stack_code.specs.CodeData.{CodeData}
use Rattle.stack_code.specs.Confs.{Conf}
use Rattle.stack_code.specs.Steps.{Here, pushes}
use Rattle.task_steps.specs.Alike.{Alike, tested}
use Rattle.task_steps.specs.Doing.{came, gathered, named}
use Rattle.task_steps.specs.Own.{IsOwn}
use Rattle.task_steps.specs.declared.steps.done.Done.TheVariants as dones
use Rattle.task_steps.specs.declared.operands.gathering.Gathering.{Gathering}
use Rattle.task_steps.specs.declared.requests.pending.Pending.TheVariants as pendings
use Rattle.task_steps.proofs.Along.{alike_is, alike_then}
use Rattle.task_steps.proofs.Readings.{reads_now}

-- pushes a set of tasks
abbrev pub pushes_set : Here → Doing ℕ → Doing Conf
pushes_set h m = pushes h h.conf.stack (λ set. Plain (whole set)) m

-- the elements of a list from one on
abbrev pub tasks_left : List (List ℕ) → Lvalue → ℕ → ℕ → ℕ → Doing ℕ
tasks_left names list len read set = with_tasks names list (len - read) (read + 1) set

-- with the task of an element, and then those of the elements after it
abbrev pub then_left : List (List ℕ) → Lvalue → ℕ → ℕ → ℕ → Value → Doing ℕ
then_left names list len read set v = named names set v >>= λ more. tasks_left names list len (read + 1) more

-- in another order
one_more : (names : List (List ℕ)) (list : Lvalue) (left number set : ℕ)
    → with_tasks names list (suc left) number set ≡ at_element list number >>= λ place. read_value place >>= λ v. named names set v >>= λ more. with_tasks names list left (number + 1) more
unfolding with_tasks after
one_more names list left number set = λ i. at_element list number >>= λ place. read_value place >>= λ v. in_order v i
  where
    rest : ℕ → Doing ℕ
    rest more = with_tasks names list left (number + 1) more

    found : List ℕ → Doing ℕ
    found name = task_or_fault (position (bytes_eq name) names)

    added : ℕ → Doing ℕ
    added task = Gives (with_task task set)

    in_order : (v : Value) → text_in v >>= (λ name. found name >>= λ task. added task >>= rest) ≡ named names set v >>= rest
    in_order v = sym (after_after (text_in v) (λ name. found name >>= added) Raises rest Raises ∙ λ i. text_in v >>= λ name. after_after (found name) added Raises rest Raises i)

element_is : (names : List (List ℕ)) (list : Lvalue) (len read set : ℕ) → read < len
    → tasks_left names list len read set ≡ at_element list (read + 1) >>= λ place. read_value place >>= then_left names list len read set
element_is names list len read set more =
    let left : len - read ≡ suc (len - (read + 1)) = omega arith in
    ap (λ (n : ℕ). with_tasks names list n (read + 1) set) left ∙ one_more names list (len - (read + 1)) (read + 1) set

-- the next element is looked up
pub element_next : (code : CodeData) (h : Here) (d : Data) (names : List (List ℕ)) (list : Lvalue) (len read set : ℕ) (o : Option Lvalue) → read < len
    → o ≡ there_in d (place_of_element list (read + 1)) (element_root list.root (read + 1))
    → Alike code (pushes_set h (tasks_left names list len read set)) d (pushes_set h (or_misfit o >>= λ place. read_value place >>= then_left names list len read set)) d
unfolding after
element_next code h d names list len read set o more is =
    alike_then code _ _ _ d d d (alike_is code _ _ d (ap (pushes_set h) (element_is names list len read set more)))
    (alike_then code _ _ _ d d d (reads_now code (λ e. pushes_set h (or_misfit (there_in e (place_of_element list (read + 1)) (element_root list.root (read + 1))) >>= λ place. read_value place >>= then_left names list len read set)) d)
    (alike_is code _ _ d (ap (λ (x : Option Lvalue). pushes_set h (or_misfit x >>= λ place. read_value place >>= then_left names list len read set)) (sym is))))

-- there is no element left
pub elements_read : (h : Here) (names : List (List ℕ)) (list : Lvalue) (len read set : ℕ) → len ≤ read → pushes_set h (tasks_left names list len read set) ≡ came h (Some (dones.Push (Plain (whole set))))
unfolding with_tasks after
elements_read h names list len read set all =
    let none : len - read ≡ 0 = omega arith in
    ap (λ (n : ℕ). pushes_set h (with_tasks names list n (read + 1) set)) none

-- there is no such element
pub element_missing : (h : Here) (next : Lvalue → Doing ℕ) → pushes_set h (or_misfit None >>= next) ≡ came h None
unfolding after
element_missing h next = refl

-- a persistent is asked for
pub element_asked : (h : Here) (place : Lvalue) (pers index : ℕ) (g : Gathering) → place.root ≡ roots.Pers pers index
    → pushes_set h (or_misfit (Some place) >>= λ p. read_value p >>= gathered h.code.tasks g) ≡ came h (Some (dones.Ask (ReadP pers (path_of index place.part)) (pendings.Gathered g)))
unfolding after
element_asked h place pers index g is = ap (λ (r : Root). pushes_set h ((load_from r place.part >>= value_in) >>= gathered h.code.tasks g)) is

-- the task's own data are read at once
reads_own : (code : CodeData) (h : Here) (d : Data) (root : Root) (part : PartName) (k : Value → Doing ℕ) → IsOwn root
    → Alike code (pushes_set h ((load_from root part >>= value_in) >>= k)) d (pushes_set h ((or_misfit (option_and_then (part_in part) (datum_at root d)) >>= value_in) >>= k)) d
unfolding after
reads_own code h d (roots.Slot slot) part k own =
    reads_now code (λ e. pushes_set h ((or_misfit (option_and_then (part_in part) (datum_at (roots.Slot slot) e)) >>= value_in) >>= k)) d
reads_own code h d (roots.Frame frame at) part k own =
    reads_now code (λ e. pushes_set h ((or_misfit (option_and_then (part_in part) (datum_at (roots.Frame frame at) e)) >>= value_in) >>= k)) d
reads_own code h d (roots.Pers pers index) part k own = absurd own

-- the outcome of a test, and then
abbrev pub tested_then : (h : Here) (r : Option (Result ℕ Fault)) (k : ℕ → Doing ℕ) → Doing Conf
tested_then h None k = came h None
tested_then h (Some (Ok more)) k = pushes_set h (k more)
tested_then h (Some (Err why)) k = came h (Some (dones.End (fates.Fault why)))

pub tests_set : (h : Here) (r : Option (Result ℕ Fault)) (k : ℕ → Doing ℕ) → pushes_set h (tested r >>= k) ≡ tested_then h r k
unfolding after
tests_set h None k = refl
tests_set h (Some (Ok more)) k = refl
tests_set h (Some (Err why)) k = refl

-- an element of the task's own
element_own : (code : CodeData) (h : Here) (d : Data) (names : List (List ℕ)) (list place : Lvalue) (len read set : ℕ) (r : Option (Result ℕ Fault)) → IsOwn place.root
    → tested r ≡ (or_misfit (option_and_then (part_in place.part) (datum_at place.root d)) >>= value_in) >>= named names set
    → Alike code (pushes_set h (or_misfit (Some place) >>= λ p. read_value p >>= then_left names list len read set)) d (tested_then h r (λ more. tasks_left names list len (read + 1) more)) d
unfolding after
element_own code h d names list place len read set r own is =
    let held : Doing Value = or_misfit (option_and_then (part_in place.part) (datum_at place.root d)) >>= value_in in
    let rest : ℕ → Doing ℕ = λ more. tasks_left names list len (read + 1) more in
    alike_then code _ _ _ d d d (reads_own code h d place.root place.part (then_left names list len read set) own)
    (alike_is code _ _ d (ap (pushes_set h) (sym (after_after held (named names set) Raises rest Raises) ∙ ap (λ (m : Doing ℕ). m >>= rest) (sym is)) ∙ tests_set h r rest))

own_root : (root : Root) → ((slot : ℕ) × (root ≡ roots.Slot slot)) ⊎ ((frame : ℕ) × (at : ℕ) × (root ≡ roots.Frame frame at)) → IsOwn root
own_root root (inl (slot, is)) = subst IsOwn (sym is) tt
own_root root (inr (frame, at, is)) = subst IsOwn (sym is) tt

-- the next element is the task's own: it is read, and its name looked up among those read from the code
pub element_read : (code : CodeData) (h : Here) (d : Data) (names found : List (List ℕ)) (list place : Lvalue) (len read set : ℕ) (r : Option (Result ℕ Fault)) → found ≡ names → read < len
    → Some place ≡ there_in d (place_of_element list (read + 1)) (element_root list.root (read + 1)) → ((slot : ℕ) × (place.root ≡ roots.Slot slot)) ⊎ ((frame : ℕ) × (at : ℕ) × (place.root ≡ roots.Frame frame at))
    → tested r ≡ (or_misfit (option_and_then (part_in place.part) (datum_at place.root d)) >>= value_in) >>= named found set
    → Alike code (pushes_set h (tasks_left names list len read set)) d (tested_then h r (λ more. tasks_left names list len (read + 1) more)) d
element_read code h d names found list place len read set r same more there own is =
    let held : Doing Value = or_misfit (option_and_then (part_in place.part) (datum_at place.root d)) >>= value_in in
    alike_then code _ _ _ d d d (element_next code h d names list len read set (Some place) more there)
    (element_own code h d names list place len read set r (own_root place.root own) (is ∙ ap (λ (ns : List (List ℕ)). held >>= named ns set) same))
