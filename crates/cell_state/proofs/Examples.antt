-- The definitions on two tasks, answer by answer, and on a cell after its first events.
use Rattle.std.proofs.Common.{◌≡◌, refl, ℕ, zero, suc, pos, neg_ℤ, List, [], ◌∷◌, Option, None, Some, subst}
use Rattle.std.specs.Prelude.{codes, map, slice_get}
use Rattle.rapid_model.specs.CellData.{CellData}
use Rattle.rapid_model.specs.Own.{answers_of}
use Rattle.rapid_model.specs.declared.answer.Answer.{Answer}
use Rattle.rapid_model.specs.declared.answer.Answer.TheVariants.{Ok, Val}
use Rattle.rapid_model.specs.declared.at.At.{At}
use Rattle.rapid_model.specs.declared.event.Event.{Event}
use Rattle.rapid_model.specs.declared.fate.Fate.TheVariants as fates
use Rattle.rapid_model.specs.declared.instruction.Instruction.TheVariants as instructions
use Rattle.rapid_model.specs.declared.operator.Operator.TheVariants as operators
use Rattle.rapid_model.specs.declared.request.Request.{Request}
use Rattle.rapid_model.specs.declared.request.Request.TheVariants.{End, Input, Look, ReadP, WriteP}
use Rattle.rapid_model.specs.declared.sort.Sort.TheVariants as sorts
use Rattle.rapid_model.specs.declared.value.Value.{Value}
use Rattle.rapid_model.specs.declared.value.Value.TheVariants.{Num}
use Rattle.typed_trees.specs.Plain.{Argument, Assign, Given, Instruct, Optional, TypedPlace, TypedTree, args_of}
use Rattle.typed_trees.specs.declared.datum.Datum.TheVariants.{Plain}
use Rattle.typed_trees.specs.declared.expr.TreeRoot.TheVariants as roots
use Rattle.rapid_meaning.specs.Answering.{performed, sort_of_pers}
use Rattle.rapid_meaning.specs.Doings.{after}
use Rattle.rapid_meaning.specs.Runs.{deep, state_after}
use Rattle.rapid_meaning.proofs.Asked.{go}
use Rattle.rapid_meaning.proofs.SmallTasks.{whole_path}
use Rattle.rapid_meaning.proofs.Trees.{between, module_num, num, num_row, number, pers_row, proc, quoted, stored, task_of, the_num, whole_of, with_pers}
use Rattle.stack_code.proofs.CodeAsked.{compiled_stands, tree_stands}
use Rattle.cell_meaning.proofs.MoreEvents.{event}
use Rattle.cell_state.specs.States.{CellStateData, IsStateAfter, TaskStateData, reached, state_in}
use Rattle.cell_state.specs.Traces.{event_place}

abbrev k : TypedPlace
k = whole_of (roots.Pers 0) sorts.Num

-- the first two statements of main begin at these bytes
abbrev copying : TypedTree
copying = with_pers (task_of (num_row 1 ∷ []) (proc (
    Assign 54 (module_num 0) (stored k)
    ∷ Assign 62 k (between (the_num 0) operators.Add (num 1)) ∷ []) ∷ [])) (pers_row sorts.Num (number 7))

abbrev at : ℕ → Option At
at byte = Some (record { «module» = 0; byte = byte })

-- its module datum holds this
abbrev shown : ℕ → Option Request → Value → Option TaskStateData
shown byte next x = Some (record { place = at byte; next = next; values = Plain x ∷ [] })

abbrev minus_2_5 : Value
minus_2_5 = Num (neg_ℤ (pos 2_500))

abbrev minus_1_5 : Value
minus_1_5 = Num (neg_ℤ (pos 1_500))

abbrev all_answers : List Answer
all_answers = go ∷ Val minus_2_5 ∷ go ∷ Ok ∷ Ok ∷ []

-- before its first answer and after each: while the persistent is being read, the datum still holds its first value
abbrev its_states : List (Option TaskStateData)
its_states =
    shown 54 (Some Look) (number 1)
    ∷ shown 54 (Some (ReadP 0 whole_path)) (number 1)
    ∷ shown 62 (Some Look) minus_2_5
    ∷ shown 62 (Some (WriteP 0 whole_path minus_1_5)) minus_2_5
    ∷ shown 62 (Some (End fates.Done)) minus_2_5
    ∷ shown 62 None minus_2_5
    ∷ []

copies : map state_in (tree_stands copying [] all_answers) ≡ its_states
unfolding tree_stands
copies = refl

its_code_copies : map state_in (compiled_stands copying all_answers) ≡ its_states
unfolding compiled_stands
its_code_copies = refl

-- a task without statements asks its End first, and has no place
empty_main : map state_in (tree_stands (task_of [] (proc [] ∷ [])) [] (Ok ∷ []))
    ≡ Some (record { place = None; next = Some (End fates.Done); values = [] }) ∷ Some (record { place = None; next = None; values = [] }) ∷ []
unfolding tree_stands
empty_main = refl

-- a task that adds 1 to a persistent and says it, in a cell that gives it another first value
abbrev counting : TypedTree
counting = with_pers (task_of [] (proc (
    Assign 38 k (between (stored k) operators.Add (num 1))
    ∷ Instruct 50 instructions.TPWrite (args_of (Given (quoted (codes "k=")) ∷ Optional (codes "Num") (Argument (Given (stored k))) ∷ [])) ∷ []) ∷ []))
    (pers_row sorts.Num (number 7))

abbrev cell : CellData
cell = record {
  steps = 100;
  tasks = record { name = codes "A"; arm = None; axes = 0 } ∷ [];
  signals = [];
  pers = record { name = codes "k"; owner = None; sort = sorts.Num; len = None; first = minus_2_5 ∷ [] } ∷ [];
  meetings = [];
  zones = [];
  inputs = [];
}

abbrev counts : Option Request → Value → CellStateData
counts next value = record { tasks = record { place = at 38; next = next; values = [] } ∷ []; pers = (value ∷ []) ∷ [] }

abbrev two_answers : List Answer
two_answers = go ∷ Val minus_2_5 ∷ []

abbrev two_events : List Event
two_events = event 0 Look go ∷ event 0 (ReadP 0 whole_path) (Val minus_2_5) ∷ []

abbrev writes : Option Request
writes = Some (WriteP 0 whole_path minus_1_5)

begins : Some (record { place = at 38; next = Some Look; values = [] }) ≡ reached counting []
unfolding state_after deep performed after sort_of_pers
begins = refl

reads : Some (record { place = at 38; next = writes; values = [] }) ≡ reached counting two_answers
unfolding state_after deep performed after sort_of_pers
reads = refl

-- the cell before any event
first_state : IsStateAfter cell (counting ∷ []) [] (counts (Some Look) minus_2_5)
first_state = record { one_each = refl; tasks = each; pers = refl }
  where
    each : (task : ℕ) (tree : TypedTree) → slice_get (counting ∷ []) task ≡ Some tree → slice_get (counts (Some Look) minus_2_5).tasks task ≡ reached tree []
    each zero tree there = let same : counting ≡ tree = cc in subst (λ (t : TypedTree). slice_get (counts (Some Look) minus_2_5).tasks 0 ≡ reached t []) same begins
    each (suc task) tree there = cc

-- after two events it is about to write: the persistent still holds what it read
second_state : IsStateAfter cell (counting ∷ []) two_events (counts writes minus_2_5)
second_state = record { one_each = refl; tasks = each; pers = refl }
  where
    each : (task : ℕ) (tree : TypedTree) → slice_get (counting ∷ []) task ≡ Some tree → slice_get (counts writes minus_2_5).tasks task ≡ reached tree (answers_of task two_events)
    each zero tree there = let same : counting ≡ tree = cc in subst (λ (t : TypedTree). slice_get (counts writes minus_2_5).tasks 0 ≡ reached t two_answers) same reads
    each (suc task) tree there = cc

-- a Look is asked at its own place, and what comes after it at the same; without a Look there is none
look_place : event_place (counting ∷ []) [] (event 0 Look go) ≡ at 38
unfolding state_after deep performed after sort_of_pers
look_place = refl

read_place : event_place (counting ∷ []) (event 0 Look go ∷ []) (event 0 (ReadP 0 whole_path) (Val minus_2_5)) ≡ at 38
unfolding state_after deep performed after sort_of_pers
read_place = refl

no_place : event_place (task_of [] (proc [] ∷ []) ∷ []) [] (event 0 (End fates.Done) Ok) ≡ None
unfolding state_after deep performed after
no_place = refl

script_place : event_place (counting ∷ []) two_events (event 1 (Input 0) Ok) ≡ None
script_place = refl
