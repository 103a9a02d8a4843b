-- A well typed task with its cell's numbers, which sets a num of its module in a FOR and says a text; and the own
-- events of a task.
use Rattle.std.proofs.Common.{◌≡◌, refl, zero, suc, false, IsTrue, List, [], ◌∷◌, All, None, codes, arith}
use Rattle.rapid_model.specs.CellData.{CellData}
use Rattle.rapid_model.specs.declared.answer.Answer.{Answer}
use Rattle.rapid_model.specs.declared.answer.Answer.TheVariants.{Go, Ok, Trap}
use Rattle.rapid_model.specs.declared.event.Event.{Event}
use Rattle.rapid_model.specs.declared.request.Request.{Request}
use Rattle.rapid_model.specs.declared.request.Request.TheVariants.{Look, Leave}
use Rattle.rapid_model.specs.declared.sort.Sort.TheVariants as sorts
use Rattle.rapid_model.specs.Sorts.{has_values}
use Rattle.typed_trees.specs.Plain.{TypedLocal, TypedPers, TypedRoutine, TypedSlot, TypedStmt, TypedTree, For, stmts_of}
use Rattle.typed_trees.specs.declared.datum.Datum.TheVariants.{Plain}
use Rattle.typed_trees.specs.declared.expr.TreeRoot.TheVariants as roots
use Rattle.rapid_meaning.specs.Answering.{performed}
use Rattle.rapid_meaning.specs.Data.{frame_at, with_frame}
use Rattle.rapid_meaning.specs.Doings.{after}
use Rattle.rapid_meaning.specs.Runs.{asked_after, deep, state_after}
use Rattle.rapid_meaning.proofs.Forms.{stepping_trapped}
use Rattle.rapid_meaning.proofs.Trees.{assigns, module_num, num, num_row, number, proc, says, stored, task_of, whole_of}
use Rattle.tree_typing.specs.Kinds.{Counts}
use Rattle.tree_typing.specs.Numbered.{Numbered}
use Rattle.tree_typing.specs.OwnEvents.{own_events}
use Rattle.tree_typing.specs.Setting.{Setting}
use Rattle.tree_typing.specs.Statements.{AreStmts}
use Rattle.tree_typing.specs.WellTyped.{AreFirst, IsRoutine, WellTyped, around_in, is_datum_of}

all_none : {A : Type 0} (P : A → Type 0) → All P []
all_none P k d few = absurd (omega (arith, few))

all_more : {A : Type 0} (P : A → Type 0) (x : A) (xs : List A) → P x → All P xs → All P (x ∷ xs)
all_more P x xs p all zero d few = p
all_more P x xs p all (suc k) d few = all k d (omega (arith, few))

-- FOR i FROM 1 TO 3 DO x := i; ENDFOR TPWrite "done";
counts : TypedStmt
counts = For 0 0 (num 1) (num 3) None (stmts_of (assigns (module_num 0) (stored (whole_of (roots.Local 0) sorts.Num)) ∷ []))

main : TypedRoutine
unfolding counts
main = record (proc (counts ∷ says (codes "done") ∷ [])) { loops = 1 }

tree : TypedTree
unfolding main
tree = record (task_of (num_row 0 ∷ []) (main ∷ [])) { axes = 0 }

first_is : AreFirst sorts.Num None (Plain (number 0) ∷ [])
first_is = (refl, all_more (λ x. IsTrue (is_datum_of sorts.Num x)) (Plain (number 0)) [] refl (all_none (λ x. IsTrue (is_datum_of sorts.Num x))))

abbrev setting : Setting
unfolding tree
setting = record { signals = 0; tree = tree }

list_is : AreStmts setting (around_in main false main.list) main.list
unfolding tree setting
list_is = (
  (refl, (refl, refl), (refl, refl), tt, ((sorts.Num, refl, (refl, sorts.Num, (num_row 0, refl, (refl, refl)), refl), (refl, refl, (refl, sorts.Num, (Counts, refl, (refl, refl)), refl))), tt)),
  (record { arm = refl; are_needed = ((refl, refl), tt); are_options = tt; chosen = omega arith }, tt),
)

main_is : IsRoutine setting main
unfolding main
main_is = record { locals = all_none (λ (row : TypedLocal). AreFirst row.sort row.len row.first); list = list_is; handler = tt; takes = tt }

well_typed : WellTyped 0 tree
unfolding tree setting
well_typed = record {
  slots = all_more (λ (row : TypedSlot). AreFirst row.sort row.len row.first) (num_row 0) [] first_is (all_none (λ (row : TypedSlot). AreFirst row.sort row.len row.first));
  pers = all_none (λ (row : TypedPers). IsTrue (has_values row.sort));
  routines = all_more (IsRoutine setting) main [] main_is (all_none (IsRoutine setting));
  main = record { routine = main; there = refl; procedure = refl; takes_nothing = refl };
  axes = refl;
}

cell : CellData
cell = record { steps = 100; tasks = record { name = codes "A"; arm = None; axes = 0 } ∷ []; signals = []; pers = []; meetings = []; zones = []; inputs = [] }

numbered : Numbered cell 0 tree
unfolding tree cell
numbered = record {
  task_row = record { name = codes "A"; arm = None; axes = 0 };
  there = refl;
  tasks = refl;
  few_tasks = omega arith;
  axes = refl;
  starts = refl;
  as_many_pers = refl;
  pers = λ row number p e f. absurd cc;
  as_many_meetings = refl;
  meetings = λ row number e. absurd cc;
}

-- another task, with a trap at the first iteration of its FOR: what it asked, each request with its answer
abbrev event : Request → Answer → Event
event request a = record { actor = 3; request = request; answer = a }

trap_is_left : own_events 3 stepping_trapped (Go 0 ∷ Trap 1 1 ∷ Ok ∷ Go 2 ∷ []) ≡ event Look (Go 0) ∷ event Look (Trap 1 1) ∷ event Leave Ok ∷ event Look (Go 2) ∷ []
unfolding asked_after state_after deep performed after frame_at with_frame
trap_is_left = refl
