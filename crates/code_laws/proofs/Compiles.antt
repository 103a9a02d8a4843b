-- The compiled code of a tree is the code of the tree.
use Rattle.std.proofs.Common.{◌≡◌, refl, sym, ap, ◌∙◌, subst, ℕ, zero, suc, ◌+◌, ◌==◌, ◌≤◌, max, List, [], ◌∷◌, length, drop, flat_map, Option, None, Some, slice_get, if◌then◌else◌, arith}
use Rattle.std.specs.Prelude.{All}
use Rattle.std.specs.Option.{option_and_then}
use Rattle.std.proofs.Math.Nat.{le-max_left, le-max_right}
use Rattle.std.proofs.Math.Seq.{drop-append_seam}
use Rattle.std.proofs.lemmas.List.{drop-drop}
use Rattle.rapid_model.specs.declared.sort.Sort.{Sort}
use Rattle.typed_trees.specs.Plain.{TypedPers, TypedRoutine, TypedTree}
use Rattle.typed_trees.specs.declared.datum.Datum.{Datum}
use Rattle.rapid_meaning.specs.Answering.{fitting_of, is_trap_row, sort_of_pers}
use Rattle.rapid_meaning.specs.Frames.{first_values}
use Rattle.stack_code.specs.CodeRuns.{fitting_by, is_trap, sort_in}
use Rattle.stack_code.specs.Compiled.{compiled, deepest_in, handlers_of, part_need, placed_in, routine_rows, routine_size, routines_code, sorts_of}
use Rattle.stack_code.specs.Needs.{stmts_need}
use Rattle.stack_code.specs.Placed.{placed_at, StandsAt}
use Rattle.task_code.proofs.Rows.{placed_there}
use Rattle.code_laws.specs.Orderly.{IsOrderly, IsOrderlyRoutine}
use Rattle.code_laws.proofs.CodeOf.{Found, IsCodeOf}
use Rattle.code_laws.proofs.PastRoutines.{past_routine}
use Rattle.code_laws.proofs.Sim.{Target}
use Rattle.code_laws.proofs.Spots.{each_stands}

-- the compiled code, and the answers that fit it
abbrev pub target_of : TypedTree → Target
target_of tree = record { code = compiled tree; by = fitting_by (compiled tree) }

-- the answers that fit

same_sort : (numbers : List ℕ) (rows : List TypedPers) (pers : ℕ) → sort_in (sorts_of numbers rows) pers ≡ sort_of_pers numbers rows pers
unfolding sort_in sorts_of sort_of_pers
same_sort [] rows pers = refl
same_sort (number ∷ numbers) [] pers = refl
same_sort (number ∷ numbers) (row ∷ rows) pers = ap (λ (x : Option Sort). if number == pers then Some row.sort else x) (same_sort numbers rows pers)

-- a routine's row says whether it is a trap
pub same_trap : (tree : TypedTree) (pc first : ℕ) (routines : List TypedRoutine) (number : ℕ) → is_trap (slice_get (routine_rows tree pc first routines) number) ≡ is_trap_row (slice_get routines number)
unfolding routine_rows
same_trap tree pc first [] number = refl
same_trap tree pc first (routine ∷ more) zero = refl
same_trap tree pc first (routine ∷ more) (suc number) = same_trap tree (pc + routine_size tree routine) (first + length (first_values routine)) more number

same_fits : (tree : TypedTree) → fitting_by (compiled tree) ≡ fitting_of tree
same_fits tree = λ i trapped. record {
  sorts = λ pers. same_sort tree.pers_of tree.pers pers i;
  traps = λ number. same_trap tree 0 0 tree.routines number i;
  trapped = trapped;
  axes = tree.axes;
}

-- The routines of the code from a given one: their rows, their handlers, their code from a place, and their initial
-- values.
record From (tree : TypedTree) (t : Target) (base pc first : ℕ) (routines : List TypedRoutine) : Type 0 where
  rows : (k : ℕ) → slice_get t.code.routines (base + k) ≡ slice_get (routine_rows tree pc first routines) k
  handlers : (k : ℕ) → slice_get t.code.handlers (base + k) ≡ slice_get (handlers_of tree pc routines) k
  code : StandsAt t.code pc (routines_code tree pc routines)
  firsts : drop first t.code.firsts ≡ flat_map first_values routines
  room : deepest_in tree routines ≤ t.code.deepest
  orderly : All (IsOrderlyRoutine tree) routines

next_from : (tree : TypedTree) (t : Target) (base pc first : ℕ) (routine : TypedRoutine) (more : List TypedRoutine) → From tree t base pc first (routine ∷ more)
    → From tree t (base + 1) (pc + routine_size tree routine) (first + length (first_values routine)) more
unfolding routine_rows handlers_of routines_code deepest_in
next_from tree t base pc first routine more from = record {
  rows = λ k. ap (λ (n : ℕ). slice_get t.code.routines n) (omega arith) ∙ from.rows (suc k);
  handlers = λ k. ap (λ (n : ℕ). slice_get t.code.handlers n) (omega arith) ∙ from.handlers (suc k);
  code = past_routine t.code tree routine pc (routines_code tree (pc + routine_size tree routine) more) from.code;
  firsts = sym (drop-drop (length (first_values routine)) first t.code.firsts)
      ∙ (ap (λ (xs : List Datum). drop (length (first_values routine)) xs) from.firsts ∙ drop-append_seam (first_values routine) (flat_map first_values more));
  room = omega (arith, from.room, le-max_right (max (stmts_need tree routine routine.list) (part_need tree routine routine.handler)) (deepest_in tree more));
  orderly = λ k d within. from.orderly (suc k) d (omega arith);
}

-- the first of them
found_first : (tree : TypedTree) (t : Target) (base pc first : ℕ) (routine : TypedRoutine) (more : List TypedRoutine) → From tree t base pc first (routine ∷ more)
    → Found tree t (base + 0) routine
unfolding routine_rows handlers_of routines_code deepest_in
found_first tree t base pc first routine more from = record {
  entry = pc;
  first = first;
  row = from.rows 0;
  behind = routines_code tree (pc + routine_size tree routine) more;
  code = from.code;
  others = flat_map first_values more;
  firsts = from.firsts;
  handler = ap (λ (x : Option (Option ℕ)). option_and_then (λ handler. handler) x) (from.handlers 0);
  room = omega (arith, from.room, le-max_left (max (stmts_need tree routine routine.list) (part_need tree routine routine.handler)) (deepest_in tree more));
  orderly = from.orderly 0 routine (omega arith);
}

found_from : (tree : TypedTree) (t : Target) (base pc first : ℕ) (routines : List TypedRoutine) (k : ℕ) (routine : TypedRoutine) → From tree t base pc first routines
    → slice_get routines k ≡ Some routine → Found tree t (base + k) routine
found_from tree t base pc first [] k routine from there = cc
found_from tree t base pc first (other ∷ more) zero routine from there =
    let same : other ≡ routine = cc in
    subst (λ (x : TypedRoutine). Found tree t (base + 0) x) same (found_first tree t base pc first other more from)
found_from tree t base pc first (other ∷ more) (suc k) routine from there =
    let moved : base + 1 + k ≡ base + suc k = omega arith in
    subst (λ (n : ℕ). Found tree t n routine) moved
    (found_from tree t (base + 1) (pc + routine_size tree other) (first + length (first_values other)) more k routine (next_from tree t base pc first other more from) there)

missing_in : (tree : TypedTree) (pc first : ℕ) (routines : List TypedRoutine) (number : ℕ) → slice_get routines number ≡ None → slice_get (routine_rows tree pc first routines) number ≡ None
unfolding routine_rows
missing_in tree pc first [] number there = refl
missing_in tree pc first (routine ∷ more) zero there = cc
missing_in tree pc first (routine ∷ more) (suc number) there = missing_in tree (pc + routine_size tree routine) (first + length (first_values routine)) more number there

whole : (tree : TypedTree) → IsOrderly tree → From tree (target_of tree) 0 0 0 tree.routines
whole tree orderly = record {
  rows = λ k. ap (λ (n : ℕ). slice_get (compiled tree).routines n) (omega arith);
  handlers = λ k. ap (λ (n : ℕ). slice_get (compiled tree).handlers n) (omega arith);
  code = each_stands (compiled tree) 0 (placed_in tree) (λ k. ap (λ (n : ℕ). placed_at (compiled tree) n) (omega arith) ∙ placed_there (placed_in tree) k);
  firsts = refl;
  room = omega arith;
  orderly = orderly.routines;
}

pub compiled_is : (tree : TypedTree) → IsOrderly tree → IsCodeOf tree (target_of tree)
compiled_is tree orderly = record {
  fits = same_fits tree;
  found = λ number routine there.
      let zero_less : 0 + number ≡ number = omega arith in
      subst (λ (n : ℕ). Found tree (target_of tree) n routine) zero_less (found_from tree (target_of tree) 0 0 0 tree.routines number routine (whole tree orderly) there);
  missing = λ number there. missing_in tree 0 0 tree.routines number there;
  tasks = refl;
  main = refl;
  axes = refl;
  main_takes = orderly.main;
}
