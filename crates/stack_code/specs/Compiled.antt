-- The code of a task: its routines in order, each a list, its end, and its ERROR part.
use Rattle.std.specs.Prelude.{ℕ, ◌+◌, ◌==◌, ◌&&◌, min, max, Bool, true, false, List, [], ◌∷◌, ◌++◌, map, flat_map, length, Option, None, Some, if◌then◌else◌}
use Rattle.std.specs.Option.{option_map}
use Rattle.rapid_model.specs.declared.routine_kind.RoutineKind.{RoutineKind}
use Rattle.rapid_model.specs.declared.routine_kind.RoutineKind.TheVariants as kinds
use Rattle.typed_trees.specs.Plain.{TypedPers, TypedRoutine, TypedStmts, TypedTree}
use Rattle.rapid_meaning.specs.Answering.{is_trap_kind}
use Rattle.rapid_meaning.specs.Frames.{first_values}
use Rattle.stack_code.specs.CodeData.{CodeData}
use Rattle.stack_code.specs.ExprLayouts.{put}
use Rattle.stack_code.specs.Needs.{stmts_need}
use Rattle.stack_code.specs.Placed.{Own, Placed}
use Rattle.stack_code.specs.Sizes.{stmts_size}
use Rattle.stack_code.specs.StmtLayouts.{at_byte, stmts_code, stmts_labels}
use Rattle.stack_code.specs.declared.op.Op.{Op}
use Rattle.stack_code.specs.declared.op.Op.TheVariants as ops
use Rattle.stack_code.specs.declared.owner.Owner.{Owner}
use Rattle.stack_code.specs.declared.pers_sort.PersSort.{PersSort}
use Rattle.stack_code.specs.declared.routine_row.RoutineRow.{RoutineRow}

-- a FUNC does not reach its end; a PROC and a TRAP end there
abbrev pub end_op : RoutineKind → Op
end_op kinds.Func = ops.NoBack
end_op kind = ops.Back

-- the end of a list belongs to no statement: it owns itself
abbrev pub own_end : TypedRoutine → ℕ → Own
own_end routine pc = record { retry = pc; next = pc + 1; at = at_byte routine routine.at }

abbrev pub part_size : TypedTree → TypedRoutine → Option TypedStmts → ℕ
part_size tree routine None = 0
part_size tree routine (Some list) = stmts_size tree routine list + 1

abbrev pub routine_size : TypedTree → TypedRoutine → ℕ
routine_size tree routine = stmts_size tree routine routine.list + 1 + part_size tree routine routine.handler

-- the place of the ERROR part of a routine at this place, if it has one
abbrev pub part_start : TypedTree → TypedRoutine → ℕ → ℕ
part_start tree routine pc = pc + stmts_size tree routine routine.list + 1

abbrev pub part_labels : TypedTree → TypedRoutine → ℕ → Option TypedStmts → List ℕ
part_labels tree routine pc None = []
part_labels tree routine pc (Some list) = stmts_labels tree routine pc list

abbrev pub routine_labels : TypedTree → TypedRoutine → ℕ → List ℕ
routine_labels tree routine pc = stmts_labels tree routine pc routine.list ++ part_labels tree routine (part_start tree routine pc) routine.handler

-- the end of the ERROR part raises its error in the caller
abbrev pub part_code : TypedTree → TypedRoutine → List ℕ → ℕ → Option TypedStmts → List Placed → List Placed
part_code tree routine labels pc None ps = ps
part_code tree routine labels pc (Some list) ps =
    stmts_code tree routine labels pc list (put (own_end routine (pc + stmts_size tree routine list)) ops.Again ps)

abbrev pub routine_code : TypedTree → ℕ → TypedRoutine → List Placed → List Placed
routine_code tree pc routine ps =
    stmts_code tree routine (routine_labels tree routine pc) pc routine.list
    (put (own_end routine (pc + stmts_size tree routine routine.list)) (end_op routine.kind)
    (part_code tree routine (routine_labels tree routine pc) (part_start tree routine pc) routine.handler ps))

unfoldable pub routines_code : TypedTree → ℕ → List TypedRoutine → List Placed
routines_code tree pc [] = []
routines_code tree pc (routine ∷ more) = routine_code tree pc routine (routines_code tree (pc + routine_size tree routine) more)

-- all operations of a task
abbrev pub placed_in : TypedTree → List Placed
placed_in tree = routines_code tree 0 tree.routines

-- owners

abbrev pub same_own : Own → Own → Bool
same_own a b = a.retry == b.retry && a.next == b.next && a.at.«module» == b.at.«module» && a.at.byte == b.at.byte

abbrev pub owner_row : ℕ → ℕ → Own → Owner
owner_row first past own = record { first = first; past = past; retry = own.retry; next = own.next; at = own.at }

-- the row from `first`, as far as it has been read, and the rows after it
unfoldable pub rows_from : ℕ → ℕ → Own → List Placed → List Owner
rows_from first past own [] = owner_row first past own ∷ []
rows_from first past own (p ∷ ps) =
    if same_own p.own own then rows_from first (past + 1) own ps
    else owner_row first past own ∷ rows_from past (past + 1) p.own ps

-- a row for each run of operations with one owner
abbrev pub owner_rows : List Placed → List Owner
owner_rows [] = []
owner_rows (p ∷ ps) = rows_from 0 1 p.own ps

-- rows of routines

abbrev pub gives_result : RoutineKind → Bool
gives_result kinds.Func = true
gives_result kind = false

-- counts stop at this limit
abbrev pub counted : ℕ → ℕ
counted n = min n 65_535

abbrev pub routine_row : ℕ → ℕ → TypedRoutine → RoutineRow
routine_row pc first routine = record {
  entry = pc;
  args = counted (length routine.params);
  values = counted (length routine.params + length (first_values routine));
  trap = is_trap_kind routine.kind;
  result = gives_result routine.kind;
  first = first;
}

unfoldable pub routine_rows : TypedTree → ℕ → ℕ → List TypedRoutine → List RoutineRow
routine_rows tree pc first [] = []
routine_rows tree pc first (routine ∷ more) =
    routine_row pc first routine ∷ routine_rows tree (pc + routine_size tree routine) (first + length (first_values routine)) more

unfoldable pub handlers_of : TypedTree → ℕ → List TypedRoutine → List (Option ℕ)
handlers_of tree pc [] = []
handlers_of tree pc (routine ∷ more) =
    option_map (λ list. part_start tree routine pc) routine.handler ∷ handlers_of tree (pc + routine_size tree routine) more

-- the type of each persistent, by its number in the cell
unfoldable pub sorts_of : List ℕ → List TypedPers → List PersSort
sorts_of (number ∷ numbers) (row ∷ rows) = record { pers = number; sort = row.sort } ∷ sorts_of numbers rows
sorts_of _ _ = []

abbrev pub part_need : TypedTree → TypedRoutine → Option TypedStmts → ℕ
part_need tree routine None = 0
part_need tree routine (Some list) = stmts_need tree routine list

unfoldable pub deepest_in : TypedTree → List TypedRoutine → ℕ
deepest_in tree [] = 0
deepest_in tree (routine ∷ more) = max (max (stmts_need tree routine routine.list) (part_need tree routine routine.handler)) (deepest_in tree more)

-- what a tree compiles to
abbrev pub compiled : TypedTree → CodeData
compiled tree = record {
  ops = map (λ p. p.op) (placed_in tree);
  routines = routine_rows tree 0 0 tree.routines;
  owners = owner_rows (placed_in tree);
  handlers = handlers_of tree 0 tree.routines;
  slots = flat_map (λ row. row.first) tree.slots;
  firsts = flat_map first_values tree.routines;
  tasks = tree.tasks;
  sorts = sorts_of tree.pers_of tree.pers;
  deepest = deepest_in tree tree.routines;
  main = tree.main;
  axes = tree.axes;
}
