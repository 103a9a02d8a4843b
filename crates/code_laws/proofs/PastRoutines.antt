-- What follows the code of a routine.
use Rattle.std.proofs.Common.{ℕ, ◌+◌, List, Option, None, Some, arith}
use Rattle.typed_trees.specs.Plain.{TypedRoutine, TypedStmts, TypedTree}
use Rattle.stack_code.specs.CodeData.{CodeData}
use Rattle.stack_code.specs.Compiled.{end_op, own_end, part_code, part_size, part_start, routine_code, routine_labels, routine_size}
use Rattle.stack_code.specs.ExprLayouts.{put}
use Rattle.stack_code.specs.Placed.{Placed, StandsAt}
use Rattle.stack_code.specs.Sizes.{stmts_size}
use Rattle.stack_code.specs.declared.op.Op.TheVariants as ops
use Rattle.code_laws.proofs.PastStmts.{past_stmts}
use Rattle.code_laws.proofs.Spots.{moved}

past_part : (code : CodeData) (tree : TypedTree) (routine : TypedRoutine) (labels : List ℕ) (pc : ℕ) (part : Option TypedStmts) (ps : List Placed)
    → StandsAt code pc (part_code tree routine labels pc part ps) → StandsAt code (pc + part_size tree routine part) ps
past_part code tree routine labels pc None ps h = moved code pc (pc + 0) ps (omega arith) h
past_part code tree routine labels pc (Some list) ps h =
    moved code (pc + stmts_size tree routine list + 1) (pc + (stmts_size tree routine list + 1)) ps (omega arith)
    (past_stmts code tree routine labels pc list (put (own_end routine (pc + stmts_size tree routine list)) ops.Again ps) h).1

pub past_routine : (code : CodeData) (tree : TypedTree) (routine : TypedRoutine) (pc : ℕ) (ps : List Placed)
    → StandsAt code pc (routine_code tree pc routine ps) → StandsAt code (pc + routine_size tree routine) ps
past_routine code tree routine pc ps h =
    moved code (pc + stmts_size tree routine routine.list + 1 + part_size tree routine routine.handler) (pc + (stmts_size tree routine routine.list + 1 + part_size tree routine routine.handler)) ps (omega arith)
    (past_part code tree routine (routine_labels tree routine pc) (part_start tree routine pc) routine.handler ps
    (past_stmts code tree routine (routine_labels tree routine pc) pc routine.list
    (put (own_end routine (pc + stmts_size tree routine routine.list)) (end_op routine.kind)
    (part_code tree routine (routine_labels tree routine pc) (part_start tree routine pc) routine.handler ps)) h).1)
