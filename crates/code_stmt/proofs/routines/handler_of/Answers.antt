use Rattle.std.proofs.Common.{option_map, ap, sym}
use Rattle.code_stmt.proofs.RoutineParts.{handler_in}
use Rattle.code_stmt.proofs.routines.handler_of.Goals as goal

pub returns-in-Some : goal.returns-in-Some
returns-in-Some c = sym (ap (option_map (λ list. c.args.part)) (handler_in c.args.context.now c.routine.result.now _ c.routine.ensures c.in-Some.is))

pub returns-in-None : goal.returns-in-None
returns-in-None c = sym (ap (option_map (λ list. c.args.part)) (handler_in c.args.context.now c.routine.result.now _ c.routine.ensures c.in-None.is))
