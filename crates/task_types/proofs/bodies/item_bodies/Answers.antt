use Rattle.std.proofs.Common.{arith}
use Rattle.typed_trees.specs.Views.{view_routine}
use Rattle.task_types.proofs.Lists.{first_left, rest_left}
use Rattle.task_types.proofs.bodies.item_bodies.Goals as goal

pub typed_routine-requires : goal.typed_routine-requires
typed_routine-requires g c = first_left g.locals c.args.routines.left _ view_routine c.args.routines.typed.items c.in_ok-own-in-Routine.own c.requires c.next-rows.ensures.taken (omega (arith, c.in_ok-own-in-Routine.ensures.ok))

pub returns-in_ok-push-in-Routine-clause-left : goal.returns-in_ok-push-in-Routine-clause-left
returns-in_ok-push-in-Routine-clause-left g c = rest_left g.locals c.args.routines.left _ view_routine c.args.routines.typed.items c.push.new.self.items c.in_ok-typed-in-Routine.typed c.requires c.next-rows.ensures.left c.in_ok-push-in-Routine.ensures.items
