use Rattle.task_types.proofs.bodies.item_bodies.Given as goal

abbrev pub ghost-typed_routine : goal.ghost-typed_routine
ghost-typed_routine g a = g.locals
