use Rattle.task_types.proofs.bodies.bodies.Given as goal

abbrev pub ghost-modules_bodies : goal.ghost-modules_bodies
ghost-modules_bodies a = a.routines.left
