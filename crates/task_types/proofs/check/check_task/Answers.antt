use Rattle.std.proofs.Common.{map}
use Rattle.raw_trees.specs.Views.{view_module}
use Rattle.task_types.proofs.Sound.{given_sound}
use Rattle.task_types.proofs.check.check_task.Goals as goal

pub returns-clause-sound : goal.returns-clause-sound
returns-clause-sound c =
    given_sound (map view_module c.args.modules.now) c.args.known.now.tasks.now c.args.known.now.signals.now c.args.known.now.axes c.task_tree.result c.task_tree.ensures
