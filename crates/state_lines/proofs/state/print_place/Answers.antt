use Rattle.state_lines.proofs.PrintingState.{within_short}
use Rattle.state_lines.proofs.state.print_place.Goals as goal

pub write_task-requires-clause-texts : goal.write_task-requires-clause-texts
write_task-requires-clause-texts g c = within_short c.args.sources.now.texts.now c.requires.texts
