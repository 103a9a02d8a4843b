use Rattle.tree_typing.proofs.Own.{no_trap}
use Rattle.tree_typing.proofs.laws.no_setpoint_in_a_trap.Goals as goal

pub returns : goal.returns
returns c = λ cell number tree answers to typed numbered asking. no_trap cell number tree answers to typed numbered asking
