use Rattle.text_order.proofs.Labels.{stated_ascend}
use Rattle.text_order.proofs.laws.statements_stand_in_order.Goals as goal

pub returns : goal.returns
returns c = stated_ascend
