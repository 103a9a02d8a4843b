use Rattle.history_text.proofs.OneHistory.{read_once}
use Rattle.history_text.proofs.laws.history_is_one.Goals as goal

pub returns : goal.returns
returns c = λ names text events others fates ends named one other. read_once names text events others fates ends named one other
