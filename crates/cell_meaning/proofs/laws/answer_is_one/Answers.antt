use Rattle.cell_meaning.proofs.OneAnswer.{one_answer}
use Rattle.cell_meaning.proofs.laws.answer_is_one.Goals as goal

pub returns : goal.returns
returns c = λ cell history actor request answer other is that. one_answer cell history actor request answer other is that
