use Rattle.cell_meaning.proofs.FitAnswers.{answer_fits}
use Rattle.cell_meaning.proofs.laws.answers_fit.Goals as goal

pub returns : goal.returns
returns c = λ cell history actor request answer limits full asked may is. answer_fits cell history actor request answer limits full asked may is
