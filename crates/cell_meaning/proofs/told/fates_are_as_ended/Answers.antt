use Rattle.cell_meaning.proofs.Fates.{ended_so, spent_from, spent_so, cut_so, held_so}
use Rattle.cell_meaning.proofs.told.fates_are_as_ended.Goals as goal

pub returns-clause-spent : goal.returns-clause-spent
returns-clause-spent c = λ cell history. (λ spent. spent_from cell history spent, λ w. spent_so cell history w.0.0 w.0.1 w.0.2 w.1)

pub returns-clause-ended : goal.returns-clause-ended
returns-clause-ended c = λ cell history task fate is. ended_so cell history task fate is

pub returns-clause-cut : goal.returns-clause-cut
returns-clause-cut c = λ cell history task within going none_left. cut_so cell history task within going none_left

pub returns-clause-held : goal.returns-clause-held
returns-clause-held c = λ cell history task going left. held_so cell history task going left
