use Rattle.cell_meaning.proofs.MeetingsTold as meetings
use Rattle.cell_meaning.proofs.laws.meetings_are_as_arrived.Goals as goal

pub returns-clause-passed : goal.returns-clause-passed
returns-clause-passed c = λ cell history task meeting asked few_tasks few. meetings.passed cell history task meeting asked few

pub returns-clause-waits : goal.returns-clause-waits
returns-clause-waits c = λ cell history task meeting asked few_tasks few. meetings.waits cell history task meeting asked few
