use Rattle.std.proofs.Common.{[]}
use Rattle.state_text.proofs.Traces.{traced_at, traced_count}
use Rattle.state_text.proofs.laws.traces_are_histories.Goals as goal

pub returns-clause-count : goal.returns-clause-count
returns-clause-count c = λ tasks trees sources history. traced_count tasks trees sources [] history

pub returns-clause-lines : goal.returns-clause-lines
returns-clause-lines c = λ tasks trees sources history k e at. traced_at tasks trees sources [] history k e at
