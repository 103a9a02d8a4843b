use Rattle.std.proofs.Common.{rules}
use Rattle.free_crew.proofs.Rows.{rows_more}
use Rattle.free_crew.proofs.crew.Crew.push.Goals as goal

pub returns-clause-jobs : goal.returns-clause-jobs
returns-clause-jobs g c = rows_more _ _ _ _ _ _ c.args.job (search rules) (search rules) (search rules) c.requires.even.passes c.requires.even.standings
