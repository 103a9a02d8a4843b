use Rattle.std.proofs.Common.{rules}
use Rattle.free_crew.proofs.Rows.{rows_more}
use Rattle.free_crew.proofs.crew.Crew.pop.Goals as goal

pub returns-clause-some : goal.returns-clause-some
returns-clause-some g c = rows_more _ _ _ _ _ _ _ (search rules) (search rules) (search rules) (search rules) (search rules)
