use Rattle.std.proofs.Common.{Some}
use Rattle.rapid_lexer.proofs.Nexts.{next_within}
use Rattle.rapid_lexer.proofs.TokenSteps.{next_none, next_some}
use Rattle.rapid_lexer.proofs.lexer.next_of.Goals as goal

pub returns-then-here-source-clause-same : goal.returns-then-here-source-clause-same
returns-then-here-source-clause-same c = next_none c.args.at c.skip_gaps-here.result c.args.source.now c.requires c.skip_gaps-here.ensures.same c.if-here-source.true

pub returns-clause-same : goal.returns-clause-same
returns-clause-same c = next_some c.args.at c.skip_gaps-here.result c.args.source.now _ c.requires c.skip_gaps-here.ensures.same c.skip_gaps-here.ensures.within c.if-here-source.false c.token_at.ensures

pub returns-clause-within : goal.returns-clause-within
returns-clause-within c = next_within c.args.at c.args.source.now (Some c.token_at.result) c.requires (returns-clause-same c)
