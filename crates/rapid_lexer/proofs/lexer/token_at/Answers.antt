use Rattle.rapid_lexer.proofs.TokenSteps.{token_none, token_some}
use Rattle.rapid_lexer.proofs.lexer.token_at.Goals as goal

pub returns-in-None : goal.returns-in-None
returns-in-None c = token_none c.args.at c.args.source.now c.misfit.result c.in-None.ensures.same c.misfit.ensures

pub returns-in-Some : goal.returns-in-Some
returns-in-Some c = token_some c.args.at c.args.source.now _ c.in-Some.kind c.in-Some.len c.in-Some.ensures.same c.token_of.ensures
