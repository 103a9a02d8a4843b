use Rattle.rapid_forms.proofs.Steps.{rest_here}
use Rattle.rapid_forms.proofs.tokens.Tokens.byte_or_end.Goals as goal

pub returns-in-Some : goal.returns-in-Some
returns-in-Some c = rw (rest_here c.args.self.now.list.now c.args.at c.in-Some.token c.in-Some.ensures.lookup)
