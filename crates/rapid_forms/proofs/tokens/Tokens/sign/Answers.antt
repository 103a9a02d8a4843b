use Rattle.std.proofs.Common.{Some, ap}
use Rattle.rapid_forms.proofs.Steps.{rest_here, rest_none}
use Rattle.rapid_forms.proofs.tokens.Tokens.sign.Goals as goal

pub returns-in-Some : goal.returns-in-Some
returns-in-Some c = rw (rest_here c.args.self.now.list.now c.args.at c.in-Some.token c.in-Some.ensures.lookup) (ap Some c.sign_of.ensures)

pub returns-in-None : goal.returns-in-None
returns-in-None c = rw (rest_none c.args.self.now.list.now c.args.at c.in-None.ensures.lookup)
