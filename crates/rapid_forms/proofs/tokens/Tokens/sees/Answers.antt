use Rattle.std.proofs.Common.{ap, ◌∙◌}
use Rattle.rapid_forms.specs.Signs.{has, begins_with}
use Rattle.rapid_forms.proofs.Steps.{rest_here, rest_none}
use Rattle.rapid_forms.proofs.tokens.Tokens.sees.Goals as goal

pub returns-in-Some : goal.returns-in-Some
unfolding begins_with
returns-in-Some c = rw (rest_here c.args.self.now.list.now c.args.at c.in-Some.token c.in-Some.ensures.lookup) (c.is_one_of.ensures ∙ ap (has c.args.signs.now) c.sign_of.ensures)

pub returns-in-None : goal.returns-in-None
unfolding begins_with
returns-in-None c = rw (rest_none c.args.self.now.list.now c.args.at c.in-None.ensures.lookup)
