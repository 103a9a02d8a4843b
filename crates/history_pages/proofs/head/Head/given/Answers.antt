use Rattle.history_pages.proofs.Lined.{unasked_in}
use Rattle.history_pages.proofs.head.Head.given.Goals as goal

pub returns-in_default : goal.returns-in_default
returns-in_default c = unasked_in c.args.words.now.items c.args.self c.in_default.not-Setpoint
