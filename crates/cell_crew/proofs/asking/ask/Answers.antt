use Rattle.cell_crew.proofs.Served.{legal_answered}
use Rattle.cell_crew.proofs.asking.ask.Goals as goal

pub returns-in-Answered-clause-legal : goal.returns-in-Answered-clause-legal
returns-in-Answered-clause-legal g c =
    legal_answered _ _ _ _ _ _ c.in-Answered.answer c.requires.asked c.requires.legal c.in-Answered.ensures.served c.in-Answered.ensures.fits c.in-Answered.ensures.history
