use Rattle.cell_core.proofs.boards.Boards.answer.Goals as goal

pub returns-in-ZoneTie : goal.returns-in-ZoneTie
returns-in-ZoneTie c = rw c.in-ZoneTie.is (c.tie.ensures c.args.cell.now)

pub returns-in-ZoneOn : goal.returns-in-ZoneOn
returns-in-ZoneOn c = rw c.in-ZoneOn.is (c.switch_on.ensures c.args.cell.now)

pub returns-in-Input : goal.returns-in-Input
returns-in-Input c = rw c.in-Input.is (c.feed.ensures c.args.actor)
