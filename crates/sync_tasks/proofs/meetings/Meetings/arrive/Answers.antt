use Rattle.sync_tasks.proofs.Settled.{settled}
use Rattle.sync_tasks.proofs.meetings.Meetings.arrive.Goals as goal

pub returns-clause-stands : goal.returns-clause-stands
returns-clause-stands c =
    rw (c.go_on.ensures, c.put.ensures, c.stand-own.ensures) (settled c.all_come-met.result c.args.self.now c.args.task c.args.meeting)
