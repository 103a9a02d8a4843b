use Rattle.std.proofs.Common.{sym, ◌∙◌}
use Rattle.free_crew.proofs.Stepping.{asking, ends, fitting, may_pass, moves, never_waits}
use Rattle.free_crew.proofs.job.Job.ask.Goals as goal

pub act-acted-requires-clause-may : goal.act-acted-requires-clause-may
act-acted-requires-clause-may g c = may_pass _ _ _ _ _ _ _ _ _ (asking _ _ _ _ _ _ _ _ _ g.met.M.TaskMachine.asks_due c.requires.amid c.requires.going c.last-request.ensures)

pub act-acted-requires-clause-plain : goal.act-acted-requires-clause-plain
act-acted-requires-clause-plain g c = never_waits _ _ _ _ _ _ _ _ _ (asking _ _ _ _ _ _ _ _ _ g.met.M.TaskMachine.asks_due c.requires.amid c.requires.going c.last-request.ensures) (c.requires.plain c.last-request.result.now c.last-request.ensures)

pub next-requires-clause-fitting : goal.next-requires-clause-fitting
next-requires-clause-fitting g c =
    let a = asking _ _ _ _ _ _ _ _ _ g.met.M.TaskMachine.asks_due c.requires.amid c.requires.going c.last-request.ensures in
    fitting _ _ _ _ _ _ _ _ _ a c.act-acted.new.pass c.in-Done.ensures.acted.0 c.in-Done.answer c.in-Done.ensures.same c.in-Done.ensures.acted.1

pub returns-then-ends : goal.returns-then-ends
returns-then-ends g c =
    let a = asking _ _ _ _ _ _ _ _ _ g.met.M.TaskMachine.asks_due c.requires.amid c.requires.going c.last-request.ensures in
    ends _ _ _ _ _ _ _ _ _ a c.act-acted.new.pass c.in-Done.ensures.acted.0 c.in-Done.answer c.in-Done.ensures.same c.in-Done.ensures.acted.1 (sym c.is_end-ends.ensures ∙ c.if-ends.true)

pub returns-else-ends : goal.returns-else-ends
returns-else-ends g c =
    let a = asking _ _ _ _ _ _ _ _ _ g.met.M.TaskMachine.asks_due c.requires.amid c.requires.going c.last-request.ensures in
    moves _ _ _ _ _ _ _ _ _ a c.act-acted.new.pass c.in-Done.ensures.acted.0 c.in-Done.answer c.in-Done.ensures.same c.in-Done.ensures.acted.1 c.next.new.self (sym c.is_end-ends.ensures ∙ c.if-ends.false)
    c.next.ensures.program c.next.ensures.due c.next.ensures.stands
