use Rattle.std.proofs.Common.{refl}
use Rattle.free_crew.proofs.Stepping.{asking, fitting, is_held_now, moves, waits}
use Rattle.free_crew.proofs.job.Job.rise.Goals as goal

pub rise_now-requires-clause-held : goal.rise_now-requires-clause-held
rise_now-requires-clause-held g c = is_held_now _ _ _ _ _ _ _ _ _ (asking _ _ _ _ _ _ _ _ _ g.met.M.TaskMachine.asks_due c.requires.amid c.requires.going c.requires.due) refl

pub next-requires-clause-fitting : goal.next-requires-clause-fitting
next-requires-clause-fitting g c =
    let a = asking _ _ _ _ _ _ _ _ _ g.met.M.TaskMachine.asks_due c.requires.amid c.requires.going c.requires.due in
    fitting _ _ _ _ _ _ _ _ _ a c.rise_now.new.pass c.in-Woken.ensures.rose.0 _ c.in-Woken.ensures.same c.in-Woken.ensures.rose.1

pub returns-in-Woken : goal.returns-in-Woken
returns-in-Woken g c =
    let a = asking _ _ _ _ _ _ _ _ _ g.met.M.TaskMachine.asks_due c.requires.amid c.requires.going c.requires.due in
    moves _ _ _ _ _ _ _ _ _ a c.rise_now.new.pass c.in-Woken.ensures.rose.0 _ c.in-Woken.ensures.same c.in-Woken.ensures.rose.1 c.next.new.self refl c.next.ensures.program c.next.ensures.due c.next.ensures.stands

pub returns-in-NotYet : goal.returns-in-NotYet
returns-in-NotYet g c =
    let a = asking _ _ _ _ _ _ _ _ _ g.met.M.TaskMachine.asks_due c.requires.amid c.requires.going c.requires.due in
    waits _ _ _ _ _ _ _ _ _ a c.rise_now.new.pass c.in-NotYet.ensures.same c.in-NotYet.ensures.rose.0 refl
