use Rattle.std.proofs.Common.{ℕ, subst, sym, IsTrue}
use Rattle.rapid_num.specs.Reach.{is_reachable}
use Rattle.rapid_model.specs.Fits.{fits_request}
use Rattle.task_steps.proofs.Departures.{starts_reachable}
use Rattle.task_steps.proofs.requests.motion.departed.Goals as goal

pub plan-plan-requires-clause-start : goal.plan-plan-requires-clause-start
plan-plan-requires-clause-start c =
    let f = c.requires.fits in
    subst (λ (axes : ℕ). IsTrue (is_reachable axes c.in-At.start)) (sym c.from.ensures)
    (starts_reachable f.0 f.1 c.in-At.start c.args.axes (subst (λ a. IsTrue (fits_request f.0 f.1 a)) c.in-At.is f.2) f.3)
