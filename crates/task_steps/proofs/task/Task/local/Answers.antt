use Rattle.std.proofs.Common.{ap, Some}
use Rattle.typed_trees.specs.declared.datum.Datum.TheVariants.{Place}
use Rattle.rapid_meaning.specs.Places.{own_place}
use Rattle.task_steps.specs.Doing.{here_of}
use Rattle.task_steps.proofs.Along.{runs_along}
use Rattle.task_steps.proofs.Readings.{push_read}
use Rattle.task_steps.proofs.task.Task.local.Goals as goal

pub put_place-requires-clause-runs : goal.put_place-requires-clause-runs
put_place-requires-clause-runs c =
    let code = c.args.code.now in
    let s = c.args.self.now in
    (runs_along code _ _ _ _ (push_read code (here_of code s.conf) s.data' Place (λ d. Some (own_place c.args.at d.frames)) (Some c.own_place-place.result) (ap (λ p. Some p) c.own_place-place.ensures)) c.requires.runs)

pub returns-clause-goes : goal.returns-clause-goes
returns-clause-goes c =
    let code = c.args.code.now in
    let s = c.args.self.now in
    rw (c.put_place.ensures.next, c.put_place.ensures.put) (push_read code (here_of code s.conf) s.data' Place (λ d. Some (own_place c.args.at d.frames)) (Some c.own_place-place.result) (ap (λ p. Some p) c.own_place-place.ensures))
