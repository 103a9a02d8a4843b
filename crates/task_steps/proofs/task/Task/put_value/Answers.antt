use Rattle.std.proofs.Common.{ap, ◌+◌, ◌≤◌, ◌∷◌, length, arith, leb-true}
use Rattle.typed_trees.specs.declared.datum.Datum.TheVariants.{Plain}
use Rattle.task_code.proofs.Leading.{runs_room}
use Rattle.task_steps.specs.Points.{conf_in}
use Rattle.task_steps.specs.Seen.{Room}
use Rattle.task_steps.proofs.task.Task.put_value.Goals as goal

pub push_value-requires : goal.push_value-requires
push_value-requires c =
    let s = c.args.self.now in
    let next = conf_in c.args.code.now (record s.conf { pc = s.conf.pc + 1; stack = Plain c.args.value ∷ s.conf.stack }) in
    let room : length next.stack ≤ c.args.code.now.deepest = leb-true _ _ (runs_room c.args.code.now next s.data' c.requires.runs) in
    let enough = ap (λ (r : Room). r.operands) c.requires.room in omega (arith, room, enough)
