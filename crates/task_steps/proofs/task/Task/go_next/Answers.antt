use Rattle.std.proofs.Common.{◌≡◌, ap, ◌+◌, ◌<◌, length, arith}
use Rattle.rapid_meaning.specs.Doings.{Gives}
use Rattle.task_code.specs.Leads.{Runs}
use Rattle.task_steps.specs.Points.{conf_in}
use Rattle.task_steps.specs.Seen.{Seen}
use Rattle.task_steps.proofs.Within.{gives_within}
use Rattle.task_steps.proofs.task.Task.go_next.Goals as goal

pub overflow_add-self : goal.overflow_add-self
overflow_add-self c =
    let s = c.args.self.now in
    let next = conf_in c.args.code.now (record s.conf { pc = s.conf.pc + 1 }) in
    let run : Runs c.args.code.now (Gives next) s.data' = c.requires.runs in
    let within : s.conf.pc + 1 < length c.args.code.now.ops = gives_within c.args.code.now next s.data' run in
    let place : c.self.inside.pc ≡ s.conf.pc = ap (λ (t : Seen). t.conf.pc) c.self.view_is in
    omega (arith, within, place, c.keep_code.ensures.few_ops)
