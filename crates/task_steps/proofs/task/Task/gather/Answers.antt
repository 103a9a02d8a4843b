use Rattle.std.proofs.Common.{sym, ap, ◌∙◌, ℕ, ◌<◌, None, Some, Result, Ok, Err, arith}
use Rattle.rapid_model.specs.declared.fate.Fault.{Fault}
use Rattle.rapid_meaning.specs.Doings.{◌>>=◌}
use Rattle.rapid_meaning.specs.Places.{read_value}
use Rattle.task_steps.specs.Alike.{tested}
use Rattle.task_steps.specs.Doing.{here_of}
use Rattle.task_steps.specs.declared.operands.gathering.Gathering.{Gathering}
use Rattle.task_steps.proofs.Along.{alike_is, alike_then}
use Rattle.task_steps.proofs.Gatherings.{element_asked, element_missing, element_next, element_read, elements_read, then_left}
use Rattle.task_steps.proofs.task.Task.gather.Goals as goal

pub returns-in_err-place : goal.returns-in_err-place
returns-in_err-place c =
    let code = c.args.code.now in
    let h = here_of code c.args.self.now.conf in
    let d = c.args.self.now.data' in
    let more : c.loop-read.read < c.args.len = omega (arith, c.loop-read-test.true) in
    rw c.from_residual.ensures (alike_then code _ _ _ d d d c.loop-read.invariant
    (alike_then code _ _ _ d d d (element_next code h d code.tasks c.args.list c.args.len c.loop-read.read c.loop-read.set None more (sym c.in_err-place.was ∙ c.element.ensures))
    (alike_is code _ _ d (element_missing h (λ place. read_value place >>= then_left code.tasks c.args.list c.args.len c.loop-read.read c.loop-read.set)))))

pub returns-in-Pers : goal.returns-in-Pers
returns-in-Pers c =
    let code = c.args.code.now in
    let h = here_of code c.args.self.now.conf in
    let d = c.args.self.now.data' in
    let place = c.in_ok-place.place in
    let more : c.loop-read.read < c.args.len = omega (arith, c.loop-read-test.true) in
    let g : Gathering = record { list = c.args.list; len = c.args.len; read = c.loop-read.read; set = c.loop-read.set; within = more } in
    alike_then code _ _ _ d d d c.loop-read.invariant
    (alike_then code _ _ _ d d d (element_next code h d code.tasks c.args.list c.args.len c.loop-read.read c.loop-read.set (Some place) more (sym c.in_ok-place.was ∙ c.element.ensures))
    (alike_is code _ _ d (element_asked h place c.in-Pers.pers c.in-Pers.index g c.in-Pers.is)))

pub returns-in_err-more : goal.returns-in_err-more
returns-in_err-more c =
    let code = c.args.code.now in
    let h = here_of code c.args.self.now.conf in
    let d = c.args.self.now.data' in
    let place = c.in_ok-place.place in
    let more : c.loop-read.read < c.args.len = omega (arith, c.loop-read-test.true) in
    rw c.from_residual-in_err-more.ensures (alike_then code _ _ _ d d d c.loop-read.invariant
    (element_read code h d code.tasks c.tasks.result.now c.args.list place c.args.len c.loop-read.read c.loop-read.set None c.tasks.ensures more (sym c.in_ok-place.was ∙ c.element.ensures) c.in-Slot.is c.in_err-more.ensures))

pub returns-in-Err : goal.returns-in-Err
returns-in-Err c =
    let code = c.args.code.now in
    let h = here_of code c.args.self.now.conf in
    let d = c.args.self.now.data' in
    let place = c.in_ok-place.place in
    let more : c.loop-read.read < c.args.len = omega (arith, c.loop-read-test.true) in
    let is = ap (λ (found : Result ℕ Fault). tested (Some found)) (sym c.in-Err.is) ∙ c.in_ok-more.ensures in
    alike_then code _ _ _ d d d c.loop-read.invariant
    (element_read code h d code.tasks c.tasks.result.now c.args.list place c.args.len c.loop-read.read c.loop-read.set (Some (Err c.in-Err.fault)) c.tasks.ensures more (sym c.in_ok-place.was ∙ c.element.ensures) c.in-Slot.is is)

pub loop-read-preserved : goal.loop-read-preserved
loop-read-preserved c =
    let code = c.args.code.now in
    let h = here_of code c.args.self.now.conf in
    let d = c.args.self.now.data' in
    let place = c.in_ok-place.place in
    let more : c.loop-read.read < c.args.len = omega (arith, c.loop-read-test.true) in
    let is = ap (λ (found : Result ℕ Fault). tested (Some found)) (sym c.in-Ok.is) ∙ c.in_ok-more.ensures in
    alike_then code _ _ _ d d d c.loop-read.invariant
    (element_read code h d code.tasks c.tasks.result.now c.args.list place c.args.len c.loop-read.read c.loop-read.set (Some (Ok c.in-Ok.more)) c.tasks.ensures more (sym c.in_ok-place.was ∙ c.element.ensures) c.in-Slot.is is)

pub returns : goal.returns
returns c =
    let code = c.args.code.now in
    let h = here_of code c.args.self.now.conf in
    let d = c.args.self.now.data' in
    rw (c.value.ensures, c.whole.ensures) (alike_then code _ _ _ d d d c.loop-read.invariant
    (alike_is code _ _ d (elements_read h code.tasks c.args.list c.args.len c.loop-read.read c.loop-read.set (omega (arith, c.loop-read-test.false)))))
