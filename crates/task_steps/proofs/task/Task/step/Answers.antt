use Rattle.std.proofs.Common.{◌≡◌, ap, ◌∙◌, ◌<◌, length, subst, sym, Some}
use Rattle.stack_code.specs.CodeData.{CodeData}
use Rattle.stack_code.specs.Steps.{act, step}
use Rattle.task_code.proofs.Leading.{runs_misfit}
use Rattle.task_code.specs.Leads.{Runs}
use Rattle.task_steps.specs.Alike.{Follows}
use Rattle.task_steps.specs.Doing.{gone, here_of}
use Rattle.task_steps.specs.Points.{conf_in}
use Rattle.task_steps.specs.Seen.{Seen}
use Rattle.task_steps.specs.Phases as phases
use Rattle.task_steps.proofs.Along.{alike_is, alike_then, runs_along, went_next, went_to}
use Rattle.task_steps.proofs.Within.{runs_within, step_reads}
use Rattle.task_steps.proofs.task.Task.step.Goals as goal

pub bounds-ops-self-inside : goal.bounds-ops-self-inside
bounds-ops-self-inside c =
    let all : c.ops.result.now ≡ c.args.loaded.now.ops = c.ops.ensures ∙ ap (λ (code : CodeData). code.ops) c.code.ensures in
    let within = runs_within c.args.loaded.now (conf_in c.args.loaded.now c.args.self.now.conf) c.args.self.now.data' c.requires.runs in
    let here : c.self.inside.pc < length c.args.loaded.now.ops = rw (← c.self.view_is) at within in
    rw all here

pub perform-requires-clause-within : goal.perform-requires-clause-within
perform-requires-clause-within c = runs_within c.args.loaded.now (conf_in c.args.loaded.now c.args.self.now.conf) c.args.self.now.data' c.requires.runs

pub perform-requires-clause-runs : goal.perform-requires-clause-runs
perform-requires-clause-runs c =
    let code = c.args.loaded.now in
    let s = c.args.self.now in
    let all : c.ops.result.now ≡ code.ops = c.ops.ensures ∙ ap (λ (k : CodeData). k.ops) c.code.ensures in
    let same : step code (conf_in code s.conf) ≡ act (here_of code s.conf) c.index-ops-self.result =
    step_reads code s.conf s.data' c.ops.result.now c.self.inside.pc c.index-ops-self.result c.requires.runs all (ap (λ (t : Seen). t.conf.pc) c.self.view_is) c.index-ops-self.is in
    rw same at c.requires.runs

pub go_next-requires : goal.go_next-requires
go_next-requires c =
    let code = c.args.loaded.now in
    let s = c.args.self.now in
    let all : c.ops.result.now ≡ code.ops = c.ops.ensures ∙ ap (λ (k : CodeData). k.ops) c.code.ensures in
    let same : step code (conf_in code s.conf) ≡ act (here_of code s.conf) c.index-ops-self.result =
    step_reads code s.conf s.data' c.ops.result.now c.self.inside.pc c.index-ops-self.result c.requires.runs all (ap (λ (t : Seen). t.conf.pc) c.self.view_is) c.index-ops-self.is in
    let goes = alike_then code _ _ _ _ _ _ (alike_is code _ _ s.data' same) c.perform.ensures.goes in
    let runs = runs_along code _ _ _ _ goes c.requires.runs in
    record { runs = rw c.code-in-Next.ensures (rw (c.in-Some.is, c.in-Next.is) at runs) }

pub returns-in-Next-clause-on : goal.returns-in-Next-clause-on
returns-in-Next-clause-on c =
    let code = c.args.loaded.now in
    let s = c.args.self.now in
    let all : c.ops.result.now ≡ code.ops = c.ops.ensures ∙ ap (λ (k : CodeData). k.ops) c.code.ensures in
    let same : step code (conf_in code s.conf) ≡ act (here_of code s.conf) c.index-ops-self.result =
    step_reads code s.conf s.data' c.ops.result.now c.self.inside.pc c.index-ops-self.result c.requires.runs all (ap (λ (t : Seen). t.conf.pc) c.self.view_is) c.index-ops-self.is in
    let goes = alike_then code _ _ _ _ _ _ (alike_is code _ _ s.data' same) c.perform.ensures.goes in
    let is = c.in-Some.is in
    let its = c.in-Next.is in
    let s1 = c.perform.new.self in
    let going : s1.phase ≡ phases.Going = c.perform.ensures.going (λ stay. cc) in
    rw c.go_next.ensures (alike_then code _ _ _ _ _ _ (rw (is, its) at goes) (went_next code s1 going))

pub returns-in-Jump-clause-on : goal.returns-in-Jump-clause-on
returns-in-Jump-clause-on c =
    let code = c.args.loaded.now in
    let s = c.args.self.now in
    let all : c.ops.result.now ≡ code.ops = c.ops.ensures ∙ ap (λ (k : CodeData). k.ops) c.code.ensures in
    let same : step code (conf_in code s.conf) ≡ act (here_of code s.conf) c.index-ops-self.result =
    step_reads code s.conf s.data' c.ops.result.now c.self.inside.pc c.index-ops-self.result c.requires.runs all (ap (λ (t : Seen). t.conf.pc) c.self.view_is) c.index-ops-self.is in
    let goes = alike_then code _ _ _ _ _ _ (alike_is code _ _ s.data' same) c.perform.ensures.goes in
    let is = c.in-Some.is in
    let its = c.in-Jump.is in
    let s1 = c.perform.new.self in
    let going : s1.phase ≡ phases.Going = c.perform.ensures.going (λ stay. cc) in
    rw c.jump.ensures (alike_then code _ _ _ _ _ _ (rw (is, its) at goes) (went_to code s1 c.in-Jump.to going))

pub returns-in-Stay-clause-on : goal.returns-in-Stay-clause-on
returns-in-Stay-clause-on c =
    let code = c.args.loaded.now in
    let s = c.args.self.now in
    let all : c.ops.result.now ≡ code.ops = c.ops.ensures ∙ ap (λ (k : CodeData). k.ops) c.code.ensures in
    let same : step code (conf_in code s.conf) ≡ act (here_of code s.conf) c.index-ops-self.result =
    step_reads code s.conf s.data' c.ops.result.now c.self.inside.pc c.index-ops-self.result c.requires.runs all (ap (λ (t : Seen). t.conf.pc) c.self.view_is) c.index-ops-self.is in
    let goes = alike_then code _ _ _ _ _ _ (alike_is code _ _ s.data' same) c.perform.ensures.goes in
    rw (c.in-Some.is, c.in-Stay.is) at goes

pub go-requires-clause-runs : goal.go-requires-clause-runs
go-requires-clause-runs c =
    let code = c.args.loaded.now in
    let s = c.args.self.now in
    let all : c.ops.result.now ≡ code.ops = c.ops.ensures ∙ ap (λ (k : CodeData). k.ops) c.code.ensures in
    let same : step code (conf_in code s.conf) ≡ act (here_of code s.conf) c.index-ops-self.result =
    step_reads code s.conf s.data' c.ops.result.now c.self.inside.pc c.index-ops-self.result c.requires.runs all (ap (λ (t : Seen). t.conf.pc) c.self.view_is) c.index-ops-self.is in
    let goes = alike_then code _ _ _ _ _ _ (alike_is code _ _ s.data' same) c.perform.ensures.goes in
    let s1 = c.perform.new.self in
    subst (λ (read : CodeData). Runs read (gone read (Some c.in-Some.way) s1) s1.data') (sym c.code-in_default.ensures) (rw c.in-Some.is at (runs_along code _ _ _ _ goes c.requires.runs))

pub returns-in_default-clause-on : goal.returns-in_default-clause-on
returns-in_default-clause-on c =
    let code = c.args.loaded.now in
    let s = c.args.self.now in
    let all : c.ops.result.now ≡ code.ops = c.ops.ensures ∙ ap (λ (k : CodeData). k.ops) c.code.ensures in
    let same : step code (conf_in code s.conf) ≡ act (here_of code s.conf) c.index-ops-self.result =
    step_reads code s.conf s.data' c.ops.result.now c.self.inside.pc c.index-ops-self.result c.requires.runs all (ap (λ (t : Seen). t.conf.pc) c.self.view_is) c.index-ops-self.is in
    let goes = alike_then code _ _ _ _ _ _ (alike_is code _ _ s.data' same) c.perform.ensures.goes in
    let s1 = c.perform.new.self in
    alike_then code _ _ _ _ _ _ (rw c.in-Some.is at goes)
    (subst (λ (read : CodeData). Follows read (gone read (Some c.in-Some.way) s1) s1.data' c.go.new.self) c.code-in_default.ensures c.go.ensures.on)

pub unreachable-requires : goal.unreachable-requires
unreachable-requires c =
    let code = c.args.loaded.now in
    let s = c.args.self.now in
    let all : c.ops.result.now ≡ code.ops = c.ops.ensures ∙ ap (λ (k : CodeData). k.ops) c.code.ensures in
    let same : step code (conf_in code s.conf) ≡ act (here_of code s.conf) c.index-ops-self.result =
    step_reads code s.conf s.data' c.ops.result.now c.self.inside.pc c.index-ops-self.result c.requires.runs all (ap (λ (t : Seen). t.conf.pc) c.self.view_is) c.index-ops-self.is in
    let goes = alike_then code _ _ _ _ _ _ (alike_is code _ _ s.data' same) c.perform.ensures.goes in
    runs_misfit code c.perform.new.self.data' (rw c.in-None.is at (runs_along code _ _ _ _ goes c.requires.runs))
