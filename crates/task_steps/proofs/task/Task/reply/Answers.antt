use Rattle.std.proofs.Common.{◌≡◌, subst}
use Rattle.task_steps.specs.Alike.{Follows}
use Rattle.task_steps.specs.Doing.{answered, here_of}
use Rattle.task_steps.specs.declared.requests.pending.Pending.{Pending}
use Rattle.task_steps.specs.declared.requests.pending.Pending.TheVariants as pendings
use Rattle.task_steps.proofs.Stages.{asks_with, awaits}
use Rattle.task_steps.proofs.task.Task.reply.Goals as goal

pub take_look-requires-clause-runs : goal.take_look-requires-clause-runs
take_look-requires-clause-runs c =
    let t = c.self.inside in
    (c.requires.runs t.asked pendings.Looked (asks_with c.args.self.now t pendings.Looked c.self.view_is c.in-Asking.is c.in-Looked.is))

pub returns-in-Looked-clause-on : goal.returns-in-Looked-clause-on
returns-in-Looked-clause-on c = λ request then asks.
    let t = c.self.inside in
    let same : pendings.Looked ≡ then = awaits c.args.self.now.phase t.asked request pendings.Looked then (asks_with c.args.self.now t pendings.Looked c.self.view_is c.in-Asking.is c.in-Looked.is) asks in
    subst (λ (p : Pending). Follows c.args.loaded.now (answered (here_of c.args.loaded.now c.args.self.now.conf) p c.args.answer) c.args.self.now.data' c.take_look.new.self) same c.take_look.ensures.on

pub take_value-requires-clause-runs : goal.take_value-requires-clause-runs
take_value-requires-clause-runs c =
    let t = c.self.inside in
    rw c.code.ensures (c.requires.runs t.asked pendings.Read (asks_with c.args.self.now t pendings.Read c.self.view_is c.in-Asking.is c.in-Read.is))

pub returns-in-Read-clause-on : goal.returns-in-Read-clause-on
returns-in-Read-clause-on c = λ request then asks.
    let t = c.self.inside in
    let same : pendings.Read ≡ then = awaits c.args.self.now.phase t.asked request pendings.Read then (asks_with c.args.self.now t pendings.Read c.self.view_is c.in-Asking.is c.in-Read.is) asks in
    subst (λ (p : Pending). Follows c.args.loaded.now (answered (here_of c.args.loaded.now c.args.self.now.conf) p c.args.answer) c.args.self.now.data' c.take_value.new.self) same (rw c.code.ensures at c.take_value.ensures.on)

pub take_ok-requires-clause-runs : goal.take_ok-requires-clause-runs
take_ok-requires-clause-runs c =
    let t = c.self.inside in
    rw c.code-in-Confirmed.ensures (c.requires.runs t.asked pendings.Confirmed (asks_with c.args.self.now t pendings.Confirmed c.self.view_is c.in-Asking.is c.in-Confirmed.is))

pub returns-in-Confirmed-clause-on : goal.returns-in-Confirmed-clause-on
returns-in-Confirmed-clause-on c = λ request then asks.
    let t = c.self.inside in
    let same : pendings.Confirmed ≡ then = awaits c.args.self.now.phase t.asked request pendings.Confirmed then (asks_with c.args.self.now t pendings.Confirmed c.self.view_is c.in-Asking.is c.in-Confirmed.is) asks in
    subst (λ (p : Pending). Follows c.args.loaded.now (answered (here_of c.args.loaded.now c.args.self.now.conf) p c.args.answer) c.args.self.now.data' c.take_ok.new.self) same (rw c.code-in-Confirmed.ensures at c.take_ok.ensures.on)
