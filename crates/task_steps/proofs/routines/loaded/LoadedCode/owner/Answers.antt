use Rattle.std.proofs.Common.{◌≡◌, ◌<◌, length, Some, sym, ap, subst, arith}
use Rattle.stack_code.specs.CodeData.{CodeData}
use Rattle.stack_code.specs.Placed.{owner_at}
use Rattle.task_steps.proofs.Loads.{owner_named, owner_within}
use Rattle.task_steps.proofs.routines.loaded.LoadedCode.owner.Goals as goal

pub index-requires : goal.index-requires
index-requires c =
    let l = c.self.inside in
    let below : c.args.pc < length l.code.ops = subst (λ (code : CodeData). c.args.pc < length code.ops) (sym c.self.view_is) c.requires in
    let within : c.index-number.result.now < length l.code.owners = owner_within l.code.owners (length l.code.ops) c.args.pc c.index-number.result.now l.owners.items c.self.invariant.named below c.index-number.ensures in
    omega (arith, within, ap length c.marks.ensures.owners)

pub returns : goal.returns
returns c =
    let l = c.self.inside in
    let below : c.args.pc < length l.code.ops = subst (λ (code : CodeData). c.args.pc < length code.ops) (sym c.self.view_is) c.requires in
    subst (λ (code : CodeData). owner_at code.owners c.args.pc ≡ Some c.index.result.now) c.self.view_is
    (owner_named l.code.owners (length l.code.ops) c.args.pc c.index-number.result.now l.owners.items c.index.result.now c.self.invariant.named below c.index-number.ensures (rw c.marks.ensures.owners at c.index.ensures))
