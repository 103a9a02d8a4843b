use Rattle.std.proofs.Common.{◌≡◌, ap, sym, ◌∙◌, Some, option_map}
use Rattle.stack_code.specs.Placed.{own_of}
use Rattle.stack_code.specs.declared.owner.Owner.{Owner}
use Rattle.task_code.specs.declared.how.How.{How}
use Rattle.task_code.specs.Owners.{resumed}
use Rattle.task_code.proofs.Tiling.{named}
use Rattle.task_code.proofs.recovery.resume_of.Goals as goal

pub returns-in-Retry-clause-held : goal.returns-in-Retry-clause-held
returns-in-Retry-clause-held c k owner there holds =
    let found = named 0 c.requires.count c.args.pc c.args.marks.now.owners.items k owner c.requires.tiles there holds in
    let one : Some c.owner_of-owner.result.now ≡ Some owner = sym c.owner_of-owner.ensures.found ∙ found in
    let same : c.owner_of-owner.result.now ≡ owner = cc in
    ap (λ (o : Owner). o.retry) same ∙ ap (λ (h : How). resumed h (own_of owner)) (sym c.in-Retry.is)

pub returns-in-Retry-clause-named : goal.returns-in-Retry-clause-named
returns-in-Retry-clause-named c =
    ap (option_map (λ (owner : Owner). resumed c.args.how (own_of owner))) c.owner_of-owner.ensures.found
    ∙ ap (λ (h : How). Some (resumed h (own_of c.owner_of-owner.result.now))) c.in-Retry.is

pub returns-in-Next-clause-held : goal.returns-in-Next-clause-held
returns-in-Next-clause-held c k owner there holds =
    let found = named 0 c.requires.count c.args.pc c.args.marks.now.owners.items k owner c.requires.tiles there holds in
    let one : Some c.owner_of-owner.result.now ≡ Some owner = sym c.owner_of-owner.ensures.found ∙ found in
    let same : c.owner_of-owner.result.now ≡ owner = cc in
    ap (λ (o : Owner). o.next) same ∙ ap (λ (h : How). resumed h (own_of owner)) (sym c.in-Next.is)

pub returns-in-Next-clause-named : goal.returns-in-Next-clause-named
returns-in-Next-clause-named c =
    ap (option_map (λ (owner : Owner). resumed c.args.how (own_of owner))) c.owner_of-owner.ensures.found
    ∙ ap (λ (h : How). Some (resumed h (own_of c.owner_of-owner.result.now))) c.in-Next.is
