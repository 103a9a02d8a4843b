use Rattle.std.proofs.Common.{Bool, ◌∙◌, ap}
use Rattle.rapid_model.specs.declared.watched.Watched.TheVariants as watched
use Rattle.cell_core.specs.Changes.{value_change}
use Rattle.cell_core.proofs.Parts.{part_read, part_stays, part_stored}
use Rattle.cell_core.proofs.values.write.Goals as goal

pub returns-clause-change : goal.returns-clause-change
returns-clause-change c =
    let was = part_read c.args.store.now c.args.pers c.args.path.now c.unwrap.result c.requires.part (rw c.unwrap.ensures at c.part.ensures.part) in
    let stays = part_stays c.args.store.now c.args.pers c.args.path.now c.unwrap.result c.args.value.now c.requires.part c.requires.fits was in
    c.of_value.ensures ∙ ap (λ (still : Bool). value_change still (watched.Pers c.args.pers)) (c.same-still.ensures ∙ stays)

pub returns-clause-store : goal.returns-clause-store
returns-clause-store c = part_stored c.args.store.now c.put.new.store c.args.pers c.args.path.now c.args.value.now c.requires.part c.put.ensures
