use Rattle.std.proofs.Common.{refl, ap, ◌∙◌, false, None, slice_set}
use Rattle.std.proofs.lemmas.List.{get_or_read}
use Rattle.rapid_model.specs.declared.request.Request.TheVariants as requests
use Rattle.cell_core.specs.Actors.{actor_with, before}
use Rattle.cell_core.specs.Boards.{BoardData}
use Rattle.cell_core.specs.Ready.{CanCount}
use Rattle.cell_core.specs.declared.actor.Actor.{Actor}
use Rattle.cell_core.proofs.Looks.{look_counted}
use Rattle.cell_core.proofs.boards.Boards.look.Goals as goal

pub returns-clause-boards : goal.returns-clause-boards
returns-clause-boards c = λ cell.
    let b = c.self.inside in
    let boards : BoardData = record { store = b.store; signals = b.signals; meetings = b.meetings; traps = b.traps; zones = b.zones; actors = b.actors.items; counted = b.counted; changes = b.changes } in
    let few : CanCount boards c.args.actor = rw (← c.self.view_is) at c.requires.few in
    let own = get_or_read b.actors.items c.args.actor c.index_mut.result.now few.there c.index_mut.ensures.value (before None) in
    let actors = ap (λ (a : Actor). slice_set b.actors.items c.args.actor a) (c.count_look.ensures ∙ ap (λ (a : Actor). actor_with a false requests.Look c.look-answer.result) own) in
    rw (← c.self.view_is) (look_counted cell boards c.args.actor c.look-answer.result c.look-answer.new.traps _ _ few c.look-answer.ensures.traps actors refl)
