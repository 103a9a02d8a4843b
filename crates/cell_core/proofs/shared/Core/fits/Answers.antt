use Rattle.std.proofs.Common.{◌≡◌, List, None, slice_get, sym, ◌∙◌, ap}
use Rattle.std.proofs.lemmas.Option.{slice_get_past}
use Rattle.rapid_model.specs.Own.{part_of}
use Rattle.rapid_model.specs.declared.task_row.TaskRow.{TaskRow}
use Rattle.cell_core.specs.declared.actor.Actor.{Actor}
use Rattle.cell_core.proofs.Strangers.{nobody_asks, script_asks}
use Rattle.cell_core.proofs.shared.Core.fits.Goals as goal

pub returns-then-actor-self : goal.returns-then-actor-self
returns-then-actor-self c =
    let core = c.self.inside in
    let rows = c.as_slice.ensures ∙ c.tasks.ensures in
    let none : slice_get core.cell.tasks c.args.actor ≡ None =
    ap (λ (tasks : List TaskRow). slice_get tasks c.args.actor) (sym rows) ∙ slice_get_past c.as_slice.result.now c.args.actor c.in-None.ensures.lookup.3 in
    let count = ap (λ (a : Actor). a.events) c.actor.ensures in
    rw (← c.self.view_is) (script_asks core.cell core.pages.events core.boards core.steps c.args.actor core.tasks c.actor.result.events c.args.request.now c.feeds.result
    c.self.invariant.0 c.self.invariant.4 none c.if-actor-self.true count c.feeds.ensures)

pub returns-else-actor-self : goal.returns-else-actor-self
returns-else-actor-self c =
    let core = c.self.inside in
    let rows = c.as_slice.ensures ∙ c.tasks.ensures in
    let none : slice_get core.cell.tasks c.args.actor ≡ None =
    ap (λ (tasks : List TaskRow). slice_get tasks c.args.actor) (sym rows) ∙ slice_get_past c.as_slice.result.now c.args.actor c.in-None.ensures.lookup.3 in
    rw (← c.self.view_is) (nobody_asks core.cell c.args.actor core.tasks (part_of c.args.actor core.pages.events) c.args.request.now c.self.invariant.4 none c.if-actor-self.false)
