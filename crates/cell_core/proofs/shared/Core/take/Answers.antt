use Rattle.std.proofs.Common.{ap, arith}
use Rattle.rapid_model.specs.Fits.{fitting_in}
use Rattle.rapid_model.specs.Own.{part_of}
use Rattle.history_pages.specs.Pages.{PagesData}
use Rattle.history_pages.proofs.Replies.{is_reply_to-fits}
use Rattle.cell_core.specs.Serving.{event_of}
use Rattle.cell_core.proofs.Growing.{Keeps-more, room_for_event}
use Rattle.cell_core.proofs.Looks.{served_event}
use Rattle.cell_core.proofs.Ready.{actor_there, can_count, ready}
use Rattle.cell_core.proofs.shared.Core.take.Goals as goal

pub take-answer-requires-clause-ready : goal.take-answer-requires-clause-ready
take-answer-requires-clause-ready c =
    let core = c.self.inside in
    let may = rw (← c.self.view_is) at c.requires.asked in
    ready core.cell core.pages.events core.boards core.steps c.args.actor c.args.request.now c.self.invariant.0 may

pub take-answer-requires-clause-few : goal.take-answer-requires-clause-few
take-answer-requires-clause-few c =
    let core = c.self.inside in
    let may = rw (← c.self.view_is) at c.requires.asked in
    can_count core.cell core.pages.events core.boards core.steps c.args.actor c.self.invariant.0
    (actor_there core.cell c.args.actor (part_of c.args.actor core.pages.events) c.args.request.now may)

pub append-requires-clause-room : goal.append-requires-clause-room
append-requires-clause-room c =
    let core = c.self.inside in
    let may = rw (← c.self.view_is) at c.requires.asked in
    let left = rw (← c.self.view_is) at c.requires.served in
    omega (arith, room_for_event core.cell core.pages.events core.boards core.steps c.args.actor c.args.request.now c.self.invariant.0 may left, c.self.invariant.1.pages)

pub append-requires-clause-reply : goal.append-requires-clause-reply
append-requires-clause-reply c =
    let core = c.self.inside in
    let may = rw (← c.self.view_is) at c.requires.asked in
    let left = rw (← c.self.view_is) at c.requires.served in
    let enabled = rw (← c.self.view_is) at c.requires.enabled in
    let e = event_of c.args.actor c.args.request.now c.take-answer.result in
    let served = served_event core.cell core.pages.events core.boards core.steps e c.self.invariant.0 may left enabled c.take-answer.ensures.answer in
    is_reply_to-fits (fitting_in core.cell c.args.actor (part_of c.args.actor core.pages.events)) c.args.request.now c.take-answer.result served.fits

pub invariant_of-self : goal.invariant_of-self
invariant_of-self c =
    let core = c.self.inside in
    let may = rw (← c.self.view_is) at c.requires.asked in
    let left = rw (← c.self.view_is) at c.requires.served in
    let enabled = rw (← c.self.view_is) at c.requires.enabled in
    let e = event_of c.args.actor c.args.request.now c.take-answer.result in
    let served = served_event core.cell core.pages.events core.boards core.steps e c.self.invariant.0 may left enabled c.take-answer.ensures.answer in
    let can = ready core.cell core.pages.events core.boards core.steps c.args.actor c.args.request.now c.self.invariant.0 may in (
      rw (c.append.ensures, c.take-answer.ensures.boards) (Keeps-more core.cell core.pages.events core.boards core.steps e c.self.invariant.0 served can),
      rw c.append.ensures c.self.invariant.1,
      c.self.invariant.2,
      c.self.invariant.3,
      c.self.invariant.4,
    )

pub returns-clause-answered : goal.returns-clause-answered
returns-clause-answered c =
    let core = c.self.inside in
    let may = rw (← c.self.view_is) at c.requires.asked in
    let left = rw (← c.self.view_is) at c.requires.served in
    let enabled = rw (← c.self.view_is) at c.requires.enabled in
    let e = event_of c.args.actor c.args.request.now c.take-answer.result in
    rw (← c.self.view_is) (served_event core.cell core.pages.events core.boards core.steps e c.self.invariant.0 may left enabled c.take-answer.ensures.answer).answered

pub returns-clause-history : goal.returns-clause-history
returns-clause-history c = rw (← c.self.view_is) (ap (λ (pages : PagesData). pages.events) c.append.ensures)

pub returns-clause-fits : goal.returns-clause-fits
returns-clause-fits c =
    let core = c.self.inside in
    let may = rw (← c.self.view_is) at c.requires.asked in
    let left = rw (← c.self.view_is) at c.requires.served in
    let enabled = rw (← c.self.view_is) at c.requires.enabled in
    let e = event_of c.args.actor c.args.request.now c.take-answer.result in
    rw (← c.self.view_is) (served_event core.cell core.pages.events core.boards core.steps e c.self.invariant.0 may left enabled c.take-answer.ensures.answer).fits
