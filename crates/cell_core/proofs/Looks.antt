-- What the boards say of one more task, what a request leaves of the boards, and what an event makes of them.
use Rattle.std.proofs.Common.{◌≡◌, ℕ, suc, ◌+◌, ◌<◌, ◌≤◌, Bool, false, List, [], ◌∷◌, ◌++◌, length, map, slice_set, refl, sym, ◌∙◌, ap, subst, arith, length-set}
use Rattle.std.specs.Prelude.{IsTrue, ◌&&◌, ◌||◌, not, is_some}
use Rattle.std.specs.List.{All}
use Rattle.rapid_model.specs.CellData.{CellData}
use Rattle.rapid_model.specs.Own.{part_of}
use Rattle.rapid_model.specs.declared.answer.Answer.{Answer}
use Rattle.rapid_model.specs.declared.answer.Answer.TheVariants as answers
use Rattle.rapid_model.specs.declared.event.Event.{Event}
use Rattle.rapid_model.specs.declared.request.Request.{Request}
use Rattle.rapid_model.specs.declared.request.Request.TheVariants as requests
use Rattle.rapid_model.proofs.Lists.{filter_short}
use Rattle.trap_dispatch.specs.Tasks.{TaskData, after_changes, before_all, in_first_trap}
use Rattle.trap_dispatch.specs.Traps.{task_at}
use Rattle.cell_meaning.specs.Answers.{is_enabled}
use Rattle.cell_meaning.specs.Counted.{can_be_served}
use Rattle.cell_meaning.specs.Interrupts.{asked_with}
use Rattle.cell_meaning.specs.MayAsk.{may_ask}
use Rattle.cell_meaning.proofs.FitAnswers.{answer_fits}
use Rattle.cell_meaning.proofs.InterruptsKept.{own_with, asked_own}
use Rattle.cell_meaning.proofs.Lists.{written_keeps}
use Rattle.cell_meaning.proofs.MoreFirings.{fired-none}
use Rattle.cell_core.specs.Actors.{actor_at, actor_with}
use Rattle.cell_core.specs.Boards.{BoardData, asked_on, boards_with}
use Rattle.cell_core.specs.Keeping.{Keeps}
use Rattle.cell_core.specs.Reading.{all_have_fates, all_stand, can_go_on, fates_of, standing}
use Rattle.cell_core.specs.Ready.{CanCount}
use Rattle.cell_core.specs.Soundness.{IsServed}
use Rattle.cell_core.specs.Answering.{IsAnswerOn}
use Rattle.cell_core.specs.declared.actor.Actor.{Actor}
use Rattle.cell_core.proofs.Answering.{answer_is}
use Rattle.cell_core.proofs.Changing.{all_answered}
use Rattle.cell_core.proofs.Ready.{actor_there}

next : (n : ℕ) → n + 1 ≡ suc n
next n = omega arith

pub more_have_fates : (n : ℕ) (actors : List Actor) → all_have_fates (n + 1) actors ≡ (all_have_fates n actors && is_some (actor_at actors n).end)
more_have_fates n actors = ap (λ (k : ℕ). all_have_fates k actors) (next n)

pub stand_more : (n : ℕ) (boards : BoardData) → all_stand (n + 1) boards
    ≡ (all_stand n boards && (is_some (actor_at boards.actors n).end || ((actor_at boards.actors n).held && not (can_go_on boards n))))
stand_more n boards = ap (λ (k : ℕ). all_stand k boards) (next n)

pub fates_more : (spent : Bool) (n : ℕ) (actors : List Actor) → fates_of spent (n + 1) actors ≡ fates_of spent n actors ++ standing spent (actor_at actors n).end ∷ []
fates_more spent n actors = ap (λ (k : ℕ). fates_of spent k actors) (next n)

-- no request makes a queue longer
le_self : (n : ℕ) → n ≤ n
le_self n = omega arith

first_shorter : (t : TaskData) (queue : List ℕ) → t.queue ≡ queue → length (in_first_trap t queue).queue ≤ length t.queue
first_shorter t [] is = le_self (length t.queue)
first_shorter t (n ∷ queue) is = omega (arith, ap length is)

own_room : (t : TaskData) (request : Request) (answer : Answer) → length (own_with t request answer).queue ≤ length t.queue
own_room t requests.Look (answers.Trap number trap) = first_shorter t t.queue refl
own_room t (requests.Connect old trap) (answers.Number number) = le_self (length t.queue)
own_room t (requests.Order number on single) answers.Ok = le_self (length t.queue)
own_room t (requests.Sleep number) answers.Ok = le_self (length t.queue)
own_room t (requests.Watch number) answers.Ok = le_self (length t.queue)
own_room t (requests.Delete number) answers.Ok = filter_short _ t.queue
own_room t requests.Disable answers.Ok = le_self (length t.queue)
own_room t requests.Enable answers.Ok = le_self (length t.queue)
own_room t requests.Leave answers.Ok = le_self (length t.queue)
own_room t _ _ = le_self (length t.queue)

asked_room : (tasks : List TaskData) (actor : ℕ) (request : Request) (answer : Answer) → All (λ t. length t.queue ≤ 1_024) tasks → All (λ t. length t.queue ≤ 1_024) (asked_with tasks actor request answer)
asked_room tasks actor request answer room =
    let now = own_with (task_at tasks actor) request answer in
    subst (λ (ts : List TaskData). All (λ t. length t.queue ≤ 1_024) ts) (sym (asked_own tasks actor request answer))
    (λ k d lt.
    let within : k < length tasks = omega (arith, lt, length-set tasks actor now) in
    written_keeps (λ (t : TaskData). length t.queue ≤ 1_024) tasks actor k now d (room k d within)
    (λ same. omega (arith, own_room (task_at tasks actor) request answer, room actor before_all (omega (arith, within, same)))))

pub count_kept : (cell : CellData) (boards : BoardData) (actor : ℕ) (request : Request) (answer : Answer) → CanCount boards actor → CanCount (asked_on cell boards actor request answer) actor
count_kept cell boards actor request answer can = record {
  there = can.there;
  room = asked_room boards.traps actor request answer can.room;
  own = can.own;
  counted = can.counted;
  changes = can.changes;
}

-- a Look fires nothing, and is counted
pub look_counted : (cell : CellData) (boards : BoardData) (actor : ℕ) (answer : Answer) (traps : List TaskData) (actors : List Actor) (counted : ℕ) → CanCount boards actor
    → traps ≡ asked_with boards.traps actor requests.Look answer → actors ≡ slice_set boards.actors actor (actor_with (actor_at boards.actors actor) false requests.Look answer) → counted ≡ boards.counted + 1
    → record boards { traps = traps; actors = actors; counted = counted } ≡ boards_with cell boards (record { actor = actor; request = requests.Look; answer = answer })
look_counted cell boards actor answer traps actors counted can is_traps is_actors is_counted =
    let none : map (after_changes []) (asked_with boards.traps actor requests.Look answer) ≡ asked_with boards.traps actor requests.Look answer =
    fired-none (asked_with boards.traps actor requests.Look answer) (asked_room boards.traps actor requests.Look answer can.room) in
    let same : boards.changes + 0 ≡ boards.changes = omega arith in
    rw (is_traps, is_actors, is_counted, none, same) refl

-- a request and the answer that the boards gave it are an event that was served
pub served_event : (cell : CellData) (history : List Event) (boards : BoardData) (steps : ℕ) (e : Event) → Keeps cell history boards steps
    → IsTrue (may_ask cell e.actor (part_of e.actor history) e.request) → IsTrue (can_be_served cell history e.request) → IsTrue (is_enabled cell history e.actor e.request)
    → IsAnswerOn boards e.actor e.request e.answer → IsServed cell history e
served_event cell history boards steps e keeps may served enabled told =
    let is = answer_is cell history boards steps e.actor e.request e.answer keeps (actor_there cell e.actor (part_of e.actor history) e.request may) told in
    record {
      asked = may;
      enabled = enabled;
      served = served;
      answered = is;
      fits = answer_fits cell history e.actor e.request e.answer keeps.limits keeps.full (all_answered cell history keeps.sound) may is;
    }
