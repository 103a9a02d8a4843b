-- A turn of a pass: it takes the core, asks it, and gives it back. Then the pass knows what the core has stated.
use Rattle.std.proofs.Common.{◌≡◌, ℕ, ◌+◌, ◌<◌, Bool, true, false, List, [], ◌∷◌, ◌++◌, length, Option, Some, None, refl, sym, ◌∙◌, ap, subst, subst₂, arith}
use Rattle.std.specs.Prelude.{IsSome, IsTrue}
use Rattle.std.proofs.lemmas.Bool.{false≢true, true≢false}
use mathlib.Core.List.{IsPrefix}
use Rattle.atomic_table.specs.Table.{rest}
use Rattle.rapid_model.specs.CellData.{CellData}
use Rattle.rapid_model.specs.Fits.{fits_request, fitting_in}
use Rattle.rapid_model.specs.Own.{is_held, part_of}
use Rattle.rapid_model.specs.declared.answer.Answer.{Answer}
use Rattle.rapid_model.specs.declared.answer.Answer.TheVariants as answers
use Rattle.rapid_model.specs.declared.event.Event.{Event}
use Rattle.rapid_model.specs.declared.request.Request.{Request}
use Rattle.rapid_model.specs.declared.request.Request.TheVariants as requests
use Rattle.cell_meaning.specs.Counted.{can_be_served}
use Rattle.cell_meaning.specs.Inputs.{inputs_done}
use Rattle.cell_meaning.specs.MayAsk.{may_ask}
use Rattle.cell_meaning.proofs.MoreEvents.{part_of-own}
use Rattle.cell_core.specs.CoreData.{CoreData}
use Rattle.cell_core.specs.Serving.{IsAnswered, event_of}
use Rattle.cell_gate.specs.declared.acted.Acted.{Acted}
use Rattle.cell_gate.specs.declared.acted.Acted.TheVariants as acted
use Rattle.cell_gate.specs.declared.caller.Caller.{Caller}
use Rattle.cell_gate.specs.declared.fed.Fed.{Fed}
use Rattle.cell_gate.specs.declared.fed.Fed.TheVariants as fed
use Rattle.cell_gate.specs.declared.now.Now.{Now}
use Rattle.cell_gate.specs.declared.now.Now.TheVariants as now
use Rattle.cell_gate.specs.declared.view.View.{View}
use Rattle.cell_gate.specs.Calls.{MayAsk, PassGained, Looked, ActedAs, RoseNow, FedNow}
use Rattle.cell_gate.specs.Causes.{StaysHeld, FeedsNone, is_over}
use Rattle.cell_gate.specs.Hands.{IsSameCaller, IsBetweenCalls, HasTaken, InTurn, MaySettle, MayCount, pass_of}
use Rattle.cell_gate.specs.PassData.{PassData}
use Rattle.cell_gate.specs.Rule.{core_of}
use Rattle.cell_gate.specs.Steps.{Hand, Took, counted_in, history_out}
use Rattle.cell_gate.specs.Turn.{GainedIf, CoreGained, Acts, Rises, Feeds, is_done, is_woken, is_given}
use Rattle.cell_gate.specs.Views.{after_take, after_count, after_give}
use Rattle.cell_gate.proofs.Histories.{prefix_as}

-- the slot that was taken last
abbrev slot_of : List (ℕ × Option CoreData) → Option CoreData
slot_of [] = None
slot_of (slot ∷ slots) = slot.1

-- a slot that was taken last is the first of those that are out
pub slot_again : (slots more : List (ℕ × Option CoreData)) (slot : ℕ × Option CoreData) → slots ≡ slot ∷ more → slots ≡ slot ∷ rest slots
slot_again slots more slot is = is ∙ ap (λ (c : List (ℕ × Option CoreData)). slot ∷ rest c) (sym is)

-- a core is in the slot that was taken with the turn
pub taken_some : (start hand : Hand) (found : Option CoreData) → Took start hand → hand.1 ≡ (0, found) ∷ rest hand.1 → IsSome found
taken_some start hand found took out =
    let is : Some (core_of start.0.cell hand.0.seen) ≡ found = sym (ap slot_of took.slot) ∙ ap slot_of out in
    subst (λ (o : Option CoreData). IsSome o) is refl

-- the core that is read out of the slot which was taken with the turn
pub taken_out : (start hand last : Hand) (found : Option CoreData) (core : CoreData) → start.1 ≡ [] → Took start hand → hand.1 ≡ (0, found) ∷ rest hand.1 → found ≡ Some core
    → last ≡ (hand.0, (0, None) ∷ rest hand.1) → HasTaken start core last
taken_out start hand last found core no_slot took out is read =
    let whole = core_of start.0.cell hand.0.seen in
    let slot : hand.1 ≡ (0, Some whole) ∷ [] = took.slot ∙ ap (λ (c : List (ℕ × Option CoreData)). (0, Some whole) ∷ c) no_slot in
    let one : Some whole ≡ Some core = sym (ap slot_of slot) ∙ ap slot_of out ∙ is in
    let same : whole ≡ core = cc in
    let history : hand.0.seen ≡ core.history = ap (λ (c : CoreData). c.history) same in
    record {
      me = read ∙ (λ i. ((took.view ∙ ap (λ (h : List Event). after_take start.0 h) history) i, (0, None) ∷ ap rest slot i));
      cell = sym (ap (λ (c : CoreData). c.cell) same);
      begins = prefix_as start.0.seen hand.0.seen core.history took.begins history;
      mine = took.mine ∙ ap (λ (h : List Event). part_of start.0.actor h) history;
    }

-- nothing is counted if the core gained no event
pub counts_none : (hand : Hand) → MayCount hand false → hand ≡ counted_in hand
counts_none hand counting =
    let history : history_out hand.1 ≡ hand.0.seen = ap history_out counting.slot ∙ counting.grows.same refl in
    λ i. (record hand.0 { seen = sym history i; mine = (counting.turn.mine ∙ ap (λ (h : List Event). part_of hand.0.actor h) (sym history)) i }, hand.1)

-- an actor that took the core, and what the core then reached
pub settles : (old mid : Caller) (before after : CoreData) (grew gains : Bool) → IsBetweenCalls old → IsSameCaller old mid → HasTaken old.place.me before mid.place.me → grew ≡ gains
    → (after.cell ≡ before.cell) × GainedIf old.actor before.history after.history gains → MaySettle mid after grew
settles old mid before after grew gains between same out is came =
    let hand = mid.place.me in
    let here : InTurn (after_take old.place.me.0 before.history) = record { holds = refl; opened = refl; live = between.idle.live; alone = between.alone; mine = out.mine } in
    let actor : hand.0.actor ≡ old.actor = ap (λ (h : Hand). h.0.actor) out.me ∙ between.actor_is in
    let seen : hand.0.seen ≡ before.history = ap (λ (h : Hand). h.0.seen) out.me in
    record {
      turn = subst (λ (h : Hand). InTurn h.0) (sym out.me) here;
      slot = ap (λ (h : Hand). h.1) out.me;
      actor_is = actor ∙ sym same.actor_is;
      cell = came.0 ∙ out.cell ∙ sym (ap (λ (h : Hand). h.0.cell) out.me);
      grows = subst (λ (b : Bool). GainedIf hand.0.actor hand.0.seen after.history b) (sym is) (subst₂ (λ (k : ℕ) (es : List Event). GainedIf k es after.history gains) (sym actor) (sym seen) came.1);
    }

-- the core is back, and the turn given on
pub between_again : (old new : Caller) (core : CoreData) (grew : Bool) → MaySettle old core grew → new.place.me ≡ (after_give (after_count old.place.me.0 core.history), []) → new.actor ≡ old.actor → new.len ≡ length core.history
    → IsBetweenCalls new
between_again old new core grew so me actor len = record {
  idle = record { no_turn = ap (λ (h : Hand). h.0.holds) me; live = ap (λ (h : Hand). h.0.spent) me ∙ so.turn.live; no_slot = ap (λ (h : Hand). h.1) me };
  actor_is = ap (λ (h : Hand). h.0.actor) me ∙ so.actor_is ∙ sym actor;
  alone = ap (λ (h : Hand). h.0.joined) me ∙ so.turn.alone;
  len = ap (λ (h : Hand). length h.0.seen) me ∙ sym len;
}

-- a turn of a pass, in which the core went from one history to another
pub record Turned (old : PassData) (before after : CoreData) (new : PassData) : Type 0 where
  pub cell : before.cell ≡ old.gate.cell
  pub begins : IsPrefix old.seen before.history
  pub was : old.mine ≡ part_of old.actor before.history
  pub seen : new.seen ≡ after.history
  pub mine : new.mine ≡ part_of old.actor after.history
  pub looks : old.looks < new.looks

pub turned : (old mid new : Caller) (before after : CoreData) → IsBetweenCalls old → HasTaken old.place.me before mid.place.me
    → new.place.me ≡ (after_give (after_count mid.place.me.0 after.history), []) → Turned (pass_of old) before after (pass_of new)
turned old mid new before after between out me =
    let view : new.place.me.0 ≡ after_give (after_count (after_take old.place.me.0 before.history) after.history) = ap (λ (h : Hand). h.0) me ∙ ap (λ (h : Hand). after_give (after_count h.0 after.history)) out.me in
    let looks : new.place.me.0.looks ≡ old.place.me.0.looks + 1 = ap (λ (v : View). v.looks) view in
    record {
      cell = out.cell;
      begins = out.begins;
      was = out.mine ∙ ap (λ (k : ℕ). part_of k before.history) between.actor_is;
      seen = ap (λ (v : View). v.seen) view;
      mine = ap (λ (v : View). v.mine) view ∙ ap (λ (k : ℕ). part_of k after.history) between.actor_is;
      looks = omega (arith, looks);
    }

-- the actor's events in the core's history are those of its pass
mine_in_turn : (old : Caller) (taken : Hand) (core : CoreData) → IsBetweenCalls old → HasTaken old.place.me core taken → old.place.me.0.mine ≡ part_of old.actor core.history
mine_in_turn old taken core between out = out.mine ∙ ap (λ (k : ℕ). part_of k core.history) between.actor_is

-- what the pass may ask, its actor may ask of the core in its turn
pub may_in_turn : (old : Caller) (taken : Hand) (core : CoreData) (request : Request) → IsBetweenCalls old → HasTaken old.place.me core taken → MayAsk (pass_of old) request
    → IsTrue (may_ask core.cell old.actor (part_of old.actor core.history) request)
may_in_turn old taken core request between out may =
    subst₂ (λ (c : CellData) (es : List Event). IsTrue (may_ask c old.actor es request)) (sym out.cell) (mine_in_turn old taken core between out) may

-- the task of a held pass is held
pub held_in_turn : (old : Caller) (taken : Hand) (core : CoreData) → IsBetweenCalls old → HasTaken old.place.me core taken → (pass_of old).actor < length (pass_of old).gate.cell.tasks → IsTrue (is_held (pass_of old).mine)
    → (old.actor < length core.cell.tasks) × IsTrue (is_held (part_of old.actor core.history))
held_in_turn old taken core between out task held =
    (subst (λ (c : CellData). old.actor < length c.tasks) (sym out.cell) task, subst (λ (es : List Event). IsTrue (is_held es)) (mine_in_turn old taken core between out) held)

-- the input script's actor is the core's
pub script_in_turn : (old : Caller) (taken : Hand) (core : CoreData) → HasTaken old.place.me core taken → (pass_of old).actor ≡ length (pass_of old).gate.cell.tasks → old.actor ≡ length core.cell.tasks
script_in_turn old taken core out is = is ∙ ap (λ (c : CellData). length c.tasks) (sym out.cell)

-- the pass gained what the core gained in a turn
pub pass_gained : (old new : PassData) (before after : CoreData) (request : Request) (answer : Answer) → Turned old before after new → CoreGained before old.actor request answer after → PassGained old before.history request answer new
pass_gained old new before after request answer turn gains =
    let e = event_of old.actor request answer in
    record {
      begins = turn.begins;
      answered = subst (λ (c : CellData). IsAnswered c before.history old.actor request answer) turn.cell gains.answered;
      fits = subst₂ (λ (c : CellData) (es : List Event). IsTrue (fits_request (fitting_in c old.actor es) request answer)) turn.cell (sym turn.was) gains.fits;
      seen = turn.seen ∙ gains.history;
      mine = turn.mine ∙ ap (λ (es : List Event). part_of old.actor es) gains.history ∙ part_of-own old.actor before.history e refl ∙ ap (λ (es : List Event). es ++ e ∷ []) (sym turn.was);
      own = turn.mine ∙ ap (λ (es : List Event). part_of old.actor es) (sym turn.seen);
    }

-- a turn in which the core stays as it is
pub looked : (old new : PassData) (before after : CoreData) → Turned old before after new → after ≡ before → Looked old new
looked old new before after turn same =
    let history : after.history ≡ before.history = ap (λ (core : CoreData). core.history) same in
    record {
      begins = prefix_as old.seen before.history new.seen turn.begins (sym history ∙ sym turn.seen);
      mine = turn.mine ∙ ap (λ (es : List Event). part_of old.actor es) history ∙ sym turn.was;
      own = turn.mine ∙ ap (λ (es : List Event). part_of old.actor es) (sym turn.seen);
      looks = turn.looks;
    }

-- what held of the core holds of what the pass has seen
seen_as : (P : CellData → List Event → Type 0) (old new : PassData) (before after : CoreData) → Turned old before after new → after ≡ before → P before.cell before.history → P old.gate.cell new.seen
seen_as P old new before after turn same so = subst₂ P turn.cell (sym (ap (λ (core : CoreData). core.history) same) ∙ sym turn.seen) so

-- the outcome of a request says whether the core gained an event
gains_grow : (before after : CoreData) (actor : ℕ) (request : Request) (answer : Answer) → CoreGained before actor request answer after → (after.cell ≡ before.cell) × GainedIf actor before.history after.history true
gains_grow before after actor request answer gains =
    (gains.cell, record { gained = λ yes_it. (event_of actor request answer, refl, gains.history); same = λ not_it. absurd (true≢false not_it) })

same_grow : (before after : CoreData) (actor : ℕ) → after ≡ before → (after.cell ≡ before.cell) × GainedIf actor before.history after.history false
same_grow before after actor same =
    (ap (λ (core : CoreData). core.cell) same, record { gained = λ yes_it. absurd (false≢true yes_it); same = λ not_it. ap (λ (core : CoreData). core.history) same })

pub acts_grow : (before after : CoreData) (actor : ℕ) (request : Request) (a : Acted) → Acts before actor request a after → (after.cell ≡ before.cell) × GainedIf actor before.history after.history (is_done a)
acts_grow before after actor request (acted.Done answer) gains = gains_grow before after actor request answer gains
acts_grow before after actor request acted.Spent so = same_grow before after actor so.0

pub rises_grow : (before after : CoreData) (task : ℕ) (a : Now) → Rises before task a after → (after.cell ≡ before.cell) × GainedIf task before.history after.history (is_woken a)
rises_grow before after task now.Woken gains = gains_grow before after task requests.Rise answers.Ok gains
rises_grow before after task now.NotYet so = same_grow before after task so.0
rises_grow before after task now.Stalled so = same_grow before after task so.0
rises_grow before after task now.Spent so = same_grow before after task so.0

pub feeds_grow : (before after : CoreData) (script : ℕ) (a : Fed) → script ≡ length before.cell.tasks → Feeds before a after → (after.cell ≡ before.cell) × GainedIf script before.history after.history (is_given a)
feeds_grow before after script fed.Given is so =
    let request = requests.Input (inputs_done before.cell before.history) in
    gains_grow before after script request answers.Ok (subst (λ (k : ℕ). CoreGained before k request answers.Ok after) (sym is) so.0)
feeds_grow before after script fed.NotYet is so = same_grow before after script so.0
feeds_grow before after script fed.Over is so = same_grow before after script so.0

-- what the core states in a turn, the call states
pub acted_as : (old new : PassData) (before after : CoreData) (request : Request) (a : Acted) → Turned old before after new → Acts before old.actor request a after → ActedAs old request a new
acted_as old new before after request (acted.Done answer) turn gains = (before.history, pass_gained old new before after request answer turn gains)
acted_as old new before after request acted.Spent turn so =
    (looked old new before after turn so.0, seen_as (λ c h. can_be_served c h request ≡ false) old new before after turn so.0 so.1)

pub rose_now : (old new : PassData) (before after : CoreData) (a : Now) → Turned old before after new → Rises before old.actor a after → RoseNow old a new
rose_now old new before after now.Woken turn gains = (before.history, pass_gained old new before after requests.Rise answers.Ok turn gains)
rose_now old new before after now.NotYet turn so = (looked old new before after turn so.0, seen_as (λ c h. StaysHeld c h old.actor now.NotYet) old new before after turn so.0 so.1)
rose_now old new before after now.Stalled turn so = (looked old new before after turn so.0, seen_as (λ c h. StaysHeld c h old.actor now.Stalled) old new before after turn so.0 so.1)
rose_now old new before after now.Spent turn so = (looked old new before after turn so.0, seen_as (λ c h. StaysHeld c h old.actor now.Spent) old new before after turn so.0 so.1)

-- as many steps of the input script were done as its pass has events
done_in_turn : (old new : PassData) (before after : CoreData) → Turned old before after new → old.actor ≡ length before.cell.tasks → inputs_done before.cell before.history ≡ length old.mine
done_in_turn old new before after turn is = ap (λ (k : ℕ). length (part_of k before.history)) (sym is) ∙ ap (λ (es : List Event). length es) (sym turn.was)

pub fed_now : (old new : PassData) (before after : CoreData) (a : Fed) → Turned old before after new → old.actor ≡ length before.cell.tasks → Feeds before a after → FedNow old a new
fed_now old new before after fed.Given turn is so =
    let gains : CoreGained before old.actor (requests.Input (length old.mine)) answers.Ok after =
    subst₂ (λ (k n : ℕ). CoreGained before k (requests.Input n) answers.Ok after) (sym is) (done_in_turn old new before after turn is) so.0 in
    (before.history, pass_gained old new before after (requests.Input (length old.mine)) answers.Ok turn gains, subst (λ (c : CellData). is_over c before.history ≡ false) turn.cell so.1)
fed_now old new before after fed.NotYet turn is so =
    let none = subst (λ (n : ℕ). FeedsNone before.cell before.history n fed.NotYet) (done_in_turn old new before after turn is) so.1 in
    (looked old new before after turn so.0, seen_as (λ c h. FeedsNone c h (length old.mine) fed.NotYet) old new before after turn so.0 none)
fed_now old new before after fed.Over turn is so = (looked old new before after turn so.0, seen_as (λ c h. is_over c h ≡ true) old new before after turn so.0 so.1)
