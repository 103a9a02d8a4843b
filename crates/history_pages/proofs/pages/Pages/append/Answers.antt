use Rattle.std.proofs.Common.{◌≡◌, ◌<◌, ℕ, ℤ, List, [], ◌∷◌, ◌++◌, length, sym, ap, subst, ◌∙◌}
use Rattle.rapid_model.specs.declared.event.Event.{Event}
use Rattle.history_pages.specs.Packing.{event_of, head_of}
use Rattle.history_pages.specs.Paged.{PagedData, with_items}
use Rattle.history_pages.specs.Pages.{IsKept, PagesData, events_in, with_event}
use Rattle.history_pages.specs.declared.answer_form.AnswerForm.{AnswerForm}
use Rattle.history_pages.specs.declared.head.Head.{Head}
use Rattle.history_pages.specs.declared.request_form.RequestForm.{RequestForm}
use Rattle.history_pages.proofs.Packed.{events_with, head_count, kept_with}
use Rattle.history_pages.proofs.pages.Pages.append.Goals as goal

same_head : (actor : ℕ) (from from' : ℕ) (request request' : RequestForm) (answer answer' : AnswerForm) → from ≡ from' → request ≡ request' → answer ≡ answer'
    → (let head : Head = record { actor = actor; from = from; request = request; answer = answer } in head) ≡ record { actor = actor; from = from'; request = request'; answer = answer' }
same_head actor from from' request request' answer answer' a b d = cc

pushed : (c : goal.After-push) → c.push.new.self ≡ with_items c.self.inside.heads (head_of (length c.self.inside.words.items) (event_of c.args.actor c.args.request.now c.args.answer.now) ∷ [])
pushed c =
    c.push.ensures
    ∙ ap (λ (head : Head). with_items c.self.inside.heads (head ∷ []))
    (same_head c.args.actor c.len-from.result (length c.self.inside.words.items) c.of.result _ c.of-2.result _ c.len-from.ensures c.of.ensures c.of-2.ensures)

pub invariant_of-self : goal.invariant_of-self
invariant_of-self c =
    let heads = c.self.inside.heads in
    let words = c.self.inside.words in
    let less : length heads.items < c.self.inside.room = head_count heads.items words.items c.self.inside.room c.args.self.now c.self.view_is c.requires.room in
    let kept = kept_with heads words c.self.inside.room c.args.actor c.args.request.now c.args.answer.now c.self.invariant less c.requires.reply c.put_words.ensures.proper in
    subst (λ (hs : PagedData Head). IsKept hs c.put_words.new.words c.self.inside.room) (sym (pushed c))
    (subst (λ (ws : PagedData ℤ). IsKept (with_items heads (head_of (length words.items) (event_of c.args.actor c.args.request.now c.args.answer.now) ∷ [])) ws c.self.inside.room) (sym c.put_words.ensures.pushed) kept)

pub returns : goal.returns
returns c =
    let heads = c.self.inside.heads in
    let words = c.self.inside.words in
    let event : Event = event_of c.args.actor c.args.request.now c.args.answer.now in
    let more : List Head = heads.items ++ head_of (length words.items) event ∷ [] in
    let make : List Event → PagesData = λ es. record { events = es; room = c.self.inside.room } in
    ap (λ (hs : PagedData Head). make (events_in hs.items c.put_words.new.words.items)) (pushed c)
    ∙ ap (λ (ws : PagedData ℤ). make (events_in more ws.items)) c.put_words.ensures.pushed
    ∙ ap make (events_with heads words c.self.inside.room c.args.actor c.args.request.now c.args.answer.now c.self.invariant c.requires.reply c.put_words.ensures.proper)
    ∙ ap (λ p. with_event p event) c.self.view_is
