-- Whether a request can have a line, and whether it asks for a setpoint, is known from the forms.
use Rattle.std.proofs.Common.{◌≡◌, ℕ, Bool, true, false, ℤ, List, drop, slice_get, Option, None, Some, option_map, refl, sym, ap, ◌∙◌}
use Rattle.std.proofs.lemmas.Bool.{true≢false}
use Rattle.std.proofs.lemmas.Option.{none-some, same_Some}
use Rattle.std.specs.List.{list_all}
use Rattle.std.specs.Option.{option_and_then}
use Rattle.std.specs.Prelude.{is_some, IfSome}
use Rattle.rapid_limits.specs.declared.TheConstants.{MOST_AXES}
use Rattle.rapid_model.specs.declared.answer.Answer.{Answer}
use Rattle.rapid_model.specs.declared.event.Event.{Event}
use Rattle.rapid_model.specs.declared.request.Request.{Request}
use Rattle.rapid_model.specs.declared.request.Request.TheVariants as requests
use Rattle.history_pages.specs.Answers.{answer_in}
use Rattle.history_pages.specs.Packing.{event_from, event_in, event_of, told_in}
use Rattle.history_pages.specs.Pages.{events_in, given_in, given_to}
use Rattle.history_pages.specs.Requests.{is_lined, is_lined_form, request_in}
use Rattle.history_pages.specs.Values.{joints_of, tail_count, tail_in, value_in}
use Rattle.history_pages.specs.Words.{nums_in, shape_in, text_in}
use Rattle.history_pages.specs.declared.head.Head.{Head}
use Rattle.history_pages.specs.declared.request_form.RequestForm.{RequestForm}
use Rattle.history_pages.specs.declared.request_form.RequestForm.TheVariants as forms
use Rattle.history_pages.specs.declared.tail_form.TailForm.{TailForm}
use Rattle.history_pages.proofs.Packed.{event_at}

abbrev is_setpoint : Request → Bool
is_setpoint (requests.Setpoint to) = true
is_setpoint _ = false

abbrev is_setpoint_form : RequestForm → Bool
is_setpoint_form forms.Setpoint = true
is_setpoint_form _ = false

-- whether a request can have a line, and whether it asks for a setpoint
abbrev tags : Request → Bool × Bool
tags request = (is_lined request, is_setpoint request)

abbrev tags_form : RequestForm → Bool × Bool
tags_form form = (is_lined_form form, is_setpoint_form form)

-- a request that is made of what is read, if something is
made : {A : Type 0} (f : A → Request) (tag : Bool × Bool) → ((x : A) → tag ≡ tags (f x)) → (o : Option A) (request : Request) → option_map f o ≡ Some request → tag ≡ tags request
made f tag each (Some x) request is = each x ∙ ap tags (same_Some (f x) request is)
made f tag each None request is = absurd (none-some request is)

-- a text to the operator has a line
said : (form : TailForm) (words : List ℤ) (text : Option (List ℕ)) (request : Request)
    → option_and_then (λ t. option_map (λ tail. requests.Say t tail) (tail_in form words)) text ≡ Some request → (true, false) ≡ tags request
said form words (Some t) request is = made (λ tail. requests.Say t tail) (true, false) (λ tail. refl) (tail_in form words) request is
said form words None request is = absurd (none-some request is)

tags_in : (form : RequestForm) (words : List ℤ) (request : Request) → request_in form words ≡ Some request → tags_form form ≡ tags request
tags_in forms.Setpoint words request is = made (λ axes. requests.Setpoint (joints_of axes)) (true, true) (λ axes. refl) (nums_in MOST_AXES words) request is
tags_in (forms.Say count tail) words request is = said tail words (text_in count (drop (tail_count tail) words)) request is
tags_in (forms.WriteP form path pers) words request is = made (λ value. requests.WriteP pers path value) (false, false) (λ value. refl) (value_in form words) request is
tags_in (forms.ZoneSet old temporary inside) words request is = made (λ shape. requests.ZoneSet old temporary shape) (false, false) (λ shape. refl) (shape_in inside words) request is
tags_in (forms.ZoneTie old temporary inside value signal) words request is =
    made (λ shape. requests.ZoneTie old temporary shape signal value) (false, false) (λ shape. refl) (shape_in inside words) request is
tags_in (forms.Look told) words request is = ap tags (same_Some _ request is)
tags_in (forms.ReadP path pers) words request is = ap tags (same_Some _ request is)
tags_in (forms.TestSet path pers) words request is = ap tags (same_Some _ request is)
tags_in (forms.ReadS signal) words request is = ap tags (same_Some _ request is)
tags_in (forms.WriteS value signal) words request is = ap tags (same_Some _ request is)
tags_in forms.Position words request is = ap tags (same_Some _ request is)
tags_in (forms.Connect old trap) words request is = ap tags (same_Some _ request is)
tags_in (forms.OrderSignal number single value signal) words request is = ap tags (same_Some _ request is)
tags_in (forms.OrderPers number single pers) words request is = ap tags (same_Some _ request is)
tags_in (forms.Sleep number) words request is = ap tags (same_Some _ request is)
tags_in (forms.Watch number) words request is = ap tags (same_Some _ request is)
tags_in (forms.Delete number) words request is = ap tags (same_Some _ request is)
tags_in forms.Disable words request is = ap tags (same_Some _ request is)
tags_in forms.Enable words request is = ap tags (same_Some _ request is)
tags_in forms.Leave words request is = ap tags (same_Some _ request is)
tags_in (forms.ZoneOn zone) words request is = ap tags (same_Some _ request is)
tags_in (forms.ZoneOff zone) words request is = ap tags (same_Some _ request is)
tags_in (forms.ZoneFree zone) words request is = ap tags (same_Some _ request is)
tags_in (forms.Arrive tasks meeting) words request is = ap tags (same_Some _ request is)
tags_in (forms.Hold seen) words request is = ap tags (same_Some _ request is)
tags_in forms.Rise words request is = ap tags (same_Some _ request is)
tags_in (forms.Input index) words request is = ap tags (same_Some _ request is)
tags_in (forms.End fate) words request is = ap tags (same_Some _ request is)

-- what is read from a head and words has the request that is read
request_read : (actor : ℕ) (o : Option Request) (p : Option Answer) (e : Event) → option_and_then (λ request. option_map (event_of actor request) p) o ≡ Some e → o ≡ Some e.request
request_read actor (Some request) (Some answer) e is = ap (λ (x : Event). Some x.request) (same_Some (event_of actor request answer) e is)
request_read actor (Some request) None e is = absurd (none-some e is)
request_read actor None p e is = absurd (none-some e is)

tags_read : (head : Head) (words : List ℤ) (e : Event) → event_from head words ≡ Some e → tags_form head.request ≡ tags e.request
tags_read head words e is =
    tags_in head.request words e.request (request_read head.actor (request_in head.request words) (answer_in head.answer (told_in head.request) words) e is)

pub lined_at : (heads : List Head) (words : List ℤ) (k : ℕ) (head : Head) (e : Event) → slice_get heads k ≡ Some head → list_all (λ h. is_some (event_in words h)) heads ≡ true
    → slice_get (events_in heads words) k ≡ Some e → is_lined_form head.request ≡ is_lined e.request
lined_at heads words k head e at there is =
    ap (λ (t : Bool × Bool). t.0) (tags_read head (drop head.from words) e (event_at heads words k head at there ∙ is))

-- an event is no setpoint that was given if its request asks for none, or its answer gives none
unasked : (actor : ℕ) (request : Request) (answer : Answer) → is_setpoint request ≡ false → None ≡ given_to actor request answer
unasked actor (requests.Setpoint to) answer is = absurd (true≢false is)
unasked actor _ answer is = refl

-- and that is known from the forms
other_request : (form : RequestForm) → (form ≡ forms.Setpoint → ⊥) → is_setpoint_form form ≡ false
other_request forms.Setpoint differs = absurd (differs refl)
other_request _ differs = refl

each_read : (words : List ℤ) (head : Head) (P : Event → Type 0) → ((e : Event) → event_in words head ≡ Some e → P e) → (o : Option Event) → event_in words head ≡ o → IfSome o P
each_read words head P each (Some e) is = each e is
each_read words head P each None is = tt

pub unasked_in : (words : List ℤ) (head : Head) → (head.request ≡ forms.Setpoint → ⊥) → IfSome (event_in words head) (λ e. None ≡ given_in e)
unasked_in words head differs =
    let same : (e : Event) → event_in words head ≡ Some e → tags_form head.request ≡ tags e.request = λ e is. tags_read head (drop head.from words) e is in
    each_read words head (λ e. None ≡ given_in e)
    (λ e is. unasked e.actor e.request e.answer (sym (ap (λ (t : Bool × Bool). t.1) (same e is)) ∙ other_request head.request differs)) (event_in words head) refl
