-- What a list has of the events of pages, one event after another.
use Rattle.std.proofs.Common.{◌≡◌, ℕ, ◌+◌, true, List, [], ◌∷◌, ◌++◌, length, take, slice_get, Option, Some, None, is_some, IfSome, sym, ap, ◌∙◌}
use Rattle.std.proofs.lemmas.Bool.{false≢true}
use Rattle.std.proofs.lemmas.List.{length-append, take_more}
use Rattle.std.proofs.lemmas.Option.{get_or_from_slice_get, slice_get_within}
use Rattle.rapid_model.specs.declared.event.Event.{Event}

events_more : (events : List Event) (k : ℕ) (e : Event) → slice_get events k ≡ Some e → take (k + 1) events ≡ take k events ++ e ∷ []
events_more events k e at = take_more events k e (slice_get_within events k e at) ∙ ap (λ (f : Event). take k events ++ f ∷ []) (get_or_from_slice_get events k e e at)

-- a list of the first events, with the next one at its end
pub copied_more : (events old new : List Event) (k : ℕ) (spelled : Option Event) → spelled ≡ slice_get events k → is_some spelled ≡ true → old ≡ take k events
    → IfSome spelled (λ e. new ≡ old ++ e ∷ []) → new ≡ take (k + 1) events
copied_more events old new k None at some is pushed = absurd (false≢true some)
copied_more events old new k (Some e) at some is pushed = pushed ∙ ap (λ es. es ++ e ∷ []) is ∙ sym (events_more events k e (sym at))

pub counted_more : (old new : List Event) (k : ℕ) (spelled : Option Event) → is_some spelled ≡ true → length old ≡ k → IfSome spelled (λ e. new ≡ old ++ e ∷ []) → length new ≡ k + 1
counted_more old new k None some is pushed = absurd (false≢true some)
counted_more old new k (Some e) some is pushed = ap length pushed ∙ length-append old (e ∷ []) ∙ ap (λ n. n + 1) is
