-- An actor's own events, with one more.
use Rattle.std.proofs.Common.{◌≡◌, List, [], ◌∷◌, ◌++◌, refl}
use Rattle.rapid_model.specs.Own.{is_held, is_hold}
use Rattle.rapid_model.specs.declared.event.Event.{Event}

-- a task is held exactly if its last event is a Hold
pub is_held-more : (es : List Event) (e : Event) → is_held (es ++ e ∷ []) ≡ is_hold e.request
is_held-more [] e = refl
is_held-more (f ∷ []) e = refl
is_held-more (f ∷ g ∷ es) e = is_held-more (g ∷ es) e
