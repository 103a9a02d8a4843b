-- The state of a task, from its own events.
use Rattle.std.proofs.Common.{◌≡◌, refl, sym, ap₂, Bool, true, false, if◌then◌else◌}
use Rattle.rapid_model.specs.Own.{is_hold, is_leave, is_trap}
use Rattle.rapid_model.specs.declared.answer.Answer.{Answer}
use Rattle.rapid_model.specs.declared.request.Request.{Request}
use Rattle.rapid_meaning.specs.Data.{Data}

-- whether its last event is a Hold, and whether a trap is running
pub record OwnState : Type 0 where
  pub held : Bool
  pub trapped : Bool

abbrev pub trapped_after : Bool → Request → Answer → Bool
trapped_after trapped request a = if is_trap a then true else if is_leave request then false else trapped

abbrev pub own_state_after : OwnState → Request → Answer → OwnState
own_state_after t request a = record { held = is_hold request; trapped = trapped_after t.trapped request a }

-- the last event is not a Hold, and events and data agree about a trap
abbrev pub calm : Data → OwnState
calm d = record { held = false; trapped = d.trapped }

pub record IsCalm (t : OwnState) (d : Data) : Type 0 where
  pub not_held : t.held ≡ false
  pub same : t.trapped ≡ d.trapped

pub is_calm : (t : OwnState) (d : Data) → IsCalm t d → calm d ≡ t
is_calm t d h = ap₂ (λ (held trapped : Bool). record { held = held; trapped = trapped }) (sym h.not_held) (sym h.same)

pub calm_itself : (d : Data) → IsCalm (calm d) d
calm_itself d = record { not_held = refl; same = refl }
