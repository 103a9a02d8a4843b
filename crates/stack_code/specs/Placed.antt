-- Operations with the statements that own them.
use Rattle.std.specs.Prelude.{◌≡◌, ℕ, ◌+◌, nat_lt, List, [], ◌∷◌, Option, None, Some, if◌then◌else◌, slice_get, ⊤}
use Rattle.std.specs.Option.{option_and_then, option_map}
use Rattle.rapid_model.specs.declared.at.At.{At}
use Rattle.stack_code.specs.CodeData.{CodeData}
use Rattle.stack_code.specs.declared.op.Op.{Op}
use Rattle.stack_code.specs.declared.owner.Owner.{Owner}

-- what a statement gives its operations: the place where it is retried, the place after it, and its position in the
-- source
pub record Own : Type 0 where
  pub retry : ℕ
  pub next : ℕ
  pub at : At

pub record Placed : Type 0 where
  pub own : Own
  pub op : Op

abbrev pub own_of : Owner → Own
own_of owner = record { retry = owner.retry; next = owner.next; at = owner.at }

-- the owner of a place, among owners that tile the code in order
unfoldable pub owner_at : List Owner → ℕ → Option Owner
owner_at [] pc = None
owner_at (owner ∷ more) pc = if nat_lt pc owner.past then Some owner else owner_at more pc

abbrev pub beside : Owner → Op → Placed
beside owner op = record { own = own_of owner; op = op }

-- the operation at a place
abbrev pub placed_at : CodeData → ℕ → Option Placed
placed_at code pc = option_and_then (λ op. option_map (λ owner. beside owner op) (owner_at code.owners pc)) (slice_get code.ops pc)

-- code has these operations, with their owners, from this place
abbrev pub StandsAt : CodeData → ℕ → List Placed → Type 0
StandsAt code pc [] = ⊤
StandsAt code pc (p ∷ ps) = (placed_at code pc ≡ Some p) × StandsAt code (pc + 1) ps
