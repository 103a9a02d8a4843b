-- Owners that tile code in order.
use Rattle.std.specs.Prelude.{◌≡◌, ℕ, ◌<◌, ◌≤◌, List, [], ◌∷◌, length, Some, slice_index_or}
use Rattle.task_code.specs.declared.how.How.{How}
use Rattle.task_code.specs.declared.how.How.TheVariants.{Retry, Next}
use Rattle.stack_code.specs.Placed.{Own, owner_at}
use Rattle.stack_code.specs.declared.owner.Owner.{Owner}

-- rows that tile the places from one up to another: each begins where the one before it ends, and has an operation
abbrev pub Tiles : ℕ → ℕ → List Owner → Type 0
Tiles from past [] = from ≡ past
Tiles from past (owner ∷ more) = (owner.first ≡ from) × (from < owner.past) × Tiles owner.past past more

-- the operation at the place belongs to the owner
abbrev pub Holds : Owner → ℕ → Type 0
Holds owner pc = (owner.first ≤ pc) × (pc < owner.past)

-- the place is one of the operations that the owners tile
pub record StandsIn (owners : List Owner) (pc : ℕ) : Type 0 where
  pub count : ℕ
  pub tiles : Tiles 0 count owners
  pub below : pc < count

-- the number of the row that holds the place, which is the owner that the code names there
abbrev pub IsNumberAt : List Owner → ℕ → ℕ → Type 0
IsNumberAt owners pc number =
    (number < length owners) × ((d : Owner) → (owner_at owners pc ≡ Some (slice_index_or owners number d)) × Holds (slice_index_or owners number d) pc)

-- the place where execution continues after a statement failed: its beginning, or the place after it
abbrev pub resumed : How → Own → ℕ
resumed Retry own = own.retry
resumed Next own = own.next
