-- Appending code.
use Rattle.std.specs.Prelude.{◌≡◌, ℕ, ◌+◌, List}
use Rattle.stack_code.specs.Placed.{Placed}

-- code from a place on, before what follows it
abbrev pub Code : Type 0
Code = ℕ → List Placed → List Placed

-- What is there grows by the `size` operations of `code`. Both sides take anything that may follow; `from` and `to` are
-- the places of the next operation.
pub record Follows {X Y : Type 0} (before after : Y → X) (from to size : ℕ) (code : ℕ → Y → Y) : Type 0 where
  pub grown : to ≡ from + size
  pub laid : (more : Y) → after more ≡ before (code from more)
