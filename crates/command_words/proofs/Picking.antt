-- Looking for a word of a kind, one position after the other.
use Rattle.std.proofs.Common.{◌≡◌, ℕ, List, map, drop, Bool}
use Rattle.std.specs.Prelude.{filter, slice_get}
use Rattle.command_words.specs.Words.{places}

-- the word of this number is the one of that number among those from a position on
pub record Picking {W : Type 0} (items : W → List ℕ) (test : List ℕ → Bool) (words : List W) (number at left : ℕ) : Type 0 where
  pub place : slice_get (places test 0 (map items words)) number ≡ slice_get (places test at (map items (drop at words))) left
  pub word : slice_get (filter test (map items words)) number ≡ slice_get (filter test (map items (drop at words))) left
