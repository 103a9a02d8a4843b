-- The characters of a text in quotes, one after the other.
use Rattle.std.proofs.Common.{◌≡◌, ℕ, suc, ◌+◌, ◌-◌, ◌<◌, ◌≤◌, List, None, refl, arith}
use Rattle.history_text.specs.Reading.{◌>>=◌, character_at, characters_at, with_character}

-- one more step
pub characters_turn : (n i : ℕ) (so_far rest : List ℕ) → i < n → characters_at (n - i) so_far rest ≡ (character_at rest >>= with_character so_far (λ more after. characters_at (n - (i + 1)) more after))
unfolding characters_at
characters_turn n i so_far rest less = let left : n - i ≡ suc (n - (i + 1)) = omega arith in rw left refl

-- no step is left
pub characters_end : (n i : ℕ) (so_far rest : List ℕ) → n ≤ i → characters_at (n - i) so_far rest ≡ None
unfolding characters_at
characters_end n i so_far rest past = let none : n - i ≡ 0 = omega arith in rw none refl
