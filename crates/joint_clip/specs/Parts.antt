-- Parts of a segment.
use Rattle.std.specs.Prelude.{◌≤◌, ◌*◌, ℕ, Option, IsSomeAnd}
use Rattle.joint_clip.specs.declared.part.Part.{Part}

-- a/b is at most c/d
pub record IsAtMost (a b c d : ℕ) : Type 0 where
  pub across : a * d ≤ c * b

-- k/m is between the ends of the part
pub record IsIn (part : Part) (k m : ℕ) : Type 0 where
  pub first : IsAtMost part.first.top part.first.bottom k m
  pub last : IsAtMost k m part.last.top part.last.bottom

-- the part is exactly the fractions of the segment at which this holds; there is no part if it holds at none
pub record IsPartWhere (part : Option Part) (Holds : ℕ → ℕ → Type 0) : Type 0 where
  pub kept : (k m : ℕ) → 1 ≤ m → k ≤ m → Holds k m → IsSomeAnd part (λ some. IsIn some k m)
  pub only : (k m : ℕ) → 1 ≤ m → k ≤ m → IsSomeAnd part (λ some. IsIn some k m) → Holds k m
