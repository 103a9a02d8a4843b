-- The calls of `write` by which lines go out.
use Rattle.std.specs.Prelude.{◌≡◌, ℕ, ◌-◌, ◌<◌, ◌≤◌, List, [], ◌∷◌, ◌++◌, length}
use Rattle.outside.specs.declared.call.Call.{Call}

-- These calls left this many bytes of a piece of that many: the first was handed all of it, each further one what those
-- before it had left, and each took some of what it was handed.
abbrev pub Leaves : ℕ → List Call → ℕ → Type 0
Leaves size [] left = size ≡ left
Leaves size (call ∷ calls) left = (call.handed ≡ size) × (0 < call.taken) × (call.taken ≤ size) × Leaves (size - call.taken) calls left

-- a piece of this many bytes was written by these calls: one with all of it, and more only if a call took part of it
abbrev pub Sends : ℕ → List Call → Type 0
Sends size calls = Leaves size calls 0

-- the lines were written by these calls, one line after the other
abbrev pub SendsLines : List (List ℕ) → List Call → Type 0
SendsLines [] calls = calls ≡ []
SendsLines (line ∷ lines) calls =
    (here : List Call) × (behind : List Call) × (calls ≡ here ++ behind) × Sends (length line) here × SendsLines lines behind

-- some of the lines were written by these calls: the first ones in full, and less than all of the next one
pub record SendsSome (lines : List (List ℕ)) (calls : List Call) : Type 0 where
  pub whole : List (List ℕ)
  pub next : List ℕ
  pub missing : List (List ℕ)
  pub lines_are : lines ≡ whole ++ next ∷ missing
  pub before : List Call
  pub last : List Call
  pub calls_are : calls ≡ before ++ last
  pub sends : SendsLines whole before
  pub left : ℕ
  pub lacks : 0 < left
  pub leaves : Leaves (length next) last left
