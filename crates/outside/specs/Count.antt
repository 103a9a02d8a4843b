-- Counts that fit in a u64 and saturate.
use Rattle.std.specs.Prelude.{ℕ, ◌+◌, ◌-◌, ◌^◌, ◌<◌, min, max}

-- the greatest count
abbrev pub last_count : ℕ
last_count = 2 ^ 64 - 1

-- a count incremented n times
abbrev pub raised : ℕ → ℕ → ℕ
raised n count = max count (min (count + n) last_count)

-- the count rose, unless it was saturated
abbrev pub Rose : ℕ → ℕ → Type 0
Rose old new = old < last_count → old < new
