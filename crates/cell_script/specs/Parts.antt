-- Parts of a row and of the script, as one function reads each.
use Rattle.std.specs.Prelude.{ℕ, ℤ, Bool, List, [], Option, Some, None, Ok, if◌then◌else◌}
use Rattle.std.specs.List.{list_all}
use Rattle.toml.specs.Data.{Data, as_integer}
use Rattle.rapid_limits.specs.declared.TheConstants.{ROBOT_AXES}
use Rattle.rapid_num.specs.Reach.{is_in_reach}
use Rattle.rule_checks.specs.Checks.{◌>>=◌}
use Rattle.cell_script.specs.Break.{Read}
use Rattle.cell_script.specs.Keys.{Keys, at, needed, optional, whole_at, list_at, rows_at, each_row}

-- what an optional value is read as
abbrev pub where_there : {A : Type 0} → (Data → Read A) → Option Data → Read (Option A)
where_there read value = optional None (λ d. read d >>= (λ x. Ok (Some x))) value

-- the rows of an array of that many tables
abbrev pub rows_in : {A : Type 0} → List ℕ → ℕ → ℕ → (List A → Data → Read A) → Data → Read (List A)
rows_in key low high read d = rows_at key low high d >>= each_row read []

-- the same for a required key
abbrev pub needed_rows : {A : Type 0} → Keys → List ℕ → ℕ → ℕ → (List A → Data → Read A) → Read (List A)
needed_rows keys key low high read = needed keys key >>= rows_at (at keys key) low high >>= each_row read []

-- an angle that some axis reaches: external axes reach the farthest
abbrev pub is_angle : ℤ → Bool
is_angle angle = is_in_reach ROBOT_AXES angle

-- integers, each an angle
abbrev pub angles_in : List ℕ → Data → Read (Option (List ℤ))
angles_in key d = list_at key as_integer d >>= (λ angles. Ok (if list_all is_angle angles then Some angles else None))

-- a whole number in a range, for a required key
abbrev pub needed_whole : Keys → List ℕ → ℕ → ℕ → Read ℕ
needed_whole keys key low high = needed keys key >>= whole_at (at keys key) low high
