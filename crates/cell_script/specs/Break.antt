-- A broken rule of the script, and the key where it is broken.
use Rattle.std.specs.Prelude.{ℕ, List, [], ◌∷◌, ◌++◌, map, take, decimal, Result, if◌then◌else◌}
use Rattle.rapid_limits.specs.declared.TheConstants.{LONGEST_STRING}
use Rattle.rapid_num.specs.Characters.{is_printable}
use Rattle.rapid_model.specs.declared.script_rule.ScriptRule.{ScriptRule}

pub record ScriptBreak : Type 0 where
  pub key : List ℕ
  pub rule : ScriptRule

abbrev pub Read : Type 0 → Type 0
Read A = Result A ScriptBreak

-- a key of the table at a path; the script's own path is empty: `steps`, `task[0].arm`
abbrev pub key_in : List ℕ → List ℕ → List ℕ
key_in [] key = key
key_in (b ∷ bs) key = (b ∷ bs) ++ (46 ∷ key)

-- the key of the element at this index of the array at a key: `task[0]`
abbrev pub element_key : List ℕ → ℕ → List ℕ
element_key key index = key ++ (91 ∷ decimal index ++ (93 ∷ []))

abbrev pub shown_byte : ℕ → ℕ
shown_byte b = if is_printable b then b else 63

-- how a refusal shows a key: a question mark for an unprintable byte, and at most 80 bytes
abbrev pub shown : List ℕ → List ℕ
shown key = take LONGEST_STRING (map shown_byte key)

abbrev pub at_key : List ℕ → ScriptRule → ScriptBreak
at_key key rule = record { key = shown key; rule = rule }
