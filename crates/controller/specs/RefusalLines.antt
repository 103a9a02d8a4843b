-- The line of a refusal.
use Rattle.std.specs.Prelude.{ℕ, List, [], ◌∷◌, ◌++◌, codes, decimal, slice_get}
use Rattle.std.specs.Option.{unwrap_or, option_map_or}
use Rattle.rapid_model.specs.RuleNames.{rule_name}
use Rattle.cell_loading.specs.declared.refused.Refused.{Refused}
use Rattle.cell_loading.specs.declared.refused.Refused.TheVariants.{Words, Script, Module, Read, Write, Memory, TooLong, History}
use Rattle.rapid_lexer.specs.declared.place.Place.{Place}
use Rattle.cell_loading.specs.Refusals.{file_of, module_rule_name}

-- an empty key is printed as a minus
abbrev pub key_words : List ℕ → List ℕ
key_words [] = codes "-"
key_words (b ∷ bs) = b ∷ bs

abbrev pub place_words : Place → List ℕ
place_words place = decimal place.line ++ (58 ∷ decimal place.column)

-- the name of a file by its number; the script's is 0
abbrev pub name_at : List (List ℕ) → ℕ → List ℕ
name_at names file = unwrap_or (slice_get names file) []

-- the words after `rapid_cell: `, with the name of the file that they are about
abbrev pub refusal_words : List ℕ → Refused → List ℕ
refusal_words name (Words place) = codes "words " ++ decimal place
refusal_words name (Script key rule) = codes "script " ++ (key_words key ++ (32 ∷ rule_name rule))
refusal_words name (Module file place rule) = codes "module " ++ (name ++ (32 ∷ place_words place ++ (32 ∷ module_rule_name rule)))
refusal_words name (Read file) = codes "read " ++ name
refusal_words name Write = codes "write"
refusal_words name Memory = codes "memory"
refusal_words name (TooLong file) = codes "long " ++ name
refusal_words name (History line) = codes "history " ++ decimal line

-- the line of a refusal
abbrev pub refusal_text : List ℕ → Refused → List ℕ
refusal_text name refused = codes "rapid_cell: " ++ (refusal_words name refused ++ codes "\n")

-- the same, given the names of the files in the order in which they are read
abbrev pub refusal_line : List (List ℕ) → Refused → List ℕ
refusal_line names refused = refusal_text (option_map_or (name_at names) (file_of refused) []) refused
