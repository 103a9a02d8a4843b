-- A row of data, of which each takes one word or lies apart.
use Rattle.std.specs.Prelude.{ℕ, ◌≤◌, List, [], ◌∷◌, Option, None, Some}
use Rattle.std.specs.Option.{unwrap_or}
use Rattle.rapid_model.specs.declared.value.Value.TheVariants as values
use Rattle.typed_trees.specs.declared.datum.Datum.{Datum}
use Rattle.typed_trees.specs.declared.datum.Datum.TheVariants.{Mark, Place, Plain}
use Rattle.typed_trees.specs.declared.datum.Root.TheVariants as roots
use Rattle.machine_stacks.specs.declared.word.Word.{Word}
use Rattle.machine_stacks.specs.declared.word.Word.TheVariants as words

-- the data, and the room for data
pub record DataRow : Type 0 where
  pub items : List Datum
  pub room : ℕ

-- the datum of a word, unless it lies apart
abbrev pub in_word : Word → Option Datum
in_word (words.Num number) = Some (Plain (values.Num number))
in_word (words.Bool truth) = Some (Plain (values.Bool truth))
in_word (words.Mark number) = Some (Mark number)
in_word (words.Slot part slot) = Some (Place (record { root = roots.Slot slot; part = part }))
in_word (words.Frame frame part at) = Some (Place (record { root = roots.Frame frame at; part = part }))
in_word (words.Pers part index pers) = Some (Place (record { root = roots.Pers pers index; part = part }))
in_word words.Apart = None

-- the datum of a word, where this one lies apart
abbrev pub datum_in : Word → Datum → Datum
datum_in word apart = unwrap_or (in_word word) apart

-- what lies apart at an index; a 0 past the end
abbrev pub apart_of : Option Datum → Datum
apart_of datum = unwrap_or datum (Mark 0)

-- the data of words; what lies apart for a word has the same index in a second list, and is a 0 past its end
abbrev pub data_in : List Word → List Datum → List Datum
data_in [] apart = []
data_in (word ∷ words) [] = datum_in word (Mark 0) ∷ data_in words []
data_in (word ∷ words) (datum ∷ apart) = datum_in word datum ∷ data_in words apart

-- a row of this many words, with room for so many, has as much room for what lies apart
pub record HasRoom (words room apart room_apart : ℕ) : Type 0 where
  pub few : words ≤ room
  pub enough : room ≤ room_apart
  pub few_apart : apart ≤ room_apart
