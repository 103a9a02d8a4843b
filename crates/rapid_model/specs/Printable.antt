-- The characters of a text.
use Rattle.std.specs.Prelude.{ℕ, Bool, ◌&&◌, nat_lt, List, length, IsTrue}
use Rattle.std.specs.List.{AllByRecursion}
use Rattle.rapid_num.specs.Characters.{is_printable}

-- each byte is from 20 to 7E hexadecimal
abbrev pub ArePrintable : List ℕ → Type 0
ArePrintable bytes = AllByRecursion (λ byte. IsTrue (is_printable byte)) bytes

-- a text of this capacity that contains these bytes accepts one more
abbrev pub takes : ℕ → List ℕ → ℕ → Bool
takes room bytes byte = is_printable byte && nat_lt (length bytes) room
