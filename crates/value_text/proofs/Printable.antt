-- Printable bytes are valid UTF-8.
use Rattle.std.proofs.Common.{ℕ, ◌≤◌, nat_le, List, [], ◌∷◌, zero, suc, arith}
use Rattle.std.proofs.lemmas.Bool.{and_parts, leb-true}
use Rattle.std.proofs.lemmas.Str.{IsUtf8-from_ascii}
use Rattle.std.proofs.lemmas.Str.Ascii.{IsAscii-nil}
use Rattle.std.specs.Str.{IsAscii, IsUtf8}
use Rattle.rapid_model.specs.Printable.{ArePrintable}

ascii_from_printable : (bytes : List ℕ) → ArePrintable bytes → IsAscii bytes
ascii_from_printable [] h i = IsAscii-nil i
ascii_from_printable (b ∷ bs) h zero = let high : b ≤ 126 = leb-true b 126 (and_parts (nat_le 32 b) (nat_le b 126) h.0).1 in omega arith
ascii_from_printable (b ∷ bs) h (suc i) = ascii_from_printable bs h.1 i

pub utf8_from_printable : (bytes : List ℕ) → ArePrintable bytes → IsUtf8 bytes
utf8_from_printable bytes h = IsUtf8-from_ascii bytes (ascii_from_printable bytes h)
