-- Strings (RAPID Kernel, lexical elements): a quote, characters, and a quote.
use Rattle.std.specs.Prelude.{◌≡◌, ℕ, ◌+◌, ◌*◌, Bool, true, false, not, ◌&&◌, ◌||◌, ◌==◌, List, [], ◌∷◌, ◌++◌}
use Rattle.std.specs.List.{concat, AllByRecursion}
use Rattle.rapid_num.specs.Literal.{digit_value}
use Rattle.rapid_num.specs.Characters.{is_printable}
use Rattle.rapid_lexer.specs.Bytes.{is_hex}

-- two hexadecimal digits that encode a printable character
abbrev pub is_code : ℕ → ℕ → Bool
is_code h l = is_hex h && is_hex l && is_printable (digit_value h * 16 + digit_value l)

-- the bytes of one character: a printable byte other than the quote and the backslash; two quotes or two backslashes
-- for one; or a backslash and a code
abbrev pub is_character : List ℕ → Bool
is_character [] = false
is_character (b ∷ []) = is_printable b && not (b == 34) && not (b == 92)
is_character (b ∷ c ∷ []) = (b == 34 && c == 34) || (b == 92 && c == 92)
is_character (b ∷ c ∷ d ∷ []) = b == 92 && is_code c d
is_character (b ∷ c ∷ d ∷ e ∷ bs) = false

abbrev pub AreCharacters : List (List ℕ) → Type 0
AreCharacters cs = AllByRecursion (λ c. is_character c ≡ true) cs

-- the text is a string of these characters
pub record IsString (text : List ℕ) (cs : List (List ℕ)) : Type 0 where
  pub characters : AreCharacters cs
  pub whole : text ≡ 34 ∷ (concat cs ++ 34 ∷ [])
