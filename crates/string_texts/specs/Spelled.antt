-- The text of a string (RAPID Kernel, lexical elements).
use Rattle.std.specs.Prelude.{◌≡◌, ℕ, ◌+◌, ◌*◌, ◌==◌, nat_le, if◌then◌else◌, List, [], ◌∷◌, length, map, Option, None, Some}
use Rattle.std.specs.Option.{option_map}
use Rattle.rapid_limits.specs.declared.TheConstants.{LONGEST_STRING}
use Rattle.rapid_num.specs.Literal.{digit_value}
use Rattle.rapid_num.specs.Characters.{is_printable}
use Rattle.rapid_lexer.specs.Strings.{IsString, is_code}

-- the character that its bytes represent: a byte itself, a doubled quote or backslash, or a code of two hexadecimal
-- digits
abbrev pub character_of : List ℕ → ℕ
character_of [] = 0
character_of (b ∷ []) = b
character_of (b ∷ c ∷ []) = c
character_of (b ∷ c ∷ d ∷ ds) = digit_value c * 16 + digit_value d

-- the token is a string whose characters are those of the text
pub record Spells (quoted text : List ℕ) : Type 0 where
  pub characters : List (List ℕ)
  pub string : IsString quoted characters
  pub text_is : text ≡ map character_of characters

abbrev pub with_character : ℕ → Option (List ℕ) → Option (List ℕ)
with_character c text = option_map (λ more. c ∷ more) text

-- the text of characters up to the closing quote, which is the last byte
abbrev pub text_behind : List ℕ → Option (List ℕ)
text_behind [] = None
text_behind (b ∷ []) = if b == 34 then Some [] else None
text_behind (b ∷ c ∷ []) =
    if b == 34 then None
    else if b == 92 then None
    else if is_printable b then with_character b (text_behind (c ∷ [])) else None
text_behind (b ∷ c ∷ d ∷ ds) =
    if b == 34 then (if c == 34 then with_character 34 (text_behind (d ∷ ds)) else None)
    else if b == 92 then
    (if c == 92 then with_character 92 (text_behind (d ∷ ds))
    else if is_code c d then with_character (digit_value c * 16 + digit_value d) (text_behind ds) else None)
    else if is_printable b then with_character b (text_behind (c ∷ d ∷ ds)) else None

-- at most this many
abbrev pub limited : ℕ → Option (List ℕ) → Option (List ℕ)
limited most None = None
limited most (Some text) = if nat_le (length text) most then Some text else None

-- the text of a string token; None if the bytes are not a string of at most 80 characters
abbrev pub text_in : List ℕ → Option (List ℕ)
text_in [] = None
text_in (b ∷ bs) = if b == 34 then limited LONGEST_STRING (text_behind bs) else None
