-- Reading from left to right: the first character after a quote.
use Rattle.std.specs.Prelude.{ℕ, ◌+◌, ◌*◌, ◌==◌, if◌then◌else◌, List, [], ◌∷◌, Option, Some, None}
use Rattle.rapid_num.specs.Literal.{digit_value}
use Rattle.rapid_num.specs.Characters.{is_printable}
use Rattle.rapid_lexer.specs.Strings.{is_code}

-- the character of a second quote with the one before it, and the length of both
abbrev pub doubled : List ℕ → Option (ℕ × ℕ)
doubled [] = None
doubled (c ∷ cs) = if c == 34 then Some (34, 2) else None

-- the character of an escape, given what follows its backslash, and the escape's length
abbrev pub escaped : List ℕ → Option (ℕ × ℕ)
escaped [] = None
escaped (c ∷ []) = if c == 92 then Some (92, 2) else None
escaped (c ∷ d ∷ ds) =
    if c == 92 then Some (92, 2)
    else if is_code c d then Some (digit_value c * 16 + digit_value d, 3)
    else None

-- the first character, and its length
abbrev pub first_of : List ℕ → Option (ℕ × ℕ)
first_of [] = None
first_of (b ∷ bs) =
    if b == 34 then doubled bs
    else if b == 92 then escaped bs
    else if is_printable b then Some (b, 1)
    else None
