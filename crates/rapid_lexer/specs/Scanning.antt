-- The longest token at the front of bytes, byte by byte: the states of a scanner.
use Rattle.std.specs.Prelude.{ℕ, ◌+◌, Bool, ◌||◌, ◌==◌, nat_lt, if◌then◌else◌, List, [], ◌∷◌, Option, Some, None}
use Rattle.std.specs.Str.{bytes_eq}
use Rattle.rapid_num.specs.Literal.{digit_value, is_exponent_letter}
use Rattle.rapid_lexer.specs.declared.kind.Kind.{Kind}
use Rattle.rapid_lexer.specs.declared.kind.Kind.TheVariants as kinds
use Rattle.rapid_lexer.specs.declared.mark.Mark.{Mark}
use Rattle.rapid_lexer.specs.declared.mark.Mark.TheVariants as marks
use Rattle.rapid_lexer.specs.declared.state.State.{State}
use Rattle.rapid_lexer.specs.declared.state.State.TheVariants.{Start, InName, Zero, Whole, Dot, Fraction, Exponent, ExponentSign, Power, HexMark, Hex, OctalMark, Octal, BinaryMark, Binary, Inside, Closed, Escape, Code, Colon, Less, Greater, Single, Dead}
use Rattle.rapid_num.specs.Characters.{is_digit, is_letter, is_name_byte, is_printable}
use Rattle.rapid_lexer.specs.Bytes.{is_hex}
use Rattle.rapid_lexer.specs.Strings.{is_code}
use Rattle.rapid_lexer.specs.Marks.{mark_text}

-- the marks of one byte that no longer mark starts with
abbrev pub singles : List Mark
singles =
    marks.OpenBrace ∷ marks.CloseBrace ∷ marks.OpenBracket ∷ marks.CloseBracket ∷ marks.OpenParenthesis ∷ marks.CloseParenthesis
    ∷ marks.Comma ∷ marks.Semicolon ∷ marks.Equal ∷ marks.Plus ∷ marks.Minus ∷ marks.Star ∷ marks.Slash ∷ marks.Backslash
    ∷ marks.Question ∷ []

-- the first of the marks that is this byte
abbrev pub mark_in : List Mark → ℕ → Option Mark
mark_in [] b = None
mark_in (m ∷ ms) b = if bytes_eq (mark_text m) (b ∷ []) then Some m else mark_in ms b

abbrev pub single_of : ℕ → Option Mark
single_of b = mark_in singles b

-- after a mark that no longer mark starts with, if it is one
abbrev pub where_single : Option Mark → State
where_single None = Dead
where_single (Some m) = Single m

abbrev pub after_start : ℕ → State
after_start b =
    if is_letter b then InName
    else if b == 48 then Zero
    else if is_digit b then Whole
    else if b == 34 then Inside
    else if b == 46 then Dot
    else if b == 58 then Colon
    else if b == 60 then Less
    else if b == 62 then Greater
    else where_single (single_of b)

abbrev pub after_less : ℕ → State
after_less b =
    if b == 61 then Single marks.LessEqual
    else if b == 62 then Single marks.NotEqual
    else Dead

-- after digits without a point so far
abbrev pub after_whole : ℕ → State
after_whole b =
    if is_digit b then Whole
    else if b == 46 then Fraction
    else if is_exponent_letter b then Exponent
    else Dead

-- after an initial 0
abbrev pub after_zero : ℕ → State
after_zero b =
    if b == 120 || b == 88 then HexMark
    else if b == 111 || b == 79 then OctalMark
    else if b == 98 || b == 66 then BinaryMark
    else after_whole b

-- after a point with digits on at least one side
abbrev pub after_fraction : ℕ → State
after_fraction b =
    if is_digit b then Fraction
    else if is_exponent_letter b then Exponent
    else Dead

abbrev pub after_exponent : ℕ → State
after_exponent b =
    if b == 43 || b == 45 then ExponentSign
    else if is_digit b then Power
    else Dead

-- inside a string, after its quote or a character
abbrev pub after_character : ℕ → State
after_character b =
    if b == 34 then Closed
    else if b == 92 then Escape
    else if is_printable b then Inside
    else Dead

abbrev pub after_escape : ℕ → State
after_escape b =
    if b == 92 then Inside
    else if is_hex b then Code b
    else Dead

-- this state if the test holds, else no token
abbrev pub where_so : Bool → State → State
where_so b s = if b then s else Dead

abbrev pub step : State → ℕ → State
step Start b = after_start b
step InName b = where_so (is_name_byte b) InName
step Zero b = after_zero b
step Whole b = after_whole b
step Dot b = where_so (is_digit b) Fraction
step Fraction b = after_fraction b
step Exponent b = after_exponent b
step ExponentSign b = where_so (is_digit b) Power
step Power b = where_so (is_digit b) Power
step HexMark b = where_so (is_hex b) Hex
step Hex b = where_so (is_hex b) Hex
step OctalMark b = where_so (nat_lt (digit_value b) 8) Octal
step Octal b = where_so (nat_lt (digit_value b) 8) Octal
step BinaryMark b = where_so (nat_lt (digit_value b) 2) Binary
step Binary b = where_so (nat_lt (digit_value b) 2) Binary
step Inside b = after_character b
step Closed b = where_so (b == 34) Inside
step Escape b = after_escape b
step (Code h) b = where_so (is_code h b) Inside
step Colon b = where_so (b == 61) (Single marks.Assign)
step Less b = after_less b
step Greater b = where_so (b == 61) (Single marks.GreaterEqual)
step (Single m) b = Dead
step Dead b = Dead

-- the kind of a token that ends here, with a reserved word as a name
abbrev pub kind_at : State → Option Kind
kind_at Start = None
kind_at InName = Some kinds.Name
kind_at Zero = Some kinds.Number
kind_at Whole = Some kinds.Number
kind_at Dot = Some (kinds.Mark marks.Dot)
kind_at Fraction = Some kinds.Number
kind_at Exponent = None
kind_at ExponentSign = None
kind_at Power = Some kinds.Number
kind_at HexMark = None
kind_at Hex = Some kinds.Number
kind_at OctalMark = None
kind_at Octal = Some kinds.Number
kind_at BinaryMark = None
kind_at Binary = Some kinds.Number
kind_at Inside = None
kind_at Closed = Some kinds.Quoted
kind_at Escape = None
kind_at (Code h) = None
kind_at Colon = Some (kinds.Mark marks.Colon)
kind_at Less = Some (kinds.Mark marks.Less)
kind_at Greater = Some (kinds.Mark marks.Greater)
kind_at (Single m) = Some (kinds.Mark m)
kind_at Dead = None

-- the kind of the token that all the bytes are
unfoldable pub accepted : State → List ℕ → Option Kind
accepted s [] = kind_at s
accepted s (b ∷ bs) = accepted (step s b) bs

abbrev pub with_length : ℕ → Option Kind → Option (Kind × ℕ)
with_length n None = None
with_length n (Some k) = Some (k, n)

-- what was found after this many bytes, else what was found before
abbrev pub behind : Option (Kind × ℕ) → ℕ → Option (Kind × ℕ) → Option (Kind × ℕ)
behind last n None = last
behind last n (Some x) = Some (x.0, n + x.1)

-- the longest token at the front of the bytes: its kind and its length
unfoldable pub longest : State → List ℕ → Option (Kind × ℕ)
longest s [] = with_length 0 (kind_at s)
longest s (b ∷ bs) = behind (with_length 0 (kind_at s)) 1 (longest (step s b) bs)
