-- Reading from left to right: what the functions of the crate find, as functions on lists.
use Rattle.std.specs.Prelude.{ℕ, zero, suc, ◌+◌, Bool, true, false, not, ◌||◌, ◌==◌, nat_lt, if◌then◌else◌, List, [], ◌∷◌, length, take, drop, Option, Some, None, Result, Ok, Err, is_some, map}
use Rattle.std.specs.Str.{bytes_eq}
use Rattle.std.specs.Option.{option_map}
use Rattle.rapid_limits.specs.declared.TheConstants.{LONGEST_STRING}
use Rattle.rapid_num.specs.Literal.{literal_value}
use Rattle.rapid_lexer.specs.declared.kind.Kind.{Kind}
use Rattle.rapid_lexer.specs.declared.kind.Kind.TheVariants as kinds
use Rattle.rapid_lexer.specs.declared.word.Word.{Word}
use Rattle.rapid_lexer.specs.declared.state.State.TheVariants.{Start}
use Rattle.rapid_lexer.specs.declared.fault.LexRule.{LexRule}
use Rattle.rapid_lexer.specs.declared.fault.LexRule.TheVariants.{BadByte, OpenString, BadEscape, LongString, LongName, BadLiteral}
use Rattle.rapid_lexer.specs.declared.fault.LexFault.{LexFault}
use Rattle.rapid_num.specs.Characters.{is_printable}
use Rattle.rapid_lexer.specs.Bytes.{is_blank, upper}
use Rattle.rapid_lexer.specs.Words.{word_of}
use Rattle.rapid_lexer.specs.Strings.{is_code}
use Rattle.rapid_lexer.specs.Tokens.{Lexeme}
use Rattle.rapid_lexer.specs.Scanning.{longest}

-- the text is this uppercase word, case-insensitive
abbrev pub is_word : List ℕ → List ℕ → Bool
is_word word text = bytes_eq word (map upper text)

-- the number of bytes of gaps at the front, starting inside a comment or not
unfoldable pub gap_len : Bool → List ℕ → ℕ
gap_len comment [] = 0
gap_len comment (b ∷ bs) =
    if comment then suc (gap_len (not (b == 10)) bs)
    else if b == 33 then suc (gap_len true bs)
    else if is_blank b then suc (gap_len false bs)
    else 0

-- the number of bytes of the escape after a backslash, backslash included; 0 if there is none
abbrev pub escape_len : List ℕ → ℕ
escape_len [] = 0
escape_len (b ∷ []) = if b == 92 then 2 else 0
escape_len (b ∷ c ∷ bs) = if b == 92 then 2 else if is_code b c then 3 else 0

-- the number of bytes of a doubled quote, given what follows its first; 0 if the quote is single
abbrev pub doubled_len : List ℕ → ℕ
doubled_len [] = 0
doubled_len (c ∷ cs) = if c == 34 then 2 else 0

-- the number of bytes of the first character; 0 if there is none
abbrev pub character_len : List ℕ → ℕ
character_len [] = 0
character_len (b ∷ bs) =
    if b == 34 then doubled_len bs
    else if b == 92 then escape_len bs
    else if is_printable b then 1 else 0

-- the number of bytes of the characters at the front, if there are at most this many
unfoldable pub characters_len : ℕ → List ℕ → Option ℕ
characters_len zero bytes = if character_len bytes == 0 then Some 0 else None
characters_len (suc n) bytes =
    if character_len bytes == 0 then Some 0
    else option_map (λ k. character_len bytes + k) (characters_len n (drop (character_len bytes) bytes))

abbrev pub fault : LexRule → ℕ → LexFault
fault rule at = record { rule = rule; at = at }

-- why a string stops at a position, given the bytes left
abbrev pub stopped : ℕ → ℕ → List ℕ → LexFault
stopped quote at [] = fault OpenString quote
stopped quote at (b ∷ bs) =
    if b == 10 || b == 13 then fault OpenString quote
    else if b == 92 then fault BadEscape at
    else fault BadByte at

abbrev pub broken_behind : ℕ → List ℕ → Option ℕ → LexFault
broken_behind quote bytes None = fault LongString quote
broken_behind quote bytes (Some n) = stopped quote (quote + 1 + n) (drop n bytes)

-- the error of a string without an end, given what follows its quote
unfoldable pub broken : ℕ → List ℕ → LexFault
broken quote bytes = broken_behind quote bytes (characters_len LONGEST_STRING bytes)

-- the error where no token starts
abbrev pub misfit : ℕ → List ℕ → LexFault
misfit at [] = fault BadByte at
misfit at (b ∷ bs) = if b == 34 then broken at bs else fault BadByte at

-- a token, or the error if its text exceeds a limit
abbrev pub checked : Bool → Lexeme → LexFault → Result Lexeme LexFault
checked fits t f = if fits then Ok t else Err f

abbrev pub lexeme : Kind → ℕ → List ℕ → Lexeme
lexeme kind at text = record { kind = kind; text = text; at = at }

-- the kind of a name: this reserved word, or a plain name
abbrev pub name_kind : Option Word → Kind
name_kind None = kinds.Name
name_kind (Some word) = kinds.Word word

-- the token of a kind with a text at a position; a name that is reserved is a word
abbrev pub token_of : Kind → ℕ → List ℕ → Result Lexeme LexFault
token_of kinds.Name at text = checked (nat_lt (length text) 33) (lexeme (name_kind (word_of text)) at text) (fault LongName at)
token_of (kinds.Word word) at text = Ok (lexeme (kinds.Word word) at text)
token_of kinds.Number at text = checked (is_some (literal_value text)) (lexeme kinds.Number at text) (fault BadLiteral at)
token_of kinds.Quoted at text = checked (is_some (characters_len LONGEST_STRING (drop 1 text))) (lexeme kinds.Quoted at text) (fault LongString at)
token_of (kinds.Mark mark) at text = Ok (lexeme (kinds.Mark mark) at text)

abbrev pub token_found : ℕ → List ℕ → Option (Kind × ℕ) → Result Lexeme LexFault
token_found at bytes None = Err (misfit at bytes)
token_found at bytes (Some x) = token_of x.0 at (take x.1 bytes)

-- what the bytes start with where no gap does
unfoldable pub token_at : ℕ → List ℕ → Result Lexeme LexFault
token_at at bytes = token_found at bytes (longest Start bytes)

-- what comes next from a position on
unfoldable pub next_of : ℕ → List ℕ → Option (Result Lexeme LexFault)
next_of at bytes =
    if nat_lt (gap_len false bytes) (length bytes) then Some (token_at (at + gap_len false bytes) (drop (gap_len false bytes) bytes))
    else None
