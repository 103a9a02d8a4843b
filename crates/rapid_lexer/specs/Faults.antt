-- The first position in a text where no token fits, and why.
use Rattle.std.specs.Prelude.{◌≡◌, ◌≢◌, ℕ, ◌+◌, ◌≤◌, ◌<◌, false, List, [], ◌∷◌, ◌++◌, length, Option, Some, None, Result, Ok, Err, ◌⊎◌}
use Rattle.std.specs.List.{concat}
use Rattle.rapid_limits.specs.declared.TheConstants.{LONGEST_NAME, LONGEST_STRING}
use Rattle.rapid_num.specs.Literal.{literal_value}
use Rattle.rapid_lexer.specs.declared.kind.Kind.{Kind}
use Rattle.rapid_lexer.specs.declared.kind.Kind.TheVariants.{Name, Number}
use Rattle.rapid_lexer.specs.declared.fault.LexRule.{LexRule}
use Rattle.rapid_lexer.specs.declared.fault.LexRule.TheVariants.{BadByte, OpenString, BadEscape, LongString, LongName, BadLiteral, OpenHeader}
use Rattle.rapid_lexer.specs.declared.fault.LexFault.{LexFault}
use Rattle.rapid_lexer.specs.declared.token.Token.{Token}
use Rattle.rapid_num.specs.Characters.{is_printable}
use Rattle.rapid_lexer.specs.Bytes.{is_blank}
use Rattle.rapid_lexer.specs.Strings.{is_character, AreCharacters, IsString}
use Rattle.rapid_lexer.specs.Gaps.{IsGap, front_of}
use Rattle.rapid_lexer.specs.Tokens.{Lexeme, view, IsToken, IsLongest, Follows, Begins}

-- no token, of any length and value, starts here
abbrev pub NoToken : List ℕ → Type 0
NoToken bytes = (kind : Kind) (text after : List ℕ) → bytes ≡ text ++ after → IsToken kind text → ⊥

-- the longest token here is of this kind, and its text exceeds a limit
pub record IsTooLong (kind : Kind) (exceeds : List ℕ → Type 0) (bytes : List ℕ) : Type 0 where
  pub text : List ℕ
  pub after : List ℕ
  pub whole : bytes ≡ text ++ after
  pub is_token : IsToken kind text
  pub is_longest : IsLongest text after
  pub excess : exceeds text

-- the longest token here is a string of more than 80 characters
pub record IsLongString (bytes : List ℕ) : Type 0 where
  pub text : List ℕ
  pub after : List ℕ
  pub whole : bytes ≡ text ++ after
  pub characters : List (List ℕ)
  pub is_string : IsString text characters
  pub is_longest : IsLongest text after
  pub excess : LONGEST_STRING < length characters

-- the bytes start like a string but are not one: a quote, these characters, and the bytes left
pub record IsBroken (bytes : List ℕ) (characters : List (List ℕ)) (left : List ℕ) : Type 0 where
  pub none : NoToken bytes
  pub are : AreCharacters characters
  pub whole : bytes ≡ 34 ∷ (concat characters ++ left)

-- the line or the text ends
abbrev pub IsAtEnd : List ℕ → Type 0
IsAtEnd [] = Unit {0}
IsAtEnd (b ∷ bs) = (b ≡ 10) ⊎ (b ≡ 13)

-- a backslash that does not start an escape
abbrev pub IsBadEscape : List ℕ → Type 0
IsBadEscape [] = ⊥
IsBadEscape (b ∷ bs) = (b ≡ 92) × ((text after : List ℕ) → b ∷ bs ≡ text ++ after → is_character text ≡ false)

-- a byte that is not allowed in a string and does not end a line
abbrev pub IsBadInString : List ℕ → Type 0
IsBadInString [] = ⊥
IsBadInString (b ∷ bs) = (is_printable b ≡ false) × (b ≢ 10) × (b ≢ 13)

-- a byte that does not start a token, a gap or a string
abbrev pub IsBadAtFront : List ℕ → Type 0
IsBadAtFront [] = ⊥
IsBadAtFront (b ∷ bs) = (is_blank b ≡ false) × (b ≢ 33) × (b ≢ 34)

-- After a quote at a position there are at most 80 characters, and then, at the position of the error, whatever stops
-- the string.
abbrev pub StopsString : (List ℕ → Type 0) → ℕ → List ℕ → ℕ → Type 0
StopsString stops here bytes at = (cs : List (List ℕ)) × (left : List ℕ) × IsBroken bytes cs left × (length cs ≤ LONGEST_STRING) × stops left × (at ≡ here + 1 + length (concat cs))

-- At this position, where no gap starts, no token fits: the rule and the position of the error. In a string the error
-- is the first one in the bytes; for this order, a string is too long from its 81st character on.
abbrev pub IsMisfit : LexRule → ℕ → List ℕ → ℕ → Type 0
IsMisfit BadByte here bytes at = (NoToken bytes × IsBadAtFront bytes × (at ≡ here)) ⊎ StopsString IsBadInString here bytes at
IsMisfit OpenString here bytes at = (end : ℕ) × StopsString IsAtEnd here bytes end × (at ≡ here)
IsMisfit BadEscape here bytes at = StopsString IsBadEscape here bytes at
IsMisfit LongString here bytes at = (IsLongString bytes ⊎ ((cs : List (List ℕ)) × (left : List ℕ) × IsBroken bytes cs left × (length cs ≡ 81))) × (at ≡ here)
IsMisfit LongName here bytes at = IsTooLong Name (λ text. LONGEST_NAME < length text) bytes × (at ≡ here)
IsMisfit BadLiteral here bytes at = IsTooLong Number (λ text. literal_value text ≡ None) bytes × (at ≡ here)
IsMisfit OpenHeader here bytes at = ⊥

-- the result of a call, without where the token's text is in memory
abbrev pub seen : Result Token LexFault → Result Lexeme LexFault
seen (Ok t) = Ok (view t)
seen (Err f) = Err f

-- What comes next from a position on: only a gap, a token, or a position where no token fits.
abbrev pub IsNext : ℕ → List ℕ → Option (Result Lexeme LexFault) → Type 0
IsNext at bytes None = IsGap bytes []
IsNext at bytes (Some (Ok t)) = (after : List ℕ) × Follows at bytes t after
IsNext at bytes (Some (Err f)) = (gap left : List ℕ) × (bytes ≡ gap ++ left) × IsGap gap left × IsMisfit f.rule (at + length gap) left f.at

-- The first error in a source: a header without an end, or a misfit after tokens.
abbrev pub IsFirstMisfit : List ℕ → LexFault → Type 0
IsFirstMisfit source f = ((f.rule ≡ OpenHeader) × (front_of source ≡ Err f.at))
    ⊎ ((tokens : List Lexeme) × (there : ℕ) × (left : List ℕ) × Begins source tokens there left × IsNext there left (Some (Err f)))
