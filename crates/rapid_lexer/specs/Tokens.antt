-- Tokens, and how they tile a text.
use Rattle.std.specs.Prelude.{◌≡◌, ℕ, ◌+◌, ◌≤◌, true, List, [], ◌∷◌, ◌++◌, length, take, drop, map, IsSome, Ok}
use Rattle.rapid_limits.specs.declared.TheConstants.{LONGEST_NAME, LONGEST_STRING}
use Rattle.rapid_num.specs.Characters.{is_name}
use Rattle.rapid_num.specs.Literal.{spelled_thousandths, literal_value}
use Rattle.rapid_lexer.specs.declared.kind.Kind.{Kind}
use Rattle.rapid_lexer.specs.declared.kind.Kind.TheVariants.{Name, Word, Number, Quoted, Mark}
use Rattle.rapid_lexer.specs.declared.token.Token.{Token}
use Rattle.rapid_lexer.specs.Words.{IsWord, IsReserved}
use Rattle.rapid_lexer.specs.Marks.{mark_text}
use Rattle.rapid_lexer.specs.Strings.{IsString}
use Rattle.rapid_lexer.specs.Gaps.{IsGap, front_of}

-- a token, without where its text is in memory
pub record Lexeme : Type 0 where
  pub kind : Kind
  pub text : List ℕ
  pub at : ℕ

abbrev pub view : Token → Lexeme
view t = record { kind = t.kind; text = t.text.now; at = t.at }

abbrev pub views : List Token → List Lexeme
views ts = map view ts

-- the shape of each kind of token, for any length and value
abbrev pub IsToken : Kind → List ℕ → Type 0
IsToken Name text = (is_name text ≡ true) × ¬ IsReserved text
IsToken (Word word) text = (is_name text ≡ true) × IsWord word text
IsToken Number text = IsSome (spelled_thousandths text)
IsToken Quoted text = (cs : List (List ℕ)) × IsString text cs
IsToken (Mark mark) text = text ≡ mark_text mark

-- no longer token starts where this text does
abbrev pub IsLongest : List ℕ → List ℕ → Type 0
IsLongest text after = (kind : Kind) (other rest : List ℕ) → text ++ after ≡ other ++ rest → IsToken kind other → length other ≤ length text

-- the limits: the bytes of a name, the bytes and the range of a literal, the characters of a string
abbrev pub IsWithinLimits : Kind → List ℕ → Type 0
IsWithinLimits Name text = length text ≤ LONGEST_NAME
IsWithinLimits (Word word) text = Unit {0}
IsWithinLimits Number text = IsSome (literal_value text)
IsWithinLimits Quoted text = (cs : List (List ℕ)) × IsString text cs × (length cs ≤ LONGEST_STRING)
IsWithinLimits (Mark mark) text = Unit {0}

-- from this position on come a gap, a token, and then the bytes after it
pub record Follows (at : ℕ) (bytes : List ℕ) (token : Lexeme) (after : List ℕ) : Type 0 where
  pub gap : List ℕ
  pub whole : bytes ≡ gap ++ (token.text ++ after)
  pub is_gap : IsGap gap (token.text ++ after)
  pub is_at : token.at ≡ at + length gap
  pub is_token : IsToken token.kind token.text
  pub is_longest : IsLongest token.text after
  pub within_limits : IsWithinLimits token.kind token.text

-- from this position on come gaps and these tokens; what is left starts at a position there
abbrev pub Passes : ℕ → List ℕ → List Lexeme → ℕ → List ℕ → Type 0
Passes at bytes [] there left = (there ≡ at) × (left ≡ bytes)
Passes at bytes (t ∷ ts) there left = (after : List ℕ) × Follows at bytes t after × Passes (t.at + length t.text) after ts there left

-- after the front of the source come gaps and these tokens
pub record Begins (source : List ℕ) (tokens : List Lexeme) (there : ℕ) (left : List ℕ) : Type 0 where
  pub front : ℕ
  pub is_front : front_of source ≡ Ok front
  pub passes : Passes front (drop front source) tokens there left

-- gaps and tokens in order, put together, are the source, and each token is the longest that starts at its position
pub record Tiles (source : List ℕ) (tokens : List Lexeme) : Type 0 where
  pub there : ℕ
  pub left : List ℕ
  pub begins : Begins source tokens there left
  pub is_gap : IsGap left []

-- the text of a token is the part of the source at its position
abbrev pub IsSliceOf : List ℕ → Lexeme → Type 0
IsSliceOf source t = t.text ≡ take (length t.text) (drop t.at source)
