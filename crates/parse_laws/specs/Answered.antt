-- Each list of tokens has exactly one answer. F n is the form with up to n levels of nesting.
use Rattle.std.specs.Prelude.{◌≡◌, ℕ, ◌≤◌, List, length, min, Ok, Err, ◌⊎◌}
use Rattle.rapid_lexer.specs.Tokens.{Lexeme, views}
use Rattle.rapid_forms.specs.declared.fault.SyntaxFault.{SyntaxFault}
use Rattle.rapid_forms.specs.declared.tokens.Tokens.{Tokens}
use Rattle.rapid_forms.specs.Forms.{Form}
use Rattle.rapid_forms.specs.Parsed.{Spells, IsParsed, IsFaulty, IsTooDeep, Parses}
use Rattle.rapid_forms.specs.Reading.{Reader, Gives, rest_from}

-- At each nesting depth, each list of tokens has exactly one answer; and tokens spell at most one thing, at any depth.
pub record HasOneAnswer {A : Type 0} (F : ℕ → Form A) : Type 0 where
  pub some : (n : ℕ) (ts : List Lexeme) → ((x : A) × (k : ℕ) × IsParsed F n ts x k) ⊎ (((k : ℕ) × IsFaulty F n ts k) ⊎ ((k : ℕ) × IsTooDeep F n ts k))
  pub tree : (n : ℕ) (ts : List Lexeme) (x y : A) (j k : ℕ) → IsParsed F n ts x j → IsParsed F n ts y k → (x ≡ y) × (j ≡ k)
  pub fault : (n : ℕ) (ts : List Lexeme) (j k : ℕ) → IsFaulty F n ts j → IsFaulty F n ts k → j ≡ k
  pub depth : (n : ℕ) (ts : List Lexeme) (j k : ℕ) → IsTooDeep F n ts j → IsTooDeep F n ts k → j ≡ k
  pub apart : (n : ℕ) (ts : List Lexeme) (x : A) (i j k : ℕ) → (IsParsed F n ts x i → IsFaulty F n ts j → ⊥) × (IsParsed F n ts x i → IsTooDeep F n ts k → ⊥) × (IsFaulty F n ts j → IsTooDeep F n ts k → ⊥)
  pub spelling : (x y : A) (ts : List Lexeme) → Spells F x ts → Spells F y ts → x ≡ y

-- A call that returns what this reader returns, from token `at` on with n levels left, returns the answer that holds. A
-- number beyond the last token means the end.
pub record TellsAnswer {X A : Type 0} (F : ℕ → Form A) (read : ℕ → Reader A) (view : X → A) : Type 0 where
  pub found : (tokens : Tokens) (at n : ℕ) (x : X) (next : ℕ) → at ≤ length tokens.list.now → Gives tokens view (Ok (x, next)) (read n (rest_from tokens at))
      → Parses F n (views tokens.list.now) tokens.end at view (Ok (x, min next (length tokens.list.now)))
  pub refused : (tokens : Tokens) (at n : ℕ) (fault : SyntaxFault) → Gives tokens view (Err fault) (read n (rest_from tokens at))
      → Parses F n (views tokens.list.now) tokens.end at view (Err fault)
