-- The answer of a parser of a form. F n is the form within n levels of nesting.
use Rattle.std.specs.Prelude.{◌≡◌, ℕ, suc, ◌+◌, ◌≤◌, ◌<◌, Bool, List, [], ◌∷◌, length, take, drop, Result, Ok, Err, if◌then◌else◌, ◌⊎◌}
use Rattle.rapid_lexer.specs.Tokens.{Lexeme}
use Rattle.rapid_forms.specs.declared.fault.SyntaxRule.TheVariants.{Syntax, LeftOut, TooDeep}
use Rattle.rapid_forms.specs.declared.fault.SyntaxFault.{SyntaxFault}
use Rattle.rapid_forms.specs.declared.fault.SyntaxFault.TheVariants.{Rule, Lex, Memory}
use Rattle.rapid_forms.specs.declared.sign.Sign.TheVariants as signs
use Rattle.rapid_forms.specs.Signs.{begins_with}
use Rattle.rapid_forms.specs.Forms.{Form}

-- the tokens are a prefix of the form, at any depth of nesting
abbrev pub Begins : {A : Type 0} → (ℕ → Form A) → List Lexeme → Type 0
Begins F ts = (m : ℕ) × (F m).Begun ts

-- the tokens are the complete form, at any depth of nesting
abbrev pub Spells : {A : Type 0} → (ℕ → Form A) → A → List Lexeme → Type 0
Spells F x ts = (m : ℕ) × (F m).Whole x ts

-- k is the length of the longest front of the tokens that is a prefix of the form
pub record IsLongest {A : Type 0} (F : ℕ → Form A) (ts : List Lexeme) (k : ℕ) : Type 0 where
  pub there : k ≤ length ts
  pub begins : Begins F (take k ts)
  pub most : (j : ℕ) → k < j → j ≤ length ts → Begins F (take j ts) → ⊥

-- these k tokens are the form, within n levels, and denote only x
pub record IsParsed {A : Type 0} (F : ℕ → Form A) (n : ℕ) (ts : List Lexeme) (x : A) (k : ℕ) : Type 0 where
  pub longest : IsLongest F ts k
  pub whole : (F n).Whole x (take k ts)
  pub only : (y : A) → Spells F y (take k ts) → y ≡ x

-- nothing continues with token k: the k tokens before it, within n levels, are not the form, and more of them are not a
-- prefix of it
pub record IsFaulty {A : Type 0} (F : ℕ → Form A) (n : ℕ) (ts : List Lexeme) (k : ℕ) : Type 0 where
  pub longest : IsLongest F ts k
  pub begun : (F n).Begun (take k ts)
  pub none : (x : A) → Spells F x (take k ts) → ⊥

-- token k opens a level too many: with it the tokens are a prefix of the form, but not within n levels, as those before
-- it are
pub record IsTooDeep {A : Type 0} (F : ℕ → Form A) (n : ℕ) (ts : List Lexeme) (k : ℕ) : Type 0 where
  pub there : k < length ts
  pub begun : (F n).Begun (take k ts)
  pub begins : Begins F (take (suc k) ts)
  pub deep : (F n).Begun (take (suc k) ts) → ⊥

-- the byte of the first token, or the end of the text
abbrev pub byte_or : ℕ → List Lexeme → ℕ
byte_or end [] = end
byte_or end (t ∷ ts) = t.at

-- words of RAPID that this profile does not support
abbrev pub is_left_out : List Lexeme → Bool
is_left_out ts = begins_with (signs.Alias ∷ signs.Record ∷ signs.Undo ∷ signs.Backward ∷ []) ts

-- the fault at the first of these tokens, which does not continue those before it
abbrev pub syntax_fault : ℕ → List Lexeme → SyntaxFault
syntax_fault end ts = Rule (if is_left_out ts then LeftOut else Syntax) (byte_or end ts)

-- the fault at the first of these tokens, which opens a level too many
abbrev pub depth_fault : ℕ → List Lexeme → SyntaxFault
depth_fault end ts = Rule TooDeep (byte_or end ts)

-- What a parser returned for the tokens of a text with `end` bytes, from token `at` on: a tree, through view, and the
-- number of the token after it; or a fault. Says nothing if out of memory.
abbrev pub Parses : {X A : Type 0} → (ℕ → Form A) → ℕ → List Lexeme → ℕ → ℕ → (X → A) → Result (X × ℕ) SyntaxFault → Type 0
Parses F n ts end at view (Ok x) = (k : ℕ) × IsParsed F n (drop at ts) (view x.0) k × (x.1 ≡ at + k)
Parses F n ts end at view (Err (Rule rule byte)) =
    ((k : ℕ) × IsFaulty F n (drop at ts) k × (Rule rule byte ≡ syntax_fault end (drop (at + k) ts)))
    ⊎ ((k : ℕ) × IsTooDeep F n (drop at ts) k × (Rule rule byte ≡ depth_fault end (drop (at + k) ts)))
Parses F n ts end at view (Err (Lex f)) = ⊥
Parses F n ts end at view (Err Memory) = Unit {0}
