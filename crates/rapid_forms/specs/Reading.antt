-- Reading forms from left to right, with one token of lookahead. Each reader takes a form from the front and leaves the
-- tokens after it.
use Rattle.std.specs.Prelude.{◌≡◌, ℕ, zero, suc, List, [], ◌∷◌, length, drop, Option, None, Some, Result, Ok, Err, if◌then◌else◌}
use Rattle.rapid_lexer.specs.Tokens.{Lexeme, views}
use Rattle.rapid_forms.specs.declared.sign.Sign.{Sign}
use Rattle.rapid_forms.specs.declared.fault.SyntaxFault.{SyntaxFault}
use Rattle.rapid_forms.specs.declared.fault.SyntaxFault.TheVariants.{Memory}
use Rattle.rapid_forms.specs.declared.tokens.Tokens.{Tokens}
use Rattle.rapid_forms.specs.Signs.{has, sign_of, begins_with}
use Rattle.rapid_forms.specs.Forms.{first_byte}
use Rattle.rapid_forms.specs.Parsed.{syntax_fault, depth_fault}

-- where reading stopped, with the tokens left there
pub data Halt : Type 0 where
  -- the first of them does not continue those before it
  Fails : List Lexeme → Halt
  -- the first of them opens a level too many
  Deep : List Lexeme → Halt

abbrev pub Read : Type 0 → Type 0
Read A = Result (A × List Lexeme) Halt

abbrev pub Reader : Type 0 → Type 0
Reader A = List Lexeme → Read A

unfoldable pub then_read : {A B : Type 0} → Read A → (A → Reader B) → Read B
then_read (Ok x) next = next x.0 x.1
then_read (Err h) next = Err h

unfoldable pub one_read : List Sign → Reader Lexeme
one_read signs [] = Err (Fails [])
one_read signs (t ∷ ts) = if has signs (sign_of t) then Ok (t, ts) else Err (Fails (t ∷ ts))

unfoldable pub seq_read : {A B : Type 0} → Reader A → Reader B → Reader (A × B)
seq_read a b ts = then_read (a ts) λ x rest. then_read (b rest) λ y left. Ok ((x, y), left)

-- the first if the next token has one of these signs, else the second
unfoldable pub either_read : {A : Type 0} → List Sign → Reader A → Reader A → Reader A
either_read signs a b ts = if begins_with signs ts then a ts else b ts

unfoldable pub optional_read : {A : Type 0} → List Sign → Reader A → Reader (Option A)
optional_read signs a ts = if begins_with signs ts then then_read (a ts) (λ x rest. Ok (Some x, rest)) else Ok (None, ts)

-- one more as long as the next token has one of these signs; each takes a token, which bounds their number
unfoldable pub many_within : {A : Type 0} → ℕ → List Sign → Reader A → Reader (List A)
many_within zero signs a ts = Ok ([], ts)
many_within (suc n) signs a ts =
    if begins_with signs ts then then_read (a ts) (λ x rest. then_read (many_within n signs a rest) λ xs left. Ok (x ∷ xs, left))
    else Ok ([], ts)

unfoldable pub many_read : {A : Type 0} → List Sign → Reader A → Reader (List A)
many_read signs a ts = many_within (length ts) signs a ts

unfoldable pub made_read : {A B : Type 0} → (ℕ → A → B) → Reader A → Reader B
made_read f a ts = then_read (a ts) λ x rest. Ok (f (first_byte ts) x, rest)

-- no level is left, and one of these signs would open one
unfoldable pub nothing_read : {A : Type 0} → List Sign → Reader A
nothing_read signs ts = if begins_with signs ts then Err (Deep ts) else Err (Fails ts)

-- the tokens from number `at` on
abbrev pub rest_from : Tokens → ℕ → List Lexeme
rest_from tokens at = drop at (views tokens.list.now)

-- the fault where reading stopped
abbrev pub fault_of : ℕ → Halt → SyntaxFault
fault_of end (Fails ts) = syntax_fault end ts
fault_of end (Deep ts) = depth_fault end ts

-- What a function over tokens returned, a tree and the number of the next token, is the result of reading. Says nothing
-- if out of memory.
abbrev pub Gives : {X A : Type 0} → Tokens → (X → A) → Result (X × ℕ) SyntaxFault → Read A → Type 0
Gives tokens view (Ok x) read = read ≡ Ok (view x.0, rest_from tokens x.1)
Gives tokens view (Err Memory) read = Unit {0}
Gives tokens view (Err fault) read = (halt : Halt) × (read ≡ Err halt) × (fault ≡ fault_of tokens.end halt)
