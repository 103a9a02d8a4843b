-- The results of the functions for expressions, as their callers see them.
use Rattle.std.proofs.Common.{◌≡◌, ℕ, ◌+◌, ◌≤◌, Bool, List, length, min, Ok, Err, arith}
use Rattle.rapid_lexer.specs.Tokens.{Lexeme, views}
use Rattle.rapid_forms.specs.declared.sign.Sign.{Sign}
use Rattle.rapid_forms.specs.declared.fault.SyntaxFault.{SyntaxFault}
use Rattle.rapid_forms.specs.declared.tokens.Tokens.{Tokens}
use Rattle.rapid_forms.specs.Forms.{Form}
use Rattle.rapid_forms.specs.Parsed.{Spells, Parses}
use Rattle.rapid_forms.specs.Reading.{Reader, Gives, rest_from}
use Rattle.rapid_forms.proofs.Laws.{LL}
use Rattle.rapid_forms.proofs.Up.{Up}
use Rattle.rapid_forms.proofs.Right.{Reads}
use Rattle.rapid_forms.proofs.Spelled.{gives_parses, fails_parses, least_gives}
use Rattle.expr_parser.specs.Grammar.{expr}
use Rattle.expr_parser.specs.Reads.{expr_of_read, inside_read, expr_read}
use Rattle.expr_parser.proofs.Ahead.{expr_ll}
use Rattle.expr_parser.proofs.Answered.{expr_above, expr_reads}

-- a reader parses a form correctly, and one token of lookahead is enough for it
pub record Known {A : Type 0} (F : ℕ → Form A) (n : ℕ) (a : Reader A) : Type 0 where
  pub null : Bool
  pub first : List Sign
  pub more : List Sign
  pub reads : Reads F n a
  pub ahead : (m : ℕ) → LL null first more (F m)
  pub above : (k m : ℕ) → k ≤ m → Up (F k) (F m)

module _ {X A : Type 0} {F : ℕ → Form A} {n : ℕ} {a : Reader A} (k : Known F n a) (tokens : Tokens) (at : ℕ) (view : X → A) where
  -- a number beyond the last token means the end
  pub found : (x : X) (next : ℕ) → at ≤ length tokens.list.now → Gives tokens view (Ok (x, next)) (a (rest_from tokens at)) → Parses F n (views tokens.list.now) tokens.end at view (Ok (x, min next (length tokens.list.now)))
  found x next le g =
      gives_parses k.reads k.ahead k.above tokens at view (Ok (x, min next (length tokens.list.now))) (le, omega arith) (least_gives tokens view x next (a (rest_from tokens at)) g)

pub refused : {A : Type 0} {F : ℕ → Form A} {n : ℕ} {a : Reader A} → Known F n a → (tokens : Tokens) (at : ℕ) (fault : SyntaxFault) → Gives tokens (λ (x : A). x) (Err fault) (a (rest_from tokens at)) → Parses F n (views tokens.list.now) tokens.end at (λ (x : A). x) (Err fault)
refused k = fails_parses k.reads k.ahead k.above

-- tokens denote one thing, at any depth
pub spelled_once : {A : Type 0} {F : ℕ → Form A} {n : ℕ} {a : Reader A} → Known F n a → (x y : A) (ts : List Lexeme) → Spells F x ts → Spells F y ts → x ≡ y
spelled_once known x y ts (k, w) (m, w') =
    (known.ahead (k + m)).only x y ts ((known.above k (k + m) (omega arith)).whole x ts w) ((known.above m (k + m) (omega arith)).whole y ts w')

pub expr_known : (n : ℕ) → Known expr n (expr_of_read (inside_read n))
unfolding expr_read
expr_known n = record { null = _; first = _; more = _; reads = expr_reads n; ahead = expr_ll; above = expr_above }
