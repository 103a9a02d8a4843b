-- Forms of a grammar: which tokens are a complete form, and which are a prefix of one. A grammar is built from the
-- forms below, each of which defines both.
use Rattle.std.specs.Prelude.{◌≡◌, ℕ, true, List, [], ◌∷◌, ◌++◌, Option, None, Some, ◌⊎◌}
use Rattle.rapid_lexer.specs.Tokens.{Lexeme}
use Rattle.rapid_forms.specs.declared.sign.Sign.{Sign}
use Rattle.rapid_forms.specs.Signs.{has, sign_of}

-- A is what a complete form denotes
pub record Form (A : Type 0) : Type 1 where
  pub Whole : A → List Lexeme → Type 0
  pub Begun : List Lexeme → Type 0

-- one token with one of these signs
unfoldable pub one : List Sign → Form Lexeme
one signs = record {
  Whole = λ t ts. (ts ≡ t ∷ []) × (has signs (sign_of t) ≡ true);
  Begun = λ ts. (ts ≡ []) ⊎ ((t : Lexeme) × (ts ≡ t ∷ []) × (has signs (sign_of t) ≡ true));
}

-- one form, then the other
unfoldable pub seq : {A B : Type 0} → Form A → Form B → Form (A × B)
seq {A} {B} a b = record {
  Whole = λ x ts. (u v : List Lexeme) × (ts ≡ u ++ v) × a.Whole x.0 u × b.Whole x.1 v;
  Begun = λ ts. a.Begun ts ⊎ ((x : A) × (u v : List Lexeme) × (ts ≡ u ++ v) × a.Whole x u × b.Begun v);
}

-- one form or the other
unfoldable pub either : {A : Type 0} → Form A → Form A → Form A
either a b = record {
  Whole = λ x ts. a.Whole x ts ⊎ b.Whole x ts;
  Begun = λ ts. a.Begun ts ⊎ b.Begun ts;
}

abbrev pub WholeOrNone : {A : Type 0} → Form A → Option A → List Lexeme → Type 0
WholeOrNone a None ts = ts ≡ []
WholeOrNone a (Some x) ts = a.Whole x ts

-- a form, or nothing
unfoldable pub optional : {A : Type 0} → Form A → Form (Option A)
optional a = record {
  Whole = WholeOrNone a;
  Begun = λ ts. (ts ≡ []) ⊎ a.Begun ts;
}

abbrev pub WholeEach : {A : Type 0} → Form A → List A → List Lexeme → Type 0
WholeEach a [] ts = ts ≡ []
WholeEach a (x ∷ xs) ts = (u v : List Lexeme) × (ts ≡ u ++ v) × a.Whole x u × WholeEach a xs v

-- zero or more of a form
unfoldable pub many : {A : Type 0} → Form A → Form (List A)
many {A} a = record {
  Whole = WholeEach a;
  Begun = λ ts. (xs : List A) × (u v : List Lexeme) × (ts ≡ u ++ v) × WholeEach a xs u × ((v ≡ []) ⊎ a.Begun v);
}

-- the byte of the first token
abbrev pub first_byte : List Lexeme → ℕ
first_byte [] = 0
first_byte (t ∷ ts) = t.at

-- the same tokens, which denote what is made of their byte and of what they denoted before
unfoldable pub made : {A B : Type 0} → (ℕ → A → B) → Form A → Form B
made {A} {B} f a = record {
  Whole = λ y ts. (x : A) × a.Whole x ts × (y ≡ f (first_byte ts) x);
  Begun = a.Begun;
}

-- a form with no level left for it: it takes no token
unfoldable pub nothing : {A : Type 0} → Form A
nothing = record { Whole = λ x ts. ⊥; Begun = λ ts. ts ≡ [] }
