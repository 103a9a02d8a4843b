-- First signs, each of which can start the form at some level.
use Rattle.std.proofs.Common.{◌≡◌, ℕ, suc, true, inl, inr, List, [], ◌∷◌, ◌++◌, None, refl}
use Rattle.rapid_lexer.specs.Tokens.{Lexeme}
use Rattle.rapid_forms.specs.declared.sign.Sign.{Sign}
use Rattle.rapid_forms.specs.Signs.{has, sign_of}
use Rattle.rapid_forms.specs.Forms.{Form, one, seq, either, optional, made}
use Rattle.rapid_forms.proofs.Sets.{covered, has_cases, has_covered}

-- F n is the form within n levels
pub record Opens {A : Type 0} (first : List Sign) (F : ℕ → Form A) : Type 0 where
  pub opens : (t : Lexeme) → has first (sign_of t) ≡ true → (m : ℕ) × (F m).Begun (t ∷ [])

-- no tokens are a complete form, at each level
pub record Empties {A : Type 0} (F : ℕ → Form A) : Type 0 where
  pub empty : (m : ℕ) → (x : A) × (F m).Whole x []

pub fewer_opens : {A : Type 0} {first fewer : List Sign} {F : ℕ → Form A} → Opens first F → covered fewer first ≡ true → Opens fewer F
fewer_opens o e = record { opens = λ t h. o.opens t (has_covered _ _ (sign_of t) e h) }

pub one_opens : (signs : List Sign) → Opens signs (λ n. one signs)
unfolding one
one_opens signs = record { opens = λ t h. (0, inr (t, refl, h)) }

pub seq_opens : {A B : Type 0} {first : List Sign} {F : ℕ → Form A} (G : ℕ → Form B) → Opens first F → Opens first (λ n. seq (F n) (G n))
unfolding seq
seq_opens G o = record { opens = λ t h. let (m, b) = o.opens t h in (m, inl b) }

-- a sequence whose first part can be empty
pub both_open : {A B : Type 0} {fa fb : List Sign} {F : ℕ → Form A} {G : ℕ → Form B} → Opens fa F → Empties F → Opens fb G
    → Opens (fa ++ fb) (λ n. seq (F n) (G n))
unfolding seq
both_open {fa = fa} {fb = fb} o none o' = record {
  opens = λ t h. elim (has_cases fa fb (sign_of t) h) [
    | inl h' ↦ let (m, b) = o.opens t h' in (m, inl b)
    | inr h' ↦ let (m, b) = o'.opens t h' in let (x, w) = none.empty m in (m, inr (x, [], t ∷ [], refl, w, b))
  ];
}

pub either_opens : {A : Type 0} {fa fb : List Sign} {F G : ℕ → Form A} → Opens fa F → Opens fb G
    → Opens (fa ++ fb) (λ n. either (F n) (G n))
unfolding either
either_opens {fa = fa} {fb = fb} o o' = record {
  opens = λ t h. elim (has_cases fa fb (sign_of t) h) [
    | inl h' ↦ let (m, b) = o.opens t h' in (m, inl b)
    | inr h' ↦ let (m, b) = o'.opens t h' in (m, inr b)
  ];
}

pub optional_opens : {A : Type 0} {first : List Sign} {F : ℕ → Form A} → Opens first F → Opens first (λ n. optional (F n))
unfolding optional
optional_opens o = record { opens = λ t h. let (m, b) = o.opens t h in (m, inr b) }

pub made_opens : {A B : Type 0} {first : List Sign} {F : ℕ → Form A} (f : ℕ → A → B) → Opens first F → Opens first (λ n. made f (F n))
unfolding made
made_opens f o = record { opens = λ t h. o.opens t h }

-- a form that is, one level deeper, what the signs open
pub deeper_opens : {A : Type 0} {first : List Sign} (F : ℕ → Form A) → Opens first (λ n. F (suc n)) → Opens first F
deeper_opens F o = record { opens = λ t h. let (m, b) = o.opens t h in (suc m, b) }

pub optional_empties : {A : Type 0} (F : ℕ → Form A) → Empties (λ n. optional (F n))
unfolding optional
optional_empties F = record { empty = λ m. (None, refl) }
