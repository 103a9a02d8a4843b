-- A form is at the byte of its first token.
use Rattle.std.proofs.Common.{◌≡◌, Bool, true, false, if◌then◌else◌, ◌⊎◌, inl, inr, List, [], ◌∷◌, Ok, Err, ap}
use Rattle.rapid_lexer.specs.Tokens.{Lexeme}
use Rattle.rapid_forms.specs.declared.sign.Sign.{Sign}
use Rattle.rapid_forms.specs.Signs.{has, sign_of}
use Rattle.rapid_forms.specs.Forms.{first_byte}
use Rattle.rapid_forms.specs.Reading.{Fails, Read, one_read}

abbrev gives : {A : Type 0} → A × List Lexeme → Read A
gives p = Ok p

given : {A : Type 0} {p q : A × List Lexeme} → gives p ≡ gives q → p ≡ q
given e = cc

one_of : {X : Type 0} (b : Bool) (r s z : X) → (if b then r else s) ≡ z → (r ≡ z) ⊎ (s ≡ z)
one_of true r s z e = inl e
one_of false r s z e = inr e

-- the token that was read is the first
one_gave : (signs : List Sign) (ts : List Lexeme) (t : Lexeme) (rest : List Lexeme) → one_read signs ts ≡ Ok (t, rest) → ts ≡ t ∷ rest
unfolding one_read
one_gave signs [] t rest e = cc
one_gave signs (c ∷ ts) t rest e =
    elim (one_of (has signs (sign_of c)) (Ok (c, ts)) (Err (Fails (c ∷ ts))) (Ok (t, rest)) e) [
      | inl p ↦ let q = given p in cc (ap (λ x. x.0) q, ap (λ x. x.1) q)
      | inr p ↦ cc
    ]

-- and a form that starts with it is at its byte
pub one_placed : (signs : List Sign) (ts : List Lexeme) (t : Lexeme) (rest : List Lexeme) → one_read signs ts ≡ Ok (t, rest) → first_byte ts ≡ t.at
one_placed signs ts t rest e = ap first_byte (one_gave signs ts t rest e)
