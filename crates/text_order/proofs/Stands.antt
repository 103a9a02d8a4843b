-- Statements that start, in order, each at one of a list of tokens.
use Rattle.std.proofs.Common.{◌≡◌, ◌⊎◌, inl, inr, ℕ, List, [], ◌∷◌, ◌++◌, flat_map, Option, Some, None, ap, sym, subst, ◌∙◌}
use Rattle.rapid_lexer.specs.Tokens.{Lexeme}
use Rattle.raw_trees.specs.Plain.{PlainStmt, Label}
use Rattle.rapid_forms.specs.declared.sign.Sign.{Sign}
use Rattle.rapid_forms.specs.Forms.{Form, WholeEach, first_byte, one, seq, either, optional, many, made}
use Rattle.text_order.specs.Stated.{byte_of, stated}

-- a label's name starts where the label does
abbrev pub IsNamedHere : PlainStmt → Type 0
IsNamedHere (Label at name) = name.at ≡ at
IsNamedHere _ = Unit {0}

-- a statement starts at the token
pub record IsAt (s : PlainStmt) (t : Lexeme) : Type 0 where
  pub at : byte_of s ≡ t.at
  pub named : IsNamedHere s

-- each of the statements starts at a token, in order
abbrev pub Stand : List PlainStmt → List Lexeme → Type 0
Stand [] ts = Unit {0}
Stand (s ∷ ss) [] = ⊥
Stand (s ∷ ss) (t ∷ ts) = (IsAt s t × Stand ss ts) ⊎ Stand (s ∷ ss) ts

pub later : (ss : List PlainStmt) (t : Lexeme) (ts : List Lexeme) → Stand ss ts → Stand ss (t ∷ ts)
later [] t ts stand = tt
later (s ∷ ss) t ts stand = inr stand

pub behind_them : (ss : List PlainStmt) (us ts : List Lexeme) → Stand ss ts → Stand ss (us ++ ts)
behind_them ss [] ts stand = stand
behind_them ss (u ∷ us) ts stand = later ss u (us ++ ts) (behind_them ss us ts stand)

pub both_stand : (ss rs : List PlainStmt) (ts us : List Lexeme) → Stand ss ts → Stand rs us → Stand (ss ++ rs) (ts ++ us)
both_stand [] rs ts us stand also = behind_them rs ts us also
both_stand (s ∷ ss) rs [] us stand also = absurd stand
both_stand (s ∷ ss) rs (t ∷ ts) us (inl here) also = inl (here.0, both_stand ss rs ts us here.1 also)
both_stand (s ∷ ss) rs (t ∷ ts) us (inr more) also = inr (both_stand (s ∷ ss) rs ts us more also)

-- the statements in what a complete form stands for start at its tokens
abbrev pub Stands : {A : Type 0} → Form A → (A → List PlainStmt) → Type 0
Stands {A} form in_it = (x : A) (ts : List Lexeme) → form.Whole x ts → Stand (in_it x) ts

-- and after its first token
abbrev pub Leads : {A : Type 0} → Form A → (A → List PlainStmt) → Type 0
Leads {A} form in_it = (x : A) (ts : List Lexeme) → form.Whole x ts → (t : Lexeme) × (rest : List Lexeme) × (ts ≡ t ∷ rest) × Stand (in_it x) rest

abbrev pub in_option : {A : Type 0} → (A → List PlainStmt) → Option A → List PlainStmt
in_option in_it None = []
in_option in_it (Some x) = in_it x

-- a form without statements
abbrev pub none_in : {A : Type 0} → A → List PlainStmt
none_in x = []

pub none_stand : {A : Type 0} (form : Form A) → Stands form none_in
none_stand form x ts whole = tt

pub one_leads : (signs : List Sign) → Leads (one signs) none_in
unfolding one
one_leads signs t ts whole = (t, [], whole.0, tt)

module _ {A B : Type 0} (f : Form A) (g : Form B) (in_f : A → List PlainStmt) (in_g : B → List PlainStmt) where
  pub seq_stand : Stands f in_f → Stands g in_g → Stands (seq f g) (λ x. in_f x.0 ++ in_g x.1)
  unfolding seq
  seq_stand first second x ts whole =
      let (u, v, e, is, also) = whole in
      subst (Stand (in_f x.0 ++ in_g x.1)) (sym e) (both_stand (in_f x.0) (in_g x.1) u v (first x.0 u is) (second x.1 v also))

  pub seq_leads : Leads f in_f → Stands g in_g → Leads (seq f g) (λ x. in_f x.0 ++ in_g x.1)
  unfolding seq
  seq_leads first second x ts whole =
      let (u, v, e, is, also) = whole in
      let (t, rest, front, stand) = first x.0 u is in
      (t, rest ++ v, e ∙ ap (λ us. us ++ v) front, both_stand (in_f x.0) (in_g x.1) rest v stand (second x.1 v also))

module _ {A : Type 0} (f g : Form A) (in_it : A → List PlainStmt) where
  pub either_stand : Stands f in_it → Stands g in_it → Stands (either f g) in_it
  unfolding either
  either_stand first second x ts (inl is) = first x ts is
  either_stand first second x ts (inr is) = second x ts is

module _ {A : Type 0} (f : Form A) (in_it : A → List PlainStmt) (stands : Stands f in_it) where
  pub optional_stand : Stands (optional f) (in_option in_it)
  unfolding optional
  optional_stand None ts whole = tt
  optional_stand (Some x) ts whole = stands x ts whole

  each_stand : (xs : List A) (ts : List Lexeme) → WholeEach f xs ts → Stand (flat_map in_it xs) ts
  each_stand [] ts whole = tt
  each_stand (x ∷ xs) ts whole =
      let (u, v, e, is, more) = whole in
      subst (Stand (in_it x ++ flat_map in_it xs)) (sym e) (both_stand (in_it x) (flat_map in_it xs) u v (stands x u is) (each_stand xs v more))

  pub many_stand : Stands (many f) (λ xs. flat_map in_it xs)
  unfolding many
  many_stand xs ts whole = each_stand xs ts whole

module _ {A B : Type 0} (tree : ℕ → A → B) (f : Form A) (in_it : A → List PlainStmt) (in_tree : B → List PlainStmt) (same : (at : ℕ) (x : A) → in_tree (tree at x) ≡ in_it x) where
  pub made_stand : Stands f in_it → Stands (made tree f) in_tree
  unfolding made
  made_stand stands y ts whole =
      let (x, is, e) = whole in
      subst (λ ss. Stand ss ts) (sym (ap in_tree e ∙ same (first_byte ts) x)) (stands x ts is)

  pub made_leads : Leads f in_it → Leads (made tree f) in_tree
  unfolding made
  made_leads leads y ts whole =
      let (x, is, e) = whole in
      let (t, rest, front, stand) = leads x ts is in
      (t, rest, front, subst (λ ss. Stand ss rest) (sym (ap in_tree e ∙ same (first_byte ts) x)) stand)

-- a statement starts at its first token, and those in it start after that
module _ {A : Type 0} (tree : ℕ → A → PlainStmt) (f : Form A) (in_it : A → List PlainStmt) (same : (at : ℕ) (x : A) → stated (tree at x) ≡ tree at x ∷ in_it x) (begins : (at : ℕ) (x : A) → byte_of (tree at x) ≡ at)
    (named : (x : A) (ts : List Lexeme) → f.Whole x ts → IsNamedHere (tree (first_byte ts) x)) where
  pub statement_stands : Leads f in_it → Stands (made tree f) stated
  unfolding made
  statement_stands leads y ts whole =
      let (x, is, e) = whole in
      let (t, rest, front, stand) = leads x ts is in
      let at : first_byte ts ≡ t.at = ap first_byte front in
      subst (λ us. Stand (stated y) us) (sym front)
      (subst (λ ss. Stand ss (t ∷ rest)) (sym (ap stated e ∙ same (first_byte ts) x)) (inl (record { at = begins (first_byte ts) x ∙ at; named = named x ts is }, stand)))
