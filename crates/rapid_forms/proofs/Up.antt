-- One form contains another, as a form within more levels contains it within fewer.
use Rattle.std.proofs.Common.{◌≡◌, ℕ, zero, suc, ◌≤◌, inl, inr, List, [], ◌∷◌, None, Some, arith}
use Rattle.std.proofs.Math.Nat.{eq-or-lt_of_le}
use Rattle.rapid_lexer.specs.Tokens.{Lexeme}
use Rattle.rapid_forms.specs.Forms.{Form, seq, either, optional, many, made, nothing, WholeEach}

-- the complete forms and the prefixes of f are those of g too
pub record Up {A : Type 0} (f g : Form A) : Type 0 where
  pub whole : (x : A) (ts : List Lexeme) → f.Whole x ts → g.Whole x ts
  pub begun : (ts : List Lexeme) → f.Begun ts → g.Begun ts

pub up_refl : {A : Type 0} (f : Form A) → Up f f
up_refl f = record { whole = λ x ts w. w; begun = λ ts b. b }

pub up_trans : {A : Type 0} {f g h : Form A} → Up f g → Up g h → Up f h
up_trans p q = record { whole = λ x ts w. q.whole x ts (p.whole x ts w); begun = λ ts b. q.begun ts (p.begun ts b) }

pub seq_up : {A B : Type 0} {a a' : Form A} {b b' : Form B} → Up a a' → Up b b' → Up (seq a b) (seq a' b')
unfolding seq
seq_up {A} {B} {a} {a'} {b} {b'} p q = record {
  whole = λ x ts w. (w.0, w.1, w.2, p.whole _ _ w.3, q.whole _ _ w.4);
  begun = begun;
} where
  begun : (ts : List Lexeme) → (seq a b).Begun ts → (seq a' b').Begun ts
  begun ts (inl r) = inl (p.begun ts r)
  begun ts (inr (x, u, v, e, w, r)) = inr (x, u, v, e, p.whole x u w, q.begun v r)

pub either_up : {A : Type 0} {a a' b b' : Form A} → Up a a' → Up b b' → Up (either a b) (either a' b')
unfolding either
either_up p q = record {
  whole = λ x ts. elim [ inl w ↦ inl (p.whole x ts w) | inr w ↦ inr (q.whole x ts w) ];
  begun = λ ts. elim [ inl b ↦ inl (p.begun ts b) | inr b ↦ inr (q.begun ts b) ];
}

pub optional_up : {A : Type 0} {a a' : Form A} → Up a a' → Up (optional a) (optional a')
unfolding optional
optional_up p = record {
  whole = elim [ None ↦ λ ts w. w | Some x ↦ λ ts w. p.whole x ts w ];
  begun = λ ts. elim [ inl e ↦ inl e | inr b ↦ inr (p.begun ts b) ];
}

each_up : {A : Type 0} {a a' : Form A} → Up a a' → (xs : List A) (ts : List Lexeme) → WholeEach a xs ts → WholeEach a' xs ts
each_up p [] ts w = w
each_up p (x ∷ xs) ts (u, v, e, w, ws) = (u, v, e, p.whole x u w, each_up p xs v ws)

pub many_up : {A : Type 0} {a a' : Form A} → Up a a' → Up (many a) (many a')
unfolding many
many_up p = record {
  whole = each_up p;
  begun = λ ts b. (b.0, b.1, b.2, b.3, each_up p _ _ b.4, elim b.5 [ inl e ↦ inl e | inr r ↦ inr (p.begun b.2 r) ]);
}

pub made_up : {A B : Type 0} {a a' : Form A} (f : ℕ → A → B) → Up a a' → Up (made f a) (made f a')
unfolding made
made_up f p = record { whole = λ y ts w. (w.0, p.whole _ _ w.1, w.2); begun = p.begun }

pub nothing_up : {A : Type 0} (f : Form A) → f.Begun [] → Up nothing f
unfolding nothing
nothing_up f s = record { whole = λ x ts w. absurd w; begun = λ ts e. rw e s }

-- from one level to any higher one
pub up_levels : {A : Type 0} (F : ℕ → Form A) → ((m : ℕ) → Up (F m) (F (suc m))) → (n m : ℕ) → n ≤ m → Up (F n) (F m)
up_levels F p n zero h = let e : n ≡ zero = omega arith in rw e (up_refl (F zero))
up_levels F p n (suc m) h = elim (eq-or-lt_of_le h) [ inl e ↦ rw e (up_refl (F (suc m))) | inr l ↦ up_trans (up_levels F p n m (omega arith)) (p m) ]
