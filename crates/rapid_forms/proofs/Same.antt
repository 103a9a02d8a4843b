-- Equal forms: they take the same tokens and denote the same things. Lines with a common start are read with that part
-- factored out.
use Rattle.std.proofs.Common.{◌≡◌, ℕ, Bool, false, ◌⊎◌, inl, inr, List, [], ◌∷◌, ◌++◌, Option, None, Some, refl, sym, ◌∙◌, ap, subst}
use Rattle.rapid_lexer.specs.Tokens.{Lexeme}
use Rattle.rapid_forms.specs.declared.sign.Sign.{Sign}
use Rattle.rapid_forms.specs.Forms.{Form, seq, either, optional, many, made, first_byte}
use Rattle.rapid_forms.proofs.Cuts.{ahead, behind, no_front}
use Rattle.rapid_forms.proofs.Laws.{LL}
use Rattle.rapid_forms.proofs.Up.{Up, up_refl, up_trans, seq_up, either_up, many_up, made_up}

pub record Same {A : Type 0} (f g : Form A) : Type 0 where
  pub to : Up f g
  pub back : Up g f

pub same_refl : {A : Type 0} (f : Form A) → Same f f
same_refl f = record { to = up_refl f; back = up_refl f }

pub same_sym : {A : Type 0} {f g : Form A} → Same f g → Same g f
same_sym s = record { to = s.back; back = s.to }

pub same_trans : {A : Type 0} {f g h : Form A} → Same f g → Same g h → Same f h
same_trans s r = record { to = up_trans s.to r.to; back = up_trans r.back s.back }

pub seq_same : {A B : Type 0} {a a' : Form A} {b b' : Form B} → Same a a' → Same b b' → Same (seq a b) (seq a' b')
seq_same s r = record { to = seq_up s.to r.to; back = seq_up s.back r.back }

pub either_same : {A : Type 0} {a a' b b' : Form A} → Same a a' → Same b b' → Same (either a b) (either a' b')
either_same s r = record { to = either_up s.to r.to; back = either_up s.back r.back }

pub many_same : {A : Type 0} {a a' : Form A} → Same a a' → Same (many a) (many a')
many_same s = record { to = many_up s.to; back = many_up s.back }

pub made_same : {A B : Type 0} {a a' : Form A} (f : ℕ → A → B) → Same a a' → Same (made f a) (made f a')
made_same f s = record { to = made_up f s.to; back = made_up f s.back }

swap : {A : Type 0} (a b : Form A) → Up (either a b) (either b a)
unfolding either
swap a b = record {
  whole = λ x ts. elim [ inl w ↦ inr w | inr w ↦ inl w ];
  begun = λ ts. elim [ inl w ↦ inr w | inr w ↦ inl w ];
}

pub either_swapped : {A : Type 0} (a b : Form A) → Same (either a b) (either b a)
unfolding either
either_swapped a b = record { to = swap a b; back = swap b a }

pub either_bracketed : {A : Type 0} (a b c : Form A) → Same (either (either a b) c) (either a (either b c))
unfolding either
either_bracketed a b c = record {
  to = record {
    whole = λ x ts. elim [ inl (inl w) ↦ inl w | inl (inr w) ↦ inr (inl w) | inr w ↦ inr (inr w) ];
    begun = λ ts. elim [ inl (inl w) ↦ inl w | inl (inr w) ↦ inr (inl w) | inr w ↦ inr (inr w) ];
  };
  back = record {
    whole = λ x ts. elim [ inl w ↦ inl (inl w) | inr (inl w) ↦ inl (inr w) | inr (inr w) ↦ inr w ];
    begun = λ ts. elim [ inl w ↦ inl (inl w) | inr (inl w) ↦ inl (inr w) | inr (inr w) ↦ inr w ];
  };
}

exchange : {A : Type 0} (a b c d : Form A) → Up (either (either a b) (either c d)) (either (either a c) (either b d))
unfolding either
exchange a b c d = record {
  whole = λ x ts. elim [ inl (inl w) ↦ inl (inl w) | inl (inr w) ↦ inr (inl w) | inr (inl w) ↦ inl (inr w) | inr (inr w) ↦ inr (inr w) ];
  begun = λ ts. elim [ inl (inl w) ↦ inl (inl w) | inl (inr w) ↦ inr (inl w) | inr (inl w) ↦ inl (inr w) | inr (inr w) ↦ inr (inr w) ];
}

-- two pairs of lines: the first of each pair together, and the second of each
pub crossed : {A : Type 0} (a b c d : Form A) → Same (either (either a b) (either c d)) (either (either a c) (either b d))
unfolding either
crossed a b c d = record { to = exchange a b c d; back = exchange a c b d }

pub same_ll : {A : Type 0} {null : Bool} {first more : List Sign} {f g : Form A} → Same f g → LL null first more f → LL null first more g
same_ll s l = record {
  start = s.to.begun [] l.start;
  front = λ ts us b. s.to.begun ts (l.front ts us (s.back.begun (ts ++ us) b));
  begun = λ x ts w. s.to.begun ts (l.begun x ts (s.back.whole x ts w));
  head = λ t ts b. l.head t ts (s.back.begun (t ∷ ts) b);
  empty = λ x w. l.empty x (s.back.whole x [] w);
  goes = λ x ts t us w b. l.goes x ts t us (s.back.whole x ts w) (s.back.begun (ts ++ t ∷ us) b);
  only = λ x y ts w w'. l.only x y ts (s.back.whole x ts w) (s.back.whole y ts w');
}

abbrev pub left : {A B : Type 0} → ℕ → A → A ⊎ B
left at x = inl x

abbrev pub right : {A B : Type 0} → ℕ → B → A ⊎ B
right at y = inr y

-- what is made of a common part and of one of two that follow it
abbrev pub joined : {A B C D : Type 0} → (ℕ → A × B → D) → (ℕ → A × C → D) → ℕ → A × (B ⊎ C) → D
joined f g at (x, inl y) = f at (x, y)
joined f g at (x, inr z) = g at (x, z)

pub shared : {A B C D : Type 0} (f : ℕ → A × B → D) (g : ℕ → A × C → D) (a : Form A) (b : Form B) (c : Form C)
    → Same (either (made f (seq a b)) (made g (seq a c))) (made (joined f g) (seq a (either (made left b) (made right c))))
unfolding seq either made
shared {A} {B} {C} {D} f g a b c = record {
  to = record {
    whole = λ t ts. elim [
      | inl w ↦ ((w.0.0, inl w.0.1), (w.1.0, w.1.1, w.1.2, w.1.3, inl (w.0.1, w.1.4, refl)), w.2)
      | inr w ↦ ((w.0.0, inr w.0.1), (w.1.0, w.1.1, w.1.2, w.1.3, inr (w.0.1, w.1.4, refl)), w.2)
    ];
    begun = λ ts. elim [
      | inl (inl p) ↦ inl p
      | inl (inr (x, u, v, p, w, q)) ↦ inr (x, u, v, p, w, inl q)
      | inr (inl p) ↦ inl p
      | inr (inr (x, u, v, p, w, q)) ↦ inr (x, u, v, p, w, inr q)
    ];
  };
  back = record {
    whole = λ t ts w. whole t ts w.0 w.1 w.2;
    begun = λ ts. elim [
      | inl p ↦ inl (inl p)
      | inr (x, u, v, p, w, inl q) ↦ inl (inr (x, u, v, p, w, q))
      | inr (x, u, v, p, w, inr q) ↦ inr (inr (x, u, v, p, w, q))
    ];
  };
} where
  whole : (t : D) (ts : List Lexeme) (x : A × (B ⊎ C)) → (seq a (either (made left b) (made right c))).Whole x ts
      → t ≡ joined f g (first_byte ts) x → (either (made f (seq a b)) (made g (seq a c))).Whole t ts
  whole t ts (x, s) (u, v, p, w, inl (y, q, e)) r = inl ((x, y), (u, v, p, w, q), r ∙ ap (λ z. joined f g (first_byte ts) (x, z)) e)
  whole t ts (x, s) (u, v, p, w, inr (y, q, e)) r = inr ((x, y), (u, v, p, w, q), r ∙ ap (λ z. joined f g (first_byte ts) (x, z)) e)

-- of two lines with a common start and the same kind of rest
pub alike : {A B C : Type 0} (f : ℕ → A × B → C) (a : Form A) (b b' : Form B)
    → Same (either (made f (seq a b)) (made f (seq a b'))) (made f (seq a (either b b')))
unfolding seq either made
alike f a b b' = record {
  to = record {
    whole = λ t ts. elim [
      | inl (x, (u, v, p, w, q), e) ↦ (x, (u, v, p, w, inl q), e)
      | inr (x, (u, v, p, w, q), e) ↦ (x, (u, v, p, w, inr q), e)
    ];
    begun = λ ts. elim [
      | inl (inl p) ↦ inl p
      | inl (inr (x, u, v, p, w, q)) ↦ inr (x, u, v, p, w, inl q)
      | inr (inl p) ↦ inl p
      | inr (inr (x, u, v, p, w, q)) ↦ inr (x, u, v, p, w, inr q)
    ];
  };
  back = record {
    whole = λ t ts (x, (u, v, p, w, q), e). elim q [ inl r ↦ inl (x, (u, v, p, w, r), e) | inr r ↦ inr (x, (u, v, p, w, r), e) ];
    begun = λ ts. elim [
      | inl p ↦ inl (inl p)
      | inr (x, u, v, p, w, inl q) ↦ inl (inr (x, u, v, p, w, q))
      | inr (x, u, v, p, w, inr q) ↦ inr (inr (x, u, v, p, w, q))
    ];
  };
}

pub made_itself : {A : Type 0} (a : Form A) → Same (made (λ at x. x) a) a
unfolding made
made_itself a = record {
  to = record { whole = λ t ts w. subst (λ x. a.Whole x ts) (sym w.2) w.1; begun = λ ts b. b };
  back = record { whole = λ t ts w. (t, w, refl); begun = λ ts b. b };
}

-- what is made of the second part alone, independent of its byte
pub made_behind : {A B C : Type 0} (f : B → C) (a : Form A) (b : Form B)
    → Same (seq a (made (λ at x. f x) b)) (made (λ at x. (x.0, f x.1)) (seq a b))
unfolding seq made
made_behind f a b = record {
  to = record { whole = λ x ts (u, v, p, w, (y, q, e)). ((x.0, y), (u, v, p, w, q), ap (λ z. (x.0, z)) e); begun = λ ts b. b };
  back = record {
    whole = λ x ts (y, (u, v, p, w, q), e). (u, v, p, subst (λ z. a.Whole z u) (sym (ap (λ r. r.0) e)) w, (y.1, q, ap (λ r. r.1) e));
    begun = λ ts b. b;
  };
}

pub made_made : {A B C : Type 0} (f : ℕ → A → B) (g : ℕ → B → C) (a : Form A) → Same (made g (made f a)) (made (λ at x. g at (f at x)) a)
unfolding made
made_made f g a = record {
  to = record { whole = λ t ts w. (w.1.0, w.1.1, w.2 ∙ ap (g (first_byte ts)) w.1.2); begun = λ ts b. b };
  back = record { whole = λ t ts w. (f (first_byte ts) w.0, (w.0, w.1, refl), w.2); begun = λ ts b. b };
}

-- a sequence bracketed to the left, and to the right
pub bracketed : {A B C : Type 0} (a : Form A) (b : Form B) (c : Form C)
    → Same (seq (seq a b) c) (made (λ at x. ((x.0, x.1.0), x.1.1)) (seq a (seq b c)))
unfolding seq made
bracketed a b c = record {
  to = record {
    whole = λ x ts (u, v, p, (u', v', p', w, w'), q).
        ((x.0.0, (x.0.1, x.1)), (u', v' ++ v, p ∙ behind u u' v' v p', w, (v', v, refl, w', q)), refl);
    begun = λ ts. elim [
      | inl (inl p) ↦ inl p
      | inl (inr (x, u, v, p, w, q)) ↦ inr (x, u, v, p, w, inl q)
      | inr (x, u, v, p, (u', v', p', w, w'), q) ↦ inr (x.0, u', v' ++ v, p ∙ behind u u' v' v p', w, inr (x.1, v', v, refl, w', q))
    ];
  };
  back = record {
    whole = λ x ts (y, (u, v, p, w, (u', v', p', w', q)), e).
        subst (λ z. (seq (seq a b) c).Whole z ts) (sym e) (u ++ u', v', p ∙ ahead u v u' v' p', (u, u', refl, w, w'), q);
    begun = λ ts. elim [
      | inl p ↦ inl (inl p)
      | inr (x, u, v, p, w, inl q) ↦ inl (inr (x, u, v, p, w, q))
      | inr (x, u, v, p, w, inr (y, u', v', p', w', q)) ↦ inr ((x, y), u ++ u', v', p ∙ ahead u v u' v' p', (u, u', refl, w, w'), q)
    ];
  };
}

-- a first and a second part, factored out of two lines
pub both_shared : {A B C D E : Type 0} (f : ℕ → A × (B × C) → E) (g : ℕ → A × (B × D) → E) (a : Form A) (b : Form B) (c : Form C) (d : Form D)
    → Same (either (made f (seq a (seq b c))) (made g (seq a (seq b d))))
    (made (λ at x. joined {A = A × B} (λ at y. f at (y.0.0, (y.0.1, y.1))) (λ at y. g at (y.0.0, (y.0.1, y.1))) at ((x.0, x.1.0), x.1.1)) (seq a (seq b (either (made left c) (made right d)))))
both_shared {A} {B} {E = E} f g a b c d =
    same_trans (either_same (front f c) (front g d))
    (same_trans (shared {A = A × B} (λ at y. f at (y.0.0, (y.0.1, y.1))) (λ at y. g at (y.0.0, (y.0.1, y.1))) (seq a b) c d)
    (same_trans (made_same _ (bracketed a b _)) (made_made _ _ _)))
  where
    front : {F : Type 0} (h : ℕ → A × (B × F) → E) (e : Form F) → Same (made h (seq a (seq b e))) (made {A = (A × B) × F} (λ at y. h at (y.0.0, (y.0.1, y.1))) (seq (seq a b) e))
    front h e = same_sym (same_trans (made_same _ (bracketed a b e)) (made_made _ _ _))

-- a complete form that takes a token is at the same byte as what it is the front of
pub byte_front : {A : Type 0} {first more : List Sign} {a : Form A} → LL false first more a → (x : A) (ts u v : List Lexeme)
    → ts ≡ u ++ v → a.Whole x u → first_byte ts ≡ first_byte u
byte_front l x ts [] v p w = let h = l.empty x w in cc
byte_front l x ts (t ∷ u) v p w = ap first_byte p

-- premise: the first form takes at least one token, so its byte is that of the whole
pub regrouped : {A B C : Type 0} {first more : List Sign} {a : Form A} (f : ℕ → A → B) (c : Form C) → LL false first more a
    → Same (seq (made f a) c) (made (λ at x. (f at x.0, x.1)) (seq a c))
unfolding seq made
regrouped {a = a} f c l = record {
  to = record {
    whole = λ x ts (u, v, p, (y, w, e), q).
        ((y, x.1), (u, v, p, w, q), ap (λ z. (z, x.1)) (e ∙ ap (λ n. f n y) (sym (byte_front l y ts u v p w))));
    begun = λ ts. elim [ inl p ↦ inl p | inr (x, u, v, p, (y, w, e), q) ↦ inr (y, u, v, p, w, q) ];
  };
  back = record {
    whole = λ x ts (y, (u, v, p, w, q), e). (
      u,
      v,
      p,
      (y.0, w, ap (λ r. r.0) e ∙ ap (λ n. f n y.0) (byte_front l y.0 ts u v p w)),
      subst (λ z. c.Whole z v) (sym (ap (λ r. r.1) e)) q,
    );
    begun = λ ts. elim [ inl p ↦ inl p | inr (y, u, v, p, w, q) ↦ inr (f (first_byte u) y, u, v, p, (y, w, refl), q) ];
  };
}

-- the first part of a front, factored out
pub fronted : {A B C D E : Type 0} {first more : List Sign} (f : ℕ → A × B → C) (g : ℕ → C × D → E) (a : Form A) (b : Form B) (d : Form D)
    → LL false first more (seq a b)
    → Same (made g (seq (made f (seq a b)) d)) (made (λ at x. g at (f at (x.0, x.1.0), x.1.1)) (seq a (seq b d)))
fronted f g a b d l =
    same_trans (made_same g (regrouped f d l)) (same_trans (made_made _ g _) (same_trans (made_same _ (bracketed a b d)) (made_made _ _ _)))

-- Of a line that starts with k and one that may start with it: after k comes either, and without k the second. Premise:
-- the second is not empty.
pub commas : {A B C D : Type 0} (f : ℕ → A × B → D) (g : ℕ → Option A × C → D) (k : Form A) (b : Form B) (c : Form C) → c.Begun []
    → Same (either (made f (seq k b)) (made g (seq (optional k) c)))
    (either (made (joined f (λ at x. g at (Some x.0, x.1))) (seq k (either (made left b) (made right c)))) (made (λ at y. g at (None, y)) c))
unfolding seq either optional made
commas {A} {B} {C} {D} f g k b c s = record {
  to = record {
    whole = whole;
    begun = begun;
  };
  back = record {
    whole = back;
    begun = λ ts. elim [
      | inl (inl p) ↦ inl (inl p)
      | inl (inr (x, u, v, p, w, inl q)) ↦ inl (inr (x, u, v, p, w, q))
      | inl (inr (x, u, v, p, w, inr q)) ↦ inr (inr (Some x, u, v, p, w, q))
      | inr q ↦ inr (inr (None, [], ts, refl, refl, q))
    ];
  };
} where
  two_lines : Form D
  two_lines = either (made f (seq k b)) (made g (seq (optional k) c))

  one_line : Form D
  one_line = either (made (joined f (λ at x. g at (Some x.0, x.1))) (seq k (either (made left b) (made right c)))) (made (λ at y. g at (None, y)) c)

  whole : (t : D) (ts : List Lexeme) → two_lines.Whole t ts → one_line.Whole t ts
  whole t ts (inl ((x, y), (u, v, p, w, q), e)) = inl ((x, inl y), (u, v, p, w, inl (y, q, refl)), e)
  whole t ts (inr ((Some x, y), (u, v, p, w, q), e)) = inl ((x, inr y), (u, v, p, w, inr (y, q, refl)), e)
  whole t ts (inr ((None, y), (u, v, p, w, q), e)) = inr (y, subst (c.Whole y) (sym (no_front ts u v p w)) q, e)

  begun : (ts : List Lexeme) → two_lines.Begun ts → one_line.Begun ts
  begun ts (inl (inl p)) = inl (inl p)
  begun ts (inl (inr (x, u, v, p, w, q))) = inl (inr (x, u, v, p, w, inl q))
  begun ts (inr (inl (inl p))) = inr (subst c.Begun (sym p) s)
  begun ts (inr (inl (inr p))) = inl (inl p)
  begun ts (inr (inr (Some x, u, v, p, w, q))) = inl (inr (x, u, v, p, w, inr q))
  begun ts (inr (inr (None, u, v, p, w, q))) = inr (subst c.Begun (sym (no_front ts u v p w)) q)

  chosen : (ts : List Lexeme) (x : A) {y z : B ⊎ C} → y ≡ z → joined f (λ at x. g at (Some x.0, x.1)) (first_byte ts) (x, y) ≡ joined f (λ at x. g at (Some x.0, x.1)) (first_byte ts) (x, z)
  chosen ts x r = ap (λ z. joined f (λ at x. g at (Some x.0, x.1)) (first_byte ts) (x, z)) r

  back : (t : D) (ts : List Lexeme) → one_line.Whole t ts → two_lines.Whole t ts
  back t ts (inl ((x, z), (u, v, p, w, inl (y, q, r)), e)) = inl ((x, y), (u, v, p, w, q), e ∙ chosen ts x r)
  back t ts (inl ((x, z), (u, v, p, w, inr (y, q, r)), e)) = inr ((Some x, y), (u, v, p, w, q), e ∙ chosen ts x r)
  back t ts (inr (y, q, e)) = inr ((None, y), ([], ts, refl, refl, q), e)
