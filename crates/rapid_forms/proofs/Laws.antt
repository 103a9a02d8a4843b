-- One token of lookahead: the signs that a form can start with, those that it can continue with, and why tokens denote
-- only one thing.
use Rattle.std.proofs.Common.{◌≡◌, ℕ, Bool, true, false, ◌&&◌, ◌||◌, ◌⊎◌, inl, inr, List, [], ◌∷◌, ◌++◌, Option, None, Some, refl, sym, ◌∙◌, ap, subst}
use Rattle.std.proofs.lemmas.Bool.{false_from_ne_true, both_ways, and_from, or_left, or_right, cases_Bool}
use Rattle.std.proofs.lemmas.List.{append_assoc, append-nil}
use Rattle.rapid_lexer.specs.Tokens.{Lexeme}
use Rattle.rapid_forms.specs.declared.sign.Sign.{Sign}
use Rattle.rapid_forms.specs.Signs.{has, sign_of, begins_with}
use Rattle.rapid_forms.specs.Forms.{Form, one, seq, either, optional, many, made, nothing, WholeEach, first_byte}
use Rattle.rapid_forms.proofs.Cuts.{Even, Shorter, Longer, cuts, both_empty, heads, behind, no_middle, no_front}
use Rattle.rapid_forms.proofs.Sets.{apart, covered, when, has_apart, has_covered, has_left, has_right, has_when}

-- A form that can be empty only if null says so, that starts only with a sign in first, that can continue after it is
-- complete only with a sign in more, and whose tokens denote only one thing.
pub record LL {A : Type 0} (null : Bool) (first more : List Sign) (f : Form A) : Type 0 where
  pub start : f.Begun []
  pub front : (ts us : List Lexeme) → f.Begun (ts ++ us) → f.Begun ts
  pub begun : (x : A) (ts : List Lexeme) → f.Whole x ts → f.Begun ts
  pub head : (t : Lexeme) (ts : List Lexeme) → f.Begun (t ∷ ts) → has first (sign_of t) ≡ true
  pub empty : (x : A) → f.Whole x [] → null ≡ true
  pub goes : (x : A) (ts : List Lexeme) (t : Lexeme) (us : List Lexeme) → f.Whole x ts → f.Begun (ts ++ t ∷ us)
      → has more (sign_of t) ≡ true
  pub only : (x y : A) (ts : List Lexeme) → f.Whole x ts → f.Whole y ts → x ≡ y

-- a form whose start and continuation signs are among these
pub larger_ll : {A : Type 0} {null : Bool} {fa ma first more : List Sign} {a : Form A} → LL null fa ma a
    → covered fa first ≡ true → covered ma more ≡ true → LL null first more a
larger_ll l e e' = record {
  start = l.start;
  front = l.front;
  begun = l.begun;
  head = λ t ts b. has_covered _ _ (sign_of t) e (l.head t ts b);
  empty = l.empty;
  goes = λ x ts t us w b. has_covered _ _ (sign_of t) e' (l.goes x ts t us w b);
  only = l.only;
}

-- tokens that start with a sign in first stop a form if its more and first are disjoint
stops : (more first : List Sign) (Begun : List Lexeme → Type 0)
    → ((t : Lexeme) (ts : List Lexeme) → Begun (t ∷ ts) → has first (sign_of t) ≡ true) → apart more first ≡ true
    → (ts : List Lexeme) → Begun ts → begins_with more ts ≡ false
unfolding begins_with
stops more first Begun head e [] b = refl
stops more first Begun head e (t ∷ ts) b = false_from_ne_true _ (λ h. has_apart more first (sign_of t) e h (head t ts b))

-- a token that continues a form does not stop it
clash : (more : List Sign) (t : Lexeme) (us ts : List Lexeme) → ts ≡ t ∷ us → begins_with more ts ≡ false → has more (sign_of t) ≡ true → ⊥
unfolding begins_with
clash more t us ts e s h = both_ways _ (subst (λ l. begins_with more l ≡ false) e s) h

-- if neither of two complete forms is continued by what follows it, they are the same
parts : {A : Type 0} {null : Bool} {fa ma : List Sign} {a : Form A} → LL null fa ma a → (x y : A) (u v u' v' : List Lexeme)
    → a.Whole x u → a.Whole y u' → begins_with ma v ≡ false → begins_with ma v' ≡ false → u ++ v ≡ u' ++ v'
    → (u ≡ u') × (v ≡ v')
parts {a = a} l x y u v u' v' w w' s s' e = elim (cuts u v u' v' e) [
  | Even p q ↦ (p, q)
  | Shorter c m p q ↦ absurd (clash _ c (m ++ v') v q s (l.goes x u c m w (subst a.Begun p (l.begun y u' w'))))
  | Longer c m p q ↦ absurd (clash _ c (m ++ v) v' q s' (l.goes y u' c m w' (subst a.Begun p (l.begun x u w))))
]

pub one_ll : (signs : List Sign) → LL false signs [] (one signs)
unfolding one
one_ll signs = record {
  start = inl refl;
  front = front;
  begun = λ x ts w. inr (x, w.0, w.1);
  head = head;
  empty = λ x w. cc;
  goes = goes;
  only = λ x y ts w w'. cc;
} where
  front : (ts us : List Lexeme) → (one signs).Begun (ts ++ us) → (one signs).Begun ts
  front [] us b = inl refl
  front (x ∷ ts) us (inl e) = cc
  front (x ∷ ts) us (inr (t, e, h)) = let p : ts ≡ [] = (both_empty ts us (cc)).0 in inr (t, (cc), h)

  head : (t : Lexeme) (ts : List Lexeme) → (one signs).Begun (t ∷ ts) → has signs (sign_of t) ≡ true
  head t ts (inl e) = cc
  head t ts (inr (x, e, h)) = let p : t ≡ x = cc in rw p h

  goes : (x : Lexeme) (ts : List Lexeme) (t : Lexeme) (us : List Lexeme) → (one signs).Whole x ts
      → (one signs).Begun (ts ++ t ∷ us) → has [] (sign_of t) ≡ true
  goes x [] t us w b = cc
  goes x (y ∷ ts) t us w (inl e) = cc
  goes x (y ∷ ts) t us w (inr (z, e, h)) = let p : t ∷ us ≡ [] = (both_empty ts (t ∷ us) (cc)).1 in cc

no_more : {A : Type 0} {null : Bool} {fa ma : List Sign} {a : Form A} → LL null fa ma a → (x : A) (u v : List Lexeme)
    → a.Whole x u → begins_with ma v ≡ false → a.Begun (u ++ v) → v ≡ []
no_more l x u [] w s b = refl
no_more l x u (t ∷ v) w s b = absurd (clash _ t v (t ∷ v) refl s (l.goes x u t v w b))

-- A first form, complete in u, then Rest, a prefix of which is v. A token t that continues both continues Rest, or the
-- first form if v is empty.
behind_first : {A : Type 0} {na : Bool} {fa ma : List Sign} {a : Form A} → LL na fa ma a
    → (fb more : List Sign) (Rest : List Lexeme → Type 0)
    → ((t : Lexeme) (ts : List Lexeme) → Rest (t ∷ ts) → has fb (sign_of t) ≡ true) → apart ma fb ≡ true
    → (x : A) (ts u v : List Lexeme) (t : Lexeme) (us : List Lexeme) → ts ≡ u ++ v → a.Whole x u → Rest v
    → (v ≡ [] → has ma (sign_of t) ≡ true → has more (sign_of t) ≡ true)
    → (Rest (v ++ t ∷ us) → has more (sign_of t) ≡ true)
    → a.Begun (ts ++ t ∷ us) ⊎ ((y : A) × (u' v' : List Lexeme) × (ts ++ t ∷ us ≡ u' ++ v') × a.Whole y u' × Rest v')
    → has more (sign_of t) ≡ true
unfolding begins_with
behind_first {A = A} {ma = ma} {a = a} la fb more Rest head e x ts u v t us p w q at_end later b = go v refl
  where
    goes_on : begins_with ma (v ++ t ∷ us) ≡ false
        → a.Begun (ts ++ t ∷ us) ⊎ ((y : A) × (u' v' : List Lexeme) × (ts ++ t ∷ us ≡ u' ++ v') × a.Whole y u' × Rest v')
        → has more (sign_of t) ≡ true
    goes_on s (inl r) = absurd (no_middle v t us (no_more la x u (v ++ t ∷ us) w s (subst a.Begun (behind ts u v (t ∷ us) p) r)))
    goes_on s (inr (y, u', v', p', w', q')) =
        let both = parts la x y u (v ++ t ∷ us) u' v' w w' s (stops ma fb Rest head e v' q') (sym (behind ts u v (t ∷ us) p) ∙ p') in
        later (subst Rest (sym both.1) q')

    go : (v' : List Lexeme) → v ≡ v' → has more (sign_of t) ≡ true
    go [] r = elim (cases_Bool (has ma (sign_of t))) [ inl h ↦ at_end r h | inr h ↦ goes_on (rw r h) b ]
    go (c ∷ v') r = goes_on (rw r (stops ma fb Rest head e (c ∷ v') (subst Rest r q))) b

same_pair : {A B : Type 0} (x y : A × B) → x.0 ≡ y.0 → x.1 ≡ y.1 → x ≡ y
same_pair (a, b) (c, d) p q = cc

pub seq_ll : {A B : Type 0} {na nb : Bool} {fa ma fb mb : List Sign} {a : Form A} {b : Form B} → LL na fa ma a
    → LL nb fb mb b → apart ma fb ≡ true → LL (na && nb) (fa ++ when na fb) (mb ++ when nb ma) (seq a b)
unfolding seq
seq_ll {A} {B} {na} {nb} {fa} {ma} {fb} {mb} {a} {b} la lb e = record {
  start = inl la.start;
  front = front;
  begun = λ x ts w. inr (x.0, w.0, w.1, w.2, w.3, lb.begun _ _ w.4);
  head = head;
  empty = empty;
  goes = λ x ts t us w r. behind_first la fb _ b.Begun lb.head e x.0 ts w.0 w.1 t us w.2 w.3 (lb.begun x.1 w.1 w.4)
      (λ p h. has_when nb mb ma _ (lb.empty x.1 (subst (b.Whole x.1) p w.4)) h)
      (λ q. has_left mb _ _ (lb.goes x.1 w.1 t us w.4 q)) r;
  only = only;
} where
  front : (ts us : List Lexeme) → (seq a b).Begun (ts ++ us) → (seq a b).Begun ts
  front ts us (inl p) = inl (la.front ts us p)
  front ts us (inr (x, u, v, p, w, q)) = elim (cuts ts us u v p) [
    | Even r s ↦ inl (subst a.Begun (sym r) (la.begun x u w))
    | Shorter c m r s ↦ inl (la.front ts (c ∷ m) (subst a.Begun r (la.begun x u w)))
    | Longer c m r s ↦ inr (x, u, c ∷ m, r, w, lb.front (c ∷ m) us (subst b.Begun s q))
  ]

  head : (t : Lexeme) (ts : List Lexeme) → (seq a b).Begun (t ∷ ts) → has (fa ++ when na fb) (sign_of t) ≡ true
  head t ts (inl p) = has_left _ _ _ (la.head t ts p)
  head t ts (inr (x, u, v, p, w, q)) = elim (heads t ts u v p) [
    | inl h ↦ has_left _ _ _ (la.head t h.0 (subst a.Begun h.1 (la.begun x u w)))
    | inr h ↦ has_when _ _ _ _ (la.empty x (subst (a.Whole x) h.0 w)) (lb.head t ts (subst b.Begun h.1 q))
  ]

  empty : (x : A × B) → (seq a b).Whole x [] → (na && nb) ≡ true
  empty x (u, v, p, w, q) =
      let none = both_empty u v p in
      and_from _ _ (la.empty x.0 (subst (a.Whole x.0) none.0 w)) (lb.empty x.1 (subst (b.Whole x.1) none.1 q))

  stop : (y : B) (v : List Lexeme) → b.Whole y v → begins_with ma v ≡ false
  stop y v w = stops ma fb b.Begun lb.head e v (lb.begun y v w)

  only : (x y : A × B) (ts : List Lexeme) → (seq a b).Whole x ts → (seq a b).Whole y ts → x ≡ y
  only x y ts (u, v, p, w, q) (u', v', p', w', q') =
      let both = parts la x.0 y.0 u v u' v' w w' (stop _ v q) (stop _ v' q') (sym p ∙ p') in
      same_pair x y (la.only _ _ u w (subst (a.Whole y.0) (sym both.0) w')) (lb.only _ _ v q (subst (b.Whole y.1) (sym both.1) q'))

-- premise: at most one of the two can be empty
pub either_ll : {A : Type 0} {na nb : Bool} {fa ma fb mb : List Sign} {a b : Form A} → LL na fa ma a → LL nb fb mb b
    → apart fa fb ≡ true → (na && nb) ≡ false → LL (na || nb) (fa ++ fb) (ma ++ mb ++ when na fb ++ when nb fa) (either a b)
unfolding either
either_ll {A} {na} {nb} {fa} {ma} {fb} {mb} {a} {b} la lb e e' = record {
  start = inl la.start;
  front = front;
  begun = begun;
  head = head;
  empty = empty;
  goes = goes;
  only = only;
} where
  front : (ts us : List Lexeme) → (either a b).Begun (ts ++ us) → (either a b).Begun ts
  front ts us (inl p) = inl (la.front ts us p)
  front ts us (inr p) = inr (lb.front ts us p)

  begun : (x : A) (ts : List Lexeme) → (either a b).Whole x ts → (either a b).Begun ts
  begun x ts (inl w) = inl (la.begun x ts w)
  begun x ts (inr w) = inr (lb.begun x ts w)

  head : (t : Lexeme) (ts : List Lexeme) → (either a b).Begun (t ∷ ts) → has (fa ++ fb) (sign_of t) ≡ true
  head t ts (inl p) = has_left fa fb _ (la.head t ts p)
  head t ts (inr p) = has_right fa fb _ (lb.head t ts p)

  empty : (x : A) → (either a b).Whole x [] → (na || nb) ≡ true
  empty x (inl w) = or_left na nb (la.empty x w)
  empty x (inr w) = or_right na nb (lb.empty x w)

  -- tokens that both can start with are none
  none : (ts : List Lexeme) → a.Begun ts → b.Begun ts → ts ≡ []
  none [] p q = refl
  none (t ∷ ts) p q = absurd (has_apart fa fb _ e (la.head t ts p) (lb.head t ts q))

  goes : (x : A) (ts : List Lexeme) (t : Lexeme) (us : List Lexeme) → (either a b).Whole x ts
      → (either a b).Begun (ts ++ t ∷ us) → has (ma ++ mb ++ when na fb ++ when nb fa) (sign_of t) ≡ true
  goes x ts t us (inl w) (inl p) = has_left (ma ++ mb ++ when na fb) _ _ (has_left (ma ++ mb) _ _ (has_left ma mb _ (la.goes x ts t us w p)))
  goes x ts t us (inr w) (inr p) = has_left (ma ++ mb ++ when na fb) _ _ (has_left (ma ++ mb) _ _ (has_right ma mb _ (lb.goes x ts t us w p)))
  goes x ts t us (inl w) (inr p) =
      let q : ts ≡ [] = none ts (la.begun x ts w) (lb.front ts (t ∷ us) p) in
      has_left (ma ++ mb ++ when na fb) _ _ (has_when na (ma ++ mb) fb _ (la.empty x (subst (a.Whole x) q w)) (lb.head t us (subst (λ l. b.Begun (l ++ t ∷ us)) q p)))
  goes x ts t us (inr w) (inl p) =
      let q : ts ≡ [] = none ts (la.front ts (t ∷ us) p) (lb.begun x ts w) in
      has_when nb (ma ++ mb ++ when na fb) fa _ (lb.empty x (subst (b.Whole x) q w)) (la.head t us (subst (λ l. a.Begun (l ++ t ∷ us)) q p))

  differ : (x y : A) (ts : List Lexeme) → a.Whole x ts → b.Whole y ts → ⊥
  differ x y ts w w' =
      let q : ts ≡ [] = none ts (la.begun x ts w) (lb.begun y ts w') in
      both_ways _ e' (and_from na nb (la.empty x (subst (a.Whole x) q w)) (lb.empty y (subst (b.Whole y) q w')))

  only : (x y : A) (ts : List Lexeme) → (either a b).Whole x ts → (either a b).Whole y ts → x ≡ y
  only x y ts (inl w) (inl w') = la.only x y ts w w'
  only x y ts (inr w) (inr w') = lb.only x y ts w w'
  only x y ts (inl w) (inr w') = absurd (differ x y ts w w')
  only x y ts (inr w) (inl w') = absurd (differ y x ts w' w)

pub optional_ll : {A : Type 0} {fa ma : List Sign} {a : Form A} → LL false fa ma a → LL true fa (ma ++ fa) (optional a)
unfolding optional
optional_ll {A} {fa} {ma} {a} la = record {
  start = inl refl;
  front = front;
  begun = begun;
  head = head;
  empty = λ x w. refl;
  goes = goes;
  only = only;
} where
  front : (ts us : List Lexeme) → (optional a).Begun (ts ++ us) → (optional a).Begun ts
  front ts us (inl p) = inl (both_empty ts us (sym p)).0
  front ts us (inr p) = inr (la.front ts us p)

  begun : (x : Option A) (ts : List Lexeme) → (optional a).Whole x ts → (optional a).Begun ts
  begun None ts w = inl w
  begun (Some x) ts w = inr (la.begun x ts w)

  head : (t : Lexeme) (ts : List Lexeme) → (optional a).Begun (t ∷ ts) → has fa (sign_of t) ≡ true
  head t ts (inl p) = cc
  head t ts (inr p) = la.head t ts p

  goes : (x : Option A) (ts : List Lexeme) (t : Lexeme) (us : List Lexeme) → (optional a).Whole x ts
      → (optional a).Begun (ts ++ t ∷ us) → has (ma ++ fa) (sign_of t) ≡ true
  goes x ts t us w (inl p) = absurd (no_middle ts t us p)
  goes None ts t us w (inr p) = has_right ma fa _ (la.head t us (subst (λ l. a.Begun (l ++ t ∷ us)) w p))
  goes (Some x) ts t us w (inr p) = has_left ma fa _ (la.goes x ts t us w p)

  some : (x : A) (ts : List Lexeme) → a.Whole x ts → ts ≡ [] → ⊥
  some x ts w p = let h = la.empty x (subst (a.Whole x) p w) in cc

  only : (x y : Option A) (ts : List Lexeme) → (optional a).Whole x ts → (optional a).Whole y ts → x ≡ y
  only None None ts w w' = refl
  only (Some x) (Some y) ts w w' = ap Some (la.only x y ts w w')
  only None (Some y) ts w w' = absurd (some y ts w' w)
  only (Some x) None ts w w' = absurd (some x ts w w')

-- a prefix of a form is a prefix of a list of it
pub begun_one : {A : Type 0} (a : Form A) (ts : List Lexeme) → a.Begun ts → (many a).Begun ts
unfolding many
begun_one a ts b = ([], [], ts, refl, refl, inr b)

-- and so is a complete form followed by a prefix of a list
pub begun_more : {A : Type 0} (a : Form A) (x : A) (ts u v : List Lexeme) → ts ≡ u ++ v → a.Whole x u → (many a).Begun v → (many a).Begun ts
unfolding many
begun_more a x ts u v p w (xs, u', v', q, ws, b) = (x ∷ xs, u ++ u', v', p ∙ ap (λ l. u ++ l) q ∙ sym (append_assoc u u' v'), (u, u', refl, w, ws), b)

-- a prefix of a list of a form: nothing, a prefix of one, or one followed by a prefix of a list
pub begun_many : {A : Type 0} (a : Form A) (ts : List Lexeme) → (many a).Begun ts
    → (ts ≡ []) ⊎ a.Begun ts ⊎ ((x : A) × (u v : List Lexeme) × (ts ≡ u ++ v) × a.Whole x u × (many a).Begun v)
unfolding many
begun_many a ts ([], u, v, p, w, inl q) = inl (no_front ts u v p w ∙ q)
begun_many a ts ([], u, v, p, w, inr q) = inr (inl (subst a.Begun (sym (no_front ts u v p w)) q))
begun_many a ts (x ∷ xs, u, v, p, (u', v', p', w, ws), b) = inr (inr (x, u', v' ++ v, p ∙ behind u u' v' v p', w, (xs, v', v, refl, ws, b)))

-- premise: the form takes at least one token, and its more and first are disjoint
pub many_ll : {A : Type 0} {fa ma : List Sign} {a : Form A} → LL false fa ma a → apart ma fa ≡ true → LL true fa (ma ++ fa) (many a)
unfolding many
many_ll {A} {fa} {ma} {a} l e = record {
  start = ([], [], [], refl, refl, inl refl);
  front = λ ts us b. front b.0 ts us b.1 b.2 b.3 b.4 b.5;
  begun = begun;
  head = head;
  empty = λ xs w. refl;
  goes = goes;
  only = only;
} where
  none : (x : A) (u : List Lexeme) → a.Whole x u → u ≡ [] → ⊥
  none x u w p = let h = l.empty x (subst (a.Whole x) p w) in cc

  begun : (xs : List A) (ts : List Lexeme) → (many a).Whole xs ts → (many a).Begun ts
  begun xs ts w = (xs, ts, [], sym (append-nil ts), w, inl refl)

  head : (t : Lexeme) (ts : List Lexeme) → (many a).Begun (t ∷ ts) → has fa (sign_of t) ≡ true
  head t ts b = elim (begun_many a (t ∷ ts) b) [
    | inl p ↦ cc
    | inr (inl p) ↦ l.head t ts p
    | inr (inr (x, u, v, p, w, q)) ↦ elim (heads t ts u v p) [
      | inl h ↦ l.head t h.0 (subst a.Begun h.1 (l.begun x u w))
      | inr h ↦ absurd (none x u w h.0)
    ]
  ]

  front : (xs : List A) (ts us u v : List Lexeme) → ts ++ us ≡ u ++ v → WholeEach a xs u → (v ≡ []) ⊎ a.Begun v → (many a).Begun ts
  front [] ts us u v p w (inl q) = ([], [], [], (both_empty ts us (sym (no_front (ts ++ us) u v p w ∙ q))).0, refl, inl refl)
  front [] ts us u v p w (inr q) = begun_one a ts (l.front ts us (subst a.Begun (sym (no_front (ts ++ us) u v p w)) q))
  front (x ∷ xs) ts us u v p (u', v', p', w, ws) b = elim (cuts ts us u' (v' ++ v) (p ∙ behind u u' v' v p')) [
    | Even r s ↦ begun_one a ts (subst a.Begun (sym r) (l.begun x u' w))
    | Shorter c m r s ↦ begun_one a ts (l.front ts (c ∷ m) (subst a.Begun r (l.begun x u' w)))
    | Longer c m r s ↦ begun_more a x ts u' (c ∷ m) r w (front xs (c ∷ m) us v' v (sym s) ws b)
  ]

  goes : (xs : List A) (ts : List Lexeme) (t : Lexeme) (us : List Lexeme) → (many a).Whole xs ts
      → (many a).Begun (ts ++ t ∷ us) → has (ma ++ fa) (sign_of t) ≡ true
  goes [] ts t us w b = has_right ma fa _ (head t us (subst (λ r. (many a).Begun (r ++ t ∷ us)) w b))
  goes (x ∷ xs) ts t us (u, v, p, w, ws) b = elim (begun_many a (ts ++ t ∷ us) b) [
    | inl q ↦ absurd (no_middle ts t us q)
    | inr q ↦ behind_first l fa (ma ++ fa) (many a).Begun head e x ts u v t us p w (begun xs v ws) (λ r h. has_left ma fa _ h) (goes xs v t us ws) q
  ]

  stop : (xs : List A) (v : List Lexeme) → WholeEach a xs v → begins_with ma v ≡ false
  stop xs v w = stops ma fa (many a).Begun head e v (begun xs v w)

  only : (xs ys : List A) (ts : List Lexeme) → (many a).Whole xs ts → (many a).Whole ys ts → xs ≡ ys
  only [] [] ts w w' = refl
  only [] (y ∷ ys) ts w (u, v, p, w', ws) = absurd (none y u w' (both_empty u v (sym w ∙ p)).0)
  only (x ∷ xs) [] ts (u, v, p, w, ws) w' = absurd (none x u w (both_empty u v (sym w' ∙ p)).0)
  only (x ∷ xs) (y ∷ ys) ts (u, v, p, w, ws) (u', v', p', w', ws') =
      let both = parts l x y u v u' v' w w' (stop xs v ws) (stop ys v' ws') (sym p ∙ p') in
      let q : x ≡ y = l.only x y u w (subst (a.Whole y) (sym both.0) w') in
      let r : xs ≡ ys = only xs ys v ws (subst (WholeEach a ys) (sym both.1) ws') in
      cc

pub made_ll : {A B : Type 0} {null : Bool} {first more : List Sign} {a : Form A} (f : ℕ → A → B) → LL null first more a
    → LL null first more (made f a)
unfolding made
made_ll f l = record {
  start = l.start;
  front = l.front;
  begun = λ y ts w. l.begun w.0 ts w.1;
  head = l.head;
  empty = λ y w. l.empty w.0 w.1;
  goes = λ y ts t us w. l.goes w.0 ts t us w.1;
  only = λ y z ts w w'. w.2 ∙ ap (f (first_byte ts)) (l.only w.0 w'.0 ts w.1 w'.1) ∙ sym w'.2;
}

pub nothing_ll : {A : Type 0} {null : Bool} {first more : List Sign} → LL null first more (nothing {A = A})
unfolding nothing
nothing_ll = record {
  start = refl;
  front = λ ts us b. (both_empty ts us (sym b)).0;
  begun = λ x ts w. absurd w;
  head = λ t ts b. cc;
  empty = λ x w. absurd w;
  goes = λ x ts t us w b. absurd w;
  only = λ x y ts w w'. absurd w;
}
