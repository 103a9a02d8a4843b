-- The meaning of a reader's result for its form. F n is the form within n levels. The result covers every level from n
-- up, because a form inside others is also looked at with more levels.
use Rattle.std.proofs.Common.{◌≡◌, ℕ, zero, suc, ◌+◌, ◌≤◌, ◌<◌, arith, Bool, true, false, List, [], ◌∷◌, ◌++◌, length, Option, None, Some, Ok, Err, refl, sym, ap, subst, ◌∙◌, inl, inr}
use Rattle.std.proofs.lemmas.Bool.{cond_both, both_ways}
use Rattle.std.proofs.lemmas.List.{append_assoc, append-nil, length-append}
use Rattle.rapid_lexer.specs.Tokens.{Lexeme}
use Rattle.rapid_forms.specs.declared.sign.Sign.{Sign}
use Rattle.rapid_forms.specs.Signs.{has, sign_of, begins_with}
use Rattle.rapid_forms.specs.Forms.{Form, one, seq, either, optional, many, made, nothing, first_byte}
use Rattle.rapid_forms.specs.Reading.{Fails, Deep, Read, Reader, then_read, one_read, seq_read, either_read, optional_read, many_within, many_read, made_read, nothing_read}
use Rattle.rapid_forms.proofs.Laws.{LL, many_ll}
use Rattle.rapid_forms.proofs.Cuts.{Even, Shorter, Longer, cuts, behind, no_middle, no_front}
use Rattle.rapid_forms.proofs.Sets.{apart, has_apart}
use Rattle.rapid_forms.proofs.Up.{Up, seq_up, many_up}
use Rattle.rapid_forms.proofs.Opens.{Opens, seq_opens}
use Rattle.rapid_forms.proofs.Same.{Same, either_swapped, byte_front}

-- the next token, if there is one, does not continue the front
abbrev pub Ends : {A : Type 0} → Form A → List Lexeme → List Lexeme → Type 0
Ends f front rest = (c : Lexeme) (r : List Lexeme) → rest ≡ c ∷ r → f.Begun (front ++ c ∷ []) → ⊥

-- a front is complete, and is not continued at any level
pub record IsRead {A : Type 0} (F : ℕ → Form A) (n : ℕ) (ts : List Lexeme) (x : A) (rest : List Lexeme) : Type 0 where
  pub front : List Lexeme
  pub split : ts ≡ front ++ rest
  pub whole : (F n).Whole x front
  pub ends : (m : ℕ) → n ≤ m → Ends (F m) front rest

-- a front is a prefix of the form, but not complete at any level, and is not continued at any level
pub record IsStopped {A : Type 0} (F : ℕ → Form A) (n : ℕ) (ts rest : List Lexeme) : Type 0 where
  pub front : List Lexeme
  pub split : ts ≡ front ++ rest
  pub begun : (F n).Begun front
  pub ends : (m : ℕ) → n ≤ m → Ends (F m) front rest
  pub none : (m : ℕ) → n ≤ m → (x : A) → (F m).Whole x front → ⊥

-- a front is a prefix of the form, and the next token continues it at a higher level, but not at this one
pub record IsAbove {A : Type 0} (F : ℕ → Form A) (n : ℕ) (ts rest : List Lexeme) : Type 0 where
  pub front : List Lexeme
  pub split : ts ≡ front ++ rest
  pub token : Lexeme
  pub behind : List Lexeme
  pub next : rest ≡ token ∷ behind
  pub begun : (F n).Begun front
  pub ends : Ends (F n) front rest
  pub level : ℕ
  pub above : n ≤ level
  pub deeper : (F level).Begun (front ++ token ∷ [])

abbrev pub Right : {A : Type 0} → (ℕ → Form A) → ℕ → List Lexeme → Read A → Type 0
Right F n ts (Ok x) = IsRead F n ts x.0 x.1
Right F n ts (Err (Fails rest)) = IsStopped F n ts rest
Right F n ts (Err (Deep rest)) = IsAbove F n ts rest

-- a reader parses a form correctly within n levels
pub record Reads {A : Type 0} (F : ℕ → Form A) (n : ℕ) (reader : Reader A) : Type 0 where
  pub right : (ts : List Lexeme) → Right F n ts (reader ts)

-- if the next token does not continue a front, no more tokens do
stuck : {A : Type 0} {null : Bool} {first more : List Sign} {f : Form A} → LL null first more f → (front rest w tail : List Lexeme) → Ends f front rest → (w ≡ [] → ⊥) → rest ≡ w ++ tail → f.Begun (front ++ w) → ⊥
stuck l front rest [] tail ends some e b = some refl
stuck {f = f} l front rest (c ∷ w) tail ends some e b = ends c (w ++ tail) e (l.front (front ++ c ∷ []) w (subst f.Begun (sym (append_assoc front (c ∷ []) w)) b))

module _ {A B : Type 0} {na nb : Bool} {fa ma fb mb : List Sign} {f : Form A} {g : Form B} (lf : LL na fa ma f) (lg : LL nb fb mb g) (e : apart ma fb ≡ true) where
  -- no token both continues a complete first form and starts the second
  clash : (x : A) (u : List Lexeme) (c : Lexeme) (w v : List Lexeme) → f.Whole x u → f.Begun (u ++ c ∷ w) → g.Begun (c ∷ v) → ⊥
  clash x u c w v h b b' = has_apart ma fb (sign_of c) e (lf.goes x u c w h b) (lg.head c v b')

  -- if the next token does not continue a front of the first form, the second form starts only there
  one_split : (front rest w tail : List Lexeme) → f.Begun front → Ends f front rest → rest ≡ w ++ tail → (x : A) (u v : List Lexeme) → front ++ w ≡ u ++ v → f.Whole x u → g.Begun v → (front ≡ u) × (w ≡ v)
  one_split front rest w tail b ends at x u v same h b' =
      elim (cuts front w u v same) [
        | Even p q ↦ (p, q)
        | Shorter c m p q ↦ absurd (stuck lf front rest (c ∷ m) (v ++ tail) ends (λ z. cc) (at ∙ behind w (c ∷ m) v tail q) (subst f.Begun p (lf.begun x u h)))
        | Longer c m p q ↦ absurd (clash x u c m (m ++ w) h (subst f.Begun p b) (subst g.Begun q b'))
      ]

  -- after a complete first form comes a front of the second
  seq_ends : (front rest mid left : List Lexeme) → f.Begun front → Ends f front rest → rest ≡ mid ++ left → Ends g mid left → Ends (seq f g) (front ++ mid) left
  unfolding seq
  seq_ends front rest mid left b ends split ends' c r at (inl h) =
      stuck lf front rest (mid ++ c ∷ []) r ends (no_middle mid c []) (split ∙ ap (λ l. mid ++ l) at ∙ sym (append_assoc mid (c ∷ []) r)) (subst f.Begun (append_assoc front mid (c ∷ [])) h)
  seq_ends front rest mid left b ends split ends' c r at (inr (x, u, v, same, h, h')) =
      let both = one_split front rest (mid ++ c ∷ []) r b ends (split ∙ ap (λ l. mid ++ l) at ∙ sym (append_assoc mid (c ∷ []) r)) x u v (sym (append_assoc front mid (c ∷ [])) ∙ same) h h' in
      ends' c r at (subst g.Begun (sym both.1) h')

  seq_none : (front rest mid left : List Lexeme) → f.Begun front → Ends f front rest → rest ≡ mid ++ left → ((y : B) → g.Whole y mid → ⊥) → (z : A × B) → (seq f g).Whole z (front ++ mid) → ⊥
  unfolding seq
  seq_none front rest mid left b ends split none z (u, v, same, h, h') =
      let both = one_split front rest mid left b ends split z.0 u v same h (lg.begun z.1 v h') in
      none z.1 (subst (g.Whole z.1) (sym both.1) h')

  -- a front of the first form that is not complete
  first_ends : (front rest : List Lexeme) → f.Begun front → Ends f front rest → ((x : A) → f.Whole x front → ⊥) → Ends (seq f g) front rest
  unfolding seq
  first_ends front rest b ends none c r at (inl h) = ends c r at h
  first_ends front rest b ends none c r at (inr (x, u, v, same, h, h')) =
      none x (subst (f.Whole x) (sym (one_split front rest (c ∷ []) r b ends at x u v same h h').0) h)

  first_none : (front rest : List Lexeme) → f.Begun front → Ends f front rest → ((x : A) → f.Whole x front → ⊥) → (z : A × B) → (seq f g).Whole z front → ⊥
  unfolding seq
  first_none front rest b ends none z (u, v, same, h, h') =
      none z.0 (subst (f.Whole z.0) (sym (one_split front rest [] rest b ends refl z.0 u v (append-nil front ∙ same) h (lg.begun z.1 v h')).0) h)

  -- a front of the first form that f, at a higher level, continues
  first_above : (f' : Form A) → LL na fa ma f' → Up f' f → (front rest : List Lexeme) (c : Lexeme) (r : List Lexeme) → rest ≡ c ∷ r → Ends f' front rest → f.Begun (front ++ c ∷ []) → Ends (seq f' g) front rest
  unfolding seq
  first_above f' l up front rest c r at ends deeper c' r' at' (inl h) = ends c' r' at' h
  first_above f' l up front rest c r at ends deeper c' r' at' (inr (x, u, [], same, h, h')) = ends c' r' at' (subst f'.Begun (sym (same ∙ append-nil u)) (l.begun x u h))
  first_above f' l up front rest c r at ends deeper c' r' at' (inr (x, u, d ∷ v, same, h, h')) =
      let one : c ≡ c' = cc in
      clash x u d v v (up.whole x u h) (subst f.Begun (ap (λ z. front ++ z ∷ []) one ∙ same) deeper) h'

module _ {A B : Type 0} {na nb : Bool} {fa ma fb mb : List Sign} {F : ℕ → Form A} {G : ℕ → Form B} (lf : (m : ℕ) → LL na fa ma (F m)) (lg : (m : ℕ) → LL nb fb mb (G m)) (e : apart ma fb ≡ true) (up : (k m : ℕ) → k ≤ m → Up (F k) (F m)) (n : ℕ) where
  module _ (ts : List Lexeme) (x : A) (rest : List Lexeme) (h : IsRead F n ts x rest) where
    begun_up : (m : ℕ) → n ≤ m → (F m).Begun h.front
    begun_up m le = (up n m le).begun h.front ((lf n).begun x h.front h.whole)

    joined : (mid left : List Lexeme) → rest ≡ mid ++ left → ts ≡ (h.front ++ mid) ++ left
    joined mid left split = h.split ∙ ap (λ l. h.front ++ l) split ∙ sym (append_assoc h.front mid left)

    second_right : (b : Read B) → Right G n rest b → Right (λ m. seq (F m) (G m)) n ts (then_read b λ y left. Ok ((x, y), left))
    unfolding seq then_read
    second_right (Ok y) h' = record {
      front = h.front ++ h'.front;
      split = joined h'.front y.1 h'.split;
      whole = (h.front, h'.front, refl, h.whole, h'.whole);
      ends = λ m le. seq_ends (lf m) (lg m) e h.front rest h'.front y.1 (begun_up m le) (h.ends m le) h'.split (h'.ends m le);
    }
    second_right (Err (Fails left)) h' = record {
      front = h.front ++ h'.front;
      split = joined h'.front left h'.split;
      begun = inr (x, h.front, h'.front, refl, h.whole, h'.begun);
      ends = λ m le. seq_ends (lf m) (lg m) e h.front rest h'.front left (begun_up m le) (h.ends m le) h'.split (h'.ends m le);
      none = λ m le. seq_none (lf m) (lg m) e h.front rest h'.front left (begun_up m le) (h.ends m le) h'.split (h'.none m le);
    }
    second_right (Err (Deep left)) h' = record {
      front = h.front ++ h'.front;
      split = joined h'.front left h'.split;
      token = h'.token;
      behind = h'.behind;
      next = h'.next;
      begun = inr (x, h.front, h'.front, refl, h.whole, h'.begun);
      ends = seq_ends (lf n) (lg n) e h.front rest h'.front left (begun_up n (omega arith)) (h.ends n (omega arith)) h'.split h'.ends;
      level = h'.level;
      above = h'.above;
      deeper = inr (x, h.front, h'.front ++ h'.token ∷ [], append_assoc h.front h'.front (h'.token ∷ []), (up n h'.level h'.above).whole x h.front h.whole, h'.deeper);
    }

  seq_right : (ts : List Lexeme) (a : Read A) (b : Reader B) → Right F n ts a → ((x : A) (rest : List Lexeme) → a ≡ Ok (x, rest) → Right G n rest (b rest)) → Right (λ m. seq (F m) (G m)) n ts (then_read a λ x rest. then_read (b rest) λ y left. Ok ((x, y), left))
  unfolding seq then_read
  seq_right ts (Ok x) b h next = second_right ts x.0 x.1 h (b x.1) (next x.0 x.1 refl)
  seq_right ts (Err (Fails rest)) b h next = record {
    front = h.front;
    split = h.split;
    begun = inl h.begun;
    ends = λ m le. first_ends (lf m) (lg m) e h.front rest ((up n m le).begun h.front h.begun) (h.ends m le) (h.none m le);
    none = λ m le. first_none (lf m) (lg m) e h.front rest ((up n m le).begun h.front h.begun) (h.ends m le) (h.none m le);
  }
  seq_right ts (Err (Deep rest)) b h next = record {
    front = h.front;
    split = h.split;
    token = h.token;
    behind = h.behind;
    next = h.next;
    begun = inl h.begun;
    ends = first_above (lf h.level) (lg n) e (F n) (lf n) (up n h.level h.above) h.front rest h.token h.behind h.next h.ends h.deeper;
    level = h.level;
    above = h.above;
    deeper = inl h.deeper;
  }

-- premise: the signs that continue the first form and those that start the second are disjoint
pub seq_reads : {A B : Type 0} {na nb : Bool} {fa ma fb mb : List Sign} {F : ℕ → Form A} {G : ℕ → Form B} {n : ℕ} {a : Reader A} {b : Reader B} → Reads F n a → Reads G n b → ((m : ℕ) → LL na fa ma (F m)) → ((m : ℕ) → LL nb fb mb (G m)) → apart ma fb ≡ true → ((k m : ℕ) → k ≤ m → Up (F k) (F m)) → Reads (λ m. seq (F m) (G m)) n (seq_read a b)
unfolding seq_read
seq_reads {n = n} {a = a} {b = b} ra rb lf lg e up = record { right = λ ts. seq_right lf lg e up n ts (a ts) b (ra.right ts) (λ x rest _. rb.right rest) }

pub one_reads : {n : ℕ} (signs : List Sign) → Reads (λ m. one signs) n (one_read signs)
unfolding one one_read
one_reads {n} signs = record { right = right } where
  right : (ts : List Lexeme) → Right (λ m. one signs) n ts (one_read signs ts)
  right [] = record { front = []; split = refl; begun = inl refl; ends = λ m le c r at. cc; none = λ m le x h. let no = h.0 in cc }
  right (t ∷ ts) = cond_both (has signs (sign_of t)) (Ok (t, ts)) (Err (Fails (t ∷ ts))) (Right (λ m. one signs) n (t ∷ ts))
      (λ e. record { front = t ∷ []; split = refl; whole = (refl, e); ends = λ m le c r at. elim [ inl p ↦ cc | inr (x, p, h) ↦ cc ] })
      (λ e. record {
        front = [];
        split = refl;
        begun = inl refl;
        ends = λ m le c r at. elim [ inl p ↦ cc | inr (x, p, h) ↦ let same : t ≡ x = cc in both_ways _ (subst (λ t. has signs (sign_of t) ≡ false) same e) h ];
        none = λ m le x h. let no = h.0 in cc;
      })

-- a form that equals another at every level
same_right : {A : Type 0} {F G : ℕ → Form A} → ((m : ℕ) → Same (F m) (G m)) → (n : ℕ) (ts : List Lexeme) (read : Read A) → Right F n ts read → Right G n ts read
same_right same n ts (Ok x) h = record {
  front = h.front;
  split = h.split;
  whole = (same n).to.whole x.0 h.front h.whole;
  ends = λ m le c r at b. h.ends m le c r at ((same m).back.begun (h.front ++ c ∷ []) b);
}
same_right same n ts (Err (Fails rest)) h = record {
  front = h.front;
  split = h.split;
  begun = (same n).to.begun h.front h.begun;
  ends = λ m le c r at b. h.ends m le c r at ((same m).back.begun (h.front ++ c ∷ []) b);
  none = λ m le x w. h.none m le x ((same m).back.whole x h.front w);
}
same_right same n ts (Err (Deep rest)) h = record {
  front = h.front;
  split = h.split;
  token = h.token;
  behind = h.behind;
  next = h.next;
  begun = (same n).to.begun h.front h.begun;
  ends = λ c r at b. h.ends c r at ((same n).back.begun (h.front ++ c ∷ []) b);
  level = h.level;
  above = h.above;
  deeper = (same h.level).to.begun (h.front ++ h.token ∷ []) h.deeper;
}

-- the first token starts the form at some level
record Starts {A : Type 0} (F : ℕ → Form A) (n : ℕ) (ts : List Lexeme) : Type 0 where
  token : Lexeme
  behind : List Lexeme
  at : ts ≡ token ∷ behind
  level : ℕ
  above : n ≤ level
  begun : (F level).Begun (token ∷ [])

starts : {A : Type 0} {signs : List Sign} {F : ℕ → Form A} → Opens signs F → ((k m : ℕ) → k ≤ m → Up (F k) (F m)) → (n : ℕ) (ts : List Lexeme) → begins_with signs ts ≡ true → Starts F n ts
unfolding begins_with
starts o up n [] e = cc
starts o up n (t ∷ ts) e = let (m, b) = o.opens t e in record { token = t; behind = ts; at = refl; level = n + m; above = omega arith; begun = (up m (n + m) (omega arith)).begun (t ∷ []) b }

-- so reading does not stop before it
not_bare : {A : Type 0} {F : ℕ → Form A} {n : ℕ} {ts rest : List Lexeme} → Starts F n ts → (h : IsStopped F n ts rest) → h.front ≡ [] → ⊥
not_bare {F = F} {ts = ts} {rest = rest} s h e =
    h.ends s.level s.above s.token s.behind (sym (no_front ts h.front rest h.split e) ∙ s.at) (subst (λ l. (F s.level).Begun (l ++ s.token ∷ [])) (sym e) s.begun)

-- a prefix of the form starts with one of its first signs
begins : {A : Type 0} {null : Bool} {first more : List Sign} {f : Form A} → LL null first more f → (ts w tail : List Lexeme) → ts ≡ w ++ tail → (w ≡ [] → ⊥) → f.Begun w → begins_with first ts ≡ true
unfolding begins_with
begins l ts [] tail e some b = absurd (some refl)
begins l ts (c ∷ w) tail e some b = rw e (l.head c w b)

apart_begins : (xs ys : List Sign) (ts : List Lexeme) → apart xs ys ≡ true → begins_with xs ts ≡ true → begins_with ys ts ≡ true → ⊥
unfolding begins_with
apart_begins xs ys [] e h h' = cc
apart_begins xs ys (t ∷ ts) e h h' = has_apart xs ys (sign_of t) e h h'

-- one of two forms, if the other starts with none of these tokens
module _ {A : Type 0} {F : ℕ → Form A} (G : ℕ → Form A) {n : ℕ} (ts : List Lexeme) (foreign : (m : ℕ) (w tail : List Lexeme) → ts ≡ w ++ tail → (w ≡ [] → ⊥) → (G m).Begun w → ⊥) (bare : (m : ℕ) (y : A) → (G m).Whole y [] → Starts F n ts) (gb : (m : ℕ) (y : A) (w : List Lexeme) → (G m).Whole y w → (G m).Begun w) where
  other : (front rest : List Lexeme) → ts ≡ front ++ rest → (m : ℕ) → Ends (G m) front rest
  other front rest split m c r at b = foreign m (front ++ c ∷ []) r (split ∙ ap (λ l. front ++ l) at ∙ sym (append_assoc front (c ∷ []) r)) (no_middle front c []) b

  other_none : (rest : List Lexeme) (h : IsStopped F n ts rest) (m : ℕ) (y : A) (front : List Lexeme) → h.front ≡ front → (G m).Whole y front → ⊥
  other_none rest h m y [] e w = not_bare (bare m y w) h e
  other_none rest h m y (c ∷ front) e w = foreign m (c ∷ front) rest (h.split ∙ ap (λ l. l ++ rest) e) (λ z. cc) (gb m y (c ∷ front) w)

  side_right : (read : Read A) → Right F n ts read → Right (λ m. either (F m) (G m)) n ts read
  unfolding either
  side_right (Ok x) h = record {
    front = h.front;
    split = h.split;
    whole = inl h.whole;
    ends = λ m le c r at. elim [ inl b ↦ h.ends m le c r at b | inr b ↦ other h.front x.1 h.split m c r at b ];
  }
  side_right (Err (Fails rest)) h = record {
    front = h.front;
    split = h.split;
    begun = inl h.begun;
    ends = λ m le c r at. elim [ inl b ↦ h.ends m le c r at b | inr b ↦ other h.front rest h.split m c r at b ];
    none = λ m le x. elim [ inl w ↦ h.none m le x w | inr w ↦ other_none rest h m x h.front refl w ];
  }
  side_right (Err (Deep rest)) h = record {
    front = h.front;
    split = h.split;
    token = h.token;
    behind = h.behind;
    next = h.next;
    begun = inl h.begun;
    ends = λ c r at. elim [ inl b ↦ h.ends c r at b | inr b ↦ other h.front rest h.split n c r at b ];
    level = h.level;
    above = h.above;
    deeper = inl h.deeper;
  }

-- premises: the first form takes at least one token; the signs that start the two are disjoint; and if the second can
-- be empty, each first sign opens the first
pub either_reads : {A : Type 0} {nb : Bool} {fa ma fb mb : List Sign} {F G : ℕ → Form A} {n : ℕ} {a b : Reader A} → Reads F n a → Reads G n b → ((m : ℕ) → LL false fa ma (F m)) → ((m : ℕ) → LL nb fb mb (G m)) → apart fa fb ≡ true → (nb ≡ true → Opens fa F) → ((k m : ℕ) → k ≤ m → Up (F k) (F m)) → Reads (λ m. either (F m) (G m)) n (either_read fa a b)
unfolding either_read
either_reads {A} {nb} {fa} {ma} {fb} {mb} {F} {G} {n} {a} {b} ra rb lf lg e o up = record {
  right = λ ts. cond_both (begins_with fa ts) (a ts) (b ts) (Right (λ m. either (F m) (G m)) n ts)
      (λ h. side_right G ts (λ m w tail s some b. apart_begins fa fb ts e h (begins (lg m) ts w tail s some b)) (λ m y w. starts (o ((lg m).empty y w)) up n ts h) (λ m. (lg m).begun) (a ts) (ra.right ts))
      (λ h. same_right (λ m. either_swapped (G m) (F m)) n ts (b ts)
      (side_right F ts (λ m w tail s some b. both_ways _ h (begins (lf m) ts w tail s some b)) (λ m y w. let no = (lf m).empty y w in cc) (λ m. (lf m).begun) (b ts) (rb.right ts)));
}

optional_right : {A : Type 0} {F : ℕ → Form A} (n : ℕ) (ts : List Lexeme) → Starts F n ts → (read : Read A) → Right F n ts read → Right (λ m. optional (F m)) n ts (then_read read λ x rest. Ok (Some x, rest))
unfolding optional then_read
optional_right n ts s (Ok x) h = record {
  front = h.front;
  split = h.split;
  whole = h.whole;
  ends = λ m le c r at. elim [ inl p ↦ no_middle h.front c [] p | inr b ↦ h.ends m le c r at b ];
}
optional_right n ts s (Err (Fails rest)) h = record {
  front = h.front;
  split = h.split;
  begun = inr h.begun;
  ends = λ m le c r at. elim [ inl p ↦ no_middle h.front c [] p | inr b ↦ h.ends m le c r at b ];
  none = λ m le. elim [ None ↦ not_bare s h | Some x ↦ h.none m le x ];
}
optional_right n ts s (Err (Deep rest)) h = record {
  front = h.front;
  split = h.split;
  token = h.token;
  behind = h.behind;
  next = h.next;
  begun = inr h.begun;
  ends = λ c r at. elim [ inl p ↦ no_middle h.front c [] p | inr b ↦ h.ends c r at b ];
  level = h.level;
  above = h.above;
  deeper = inr h.deeper;
}

none_right : {A : Type 0} {null : Bool} {first more : List Sign} {F : ℕ → Form A} → ((m : ℕ) → LL null first more (F m)) → (n : ℕ) (ts : List Lexeme) → begins_with first ts ≡ false → Right (λ m. optional (F m)) n ts (Ok (None, ts))
unfolding optional
none_right lf n ts e = record {
  front = [];
  split = refl;
  whole = refl;
  ends = λ m le c r at. elim [ inl p ↦ cc | inr b ↦ both_ways _ e (begins (lf m) ts (c ∷ []) r at (λ z. cc) b) ];
}

-- premise: each first sign opens the form
pub optional_reads : {A : Type 0} {null : Bool} {first more : List Sign} {F : ℕ → Form A} {n : ℕ} {a : Reader A} → Reads F n a → ((m : ℕ) → LL null first more (F m)) → Opens first F → ((k m : ℕ) → k ≤ m → Up (F k) (F m)) → Reads (λ m. optional (F m)) n (optional_read first a)
unfolding optional_read
optional_reads {A} {null} {first} {more} {F} {n} {a} ra lf o up = record {
  right = λ ts. cond_both (begins_with first ts) (then_read (a ts) λ x rest. Ok (Some x, rest)) (Ok (None, ts)) (Right (λ m. optional (F m)) n ts)
      (λ h. optional_right n ts (starts o up n ts h) (a ts) (ra.right ts)) (none_right lf n ts);
}

-- premise: what is made of a complete form does not depend on the byte if there is no token
made_right : {A B : Type 0} (F : ℕ → Form A) (f : ℕ → A → B) (n : ℕ) (ts : List Lexeme) → ((x : A) (front rest : List Lexeme) → ts ≡ front ++ rest → (F n).Whole x front → f (first_byte ts) x ≡ f (first_byte front) x) → (read : Read A) → Right F n ts read → Right (λ m. made f (F m)) n ts (then_read read λ x rest. Ok (f (first_byte ts) x, rest))
unfolding made then_read
made_right F f n ts same (Ok x) h = record { front = h.front; split = h.split; whole = (x.0, h.whole, same x.0 h.front x.1 h.split h.whole); ends = h.ends }
made_right F f n ts same (Err (Fails rest)) h = record { front = h.front; split = h.split; begun = h.begun; ends = h.ends; none = λ m le y w. h.none m le w.0 w.1 }
made_right F f n ts same (Err (Deep rest)) h = record {
  front = h.front;
  split = h.split;
  token = h.token;
  behind = h.behind;
  next = h.next;
  begun = h.begun;
  ends = h.ends;
  level = h.level;
  above = h.above;
  deeper = h.deeper;
}

-- premise: the form takes at least one token, whose byte is that of the whole
pub made_reads : {A B : Type 0} {first more : List Sign} {F : ℕ → Form A} {n : ℕ} {a : Reader A} (f : ℕ → A → B) → Reads F n a → ((m : ℕ) → LL false first more (F m)) → Reads (λ m. made f (F m)) n (made_read f a)
unfolding made_read
made_reads {F = F} {n = n} {a = a} f ra lf = record {
  right = λ ts. made_right F f n ts (λ x front rest split w. ap (λ at. f at x) (byte_front (lf n) x ts front rest split w)) (a ts) (ra.right ts);
}

-- premise: the byte does not matter
pub remade_reads : {A B : Type 0} {F : ℕ → Form A} {n : ℕ} {a : Reader A} (f : ℕ → A → B) → Reads F n a → ((p q : ℕ) (x : A) → f p x ≡ f q x) → Reads (λ m. made f (F m)) n (made_read f a)
unfolding made_read
remade_reads {F = F} {n = n} {a = a} f ra same = record { right = λ ts. made_right F f n ts (λ x front rest split w. same (first_byte ts) (first_byte front) x) (a ts) (ra.right ts) }

-- a reader parses an equal form correctly
pub same_reads : {A : Type 0} {F G : ℕ → Form A} {n : ℕ} {a : Reader A} → Reads F n a → ((m : ℕ) → Same (F m) (G m)) → Reads G n a
same_reads {n = n} {a = a} ra same = record { right = λ ts. same_right same n ts (a ts) (ra.right ts) }

unbegun : (A : Type 0) (c : Lexeme) → (nothing {A = A}).Begun (c ∷ []) → ⊥
unfolding nothing
unbegun A c b = cc

-- no level is left, and the first token opens one
deep_right : {A : Type 0} {first : List Sign} {F : ℕ → Form A} → F 0 ≡ nothing → (F 0).Begun [] → Opens first F → (ts : List Lexeme) → begins_with first ts ≡ true → IsAbove F 0 ts ts
unfolding begins_with
deep_right zeroth s o [] h = cc
deep_right zeroth s o (t ∷ ts) h =
    let (m, b) = o.opens t h in
    record {
      front = [];
      split = refl;
      token = t;
      behind = ts;
      next = refl;
      begun = s;
      ends = λ c r at b. unbegun _ c (subst (λ f. f.Begun (c ∷ [])) zeroth b);
      level = m;
      above = omega arith;
      deeper = b;
    }

-- premises: no level is left; the form takes at least one token; and each first sign opens it
pub nothing_reads : {A : Type 0} {first more : List Sign} {F : ℕ → Form A} → F 0 ≡ nothing → ((m : ℕ) → LL false first more (F m)) → Opens first F → Reads F 0 (nothing_read first)
unfolding nothing_read
nothing_reads {A} {first} {more} {F} zeroth lf o = record {
  right = λ ts. cond_both (begins_with first ts) (Err (Deep ts)) (Err (Fails ts)) (Right F 0 ts) (deep_right zeroth (lf 0).start o ts)
      (λ h. record {
        front = [];
        split = refl;
        begun = (lf 0).start;
        ends = λ m le c r at b. both_ways _ h (begins (lf m) ts (c ∷ []) r at (λ z. cc) b);
        none = λ m le x w. let no = (lf m).empty x w in cc;
      });
}

-- a form one level deeper
module _ {A : Type 0} (F G : ℕ → Form A) (same : (m : ℕ) → G (suc m) ≡ F m) (n : ℕ) where
  inner : (P : Form A → Type 0) → ((m : ℕ) → n ≤ m → P (F m)) → (m : ℕ) → suc n ≤ m → P (G m)
  inner P p zero le = absurd (omega arith)
  inner P p (suc m) le = subst P (sym (same m)) (p m (omega arith))

  level_right : (ts : List Lexeme) (read : Read A) → Right F n ts read → Right G (suc n) ts read
  level_right ts (Ok x) h = record { front = h.front; split = h.split; whole = rw (same n) h.whole; ends = inner (λ f. Ends f h.front x.1) h.ends }
  level_right ts (Err (Fails rest)) h = record {
    front = h.front;
    split = h.split;
    begun = rw (same n) h.begun;
    ends = inner (λ f. Ends f h.front rest) h.ends;
    none = inner (λ f. (x : A) → f.Whole x h.front → ⊥) h.none;
  }
  level_right ts (Err (Deep rest)) h = record {
    front = h.front;
    split = h.split;
    token = h.token;
    behind = h.behind;
    next = h.next;
    begun = rw (same n) h.begun;
    ends = rw (same n) h.ends;
    level = suc h.level;
    above = omega (arith, h.above);
    deeper = rw (same h.level) h.deeper;
  }

pub level_reads : {A : Type 0} {F G : ℕ → Form A} {n : ℕ} {a : Reader A} → Reads F n a → ((m : ℕ) → G (suc m) ≡ F m) → Reads G (suc n) a
level_reads {F = F} {G = G} {n = n} {a = a} ra same = record { right = λ ts. level_right F G same n ts (a ts) (ra.right ts) }

-- A list is nothing, or one element and a list: many is made of optional and seq, and inherits their properties.
join_list : {A : Type 0} → Option (A × List A) → List A
join_list None = []
join_list (Some x) = x.0 ∷ x.1

rolled : {A : Type 0} (f : Form A) → Up (made (λ at. join_list) (optional (seq f (many f)))) (many f)
unfolding made optional seq many join_list
rolled {A} f = record { whole = λ xs ts w. whole w.0 xs ts w.1 w.2; begun = begun } where
  whole : (o : Option (A × List A)) (xs : List A) (ts : List Lexeme) → (optional (seq f (many f))).Whole o ts → xs ≡ join_list o → (many f).Whole xs ts
  whole None xs ts w e = rw e w
  whole (Some x) xs ts w e = rw e w

  begun : (ts : List Lexeme) → (optional (seq f (many f))).Begun ts → (many f).Begun ts
  begun ts (inl e) = ([], [], ts, refl, refl, inl e)
  begun ts (inr (inl b)) = ([], [], ts, refl, refl, inr b)
  begun ts (inr (inr (x, u, v, e, w, (xs, u', v', e', ws, b)))) = (x ∷ xs, u ++ u', v', e ∙ ap (λ l. u ++ l) e' ∙ sym (append_assoc u u' v'), (u, u', refl, w, ws), b)

unrolled : {A : Type 0} (f : Form A) → Up (many f) (made (λ at. join_list) (optional (seq f (many f))))
unfolding made optional seq many join_list
unrolled {A} f = record { whole = whole; begun = begun } where
  whole : (xs : List A) (ts : List Lexeme) → (many f).Whole xs ts → (made (λ at. join_list) (optional (seq f (many f)))).Whole xs ts
  whole [] ts w = (None, w, refl)
  whole (x ∷ xs) ts w = (Some (x, xs), w, refl)

  begun : (ts : List Lexeme) → (many f).Begun ts → (optional (seq f (many f))).Begun ts
  begun ts ([], u, v, e, w, inl p) = inl (no_front ts u v e w ∙ p)
  begun ts ([], u, v, e, w, inr b) = inr (inl (subst f.Begun (sym (no_front ts u v e w)) b))
  begun ts (x ∷ xs, u, v, e, (u', v', e', w, ws), b) = inr (inr (x, u', v' ++ v, e ∙ behind u u' v' v e', w, (xs, v', v, refl, ws, b)))

-- after a form that takes a token, less is left
pub less_left : {A : Type 0} {first more : List Sign} {F : ℕ → Form A} {n : ℕ} {ts rest : List Lexeme} (x : A) → LL false first more (F n) → IsRead F n ts x rest → length rest < length ts
less_left {F = F} {n} {ts} {rest} x l h = go h.front h.split h.whole where
  go : (front : List Lexeme) → ts ≡ front ++ rest → (F n).Whole x front → length rest < length ts
  go [] e w = let no = l.empty x w in cc
  go (c ∷ front) e w = omega (arith, ap length e, length-append front rest)

-- and its reader does too
as_one : {A : Type 0} (read : Read A) (b : Reader (List A)) → then_read (then_read (then_read read λ x rest. then_read (b rest) λ xs left. Ok ((x, xs), left)) λ o rest. Ok (Some o, rest)) (λ o rest. Ok (join_list o, rest)) ≡ then_read read (λ x rest. then_read (b rest) λ xs left. Ok (x ∷ xs, left))
unfolding then_read join_list
as_one (Err h) b = refl
as_one (Ok x) b = behind_one x.0 (b x.1)
  where
    behind_one : {A : Type 0} (x : A) (r : Read (List A)) → then_read (then_read (then_read r λ xs left. Ok ((x, xs), left)) λ o rest. Ok (Some o, rest)) (λ o rest. Ok (join_list o, rest)) ≡ then_read r (λ xs left. Ok (x ∷ xs, left))
    behind_one x (Err h) = refl
    behind_one x (Ok xs) = refl

module _ {A : Type 0} {first more : List Sign} {F : ℕ → Form A} {n : ℕ} {a : Reader A} (ra : Reads F n a) (lf : (m : ℕ) → LL false first more (F m)) (e : apart more first ≡ true) (o : Opens first F) (up : (k m : ℕ) → k ≤ m → Up (F k) (F m)) where
  no_more : (ts : List Lexeme) → begins_with first ts ≡ false → Right (λ m. many (F m)) n ts (Ok ([], ts))
  unfolding many
  no_more ts h = record { front = []; split = refl; whole = refl; ends = λ m le c r at b. both_ways _ h (begins (many_ll (lf m) e) ts (c ∷ []) r at (λ z. cc) b) }

  one_more : (k : ℕ) (ts : List Lexeme) → ((rest : List Lexeme) → length rest < length ts → Right (λ m. many (F m)) n rest (many_within k first a rest)) → begins_with first ts ≡ true → Right (λ m. many (F m)) n ts (then_read (a ts) λ x rest. then_read (many_within k first a rest) λ xs left. Ok (x ∷ xs, left))
  one_more k ts later h =
      let one = seq_right lf (λ m. many_ll (lf m) e) e up n ts (a ts) (many_within k first a) (ra.right ts) (λ x rest is. later rest (less_left x (lf n) (subst (Right F n ts) is (ra.right ts)))) in
      let some = optional_right n ts (starts (seq_opens (λ m. many (F m)) o) (λ k m le. seq_up (up k m le) (many_up (up k m le))) n ts h) _ one in
      subst (Right (λ m. many (F m)) n ts) (as_one (a ts) (many_within k first a))
      (same_right (λ m. record { to = rolled (F m); back = unrolled (F m) }) n ts _ (made_right _ (λ at. join_list) n ts (λ x front rest split w. refl) _ some))

  many_right : (k : ℕ) (ts : List Lexeme) → length ts ≤ k → Right (λ m. many (F m)) n ts (many_within k first a ts)
  unfolding many_within begins_with
  many_right zero [] le = no_more [] refl
  many_right zero (t ∷ ts) le = absurd (omega arith)
  many_right (suc k) ts le = cond_both (begins_with first ts) (then_read (a ts) λ x rest. then_read (many_within k first a rest) λ xs left. Ok (x ∷ xs, left)) (Ok ([], ts)) (Right (λ m. many (F m)) n ts)
      (one_more k ts (λ rest less. many_right k rest (omega arith))) (no_more ts)

-- premises: the form takes at least one token; the signs that continue it and those that start it are disjoint; each
-- first sign opens it
pub many_reads : {A : Type 0} {first more : List Sign} {F : ℕ → Form A} {n : ℕ} {a : Reader A} → Reads F n a → ((m : ℕ) → LL false first more (F m)) → apart more first ≡ true → Opens first F → ((k m : ℕ) → k ≤ m → Up (F k) (F m)) → Reads (λ m. many (F m)) n (many_read first a)
unfolding many_read
many_reads ra lf e o up = record { right = λ ts. many_right ra lf e o up (length ts) ts (omega arith) }
