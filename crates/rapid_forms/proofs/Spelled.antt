-- The meaning of a reader's result in the public words, and that the answers in those words are mutually exclusive.
use Rattle.std.proofs.Common.{◌≡◌, ℕ, suc, ◌+◌, ◌≤◌, ◌<◌, Bool, List, [], ◌∷◌, ◌++◌, length, take, drop, min, IfOk, Result, Ok, Err, refl, sym, ap, subst, ◌∙◌, inl, inr, ◌⊎◌, arith}
use Rattle.std.proofs.lemmas.Bool.{cases_order, cases_lt}
use Rattle.std.proofs.lemmas.List.{take-append-drop, take-take, take_at, drop_at, length-append, length-drop, length-map, drop-drop, drop_min}
use Rattle.rapid_lexer.specs.Tokens.{Lexeme, views}
use Rattle.rapid_lexer.specs.Tokens.{view as lexeme}
use Rattle.rapid_forms.specs.declared.fault.SyntaxFault.{SyntaxFault}
use Rattle.rapid_forms.specs.declared.fault.SyntaxFault.TheVariants.{Rule, Lex, Memory}
use Rattle.rapid_forms.specs.declared.sign.Sign.{Sign}
use Rattle.rapid_forms.specs.declared.tokens.Tokens.{Tokens}
use Rattle.rapid_forms.specs.Forms.{Form}
use Rattle.rapid_forms.specs.Parsed.{Begins, IsLongest, IsParsed, IsFaulty, IsTooDeep, Parses, syntax_fault, depth_fault}
use Rattle.rapid_forms.specs.Reading.{Fails, Deep, Read, Reader, Gives, rest_from}
use Rattle.rapid_forms.proofs.Laws.{LL}
use Rattle.rapid_forms.proofs.Up.{Up}
use Rattle.rapid_forms.proofs.Right.{Right, Reads, Ends}

-- fewer tokens are a prefix of the form too
pub fewer : {A : Type 0} {null : Bool} {first more : List Sign} {f : Form A} → LL null first more f → (ts : List Lexeme) (i j : ℕ) → i ≤ j → f.Begun (take j ts) → f.Begun (take i ts)
fewer {f = f} l ts i j le b =
    subst f.Begun (take-take i j ts le) (l.front (take i (take j ts)) (drop i (take j ts)) (subst f.Begun (sym (take-append-drop i (take j ts))) b))

-- of two numbers, neither of which is less
neither_less : (j k : ℕ) → (j < k → ⊥) → (k < j → ⊥) → j ≡ k
neither_less j k p q = elim (cases_order j k) [ inl e ↦ e | inr (inl l) ↦ absurd (p l) | inr (inr l) ↦ absurd (q l) ]

pub longest_one : {A : Type 0} {F : ℕ → Form A} {ts : List Lexeme} {j k : ℕ} → IsLongest F ts j → IsLongest F ts k → j ≡ k
longest_one {j = j} {k = k} h h' = neither_less j k (λ l. h.most k l h'.there h'.begins) (λ l. h'.most j l h.there h.begins)

-- the longest prefix, if it is within n levels, does not open a level too many
pub longest_deep : {A : Type 0} {null : Bool} {first more : List Sign} {F : ℕ → Form A} {n : ℕ} {ts : List Lexeme} {j k : ℕ} → LL null first more (F n) → IsLongest F ts j → (F n).Begun (take j ts) → IsTooDeep F n ts k → ⊥
longest_deep {ts = ts} {j = j} {k = k} l h b d = elim (cases_lt j (suc k)) [ inl less ↦ h.most (suc k) less d.there d.begins | inr le ↦ d.deep (fewer l ts (suc k) j le b) ]

-- The answers are mutually exclusive, and each is unique.
module _ {A : Type 0} {F : ℕ → Form A} {n : ℕ} {ts : List Lexeme} {j k : ℕ} where
  pub parsed_once : {x y : A} → IsParsed F n ts x j → IsParsed F n ts y k → (x ≡ y) × (j ≡ k)
  parsed_once {x = x} h h' =
      let same = longest_one h.longest h'.longest in
      (h'.only x (n, subst (λ i. (F n).Whole x (take i ts)) same h.whole), same)

  pub parsed_faulty : {x : A} → IsParsed F n ts x j → IsFaulty F n ts k → ⊥
  parsed_faulty {x = x} h h' = h'.none x (n, subst (λ i. (F n).Whole x (take i ts)) (longest_one h.longest h'.longest) h.whole)

  pub faulty_once : IsFaulty F n ts j → IsFaulty F n ts k → j ≡ k
  faulty_once h h' = longest_one h.longest h'.longest

  module _ {null : Bool} {first more : List Sign} (l : LL null first more (F n)) where
    pub parsed_deep : {x : A} → IsParsed F n ts x j → IsTooDeep F n ts k → ⊥
    parsed_deep {x = x} h d = longest_deep l h.longest (l.begun x (take j ts) h.whole) d

    pub faulty_deep : IsFaulty F n ts j → IsTooDeep F n ts k → ⊥
    faulty_deep h d = longest_deep l h.longest h.begun d

    pub deep_once : IsTooDeep F n ts j → IsTooDeep F n ts k → j ≡ k
    deep_once d d' = neither_less j k (λ less. d.deep (fewer l ts (suc j) k less d'.begun)) (λ less. d'.deep (fewer l ts (suc k) j less d.begun))

-- what a reader's result says in the public words
abbrev pub Answers : {A : Type 0} → (ℕ → Form A) → ℕ → List Lexeme → Read A → Type 0
Answers F n ts (Ok x) = (k : ℕ) × IsParsed F n ts x.0 k × (x.1 ≡ drop k ts)
Answers F n ts (Err (Fails rest)) = (k : ℕ) × IsFaulty F n ts k × (rest ≡ drop k ts)
Answers F n ts (Err (Deep rest)) = (k : ℕ) × IsTooDeep F n ts k × (rest ≡ drop k ts)

take_front : (ts front rest : List Lexeme) → ts ≡ front ++ rest → take (length front) ts ≡ front
take_front ts front rest e = rw e (take_at front rest (length front) refl)

drop_front : (ts front rest : List Lexeme) → ts ≡ front ++ rest → rest ≡ drop (length front) ts
drop_front ts front rest e = rw e (sym (drop_at front rest (length front) refl))

take_next : (front : List Lexeme) (c : Lexeme) (r : List Lexeme) → take (suc (length front)) (front ++ c ∷ r) ≡ front ++ c ∷ []
take_next [] c r = refl
take_next (x ∷ front) c r = ap (λ l. x ∷ l) (take_next front c r)

take_one_more : (ts front rest : List Lexeme) (c : Lexeme) (r : List Lexeme) → ts ≡ front ++ rest → rest ≡ c ∷ r → take (suc (length front)) ts ≡ front ++ c ∷ []
take_one_more ts front rest c r e at = rw (e, at) (take_next front c r)

module _ {A : Type 0} {null : Bool} {first more : List Sign} {F : ℕ → Form A} (lf : (m : ℕ) → LL null first more (F m)) (up : (k m : ℕ) → k ≤ m → Up (F k) (F m)) (n : ℕ) (ts : List Lexeme) where
  no_longer : (front rest : List Lexeme) → ts ≡ front ++ rest → ((m : ℕ) → n ≤ m → Ends (F m) front rest) → (j : ℕ) → length front < j → j ≤ length ts → Begins F (take j ts) → ⊥
  no_longer front [] split ends j less le b = absurd (omega (arith, ap length split, length-append front []))
  no_longer front (c ∷ r) split ends j less le (m, b) =
      let more = fewer (lf (n + m)) ts (suc (length front)) j less ((up m (n + m) (omega arith)).begun (take j ts) b) in
      ends (n + m) (omega arith) c r refl (subst (F (n + m)).Begun (take_one_more ts front (c ∷ r) c r split refl) more)

  longest : (front rest : List Lexeme) → ts ≡ front ++ rest → (F n).Begun front → ((m : ℕ) → n ≤ m → Ends (F m) front rest) → IsLongest F ts (length front)
  longest front rest split b ends = record {
    there = omega (arith, ap length split, length-append front rest);
    begins = (n, rw (take_front ts front rest split) b);
    most = no_longer front rest split ends;
  }

  answers : (read : Read A) → Right F n ts read → Answers F n ts read
  answers (Ok x) h = (
    length h.front,
    record {
      longest = longest h.front x.1 h.split ((lf n).begun x.0 h.front h.whole) h.ends;
      whole = rw (take_front ts h.front x.1 h.split) h.whole;
      only = λ y (m, w).
          (lf (n + m)).only y x.0 h.front ((up m (n + m) (omega arith)).whole y h.front (subst ((F m).Whole y) (take_front ts h.front x.1 h.split) w)) ((up n (n + m) (omega arith)).whole x.0 h.front h.whole);
    },
    drop_front ts h.front x.1 h.split,
  )
  answers (Err (Fails rest)) h = (
    length h.front,
    record {
      longest = longest h.front rest h.split h.begun h.ends;
      begun = rw (take_front ts h.front rest h.split) h.begun;
      none = λ y (m, w). h.none (n + m) (omega arith) y ((up m (n + m) (omega arith)).whole y h.front (subst ((F m).Whole y) (take_front ts h.front rest h.split) w));
    },
    drop_front ts h.front rest h.split,
  )
  answers (Err (Deep rest)) h = (
    length h.front,
    record {
      there = omega (arith, ap length (h.split ∙ ap (λ l. h.front ++ l) h.next), length-append h.front (h.token ∷ h.behind));
      begun = rw (take_front ts h.front rest h.split) h.begun;
      begins = (h.level, rw (take_one_more ts h.front rest h.token h.behind h.split h.next) h.deeper);
      deep = λ b. h.ends h.token h.behind h.next (subst (F n).Begun (take_one_more ts h.front rest h.token h.behind h.split h.next) b);
    },
    drop_front ts h.front rest h.split,
  )

-- premises: one token of lookahead is enough at each level, and a form within n levels is within more
pub reads_answer : {A : Type 0} {null : Bool} {first more : List Sign} {F : ℕ → Form A} {n : ℕ} {a : Reader A} → Reads F n a → ((m : ℕ) → LL null first more (F m)) → ((k m : ℕ) → k ≤ m → Up (F k) (F m)) → (ts : List Lexeme) → Answers F n ts (a ts)
reads_answer {n = n} {a = a} ra lf up ts = answers lf up n ts (a ts) (ra.right ts)

-- one of the three answers holds
pub one_holds : {A : Type 0} {F : ℕ → Form A} {n : ℕ} {ts : List Lexeme} (read : Read A) → Answers F n ts read → ((x : A) × (k : ℕ) × IsParsed F n ts x k) ⊎ (((k : ℕ) × IsFaulty F n ts k) ⊎ ((k : ℕ) × IsTooDeep F n ts k))
one_holds (Ok x) (k, h, e) = inl (x.0, k, h)
one_holds (Err (Fails rest)) (k, h, e) = inr (inl (k, h))
one_holds (Err (Deep rest)) (k, h, e) = inr (inr (k, h))

next_is : (list : List Lexeme) (at next k : ℕ) → at ≤ length list → next ≤ length list → k ≤ length (drop at list) → drop next list ≡ drop k (drop at list) → next ≡ at + k
next_is list at next k le le' le'' e = omega (arith, ap length e, length-drop next list, length-drop k (drop at list), length-drop at list)

module _ {A : Type 0} (F : ℕ → Form A) (n : ℕ) where
  module _ {X : Type 0} (tokens : Tokens) (at : ℕ) (view : X → A) where
    answer_parses : (result : Result (X × ℕ) SyntaxFault) (read : Read A) → Answers F n (rest_from tokens at) read → IfOk result (λ x. (at ≤ length tokens.list.now) × (x.1 ≤ length tokens.list.now)) → Gives tokens view result read → Parses F n (views tokens.list.now) tokens.end at view result
    answer_parses (Ok x) read a within g =
        let (k, h, e) = subst (Answers F n (rest_from tokens at)) g a in
        let len = length-map tokens.list.now lexeme in
        (k, h, next_is (views tokens.list.now) at x.1 k (omega (arith, within.0)) (omega (arith, within.1)) h.longest.there e)
    answer_parses (Err (Rule rule byte)) read a within (Fails rest, e, same) =
        let (k, h, left) = subst (Answers F n (rest_from tokens at)) e a in
        inl (k, h, same ∙ ap (syntax_fault tokens.end) (left ∙ drop-drop k at (views tokens.list.now)))
    answer_parses (Err (Rule rule byte)) read a within (Deep rest, e, same) =
        let (k, h, left) = subst (Answers F n (rest_from tokens at)) e a in
        inr (k, h, same ∙ ap (depth_fault tokens.end) (left ∙ drop-drop k at (views tokens.list.now)))
    answer_parses (Err (Lex f)) read a within (Fails rest, e, same) = cc
    answer_parses (Err (Lex f)) read a within (Deep rest, e, same) = cc
    answer_parses (Err Memory) read a within g = tt

-- The result of a function is what its callers are promised. Premises: reading starts at an existing token or at the
-- end, and so does what is left.
pub gives_parses : {X A : Type 0} {null : Bool} {first more : List Sign} {F : ℕ → Form A} {n : ℕ} {a : Reader A} → Reads F n a → ((m : ℕ) → LL null first more (F m)) → ((k m : ℕ) → k ≤ m → Up (F k) (F m)) → (tokens : Tokens) (at : ℕ) (view : X → A) (result : Result (X × ℕ) SyntaxFault) → IfOk result (λ x. (at ≤ length tokens.list.now) × (x.1 ≤ length tokens.list.now)) → Gives tokens view result (a (rest_from tokens at)) → Parses F n (views tokens.list.now) tokens.end at view result
gives_parses {F = F} {n = n} {a = a} ra lf up tokens at view result within g =
    answer_parses F n tokens at view result (a (rest_from tokens at)) (reads_answer ra lf up (rest_from tokens at)) within g

-- with a fault there is nothing to view
pub fails_parses : {A : Type 0} {null : Bool} {first more : List Sign} {F : ℕ → Form A} {n : ℕ} {a : Reader A} → Reads F n a → ((m : ℕ) → LL null first more (F m)) → ((k m : ℕ) → k ≤ m → Up (F k) (F m)) → (tokens : Tokens) (at : ℕ) (fault : SyntaxFault) → Gives tokens (λ (x : A). x) (Err fault) (a (rest_from tokens at)) → Parses F n (views tokens.list.now) tokens.end at (λ (x : A). x) (Err fault)
fails_parses ra lf up tokens at fault g = gives_parses ra lf up tokens at (λ x. x) (Err fault) tt g

-- a number beyond the last token means the end
pub least_gives : {X A : Type 0} (tokens : Tokens) (view : X → A) (x : X) (next : ℕ) (read : Read A) → Gives tokens view (Ok (x, next)) read → Gives tokens view (Ok (x, min next (length tokens.list.now))) read
least_gives tokens view x next read g =
    g ∙ ap (λ l. Ok (view x, l)) (sym (drop_min next (views tokens.list.now)) ∙ ap (λ k. drop (min next k) (views tokens.list.now)) (length-map tokens.list.now lexeme))
