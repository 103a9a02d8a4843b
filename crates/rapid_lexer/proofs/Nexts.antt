-- What comes next is found, and nothing else.
use Rattle.std.proofs.Common.{◌≡◌, ℕ, ◌+◌, ◌≤◌, ◌<◌, Bool, true, false, cond, ltb, List, [], ◌∷◌, ◌++◌, length, take, drop, Option, Some, None, Result, Ok, Err, refl, sym, ap, subst, ◌∙◌, arith}
use Rattle.std.specs.Prelude.{IfSome, IfOk}
use Rattle.std.proofs.lemmas.Bool.{ltb-true, ltb-false, lt-ltb, le-ltb}
use Rattle.std.proofs.lemmas.List.{append-nil, take-append-drop, take_all, drop_all, drop_at, length-append, length-drop, length-take-le}
use Rattle.rapid_lexer.specs.declared.fault.LexFault.{LexFault}
use Rattle.rapid_lexer.specs.Gaps.{IsGap, is_gap_within}
use Rattle.rapid_lexer.specs.declared.token.Token.{Token}
use Rattle.rapid_lexer.specs.Tokens.{Lexeme, view, Follows}
use Rattle.rapid_lexer.specs.Faults.{IsNext}
use Rattle.rapid_lexer.specs.Lexing.{Lexing, IsAnswerBehind, IsAnswer, seen_next}
use Rattle.rapid_lexer.specs.Reading.{gap_len, token_at, next_of}
use Rattle.rapid_lexer.proofs.Limits.{IsAt}
use Rattle.rapid_lexer.proofs.Misfits.{token_at_right, token_at_is}
use Rattle.rapid_lexer.proofs.GapWalks.{IsSkipped, skipped, begins_no_gap, gap_is, token_no_gap, misfit_no_gap}

-- ---- what is found is correct

right_behind : (at n : ℕ) (bytes left : List ℕ) (r : Result Lexeme LexFault) → n ≤ length bytes → drop n bytes ≡ left → is_gap_within false (take n bytes) (drop n bytes) ≡ true
    → IsAt (at + n) left r → IsNext at bytes (Some r)
right_behind at n bytes left (Ok t) le e gap h =
    let len : length (take n bytes) ≡ n = length-take-le n bytes le in (
      h.0,
      record {
        gap = take n bytes;
        whole = sym (take-append-drop n bytes) ∙ ap (λ (r : List ℕ). take n bytes ++ r) (e ∙ h.1);
        is_gap = subst (λ (r : List ℕ). IsGap (take n bytes) r) (e ∙ h.1) gap;
        is_at = omega (arith, h.2, len);
        is_token = h.3;
        is_longest = h.4;
        within_limits = h.5;
      },
    )
right_behind at n bytes left (Err f) le e gap h =
    let len : length (take n bytes) ≡ n = length-take-le n bytes le in (
      take n bytes,
      left,
      sym (take-append-drop n bytes) ∙ ap (λ (r : List ℕ). take n bytes ++ r) e,
      subst (λ (r : List ℕ). IsGap (take n bytes) r) e gap,
      subst (λ (m : ℕ). IsAt (at + m) left (Err f)) (sym len) h,
    )

right_at : (at n : ℕ) (bytes left : List ℕ) → n < length bytes → drop n bytes ≡ left → IsSkipped false bytes n → IsNext at bytes (Some (token_at (at + n) left))
right_at at n bytes [] lt e s = absurd (let x : length (drop n bytes) ≡ 0 = ap length e in omega (arith, length-drop n bytes))
right_at at n bytes (b ∷ left) lt e s =
    let none = begins_no_gap b left (subst (λ (r : List ℕ). gap_len false r ≡ 0) e s.stops) in
    right_behind at n bytes (b ∷ left) (token_at (at + n) (b ∷ left)) (omega arith) e s.is_gap (token_at_right (at + n) b left none.0 none.1)

right_from : (at n : ℕ) (bytes : List ℕ) (more : Bool) → ltb n (length bytes) ≡ more → IsSkipped false bytes n
    → IsNext at bytes (cond more (Some (token_at (at + n) (drop n bytes))) None)
right_from at n bytes true e s = right_at at n bytes (drop n bytes) (ltb-true n (length bytes) e) refl s
right_from at n bytes false e s =
    let le : length bytes ≤ n = ltb-false n (length bytes) e in
    let all : is_gap_within false (take n bytes) [] ≡ true = subst (λ (r : List ℕ). is_gap_within false (take n bytes) r ≡ true) (drop_all n bytes le) s.is_gap in
    subst (λ (g : List ℕ). is_gap_within false g [] ≡ true) (take_all n bytes le) all

pub next_right : (at : ℕ) (bytes : List ℕ) → IsNext at bytes (next_of at bytes)
unfolding next_of
next_right at bytes = right_from at (gap_len false bytes) bytes (ltb (gap_len false bytes) (length bytes)) refl (skipped bytes false)

-- ---- what is correct is found

behind_gap : (at : ℕ) (bytes gap left : List ℕ) → bytes ≡ gap ++ left → IsGap gap left → gap_len false left ≡ 0 → 0 < length left
    → next_of at bytes ≡ Some (token_at (at + length gap) left)
unfolding next_of
behind_gap at bytes gap left whole g stops some =
    let n : gap_len false (gap ++ left) ≡ length gap = gap_is gap left false g stops in
    let more : ltb (length gap) (length (gap ++ left)) ≡ true = lt-ltb (length gap) (length (gap ++ left)) (omega (arith, length-append gap left)) in
    let here : next_of at (gap ++ left) ≡ Some (token_at (at + length gap) left) = rw (n, more, drop_at gap left (length gap) refl) refl in
    ap (next_of at) whole ∙ here

pub next_is : (at : ℕ) (bytes : List ℕ) (answer : Option (Result Lexeme LexFault)) → IsNext at bytes answer → answer ≡ next_of at bytes
unfolding next_of gap_len
next_is at bytes None h =
    let n : gap_len false (bytes ++ []) ≡ length bytes = gap_is bytes [] false h refl in
    let m : gap_len false bytes ≡ length bytes = ap (gap_len false) (sym (append-nil bytes)) ∙ n in
    let past : ltb (gap_len false bytes) (length bytes) ≡ false = le-ltb (gap_len false bytes) (length bytes) (omega arith) in
    sym (ap (λ (t : Bool). cond t (Some (token_at (at + gap_len false bytes) (drop (gap_len false bytes) bytes))) None) past)
next_is at bytes (Some (Ok t)) (after, h) =
    let x = token_no_gap t.kind t.text after h.is_token in
    let len : 0 < length (t.text ++ after) = omega (arith, x.1, length-append t.text after) in
    let found = token_at_is (at + length h.gap) (t.text ++ after) (Ok t) (after, refl, h.is_at, h.is_token, h.is_longest, h.within_limits) in
    ap (λ (r : Result Lexeme LexFault). Some r) found ∙ sym (behind_gap at bytes h.gap (t.text ++ after) h.whole h.is_gap x.0 len)
next_is at bytes (Some (Err f)) (gap, left, whole, g, h) =
    let x = misfit_no_gap f.rule (at + length gap) left f.at h in
    let found = token_at_is (at + length gap) left (Err f) h in
    ap (λ (r : Result Lexeme LexFault). Some r) found ∙ sym (behind_gap at bytes gap left whole g x.0 x.1)

-- the next token is inside the source
follows_within : (at : ℕ) (source : List ℕ) (t : Lexeme) (after : List ℕ) → at ≤ length source → Follows at (drop at source) t after → t.at + length t.text ≤ length source
follows_within at source t after le h =
    omega (arith, h.is_at, ap length h.whole, length-drop at source, length-append h.gap (t.text ++ after), length-append t.text after)

pub next_within : (at : ℕ) (source : List ℕ) (r : Option (Result Token LexFault)) → at ≤ length source → seen_next r ≡ next_of at (drop at source)
    → IfSome r (λ x. IfOk x (λ t. t.at + length t.text.now ≤ length source))
next_within at source None le e = tt
next_within at source (Some (Err f)) le e = tt
next_within at source (Some (Ok t)) le e =
    let h : IsNext at (drop at source) (Some (Ok (view t))) = subst (λ (a : Option (Result Lexeme LexFault)). IsNext at (drop at source) a) (sym e) (next_right at (drop at source)) in
    follows_within at source (view t) h.0 le h.1

-- an answer of a lexer
pub answer_right : (l lexer : Lexing) (a : Option (Result Lexeme LexFault)) → l ≡ lexer → l.fault ≡ None → a ≡ next_of l.at (drop l.at l.source) → IsAnswer lexer a
answer_right l lexer a same none e =
    let h : IsNext l.at (drop l.at l.source) a = subst (λ (x : Option (Result Lexeme LexFault)). IsNext l.at (drop l.at l.source) x) (sym e) (next_right l.at (drop l.at l.source)) in
    subst (λ (m : Lexing). IsAnswer m a) same (subst (λ (f : Option LexFault). IsAnswerBehind f l a) (sym none) h)

pub answer_only : (l lexer : Lexing) (a : Option (Result Lexeme LexFault)) → l ≡ lexer → l.fault ≡ None → a ≡ next_of l.at (drop l.at l.source)
    → (other : Option (Result Lexeme LexFault)) → IsAnswer lexer other → other ≡ a
answer_only l lexer a same none e other h =
    let there : IsAnswer l other = subst (λ (m : Lexing). IsAnswer m other) (sym same) h in
    let next : IsNext l.at (drop l.at l.source) other = subst (λ (f : Option LexFault). IsAnswerBehind f l other) none there in
    next_is l.at (drop l.at l.source) other next ∙ sym e
