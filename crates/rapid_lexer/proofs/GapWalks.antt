-- What is skipped is a gap, and the longest one.
use Rattle.std.proofs.Common.{◌≡◌, ◌≢◌, ℕ, suc, ◌+◌, ◌≤◌, ◌<◌, Bool, true, false, not, ◌&&◌, ◌||◌, cond, eqb, List, [], ◌∷◌, ◌++◌, length, take, drop, Some, None, refl, sym, ap, subst, ◌∙◌, arith, inl, inr}
use Rattle.std.specs.List.{concat}
use Rattle.std.proofs.lemmas.Bool.{eqb-true, eqb-false, ne_eqb, and_parts, or_cases}
use Rattle.std.proofs.lemmas.List.{length-append}
use Rattle.rapid_lexer.specs.declared.kind.Kind.{Kind}
use Rattle.rapid_lexer.specs.declared.kind.Kind.TheVariants.{Name, Number, Quoted}
use Rattle.rapid_lexer.specs.declared.fault.LexRule.{LexRule}
use Rattle.rapid_lexer.specs.declared.fault.LexRule.TheVariants.{BadByte, OpenString, BadEscape, LongString, LongName, BadLiteral, OpenHeader}
use Rattle.rapid_lexer.specs.declared.state.State.{State}
use Rattle.rapid_lexer.specs.declared.state.State.TheVariants.{Start, Dead}
use Rattle.rapid_lexer.specs.Bytes.{is_blank}
use Rattle.rapid_lexer.specs.Gaps.{is_line_over, is_gap_within}
use Rattle.rapid_lexer.specs.Tokens.{IsToken}
use Rattle.rapid_lexer.specs.Faults.{IsBroken, IsBadAtFront, IsMisfit}
use Rattle.rapid_lexer.specs.Scanning.{after_start, accepted}
use Rattle.rapid_lexer.specs.Reading.{gap_len}
use Rattle.rapid_lexer.proofs.Scan.{dead_accepted}
use Rattle.rapid_lexer.proofs.Shapes.{shape_accepted}
use Rattle.rapid_lexer.proofs.Longest.{scanned, token_shape}

-- the value of gap_len after one more byte
abbrev further : Bool → Bool → Bool → Bool → List ℕ → ℕ
further comment line bang blank bs = cond comment (suc (gap_len (not line) bs)) (cond bang (suc (gap_len true bs)) (cond blank (suc (gap_len false bs)) 0))

-- a gap was skipped, and it does not continue
pub record IsSkipped (comment : Bool) (bs : List ℕ) (n : ℕ) : Type 0 where
  pub is_gap : is_gap_within comment (take n bs) (drop n bs) ≡ true
  pub stops : gap_len false (drop n bs) ≡ 0
  pub within : n ≤ length bs

skipped_from : (comment : Bool) (b : ℕ) (bs : List ℕ) (bang blank : Bool) → eqb b 33 ≡ bang → is_blank b ≡ blank
    → ((c : Bool) → IsSkipped c bs (gap_len c bs)) → IsSkipped comment (b ∷ bs) (further comment (eqb b 10) bang blank bs)
unfolding gap_len
skipped_from true b bs bang blank e f each =
    let h = each (not (eqb b 10)) in
    record { is_gap = h.is_gap; stops = h.stops; within = omega (arith, h.within) }
skipped_from false b bs true blank e f each =
    let h = each true in
    record { is_gap = rw e h.is_gap; stops = h.stops; within = omega (arith, h.within) }
skipped_from false b bs false true e f each =
    let h = each false in
    record { is_gap = rw (e, f) h.is_gap; stops = h.stops; within = omega (arith, h.within) }
skipped_from false b bs false false e f each = record { is_gap = refl; stops = rw (e, f) refl; within = omega arith }

at_start : (comment : Bool) → is_gap_within comment [] [] ≡ true
at_start true = refl
at_start false = refl

pub skipped : (bs : List ℕ) (comment : Bool) → IsSkipped comment bs (gap_len comment bs)
unfolding gap_len
skipped [] comment = record { is_gap = at_start comment; stops = refl; within = omega arith }
skipped (b ∷ bs) comment = skipped_from comment b bs (eqb b 33) (is_blank b) refl refl (skipped bs)

-- if no gap continues, the first byte does not start one
pub begins_no_gap : (b : ℕ) (bs : List ℕ) → gap_len false (b ∷ bs) ≡ 0 → (is_blank b ≡ false) × (b ≢ 33)
unfolding gap_len
begins_no_gap b bs e = at (eqb b 33) (is_blank b) refl refl e
  where
    at : (bang blank : Bool) → eqb b 33 ≡ bang → is_blank b ≡ blank → cond bang (suc (gap_len true bs)) (cond blank (suc (gap_len false bs)) 0) ≡ 0 → (blank ≡ false) × (b ≢ 33)
    at true blank f g h = absurd (omega arith)
    at false true f g h = absurd (omega arith)
    at false false f g h = (refl, eqb-false b 33 f)

pub no_gap : (b : ℕ) (bs : List ℕ) → is_blank b ≡ false → b ≢ 33 → gap_len false (b ∷ bs) ≡ 0
unfolding gap_len
no_gap b bs e f = rw (ne_eqb b 33 f, e) refl

line_over_stops : (rest : List ℕ) → is_line_over rest ≡ true → gap_len false rest ≡ 0 → gap_len true rest ≡ 0
unfolding gap_len
line_over_stops [] over stops = refl
line_over_stops (b ∷ bs) over stops =
    let x : gap_len false (10 ∷ bs) ≡ 0 = subst (λ (n : ℕ). gap_len false (n ∷ bs) ≡ 0) (eqb-true b 10 over) stops in
    absurd (omega arith)

gap_from : (b : ℕ) (bs rest : List ℕ) (bang : Bool) → eqb b 33 ≡ bang → cond bang (is_gap_within true bs rest) (is_blank b && is_gap_within false bs rest) ≡ true
    → ((c : Bool) → is_gap_within c bs rest ≡ true → gap_len c (bs ++ rest) ≡ length bs) → gap_len false (b ∷ (bs ++ rest)) ≡ suc (length bs)
unfolding gap_len
gap_from b bs rest true e h each = rw e (ap suc (each true h))
gap_from b bs rest false e h each =
    let x = and_parts (is_blank b) (is_gap_within false bs rest) h in
    rw (e, x.0) (ap suc (each false x.1))

-- a gap that does not continue is all that is skipped
pub gap_is : (gap rest : List ℕ) (comment : Bool) → is_gap_within comment gap rest ≡ true → gap_len false rest ≡ 0 → gap_len comment (gap ++ rest) ≡ length gap
unfolding gap_len
gap_is [] rest true h stops = line_over_stops rest h stops
gap_is [] rest false h stops = stops
gap_is (b ∷ bs) rest true h stops = ap suc (gap_is bs rest (not (eqb b 10)) h stops)
gap_is (b ∷ bs) rest false h stops = gap_from b bs rest (eqb b 33) refl h (λ c g. gap_is bs rest c g stops)

-- ---- where a token or a misfit starts, no gap does

blank_dead : (b : ℕ) → is_blank b ≡ true → after_start b ≡ Dead
blank_dead b e =
    elim (or_cases (eqb b 9 || eqb b 10 || eqb b 12 || eqb b 13) (eqb b 32) e) [
      | inr h ↦ subst (λ (n : ℕ). after_start n ≡ Dead) (sym (eqb-true b 32 h)) refl
      | inl f ↦ elim (or_cases (eqb b 9 || eqb b 10 || eqb b 12) (eqb b 13) f) [
        | inr h ↦ subst (λ (n : ℕ). after_start n ≡ Dead) (sym (eqb-true b 13 h)) refl
        | inl g ↦ elim (or_cases (eqb b 9 || eqb b 10) (eqb b 12) g) [
          | inr h ↦ subst (λ (n : ℕ). after_start n ≡ Dead) (sym (eqb-true b 12 h)) refl
          | inl i ↦ elim (or_cases (eqb b 9) (eqb b 10) i) [
            | inr h ↦ subst (λ (n : ℕ). after_start n ≡ Dead) (sym (eqb-true b 10 h)) refl
            | inl h ↦ subst (λ (n : ℕ). after_start n ≡ Dead) (sym (eqb-true b 9 h)) refl
          ]
        ]
      ]
    ]

dead_none : (b : ℕ) (u : List ℕ) (k : Kind) → after_start b ≡ Dead → accepted Start (b ∷ u) ≡ Some k → ⊥
unfolding accepted
dead_none b u k e h =
    let x : None ≡ Some k = sym (ap (λ (s : State). accepted s u) e ∙ dead_accepted u) ∙ h in
    cc

-- a token has a first byte, and it does not start a gap
accepted_no_gap : (u after : List ℕ) (k : Kind) → accepted Start u ≡ Some k → (gap_len false (u ++ after) ≡ 0) × (0 < length u)
unfolding accepted
accepted_no_gap [] after k e = absurd (let x : None ≡ Some k = e in cc)
accepted_no_gap (b ∷ u) after k e = (no_gap b (u ++ after) (at (is_blank b) refl) (λ h. dead_none b u k (subst (λ (n : ℕ). after_start n ≡ Dead) (sym h) refl) e), omega arith)
  where
    at : (t : Bool) → is_blank b ≡ t → t ≡ false
    at true h = absurd (dead_none b u k (blank_dead b h) e)
    at false h = refl

pub token_no_gap : (k : Kind) (text after : List ℕ) → IsToken k text → (gap_len false (text ++ after) ≡ 0) × (0 < length text)
token_no_gap k text after h = accepted_no_gap text after (scanned k) (shape_accepted (scanned k) text (token_shape k text h))

abbrev NoGap : List ℕ → Type 0
NoGap bytes = (gap_len false bytes ≡ 0) × (0 < length bytes)

front_no_gap : (bytes : List ℕ) → IsBadAtFront bytes → NoGap bytes
front_no_gap [] h = absurd h
front_no_gap (b ∷ bs) h = (no_gap b bs h.0 h.1, omega arith)

begin_no_gap : (k : Kind) (bytes text after : List ℕ) → bytes ≡ text ++ after → IsToken k text → NoGap bytes
begin_no_gap k bytes text after whole h =
    let x = token_no_gap k text after h in
    subst NoGap (sym whole) (x.0, (let l : length (text ++ after) ≡ length text + length after = length-append text after in omega (arith, x.1)))

quote_no_gap : (rest : List ℕ) → NoGap (34 ∷ rest)
unfolding gap_len
quote_no_gap rest = (refl, omega arith)

broken_no_gap : (bytes : List ℕ) (cs : List (List ℕ)) (left : List ℕ) → IsBroken bytes cs left → NoGap bytes
broken_no_gap bytes cs left h = subst NoGap (sym h.whole) (quote_no_gap (concat cs ++ left))

pub misfit_no_gap : (rule : LexRule) (here : ℕ) (bytes : List ℕ) (at : ℕ) → IsMisfit rule here bytes at → NoGap bytes
misfit_no_gap BadByte here bytes at (inl h) = front_no_gap bytes h.1
misfit_no_gap BadByte here bytes at (inr h) = broken_no_gap bytes h.0 h.1 h.2
misfit_no_gap OpenString here bytes at h = broken_no_gap bytes h.1.0 h.1.1 h.1.2
misfit_no_gap BadEscape here bytes at h = broken_no_gap bytes h.0 h.1 h.2
misfit_no_gap LongString here bytes at (inl h, p) = begin_no_gap Quoted bytes h.text h.after h.whole (h.characters, h.is_string)
misfit_no_gap LongString here bytes at (inr h, p) = broken_no_gap bytes h.0 h.1 h.2
misfit_no_gap LongName here bytes at h = begin_no_gap Name bytes h.0.text h.0.after h.0.whole h.0.is_token
misfit_no_gap BadLiteral here bytes at h = begin_no_gap Number bytes h.0.text h.0.after h.0.whole h.0.is_token
misfit_no_gap OpenHeader here bytes at h = absurd h
