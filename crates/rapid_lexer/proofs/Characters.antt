-- The scanner reads a string one character at a time.
use Rattle.std.proofs.Common.{◌≡◌, ℕ, zero, suc, ◌≤◌, Bool, true, false, not, ◌&&◌, cond, eqb, List, [], ◌∷◌, ◌++◌, length, Some, None, refl, sym, ap, subst, ◌∙◌, append_assoc, arith, inl, inr}
use Rattle.std.specs.List.{concat}
use Rattle.std.proofs.lemmas.Bool.{eqb-true, and_parts, or_cases, ne_eqb, not-true}
use Rattle.rapid_lexer.specs.declared.kind.Kind.{Kind}
use Rattle.rapid_lexer.specs.declared.kind.Kind.TheVariants.{Quoted}
use Rattle.rapid_lexer.specs.declared.state.State.{State}
use Rattle.rapid_lexer.specs.declared.state.State.TheVariants.{Inside, Closed, Escape, Code, Dead}
use Rattle.rapid_num.specs.Characters.{is_printable}
use Rattle.rapid_lexer.specs.Bytes.{is_hex}
use Rattle.rapid_lexer.specs.Strings.{is_code, is_character, AreCharacters}
use Rattle.rapid_lexer.specs.Scanning.{step, accepted, after_character, after_escape, where_so}
use Rattle.rapid_lexer.proofs.Scan.{dead_accepted}

-- what is_character says of one, two or three bytes
pub plain_parts : (b : ℕ) → is_character (b ∷ []) ≡ true → (is_printable b ≡ true) × (eqb b 34 ≡ false) × (eqb b 92 ≡ false)
plain_parts b e =
    let outer = and_parts (is_printable b && not (eqb b 34)) (not (eqb b 92)) e in
    let inner = and_parts (is_printable b) (not (eqb b 34)) outer.0 in
    (inner.0, not-true (eqb b 34) inner.1, not-true (eqb b 92) outer.1)

hex_backslash : (b : ℕ) → is_hex b ≡ true → eqb b 92 ≡ false
hex_backslash b h = ne_eqb b 92 (λ e. let x : false ≡ true = subst (λ (n : ℕ). is_hex n ≡ true) e h in cc)

pub code_parts : (h l : ℕ) → is_code h l ≡ true → (is_hex h ≡ true) × (eqb h 92 ≡ false)
code_parts h l e =
    let x = (and_parts (is_hex h) (is_hex l) (and_parts (is_hex h && is_hex l) _ e).0).0 in
    (x, hex_backslash h x)

plain_state : (b : ℕ) → (is_printable b ≡ true) × (eqb b 34 ≡ false) × (eqb b 92 ≡ false) → after_character b ≡ Inside
plain_state b p = rw (p.1, p.2, p.0) refl

code_state : (c : ℕ) → (is_hex c ≡ true) × (eqb c 92 ≡ false) → after_escape c ≡ Code c
code_state c p = rw (p.1, p.0) refl

pair_at : (b c : ℕ) (rest : List ℕ) (n : ℕ) → b ≡ n → c ≡ n → accepted Inside (n ∷ n ∷ rest) ≡ accepted Inside rest → accepted Inside (b ∷ c ∷ rest) ≡ accepted Inside rest
pair_at b c rest n p q h = subst (λ (x : ℕ). accepted Inside (x ∷ c ∷ rest) ≡ accepted Inside rest) (sym p) (subst (λ (x : ℕ). accepted Inside (n ∷ x ∷ rest) ≡ accepted Inside rest) (sym q) h)

-- the scanner after one more character
pub character_step : (c rest : List ℕ) → is_character c ≡ true → accepted Inside (c ++ rest) ≡ accepted Inside rest
unfolding accepted
character_step [] rest e = absurd cc
character_step (b ∷ []) rest e = ap (λ (n : State). accepted n rest) (plain_state b (plain_parts b e))
character_step (b ∷ c ∷ []) rest e =
    elim (or_cases (eqb b 34 && eqb c 34) (eqb b 92 && eqb c 92) e) [
      | inl h ↦ let x = and_parts (eqb b 34) (eqb c 34) h in pair_at b c rest 34 (eqb-true b 34 x.0) (eqb-true c 34 x.1) refl
      | inr h ↦ let x = and_parts (eqb b 92) (eqb c 92) h in pair_at b c rest 92 (eqb-true b 92 x.0) (eqb-true c 92 x.1) refl
    ]
character_step (b ∷ c ∷ d ∷ []) rest e =
    let x = and_parts (eqb b 92) (is_code c d) e in
    let here : accepted Inside (92 ∷ c ∷ d ∷ rest) ≡ accepted Inside rest =
    ap (λ (n : State). accepted (step n d) rest) (code_state c (code_parts c d x.1)) ∙ ap (λ (t : Bool). accepted (where_so t Inside) rest) x.1 in
    subst (λ (n : ℕ). accepted Inside (n ∷ c ∷ d ∷ rest) ≡ accepted Inside rest) (sym (eqb-true b 92 x.0)) here
character_step (b ∷ c ∷ d ∷ f ∷ bs) rest e = absurd cc

pub characters_step : (cs : List (List ℕ)) (rest : List ℕ) → AreCharacters cs → accepted Inside (concat cs ++ rest) ≡ accepted Inside rest
characters_step [] rest are = refl
characters_step (c ∷ cs) rest are =
    ap (accepted Inside) (append_assoc c (concat cs) rest) ∙ character_step c (concat cs ++ rest) are.0 ∙ characters_step cs rest are.1

-- whatever is accepted after a quote is characters and a closing quote
pub record IsInside (bs : List ℕ) (k : Kind) : Type 0 where
  pub kind : k ≡ Quoted
  pub characters : List (List ℕ)
  pub are : AreCharacters characters
  pub whole : bs ≡ concat characters ++ 34 ∷ []

one_more : (c bs : List ℕ) (k : Kind) → is_character c ≡ true → IsInside bs k → IsInside (c ++ bs) k
one_more c bs k is h = record {
  kind = h.kind;
  characters = c ∷ h.characters;
  are = (is, h.are);
  whole = ap (λ (r : List ℕ). c ++ r) h.whole ∙ sym (append_assoc c (concat h.characters) (34 ∷ []));
}

behind_quote : (bs : List ℕ) (k : Kind) → ((c : ℕ) (cs : List ℕ) → bs ≡ c ∷ cs → accepted Inside cs ≡ Some k → IsInside cs k) → accepted Closed bs ≡ Some k → IsInside (34 ∷ bs) k
unfolding accepted
behind_quote [] k each e = record { kind = let x : Some k ≡ Some Quoted = sym e in cc; characters = []; are = tt; whole = refl }
behind_quote (c ∷ cs) k each e = at (eqb c 34) refl e
  where
    at : (t : Bool) → eqb c 34 ≡ t → accepted (where_so t Inside) cs ≡ Some k → IsInside (34 ∷ c ∷ cs) k
    at true is h = subst (λ (n : ℕ). IsInside (34 ∷ n ∷ cs) k) (sym (eqb-true c 34 is)) (one_more (34 ∷ 34 ∷ []) cs k refl (each c cs refl h))
    at false is h = absurd (let x : None ≡ Some k = sym (dead_accepted cs) ∙ h in cc)

behind_code : (c : ℕ) (bs : List ℕ) (k : Kind) → ((d : ℕ) (ds : List ℕ) → bs ≡ d ∷ ds → accepted Inside ds ≡ Some k → IsInside ds k) → accepted (Code c) bs ≡ Some k → IsInside (92 ∷ c ∷ bs) k
unfolding accepted
behind_code c [] k each e = absurd (let x : None ≡ Some k = e in cc)
behind_code c (d ∷ ds) k each e = at (is_code c d) refl e
  where
    at : (t : Bool) → is_code c d ≡ t → accepted (where_so t Inside) ds ≡ Some k → IsInside (92 ∷ c ∷ d ∷ ds) k
    at true is h = one_more (92 ∷ c ∷ d ∷ []) ds k is (each d ds refl h)
    at false is h = absurd (let x : None ≡ Some k = sym (dead_accepted ds) ∙ h in cc)

behind_escape : (bs : List ℕ) (k : Kind) → ((c : ℕ) (cs : List ℕ) → bs ≡ c ∷ cs → accepted Inside cs ≡ Some k → IsInside cs k)
    → ((c d : ℕ) (ds : List ℕ) → bs ≡ c ∷ d ∷ ds → accepted Inside ds ≡ Some k → IsInside ds k) → accepted Escape bs ≡ Some k → IsInside (92 ∷ bs) k
unfolding accepted
behind_escape [] k one two e = absurd (let x : None ≡ Some k = e in cc)
behind_escape (c ∷ cs) k one two e = at (eqb c 92) (is_hex c) refl e
  where
    at : (t u : Bool) → eqb c 92 ≡ t → accepted (cond t Inside (cond u (Code c) Dead)) cs ≡ Some k → IsInside (92 ∷ c ∷ cs) k
    at true u is h = subst (λ (n : ℕ). IsInside (92 ∷ n ∷ cs) k) (sym (eqb-true c 92 is)) (one_more (92 ∷ 92 ∷ []) cs k refl (one c cs refl h))
    at false true is h = behind_code c cs k (λ d ds s. two c d ds (ap (λ (r : List ℕ). c ∷ r) s)) h
    at false false is h = absurd (let x : None ≡ Some k = sym (dead_accepted cs) ∙ h in cc)

pub plain_character : (b : ℕ) → is_printable b ≡ true → eqb b 34 ≡ false → eqb b 92 ≡ false → is_character (b ∷ []) ≡ true
plain_character b p q r = rw (p, q, r) refl

behind_character : (b : ℕ) (bs : List ℕ) (k : Kind) (t u v : Bool) → eqb b 34 ≡ t → eqb b 92 ≡ u → is_printable b ≡ v
    → (accepted Inside bs ≡ Some k → IsInside bs k)
    → ((c : ℕ) (cs : List ℕ) → bs ≡ c ∷ cs → accepted Inside cs ≡ Some k → IsInside cs k)
    → ((c d : ℕ) (ds : List ℕ) → bs ≡ c ∷ d ∷ ds → accepted Inside ds ≡ Some k → IsInside ds k)
    → accepted (cond t Closed (cond u Escape (cond v Inside Dead))) bs ≡ Some k → IsInside (b ∷ bs) k
behind_character b bs k true u v q r p one two three e = subst (λ (n : ℕ). IsInside (n ∷ bs) k) (sym (eqb-true b 34 q)) (behind_quote bs k two e)
behind_character b bs k false true v q r p one two three e = subst (λ (n : ℕ). IsInside (n ∷ bs) k) (sym (eqb-true b 92 r)) (behind_escape bs k two three e)
behind_character b bs k false false true q r p one two three e = one_more (b ∷ []) bs k (plain_character b p q r) (one e)
behind_character b bs k false false false q r p one two three e = absurd (let x : None ≡ Some k = sym (dead_accepted bs) ∙ e in cc)

-- by induction on the number of bytes
inside_within : (n : ℕ) (bs : List ℕ) (k : Kind) → length bs ≤ n → accepted Inside bs ≡ Some k → IsInside bs k
unfolding accepted
inside_within n [] k le e = absurd (let x : None ≡ Some k = e in cc)
inside_within zero (b ∷ bs) k le e = absurd (omega arith)
inside_within (suc n) (b ∷ bs) k le e =
    behind_character b bs k (eqb b 34) (eqb b 92) (is_printable b) refl refl refl
    (inside_within n bs k (omega arith))
    (λ c cs s. inside_within n cs k (omega (arith, ap length s)))
    (λ c d ds s. inside_within n ds k (omega (arith, ap length s)))
    e

pub inside_is : (bs : List ℕ) (k : Kind) → accepted Inside bs ≡ Some k → IsInside bs k
inside_is bs k e = inside_within (length bs) bs k (omega arith) e
