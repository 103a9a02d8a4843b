-- The characters at the front of bytes.
use Rattle.std.proofs.Common.{◌≡◌, ◌≢◌, ℕ, zero, suc, ◌+◌, ◌≤◌, ◌<◌, Bool, true, false, ◌&&◌, cond, eqb, List, [], ◌∷◌, ◌++◌, length, take, drop, Option, Some, None, refl, sym, ap, subst, ◌∙◌, append_assoc, arith, inl, inr}
use Rattle.std.specs.Option.{option_map}
use Rattle.std.specs.List.{concat}
use Rattle.std.proofs.lemmas.Bool.{eqb-true, and_parts, or_cases, ne_eqb, cases_eq}
use Rattle.std.proofs.lemmas.List.{take-append-drop, length-append, drop-drop, drop_at}
use Rattle.rapid_num.specs.Characters.{is_printable}
use Rattle.rapid_lexer.specs.Strings.{is_code, is_character, AreCharacters}
use Rattle.rapid_lexer.specs.Reading.{doubled_len, escape_len, character_len, characters_len}
use Rattle.rapid_lexer.proofs.Characters.{plain_parts, code_parts, plain_character}
use Rattle.rapid_lexer.proofs.CharacterLoop.{characters_at}

-- ---- one character

doubled_at : (b c : ℕ) (rest : List ℕ) → b ≡ 34 → c ≡ 34 → character_len (b ∷ c ∷ rest) ≡ 2
doubled_at b c rest p q = subst (λ (x : ℕ). character_len (x ∷ c ∷ rest) ≡ 2) (sym p) (subst (λ (y : ℕ). character_len (34 ∷ y ∷ rest) ≡ 2) (sym q) refl)

escape_two : (rest : List ℕ) → escape_len (92 ∷ rest) ≡ 2
escape_two [] = refl
escape_two (c ∷ rest) = refl

escaped_at : (b c : ℕ) (rest : List ℕ) → b ≡ 92 → c ≡ 92 → character_len (b ∷ c ∷ rest) ≡ 2
escaped_at b c rest p q = subst (λ (x : ℕ). character_len (x ∷ c ∷ rest) ≡ 2) (sym p) (subst (λ (y : ℕ). character_len (92 ∷ y ∷ rest) ≡ 2) (sym q) (escape_two rest))

-- a character at the front is found
pub character_front : (c rest : List ℕ) → is_character c ≡ true → character_len (c ++ rest) ≡ length c
character_front [] rest e = absurd (let x : false ≡ true = e in cc)
character_front (b ∷ []) rest e =
    let p = plain_parts b e in
    rw (p.1, p.2, p.0) refl
character_front (b ∷ c ∷ []) rest e =
    elim (or_cases (eqb b 34 && eqb c 34) (eqb b 92 && eqb c 92) e) [
      | inl h ↦ let x = and_parts (eqb b 34) (eqb c 34) h in doubled_at b c rest (eqb-true b 34 x.0) (eqb-true c 34 x.1)
      | inr h ↦ let x = and_parts (eqb b 92) (eqb c 92) h in escaped_at b c rest (eqb-true b 92 x.0) (eqb-true c 92 x.1)
    ]
character_front (b ∷ c ∷ d ∷ []) rest e =
    let x = and_parts (eqb b 92) (is_code c d) e in
    let p = code_parts c d x.1 in
    let here : character_len (92 ∷ c ∷ d ∷ rest) ≡ 3 = rw (p.1, x.1) refl in
    subst (λ (n : ℕ). character_len (n ∷ c ∷ d ∷ rest) ≡ 3) (sym (eqb-true b 92 x.0)) here
character_front (b ∷ c ∷ d ∷ f ∷ bs) rest e = absurd (let x : false ≡ true = e in cc)

-- this many bytes at the front are a character, or none are
abbrev IsRead : List ℕ → ℕ → Type 0
IsRead bytes n = n ≢ 0 → is_character (take n bytes) ≡ true

escape_read : (bs : List ℕ) → IsRead (92 ∷ bs) (escape_len bs)
escape_read [] ne = absurd (ne refl)
escape_read (c ∷ []) ne = at (eqb c 92) refl
  where
    at : (t : Bool) → eqb c 92 ≡ t → is_character (take (cond t 2 0) (92 ∷ c ∷ [])) ≡ true
    at true is = rw is refl
    at false is = absurd (ne (rw is refl))
escape_read (c ∷ d ∷ ds) ne = at (eqb c 92) (is_code c d) refl refl
  where
    at : (t u : Bool) → eqb c 92 ≡ t → is_code c d ≡ u → is_character (take (cond t 2 (cond u 3 0)) (92 ∷ c ∷ d ∷ ds)) ≡ true
    at true u is code = rw is refl
    at false true is code = code
    at false false is code = absurd (ne (rw (is, code) refl))

doubled_read : (bs : List ℕ) → IsRead (34 ∷ bs) (doubled_len bs)
doubled_read [] ne = absurd (ne refl)
doubled_read (c ∷ cs) ne = at (eqb c 34) refl
  where
    at : (t : Bool) → eqb c 34 ≡ t → is_character (take (cond t 2 0) (34 ∷ c ∷ cs)) ≡ true
    at true is = rw is refl
    at false is = absurd (ne (rw is refl))

pub character_read : (bytes : List ℕ) → IsRead bytes (character_len bytes)
character_read [] ne = absurd (ne refl)
character_read (b ∷ bs) ne = at (eqb b 34) (eqb b 92) (is_printable b) refl refl refl ne
  where
    at : (t u v : Bool) → eqb b 34 ≡ t → eqb b 92 ≡ u → is_printable b ≡ v → IsRead (b ∷ bs) (cond t (doubled_len bs) (cond u (escape_len bs) (cond v 1 0)))
    at true u v q r p h = subst (λ (n : ℕ). IsRead (n ∷ bs) (doubled_len bs)) (sym (eqb-true b 34 q)) (doubled_read bs) h
    at false true v q r p h = subst (λ (n : ℕ). IsRead (n ∷ bs) (escape_len bs)) (sym (eqb-true b 92 r)) (escape_read bs) h
    at false false true q r p h = plain_character b p q r
    at false false false q r p h = absurd (h refl)

character_some : (c : List ℕ) → is_character c ≡ true → length c ≢ 0
character_some [] e h = let x : false ≡ true = e in cc
character_some (b ∷ bs) e h = omega arith

-- if no character is found, none starts there
pub none_begins : (bytes : List ℕ) → character_len bytes ≡ 0 → (text after : List ℕ) → bytes ≡ text ++ after → is_character text ≡ false
none_begins bytes e text after whole = at (is_character text) refl
  where
    at : (t : Bool) → is_character text ≡ t → t ≡ false
    at true is = absurd (character_some text is (sym (character_front text after is) ∙ ap character_len (sym whole) ∙ e))
    at false is = refl

pub begins_none : (bytes : List ℕ) → ((text after : List ℕ) → bytes ≡ text ++ after → is_character text ≡ false) → character_len bytes ≡ 0
begins_none bytes h =
    elim (cases_eq (character_len bytes) 0) [
      | inl e ↦ e
      | inr ne ↦
          let x : true ≡ false = sym (character_read bytes ne) ∙ h (take (character_len bytes) bytes) (drop (character_len bytes) bytes) (sym (take-append-drop (character_len bytes) bytes)) in
          absurd cc
    ]

-- ---- many characters

pub record IsWalk (left : ℕ) (bytes : List ℕ) (n : ℕ) : Type 0 where
  pub characters : List (List ℕ)
  pub are : AreCharacters characters
  pub whole : bytes ≡ concat characters ++ drop n bytes
  pub len : length (concat characters) ≡ n
  pub few : length characters ≤ left
  pub stops : character_len (drop n bytes) ≡ 0

pub record IsOver (left : ℕ) (bytes : List ℕ) : Type 0 where
  pub characters : List (List ℕ)
  pub are : AreCharacters characters
  pub rest : List ℕ
  pub whole : bytes ≡ concat characters ++ rest
  pub many : length characters ≡ suc left

walk_here : (left : ℕ) (bytes : List ℕ) (n : ℕ) → character_len bytes ≡ 0 → ◌≡◌ {A = Option ℕ} (Some 0) (Some n) → IsWalk left bytes n
walk_here left bytes n e s =
    let zero_is : 0 ≡ n = cc in
    subst (λ (m : ℕ). IsWalk left bytes m) zero_is (record { characters = []; are = tt; whole = refl; len = refl; few = omega arith; stops = e })

-- the front, and what is left after it
front_back : (bytes : List ℕ) → bytes ≡ take (character_len bytes) bytes ++ drop (character_len bytes) bytes
front_back bytes = sym (take-append-drop (character_len bytes) bytes)

front_len : (bytes : List ℕ) → character_len bytes ≢ 0 → length (take (character_len bytes) bytes) ≡ character_len bytes
front_len bytes ne =
    sym (character_front (take (character_len bytes) bytes) (drop (character_len bytes) bytes) (character_read bytes ne)) ∙ ap character_len (sym (front_back bytes))

walk_more : (left : ℕ) (bytes : List ℕ) (n : ℕ) (o : Option ℕ) → character_len bytes ≢ 0 → ((m : ℕ) → o ≡ Some m → IsWalk left (drop (character_len bytes) bytes) m)
    → option_map (λ k. character_len bytes + k) o ≡ Some n → IsWalk (suc left) bytes n
walk_more left bytes n None ne each e = absurd (let x : None ≡ Some n = e in cc)
walk_more left bytes n (Some m) ne each e =
    let h = each m refl in
    let d = character_len bytes in
    let same : d + m ≡ n = cc in
    let c = take d bytes in
    let back : drop m (drop d bytes) ≡ drop (d + m) bytes = drop-drop m d bytes in
    let walk : IsWalk (suc left) bytes (d + m) = record {
      characters = c ∷ h.characters;
      are = (character_read bytes ne, h.are);
      whole = front_back bytes ∙ ap (λ (r : List ℕ). c ++ r) (h.whole ∙ ap (λ (r : List ℕ). concat h.characters ++ r) back) ∙ sym (append_assoc c (concat h.characters) (drop (d + m) bytes));
      len = length-append c (concat h.characters) ∙ rw (front_len bytes ne, h.len) refl;
      few = omega (arith, h.few);
      stops = ap character_len (sym back) ∙ h.stops;
    } in
    subst (λ (k : ℕ). IsWalk (suc left) bytes k) same walk

pub walk_some : (left : ℕ) (bytes : List ℕ) (n : ℕ) → characters_len left bytes ≡ Some n → IsWalk left bytes n
unfolding characters_len
walk_some zero bytes n e =
    elim (cases_eq (character_len bytes) 0) [
      | inl h ↦ walk_here zero bytes n h (let s : cond (eqb (character_len bytes) 0) (Some 0) None ≡ Some n = e in rw h at s)
      | inr ne ↦
          let f : ◌≡◌ {A = Option ℕ} None (Some n) = ap (λ (t : Bool). cond t (Some 0) None) (sym (ne_eqb (character_len bytes) 0 ne)) ∙ e in
          absurd cc
    ]
walk_some (suc left) bytes n e =
    let inner = option_map (λ k. character_len bytes + k) (characters_len left (drop (character_len bytes) bytes)) in
    elim (cases_eq (character_len bytes) 0) [
      | inl h ↦ walk_here (suc left) bytes n h (ap (λ (k : ℕ). cond (eqb k 0) (Some 0) inner) (sym h) ∙ e)
      | inr ne ↦ walk_more left bytes n (characters_len left (drop (character_len bytes) bytes)) ne (λ m h. walk_some left (drop (character_len bytes) bytes) m h)
          (ap (λ (t : Bool). cond t (Some 0) inner) (sym (ne_eqb (character_len bytes) 0 ne)) ∙ e)
    ]

over_more : (left : ℕ) (bytes : List ℕ) → character_len bytes ≢ 0 → IsOver left (drop (character_len bytes) bytes) → IsOver (suc left) bytes
over_more left bytes ne h = record {
  characters = take (character_len bytes) bytes ∷ h.characters;
  are = (character_read bytes ne, h.are);
  rest = h.rest;
  whole = front_back bytes ∙ ap (λ (r : List ℕ). take (character_len bytes) bytes ++ r) h.whole ∙ sym (append_assoc (take (character_len bytes) bytes) (concat h.characters) h.rest);
  many = ap suc h.many;
}

none_inner : (n : ℕ) (o : Option ℕ) → option_map (λ k. n + k) o ≡ None → o ≡ None
none_inner n None e = refl
none_inner n (Some k) e = absurd cc

pub walk_none : (left : ℕ) (bytes : List ℕ) → characters_len left bytes ≡ None → IsOver left bytes
unfolding characters_len
walk_none zero bytes e =
    elim (cases_eq (character_len bytes) 0) [
      | inl h ↦ absurd (let s : ◌≡◌ {A = Option ℕ} (Some 0) None = ap (λ (k : ℕ). cond (eqb k 0) (Some 0) None) (sym h) ∙ e in cc)
      | inr ne ↦ record { characters = take (character_len bytes) bytes ∷ []; are = (character_read bytes ne, tt); rest = drop (character_len bytes) bytes; whole = simp append_assoc (front_back bytes); many = refl }
    ]
walk_none (suc left) bytes e =
    let inner = option_map (λ k. character_len bytes + k) (characters_len left (drop (character_len bytes) bytes)) in
    elim (cases_eq (character_len bytes) 0) [
      | inl h ↦ absurd (let s : ◌≡◌ {A = Option ℕ} (Some 0) None = ap (λ (k : ℕ). cond (eqb k 0) (Some 0) inner) (sym h) ∙ e in cc)
      | inr ne ↦ over_more left bytes ne (walk_none left (drop (character_len bytes) bytes) (none_inner (character_len bytes) (characters_len left (drop (character_len bytes) bytes))
          (ap (λ (t : Bool). cond t (Some 0) inner) (sym (ne_eqb (character_len bytes) 0 ne)) ∙ e)))
    ]

-- after one character the walk continues
characters_step : (left : ℕ) (c rest : List ℕ) → is_character c ≡ true → characters_len (suc left) (c ++ rest) ≡ option_map (λ k. length c + k) (characters_len left rest)
unfolding characters_len
characters_step left c rest e =
    let n = character_front c rest e in
    rw (n, ne_eqb (length c) 0 (character_some c e), drop_at c rest (length c) refl) refl

pub walk_of : (left : ℕ) (cs : List (List ℕ)) (rest : List ℕ) → AreCharacters cs → character_len rest ≡ 0 → length cs ≤ left → characters_len left (concat cs ++ rest) ≡ Some (length (concat cs))
walk_of left [] rest are e le = characters_at left rest e
walk_of zero (c ∷ cs) rest are e le = absurd (omega arith)
walk_of (suc left) (c ∷ cs) rest are e le =
    ap (characters_len (suc left)) (append_assoc c (concat cs) rest) ∙ characters_step left c (concat cs ++ rest) are.0
    ∙ ap (option_map (λ k. length c + k)) (walk_of left cs rest are.1 e (omega arith)) ∙ ap (λ (k : ℕ). Some k) (sym (length-append c (concat cs)))

pub walk_over : (left : ℕ) (cs : List (List ℕ)) (rest : List ℕ) → AreCharacters cs → left < length cs → characters_len left (concat cs ++ rest) ≡ None
unfolding characters_len
walk_over left [] rest are lt = absurd (omega arith)
walk_over zero (c ∷ cs) rest are lt =
    let n = character_front c (concat cs ++ rest) are.0 in
    ap (characters_len zero) (append_assoc c (concat cs) rest) ∙ rw (n, ne_eqb (length c) 0 (character_some c are.0)) refl
walk_over (suc left) (c ∷ cs) rest are lt =
    ap (characters_len (suc left)) (append_assoc c (concat cs) rest) ∙ characters_step left c (concat cs ++ rest) are.0
    ∙ ap (option_map (λ k. length c + k)) (walk_over left cs rest are.1 (omega arith))
