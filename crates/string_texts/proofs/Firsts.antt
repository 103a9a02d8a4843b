-- The first character, and what follows it.
use Rattle.std.proofs.Common.{◌≡◌, ℕ, ◌+◌, ◌*◌, ◌<◌, ◌≤◌, Bool, true, false, ◌&&◌, cond, eqb, List, [], ◌∷◌, ◌++◌, length, Option, Some, None, refl, sym, ap, subst, inl, inr, length-append, arith}
use Rattle.std.proofs.lemmas.Bool.{eqb-true, and_parts, or_cases}
use Rattle.rapid_num.specs.Literal.{digit_value}
use Rattle.rapid_num.specs.Characters.{is_printable}
use Rattle.rapid_lexer.specs.Bytes.{is_hex}
use Rattle.rapid_lexer.specs.Strings.{is_code, is_character}
use Rattle.rapid_lexer.proofs.Characters.{plain_parts, plain_character, code_parts}
use Rattle.string_texts.specs.Spelled.{character_of}
use Rattle.string_texts.specs.Reading.{doubled, escaped, first_of}

-- one of the characters comes first
pub record IsFirst (bytes : List ℕ) (byte len : ℕ) : Type 0 where
  pub character : List ℕ
  pub is : is_character character ≡ true
  pub byte_is : byte ≡ character_of character
  pub len_is : len ≡ length character
  pub rest : List ℕ
  pub whole : bytes ≡ character ++ rest
  pub printable : is_printable byte ≡ true

-- a character is the first of the bytes that start with it
pub character_first : (c rest : List ℕ) → is_character c ≡ true → first_of (c ++ rest) ≡ Some (character_of c, length c)
character_first [] rest e = absurd cc
character_first (b ∷ []) rest e = let p = plain_parts b e in rw (p.1, p.2, p.0) refl
character_first (b ∷ c ∷ []) rest e =
    elim (or_cases (eqb b 34 && eqb c 34) (eqb b 92 && eqb c 92) e) [
      | inl h ↦ let x = and_parts (eqb b 34) (eqb c 34) h in rw (eqb-true b 34 x.0, eqb-true c 34 x.1) refl
      | inr h ↦ let x = and_parts (eqb b 92) (eqb c 92) h in at rest b c (eqb-true b 92 x.0) (eqb-true c 92 x.1)
    ]
  where
    at : (rest : List ℕ) (b c : ℕ) → b ≡ 92 → c ≡ 92 → first_of (b ∷ c ∷ rest) ≡ Some (c, 2)
    at [] b c p q = rw (p, q) refl
    at (r ∷ rs) b c p q = rw (p, q) refl
character_first (b ∷ c ∷ d ∷ []) rest e =
    let x = and_parts (eqb b 92) (is_code c d) e in
    let y = code_parts c d x.1 in
    let z : escaped (c ∷ d ∷ rest) ≡ Some (digit_value c * 16 + digit_value d, 3) = rw (y.1, x.1) refl in
    rw (eqb-true b 92 x.0) z
character_first (b ∷ c ∷ d ∷ f ∷ bs) rest e = absurd cc

-- a byte and a length that were found
abbrev pub found : ℕ → ℕ → Option (ℕ × ℕ)
found byte len = Some (byte, len)

abbrev both : ℕ → ℕ → ℕ × ℕ
both byte len = (byte, len)

-- what was found determines the byte and the length
pub found_parts : (a b c d : ℕ) → found a b ≡ found c d → (a ≡ c) × (b ≡ d)
found_parts a b c d e = let x : both a b ≡ both c d = cc in (ap (λ (p : ℕ × ℕ). p.0) x, ap (λ (p : ℕ × ℕ). p.1) x)

first_plain : (b : ℕ) (bs : List ℕ) (byte len : ℕ) → eqb b 34 ≡ false → eqb b 92 ≡ false → (v : Bool) → is_printable b ≡ v
    → cond v (found b 1) None ≡ found byte len → IsFirst (b ∷ bs) byte len
first_plain b bs byte len q r true p e = record {
  character = b ∷ [];
  is = plain_character b p q r;
  byte_is = sym (found_parts b 1 byte len e).0;
  len_is = sym (found_parts b 1 byte len e).1;
  rest = bs;
  whole = refl;
  printable = let x = (found_parts b 1 byte len e).0 in rw (← x) p;
}
first_plain b bs byte len q r false p e = absurd cc

first_code : (c d : ℕ) (ds : List ℕ) (byte len : ℕ) (v : Bool) → is_code c d ≡ v
    → cond v (found (digit_value c * 16 + digit_value d) 3) None ≡ found byte len → IsFirst (92 ∷ c ∷ d ∷ ds) byte len
first_code c d ds byte len true p e = record {
  character = 92 ∷ c ∷ d ∷ [];
  is = p;
  byte_is = sym (found_parts (digit_value c * 16 + digit_value d) 3 byte len e).0;
  len_is = sym (found_parts (digit_value c * 16 + digit_value d) 3 byte len e).1;
  rest = ds;
  whole = refl;
  printable = let x = (found_parts (digit_value c * 16 + digit_value d) 3 byte len e).0 in subst (λ (n : ℕ). is_printable n ≡ true) x (and_parts (is_hex c && is_hex d) _ p).1;
}
first_code c d ds byte len false p e = absurd cc

first_pair : (b : ℕ) (n : ℕ) (bs : List ℕ) (byte len : ℕ) → b ≡ n → is_character (n ∷ n ∷ []) ≡ true → is_printable n ≡ true → found n 2 ≡ found byte len → IsFirst (n ∷ b ∷ bs) byte len
first_pair b n bs byte len p is pr e = record {
  character = n ∷ n ∷ [];
  is = is;
  byte_is = sym (found_parts n 2 byte len e).0;
  len_is = sym (found_parts n 2 byte len e).1;
  rest = bs;
  whole = ap (λ (x : ℕ). n ∷ x ∷ bs) p;
  printable = let x = (found_parts n 2 byte len e).0 in subst (λ (n : ℕ). is_printable n ≡ true) x pr;
}

first_doubled : (bs : List ℕ) (byte len : ℕ) → doubled bs ≡ found byte len → IsFirst (34 ∷ bs) byte len
first_doubled [] byte len e = absurd cc
first_doubled (c ∷ cs) byte len e = at (eqb c 34) refl e
  where
    at : (t : Bool) → eqb c 34 ≡ t → cond t (found 34 2) None ≡ found byte len → IsFirst (34 ∷ c ∷ cs) byte len
    at true is h = first_pair c 34 cs byte len (eqb-true c 34 is) refl refl h
    at false is h = absurd cc

first_escaped : (bs : List ℕ) (byte len : ℕ) → escaped bs ≡ found byte len → IsFirst (92 ∷ bs) byte len
first_escaped [] byte len e = absurd cc
first_escaped (c ∷ []) byte len e = at (eqb c 92) refl e
  where
    at : (t : Bool) → eqb c 92 ≡ t → cond t (found 92 2) None ≡ found byte len → IsFirst (92 ∷ c ∷ []) byte len
    at true is h = first_pair c 92 [] byte len (eqb-true c 92 is) refl refl h
    at false is h = absurd cc
first_escaped (c ∷ d ∷ ds) byte len e = at (eqb c 92) refl e
  where
    at : (t : Bool) → eqb c 92 ≡ t → cond t (found 92 2) (cond (is_code c d) (found (digit_value c * 16 + digit_value d) 3) None) ≡ found byte len → IsFirst (92 ∷ c ∷ d ∷ ds) byte len
    at true is h = first_pair c 92 (d ∷ ds) byte len (eqb-true c 92 is) refl refl h
    at false is h = first_code c d ds byte len (is_code c d) refl h

first_cases : (b : ℕ) (bs : List ℕ) (byte len : ℕ) (t u : Bool) → eqb b 34 ≡ t → eqb b 92 ≡ u
    → cond t (doubled bs) (cond u (escaped bs) (cond (is_printable b) (found b 1) None)) ≡ found byte len → IsFirst (b ∷ bs) byte len
first_cases b bs byte len true u q r e = subst (λ (n : ℕ). IsFirst (n ∷ bs) byte len) (sym (eqb-true b 34 q)) (first_doubled bs byte len e)
first_cases b bs byte len false true q r e = subst (λ (n : ℕ). IsFirst (n ∷ bs) byte len) (sym (eqb-true b 92 r)) (first_escaped bs byte len e)
first_cases b bs byte len false false q r e = first_plain b bs byte len q r (is_printable b) refl e

-- what is found first is a character
pub first_is : (bytes : List ℕ) (byte len : ℕ) → first_of bytes ≡ Some (byte, len) → IsFirst bytes byte len
first_is [] byte len e = absurd cc
first_is (b ∷ bs) byte len e = first_cases b bs byte len (eqb b 34) (eqb b 92) refl refl e

some_bytes : (character : List ℕ) → is_character character ≡ true → 0 < length character
some_bytes [] e = absurd cc
some_bytes (b ∷ bs) e = omega arith

-- what is found first has at least one byte
pub first_fits : (bytes : List ℕ) (byte len : ℕ) → first_of bytes ≡ Some (byte, len) → (0 < len) × (len ≤ length bytes)
first_fits bytes byte len e =
    let f = first_is bytes byte len e in
    let some : 0 < length f.character = some_bytes f.character f.is in
    (omega (arith, f.len_is), omega (arith, f.len_is, ap length f.whole, length-append f.character f.rest))
