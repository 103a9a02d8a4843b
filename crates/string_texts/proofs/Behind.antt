-- What follows a quote, character by character.
use Rattle.std.proofs.Common.{◌≡◌, ℕ, ◌+◌, ◌-◌, ◌*◌, ◌<◌, ◌≤◌, Bool, true, false, cond, eqb, nat_le, nat_lt, List, [], ◌∷◌, ◌++◌, length, drop, Option, Some, None, refl, sym, ap, ◌∙◌, append_assoc, length-append, arith}
use Rattle.std.proofs.lemmas.Bool.{eqb-true, and_parts}
use Rattle.std.proofs.lemmas.Bool.Decides.{nat_tests}
use Rattle.std.specs.Option.{option_map}
use Rattle.rapid_num.specs.Literal.{digit_value}
use Rattle.rapid_model.specs.Printable.{takes}
use Rattle.rapid_num.specs.Characters.{is_printable}
use Rattle.rapid_lexer.specs.Strings.{is_code}
use Rattle.string_texts.specs.Spelled.{limited, text_behind, with_character}
use Rattle.string_texts.specs.Reading.{first_of}
use Rattle.string_texts.proofs.Firsts.{found}
use Rattle.string_texts.proofs.Continuing.{takes_it}

-- the text so far, continued by this one if both together have at most 80 characters
abbrev pub continued_by : List ℕ → Option (List ℕ) → Option (List ℕ)
continued_by begun text = option_map (λ more. begun ++ more) (limited (80 - length begun) text)

-- the first character, and the text after it
abbrev behind : Option (ℕ × ℕ) → List ℕ → Option (List ℕ)
behind None bytes = None
behind (Some first) bytes = with_character first.0 (text_behind (drop first.1 bytes))

-- two bytes, by the tests that they pass
two : (quote again escape twice plain : Bool) (b c : ℕ)
    → cond quote None (cond escape None (cond plain (with_character b (text_behind (c ∷ []))) None))
    ≡ behind (cond quote (cond again (found 34 2) None) (cond escape (cond twice (found 92 2) None) (cond plain (found b 1) None))) (b ∷ c ∷ [])
two true true escape twice plain b c = refl
two true false escape twice plain b c = refl
two false again true true plain b c = refl
two false again true false plain b c = refl
two false again false twice true b c = refl
two false again false twice false b c = refl

-- three bytes or more, by the tests that they pass
more : (quote again escape twice code plain : Bool) (n b c d : ℕ) (ds : List ℕ)
    → cond quote (cond again (with_character 34 (text_behind (d ∷ ds))) None)
    (cond escape (cond twice (with_character 92 (text_behind (d ∷ ds))) (cond code (with_character n (text_behind ds)) None))
    (cond plain (with_character b (text_behind (c ∷ d ∷ ds))) None))
    ≡ behind
    (cond quote (cond again (found 34 2) None) (cond escape (cond twice (found 92 2) (cond code (found n 3) None)) (cond plain (found b 1) None)))
    (b ∷ c ∷ d ∷ ds)
more true true escape twice code plain n b c d ds = refl
more true false escape twice code plain n b c d ds = refl
more false again true true code plain n b c d ds = refl
more false again true false true plain n b c d ds = refl
more false again true false false plain n b c d ds = refl
more false again false twice code true n b c d ds = refl
more false again false twice code false n b c d ds = refl

-- the text after bytes that are more than the closing quote
first_then : (bytes : List ℕ) → (bytes ≡ 34 ∷ [] → ⊥) → text_behind bytes ≡ behind (first_of bytes) bytes
first_then [] not_last = refl
first_then (b ∷ []) not_last = at (eqb b 34) (eqb b 92) (is_printable b) refl
  where
    at : (quote escape plain : Bool) → eqb b 34 ≡ quote
        → cond quote (Some []) None ≡ behind (cond quote None (cond escape None (cond plain (found b 1) None))) (b ∷ [])
    at true escape plain is = absurd (not_last (ap (λ (n : ℕ). n ∷ []) (eqb-true b 34 is)))
    at false true plain is = refl
    at false false true is = refl
    at false false false is = refl
first_then (b ∷ c ∷ []) not_last = two (eqb b 34) (eqb c 34) (eqb b 92) (eqb c 92) (is_printable b) b c
first_then (b ∷ c ∷ d ∷ ds) not_last =
    more (eqb b 34) (eqb c 34) (eqb b 92) (eqb c 92) (is_code c d) (is_printable b) (digit_value c * 16 + digit_value d) b c d ds

-- a character comes first
behind_first : (bytes : List ℕ) (byte len : ℕ) → first_of bytes ≡ Some (byte, len) → text_behind bytes ≡ with_character byte (text_behind (drop len bytes))
behind_first bytes byte len e =
    first_then bytes (λ is. let no : None ≡ found byte len = sym (ap first_of is) ∙ e in cc) ∙ ap (λ (f : Option (ℕ × ℕ)). behind f bytes) e

-- neither a character nor the closing quote comes first
pub behind_nothing : (bytes : List ℕ) → first_of bytes ≡ None → (bytes ≡ 34 ∷ [] → ⊥) → text_behind bytes ≡ None
behind_nothing bytes e not_last = first_then bytes not_last ∙ ap (λ (f : Option (ℕ × ℕ)). behind f bytes) e

-- a text that is not full grows by one character
grows : (begun : List ℕ) (byte : ℕ) (text : Option (List ℕ)) → length begun < 80
    → continued_by (begun ++ byte ∷ []) text ≡ continued_by begun (with_character byte text)
grows begun byte None room = refl
grows begun byte (Some rest) room =
    let longer : length (begun ++ byte ∷ []) ≡ length begun + 1 = length-append begun (byte ∷ []) in
    let same : nat_le (length rest) (80 - length (begun ++ byte ∷ [])) ≡ nat_le (length (byte ∷ rest)) (80 - length begun) = rw longer (grind (arith, nat_tests)) in
    at (nat_le (length rest) (80 - length (begun ++ byte ∷ []))) (nat_le (length (byte ∷ rest)) (80 - length begun)) same
  where
    at : (a b : Bool) → a ≡ b → option_map (λ more. (begun ++ byte ∷ []) ++ more) (cond a (Some rest) None) ≡ option_map (λ more. begun ++ more) (cond b (Some (byte ∷ rest)) None)
    at true true e = ap Some (append_assoc begun (byte ∷ []) rest)
    at false false e = refl
    at true false e = absurd cc
    at false true e = absurd cc

-- a full text does not grow
full : (begun : List ℕ) (byte : ℕ) (text : Option (List ℕ)) → 80 ≤ length begun → None ≡ continued_by begun (with_character byte text)
full begun byte None le = refl
full begun byte (Some rest) le =
    let no : nat_le (length (byte ∷ rest)) (80 - length begun) ≡ false = grind (arith, nat_tests) in rw no refl

-- after a character that fits, the rest continues the text
pub goes_text : (bytes begun : List ℕ) (byte len : ℕ) → first_of bytes ≡ Some (byte, len) → takes 80 begun byte ≡ true
    → continued_by (begun ++ byte ∷ []) (text_behind (drop len bytes)) ≡ continued_by begun (text_behind bytes)
goes_text bytes begun byte len first taken =
    let test : nat_lt (length begun) 80 ≡ true = (and_parts (is_printable byte) (nat_lt (length begun) 80) taken).1 in
    let room : length begun < 80 = grind (arith, nat_tests) in
    grows begun byte (text_behind (drop len bytes)) room ∙ ap (continued_by begun) (sym (behind_first bytes byte len first))

-- a character that does not fit: the text would be too long
pub too_long : (bytes begun : List ℕ) (byte len : ℕ) → first_of bytes ≡ Some (byte, len) → takes 80 begun byte ≡ false → None ≡ continued_by begun (text_behind bytes)
too_long bytes begun byte len first refused =
    full begun byte (text_behind (drop len bytes)) (at (nat_lt (length begun) 80) refl) ∙ ap (continued_by begun) (sym (behind_first bytes byte len first))
  where
    at : (b : Bool) → nat_lt (length begun) 80 ≡ b → 80 ≤ length begun
    at true e =
        let less : length begun < 80 = grind (arith, nat_tests) in
        let yes = takes_it bytes begun byte len first less in
        absurd (let no : true ≡ false = sym yes ∙ refused in cc)
    at false e = grind (arith, nat_tests)
