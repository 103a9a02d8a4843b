-- The limits of a token, tested on its text.
use Rattle.std.proofs.Common.{◌≡◌, ℕ, ◌≤◌, ◌<◌, Bool, true, false, ltb, List, [], ◌∷◌, ◌++◌, length, drop, Option, Some, None, Result, Ok, Err, refl, sym, ap, ◌∙◌, arith, inl, inr}
use Rattle.std.specs.Prelude.{is_some}
use Rattle.std.specs.List.{concat}
use Rattle.std.proofs.lemmas.Bool.{ltb-true, ltb-false, lt-ltb, le-ltb, cases_lt}
use Rattle.rapid_num.specs.Literal.{literal_value}
use Rattle.rapid_lexer.specs.declared.kind.Kind.{Kind}
use Rattle.rapid_lexer.specs.declared.kind.Kind.TheVariants.{Name, Word, Number, Quoted, Mark}
use Rattle.rapid_lexer.specs.declared.word.Word.{Word as OneWord}
use Rattle.rapid_lexer.specs.declared.fault.LexRule.TheVariants.{LongString, LongName, BadLiteral}
use Rattle.rapid_lexer.specs.declared.fault.LexFault.{LexFault}
use Rattle.rapid_lexer.specs.Strings.{IsString}
use Rattle.rapid_lexer.specs.Words.{IsWord, word_of}
use Rattle.rapid_lexer.specs.Tokens.{Lexeme, IsToken, IsLongest, IsWithinLimits}
use Rattle.rapid_lexer.specs.Faults.{IsMisfit}
use Rattle.rapid_lexer.specs.Reading.{characters_len, name_kind, checked, lexeme, fault, token_of}
use Rattle.rapid_lexer.proofs.Shapes.{IsShape}
use Rattle.rapid_lexer.proofs.Longest.{scanned}
use Rattle.rapid_lexer.proofs.Reserved.{word_yes, word_no, yes_word, no_word, word_short}
use Rattle.rapid_lexer.proofs.Walks.{walk_of, walk_over}

-- what the bytes start with at a position where no gap does: a token or a misfit
abbrev pub IsAt : ℕ → List ℕ → Result Lexeme LexFault → Type 0
IsAt at bytes (Ok t) = (after : List ℕ) × (bytes ≡ t.text ++ after) × (t.at ≡ at) × IsToken t.kind t.text × IsLongest t.text after × IsWithinLimits t.kind t.text
IsAt at bytes (Err f) = IsMisfit f.rule at bytes f.at

-- the characters of a string, with the closing quote
pub inside_walk : (text : List ℕ) (cs : List (List ℕ)) → IsString text cs → length cs ≤ 80 → is_some (characters_len 80 (drop 1 text)) ≡ true
inside_walk text cs s le =
    let e : characters_len 80 (drop 1 text) ≡ Some (length (concat cs)) = ap (λ (t : List ℕ). characters_len 80 (drop 1 t)) s.whole ∙ walk_of 80 cs (34 ∷ []) s.characters refl le in
    ap is_some e

pub inside_over : (text : List ℕ) (cs : List (List ℕ)) → IsString text cs → 80 < length cs → is_some (characters_len 80 (drop 1 text)) ≡ false
inside_over text cs s lt =
    let e : characters_len 80 (drop 1 text) ≡ None = ap (λ (t : List ℕ). characters_len 80 (drop 1 t)) s.whole ∙ walk_over 80 cs (34 ∷ []) s.characters lt in
    ap is_some e

-- ---- what is found is correct

name_at : (at : ℕ) (bytes text after : List ℕ) (short : Bool) (word : Option OneWord) → ltb (length text) 33 ≡ short → word_of text ≡ word → bytes ≡ text ++ after → IsShape Name text → IsLongest text after
    → IsAt at bytes (checked short (lexeme (name_kind word) at text) (fault LongName at))
name_at at bytes text after true (Some w) s e whole h most = (after, whole, refl, (h, word_yes text w e), most, tt)
name_at at bytes text after true None s e whole h most = (after, whole, refl, (h, word_no text e), most, (let lt = ltb-true (length text) 33 s in omega arith))
name_at at bytes text after false w s e whole h most =
    let long : 33 ≤ length text = ltb-false (length text) 33 s in
    (record { text = text; after = after; whole = whole; is_token = (h, λ r. let x : length text ≤ 9 = word_short text r.0 r.1 in omega arith); is_longest = most; excess = omega arith }, refl)

number_at : (at : ℕ) (bytes text after : List ℕ) (fits : Bool) → is_some (literal_value text) ≡ fits → bytes ≡ text ++ after → IsShape Number text → IsLongest text after
    → IsAt at bytes (checked fits (lexeme Number at text) (fault BadLiteral at))
number_at at bytes text after true s whole h most = (after, whole, refl, h, most, s)
number_at at bytes text after false s whole h most =
    (record { text = text; after = after; whole = whole; is_token = h; is_longest = most; excess = none_from (literal_value text) s }, refl)
  where
    none_from : {A : Type 0} (o : Option A) → is_some o ≡ false → o ≡ None
    none_from None e = refl
    none_from (Some x) e = absurd cc

quoted_at : (at : ℕ) (bytes text after : List ℕ) (fits : Bool) → is_some (characters_len 80 (drop 1 text)) ≡ fits → bytes ≡ text ++ after → IsShape Quoted text → IsLongest text after
    → IsAt at bytes (checked fits (lexeme Quoted at text) (fault LongString at))
quoted_at at bytes text after true s whole h most = (
  after,
  whole,
  refl,
  h,
  most,
  elim (cases_lt 80 (length h.0)) [
    | inl lt ↦ absurd (let x : true ≡ false = sym s ∙ inside_over text h.0 h.1 lt in cc)
    | inr le ↦ (h.0, h.1, le)
  ],
)
quoted_at at bytes text after false s whole h most = (
  inl (record {
    text = text;
    after = after;
    whole = whole;
    characters = h.0;
    is_string = h.1;
    is_longest = most;
    excess = elim (cases_lt 80 (length h.0)) [
      | inl lt ↦ lt
      | inr le ↦ absurd (let x : false ≡ true = sym s ∙ inside_walk text h.0 h.1 le in cc)
    ];
  }),
  refl,
)

pub token_of_right : (k : Kind) (at : ℕ) (bytes text after : List ℕ) → bytes ≡ text ++ after → IsShape k text → IsLongest text after → IsAt at bytes (token_of k at text)
token_of_right Name at bytes text after whole h most = name_at at bytes text after (ltb (length text) 33) (word_of text) refl refl whole h most
token_of_right (Word w) at bytes text after whole h most = absurd h
token_of_right Number at bytes text after whole h most = number_at at bytes text after (is_some (literal_value text)) refl whole h most
token_of_right Quoted at bytes text after whole h most = quoted_at at bytes text after (is_some (characters_len 80 (drop 1 text))) refl whole h most
token_of_right (Mark m) at bytes text after whole h most = (after, whole, refl, h, most, tt)

-- ---- what is correct is found

short_word : (text : List ℕ) (w : OneWord) → IsWord w text → ltb (length text) 33 ≡ true
short_word text w r = lt-ltb (length text) 33 (let x : length text ≤ 9 = word_short text w r in omega arith)

pub token_of_is : (k : Kind) (at : ℕ) (text : List ℕ) → IsToken k text → IsWithinLimits k text → token_of (scanned k) at text ≡ Ok (lexeme k at text)
token_of_is Name at text h fits = rw (lt-ltb (length text) 33 (omega (arith, fits)), no_word text h.1) refl
token_of_is (Word w) at text h fits = rw (short_word text w h.1, yes_word text w h.1) refl
token_of_is Number at text h fits = ap (λ (t : Bool). checked t (lexeme Number at text) (fault BadLiteral at)) fits
token_of_is Quoted at text h fits = ap (λ (t : Bool). checked t (lexeme Quoted at text) (fault LongString at)) (inside_walk text fits.0 fits.1 fits.2)
token_of_is (Mark m) at text h fits = refl

pub long_name_is : (at : ℕ) (text : List ℕ) → 32 < length text → token_of Name at text ≡ Err (fault LongName at)
long_name_is at text lt = rw (le-ltb (length text) 33 (omega arith)) refl

pub bad_literal_is : (at : ℕ) (text : List ℕ) → literal_value text ≡ None → token_of Number at text ≡ Err (fault BadLiteral at)
bad_literal_is at text e = rw e refl

pub long_string_is : (at : ℕ) (text : List ℕ) (cs : List (List ℕ)) → IsString text cs → 80 < length cs → token_of Quoted at text ≡ Err (fault LongString at)
long_string_is at text cs s lt = ap (λ (t : Bool). checked t (lexeme Quoted at text) (fault LongString at)) (inside_over text cs s lt)
