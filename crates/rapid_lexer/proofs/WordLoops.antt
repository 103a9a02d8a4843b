-- Comparing a text with words.
use Rattle.std.proofs.Common.{◌≡◌, ℕ, ◌+◌, ◌<◌, Bool, true, false, cond, if◌then◌else◌, eqb, List, [], ◌∷◌, length, get_or, map, drop, Bor, Option, Some, refl, sym, ap, ◌∙◌, arith}
use Rattle.std.specs.List.{filter}
use Rattle.std.proofs.lemmas.List.{at_drop_more}
use Rattle.std.proofs.lemmas.Bool.{and_parts}
use Rattle.rapid_lexer.specs.Bytes.{upper}
use Rattle.rapid_lexer.specs.declared.word.Word.{Word}
use Rattle.rapid_lexer.specs.Words.{words, word_in, word_of}
use Rattle.rapid_lexer.specs.Reading.{is_word}

-- a word that a text is starts with the uppercase of the text's first byte
is_word-first : (word text : List ℕ) → 0 < length text → is_word word text ≡ true → eqb (get_or word 0 0) (upper (get_or text 0 0)) ≡ true
is_word-first word [] some e = absurd (omega (arith, some))
is_word-first [] (y ∷ ys) some e = absurd cc
is_word-first (x ∷ xs) (y ∷ ys) some e = (and_parts (eqb x (upper y)) (is_word xs ys) e).0

abbrev pub plain : List (Bor (List ℕ) × Word) → List (List ℕ × Word)
plain rows = map (λ row. (row.0.now, row.1)) rows

kept_head : (row : List ℕ × Word) (text : List ℕ) (found rows : Option Word) (keep same : Bool) → is_word row.0 text ≡ same → (same ≡ true → keep ≡ true) → found ≡ rows → (kept : Option Word)
    → kept ≡ cond keep (if is_word row.0 text then Some row.1 else found) found → kept ≡ cond same (Some row.1) rows
kept_head row text found rows true same is imp rest kept e = e ∙ rw (is, rest) refl
kept_head row text found rows false true is imp rest kept e = absurd (let x : false ≡ true = imp refl in cc)
kept_head row text found rows false false is imp rest kept e = e ∙ rest

word_in_kept : (q : List ℕ × Word → Bool) (text : List ℕ) → ((row : List ℕ × Word) → is_word row.0 text ≡ true → q row ≡ true) → (rows : List (List ℕ × Word)) → word_in (filter q rows) (map upper text) ≡ word_in rows (map upper text)
word_in_kept q text h [] = refl
word_in_kept q text h (row ∷ rows) =
    kept_head row text (word_in (filter q rows) (map upper text)) (word_in rows (map upper text)) (q row) (is_word row.0 text) refl (h row) (word_in_kept q text h rows) _ (filtered (q row))
  where
    filtered : (keep : Bool) → word_in (cond keep (row ∷ filter q rows) (filter q rows)) (map upper text) ≡ cond keep (if is_word row.0 text then Some row.1 else word_in (filter q rows) (map upper text)) (word_in (filter q rows) (map upper text))
    filtered true = refl
    filtered false = refl

-- among the words that start with the uppercase of its first byte, a text is the same word as among all
pub words_with_first : (text : List ℕ) (letter : ℕ) → 0 < length text → letter ≡ upper (get_or text 0 0) → word_in (filter (λ row. eqb (get_or row.0 0 0) letter) words) (map upper text) ≡ word_of text
words_with_first text letter some is = word_in_kept (λ row. eqb (get_or row.0 0 0) letter) text (λ row e. rw is (is_word-first row.0 text some e)) words

-- the table from row i on, where test says whether the text of the row is this text
pub row_more : (rows : List (Bor (List ℕ) × Word)) (text : List ℕ) (i : ℕ) (d : Bor (List ℕ) × Word) (test : Bool) → i < length rows → test ≡ is_word (get_or rows i d).0.now text
    → word_in (plain (drop i rows)) (map upper text) ≡ (if test then Some (get_or rows i d).1 else word_in (plain (drop (i + 1) rows)) (map upper text))
row_more rows text i d test lt is =
    at_drop_more (λ left. word_in (plain left) (map upper text)) rows i d lt
    ∙ ap (λ same. if same then Some (get_or rows i d).1 else word_in (plain (drop (i + 1) rows)) (map upper text)) (sym is)
