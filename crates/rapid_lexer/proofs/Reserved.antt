-- The lookup of words finds which word a name is.
use Rattle.std.proofs.Common.{◌≡◌, ℕ, zero, suc, ◌≤◌, ◌<◌, Bool, true, false, cond, List, [], ◌∷◌, length, get_or, map, Option, Some, None, refl, sym, ap, subst, ◌∙◌, arith}
use Rattle.std.specs.List.{Contains, AllByRecursion}
use Rattle.std.specs.Str.{bytes_eq}
use Rattle.std.proofs.lemmas.List.{length-map}
use Rattle.std.proofs.lemmas.Slice.Eq.{bytes_eq-Decides}
use Rattle.rapid_lexer.specs.declared.word.Word.{Word}
use Rattle.rapid_lexer.specs.Bytes.{upper}
use Rattle.rapid_lexer.specs.Words.{words, word_in, word_of, IsWord, IsReserved}

abbrev Rows : Type 0
Rows = List (List ℕ × Word)

row_here : (row : List ℕ × Word) (rows : Rows) (capitals : List ℕ) (word : Word) (same : Bool) → bytes_eq row.0 capitals ≡ same → (word_in rows capitals ≡ Some word → Contains rows (capitals, word))
    → cond same (Some row.1) (word_in rows capitals) ≡ Some word → Contains (row ∷ rows) (capitals, word)
row_here row rows capitals word true is rest e =
    let text : row.0 ≡ capitals = (bytes_eq-Decides row.0 capitals).0 is in
    let named : row.1 ≡ word = some_is row.1 word e in
    (0, omega arith, ap (λ t. (t, row.1)) text ∙ ap (λ w. (capitals, w)) named)
  where
    some_is : (a b : Word) → ◌≡◌ {A = Option Word} (Some a) (Some b) → a ≡ b
    some_is a b h = cc
row_here row rows capitals word false is rest e = let f = rest e in (suc f.0, omega (arith, f.1), f.2)

found_row : (rows : Rows) (capitals : List ℕ) (word : Word) → word_in rows capitals ≡ Some word → Contains rows (capitals, word)
found_row [] capitals word e = absurd cc
found_row (row ∷ rows) capitals word e = row_here row rows capitals word (bytes_eq row.0 capitals) refl (found_row rows capitals word) e

-- each word is found by its uppercase letters
each_found : AllByRecursion (λ row. word_in words row.0 ≡ Some row.1) words
each_found = search

row_found : (all rows : Rows) (capitals : List ℕ) (word : Word) (k : ℕ) → AllByRecursion (λ row. word_in all row.0 ≡ Some row.1) rows → k < length rows → get_or rows k (capitals, word) ≡ (capitals, word)
    → word_in all capitals ≡ Some word
row_found all [] capitals word k each lt e = absurd (omega arith)
row_found all (row ∷ rows) capitals word zero each lt e = subst (λ (r : List ℕ × Word). word_in all r.0 ≡ Some r.1) e each.0
row_found all (row ∷ rows) capitals word (suc k) each lt e = row_found all rows capitals word k each.1 (omega arith) e

pub word_yes : (text : List ℕ) (word : Word) → word_of text ≡ Some word → IsWord word text
word_yes text word e = found_row words (map upper text) word e

pub yes_word : (text : List ℕ) (word : Word) → IsWord word text → word_of text ≡ Some word
yes_word text word h = row_found words words (map upper text) word h.0 each_found h.1 h.2

pub word_no : (text : List ℕ) → word_of text ≡ None → ¬ IsReserved text
word_no text e (word, h) = let x : ◌≡◌ {A = Option Word} (Some word) None = sym (yes_word text word h) ∙ e in cc

pub no_word : (text : List ℕ) → ¬ IsReserved text → word_of text ≡ None
no_word text none = at (word_of text) refl
  where
    at : (o : Option Word) → word_of text ≡ o → o ≡ None
    at None e = refl
    at (Some word) e = absurd (none (word, word_yes text word e))

-- no reserved word has more than nine letters
short_row : (rows : Rows) (text : List ℕ) (word : Word) (k : ℕ) → AllByRecursion (λ row. length row.0 ≤ 9) rows → k < length rows → get_or rows k (text, word) ≡ (text, word) → length text ≤ 9
short_row [] text word k all lt e = absurd (omega arith)
short_row (row ∷ rows) text word zero all lt e = omega (arith, all.0, ap (λ (r : List ℕ × Word). length r.0) e)
short_row (row ∷ rows) text word (suc k) all lt e = short_row rows text word k all.1 (omega arith) e

all_short : AllByRecursion (λ row. length row.0 ≤ 9) words
all_short = search arith

pub word_short : (text : List ℕ) (word : Word) → IsWord word text → length text ≤ 9
word_short text word h = omega (arith, short_row words (map upper text) word h.0 all_short h.1 h.2, length-map text upper)
