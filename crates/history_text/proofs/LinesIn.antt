-- The lines of a text.
use Rattle.std.proofs.Common.{◌≡◌, ℕ, ◌<◌, Bool, true, false, cond, List, [], ◌∷◌, ◌++◌, length, refl, sym, ap, ◌∙◌, arith, append_assoc}
use Rattle.std.proofs.lemmas.Bool.{and_parts}
use Rattle.std.proofs.lemmas.Bool.Decides.{nat_tests}
use Rattle.std.specs.List.{AllByRecursion, concat}
use Rattle.std.specs.Prelude.{not, ◌==◌}
use Rattle.history_text.specs.HistoryText.{lines_in, onto_first}
use Rattle.history_text.specs.NextLine.{is_inner}

-- the line extends to the first byte that ends one
pub lines_of_line : (front rest : List ℕ) → is_inner front ≡ true → lines_in (front ++ 10 ∷ rest) ≡ (front ++ 10 ∷ []) ∷ lines_in rest
lines_of_line [] rest h = refl
lines_of_line (b ∷ bs) rest h =
    let both = and_parts (not (b == 10)) (is_inner bs) h in
    let inner : not (b == 10) ≡ true = both.0 in
    let other : (b == 10) ≡ false = grind (arith, nat_tests) in
    rw (other, lines_of_line bs rest both.1) refl

concat_onto : (b : ℕ) (lines : List (List ℕ)) → concat (onto_first b lines) ≡ b ∷ concat lines
concat_onto b [] = refl
concat_onto b (line ∷ lines) = refl

concat_by : (t : Bool) (b : ℕ) (lines : List (List ℕ)) → concat (cond t ((b ∷ []) ∷ lines) (onto_first b lines)) ≡ b ∷ concat lines
concat_by true b lines = refl
concat_by false b lines = concat_onto b lines

pub lines_make_text : (text : List ℕ) → concat (lines_in text) ≡ text
lines_make_text [] = refl
lines_make_text (b ∷ bs) = concat_by (b == 10) b (lines_in bs) ∙ ap (λ w. b ∷ w) (lines_make_text bs)

-- whole lines

-- the byte that ends it is its last one
pub record IsLine (line : List ℕ) : Type 0 where
  pub front : List ℕ
  pub inner : is_inner front ≡ true
  pub is : line ≡ front ++ 10 ∷ []

pub lines_of_whole : (line rest : List ℕ) → IsLine line → lines_in (line ++ rest) ≡ line ∷ lines_in rest
lines_of_whole line rest whole =
    ap (λ w. lines_in (w ++ rest)) whole.is ∙ ap lines_in (append_assoc whole.front (10 ∷ []) rest) ∙ lines_of_line whole.front rest whole.inner ∙ ap (λ w. w ∷ lines_in rest) (sym whole.is)

pub lines_again : (lines : List (List ℕ)) → AllByRecursion IsLine lines → lines_in (concat lines) ≡ lines
lines_again [] h = refl
lines_again (line ∷ lines) h = lines_of_whole line (concat lines) h.0 ∙ ap (λ ls. line ∷ ls) (lines_again lines h.1)

-- the first line of a text that is not empty

pub record HasLine (text : List ℕ) : Type 0 where
  pub line : List ℕ
  pub others : List (List ℕ)
  pub are : lines_in text ≡ line ∷ others

onto_has : (b : ℕ) (t : Bool) (lines rest : List (List ℕ)) → (line : List ℕ) × (others : List (List ℕ)) × (cond t ((b ∷ []) ∷ rest) (onto_first b lines) ≡ line ∷ others)
onto_has b true lines rest = (b ∷ [], rest, refl)
onto_has b false [] rest = (b ∷ [], [], refl)
onto_has b false (line ∷ lines) rest = (b ∷ line, lines, refl)

pub has_line : (text : List ℕ) → 0 < length text → HasLine text
has_line [] some = absurd (omega arith)
has_line (b ∷ bs) some = let h = onto_has b (b == 10) (lines_in bs) (lines_in bs) in record { line = h.0; others = h.1; are = h.2 }
