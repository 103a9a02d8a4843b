-- Numbers that are written one after another.
use Rattle.std.proofs.Common.{◌≡◌, ℕ, ◌+◌, ◌<◌, List, [], ◌∷◌, ◌++◌, length, take, get_or, refl, ap, ◌∙◌, sym, append_assoc, append-nil}
use Rattle.std.proofs.lemmas.List.{take_more}
use Rattle.std.specs.Prelude.{ℤ}
use Rattle.rapid_num.specs.NumText.{fixed_text}
use Rattle.history_text.specs.Lines.{number_words}

number_words-append : (xs ys : List ℤ) → number_words (xs ++ ys) ≡ number_words xs ++ number_words ys
number_words-append [] ys = refl
number_words-append (x ∷ xs) ys = ap (λ ws. (32 ∷ fixed_text x) ++ ws) (number_words-append xs ys) ∙ sym (append_assoc (32 ∷ fixed_text x) (number_words xs) (number_words ys))

-- one more number
pub number_words_more : (xs : List ℤ) (i : ℕ) (d : ℤ) → i < length xs → number_words (take (i + 1) xs) ≡ number_words (take i xs) ++ 32 ∷ fixed_text (get_or xs i d)
number_words_more xs i d h = rw (take_more xs i d h) (number_words-append (take i xs) (get_or xs i d ∷ []) ∙ ap (λ w. number_words (take i xs) ++ w) (append-nil (32 ∷ fixed_text (get_or xs i d))))
