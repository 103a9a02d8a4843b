-- What follows a word.
use Rattle.std.proofs.Common.{◌≡◌, ℕ, zero, suc, ◌<◌, Bool, true, false, cond, List, [], ◌∷◌, ◌++◌, length, drop, Option, Some, None, refl, sym, ap, ◌∙◌, arith, append-nil}
use Rattle.std.proofs.lemmas.Bool.{eqb-true, false_from_ne_true}
use Rattle.std.proofs.lemmas.Bool.Decides.{nat_tests}
use Rattle.std.proofs.lemmas.Option.{same_Some}
use Rattle.std.proofs.lemmas.Slice.Eq.{bytes_eq-Decides}
use Rattle.std.specs.Str.{bytes_eq}
use Rattle.std.specs.Prelude.{◌==◌}
use Rattle.history_text.specs.Reading.{after_word}

same_byte : (b : ℕ) → (b == b) ≡ true
same_byte b = grind (arith, nat_tests)

pub after_word_again : (word rest : List ℕ) → after_word word (word ++ rest) ≡ Some rest
unfolding after_word
after_word_again [] rest = refl
after_word_again (c ∷ cs) rest = rw (same_byte c) (after_word_again cs rest)

-- another byte is there
pub not_after_word : (b c : ℕ) (rest : List ℕ) → (b == c) ≡ false → after_word (c ∷ []) (b ∷ rest) ≡ None
unfolding after_word
not_after_word b c rest other = rw other refl

if_some : {A : Type 0} (t : Bool) (o : Option A) (x : A) → cond t o None ≡ Some x → (t ≡ true) × (o ≡ Some x)
if_some true o x e = (refl, e)
if_some false o x e = absurd cc

pub after_word_takes : (word text rest : List ℕ) → after_word word text ≡ Some rest → text ≡ word ++ rest
unfolding after_word
after_word_takes [] text rest e = same_Some text rest e
after_word_takes (c ∷ cs) [] rest e = absurd cc
after_word_takes (c ∷ cs) (b ∷ bs) rest e =
    let both = if_some (b == c) (after_word cs bs) rest e in
    let first : b ≡ c = eqb-true b c both.0 in
    let more : bs ≡ cs ++ rest = after_word_takes cs bs rest both.1 in
    cc

pub empty_text : (word : List ℕ) (i : ℕ) (text : List ℕ) → i < length word → length text < 1 → after_word (drop i word) text ≡ None
unfolding after_word
empty_text [] i text less none = absurd (omega arith)
empty_text (c ∷ cs) zero [] less none = refl
empty_text (c ∷ cs) zero (b ∷ bs) less none = absurd (omega arith)
empty_text (c ∷ cs) (suc i) text less none = empty_text cs i text (omega arith) none

-- a text is a word if nothing follows the word in it

whole_word : (word text : List ℕ) → bytes_eq text word ≡ true → after_word word text ≡ Some []
whole_word word text same =
    let is : text ≡ word = (bytes_eq-Decides text word).0 same in
    ap (after_word word) (is ∙ sym (append-nil word)) ∙ after_word_again word []

pub same_after_some : (word text rest : List ℕ) → after_word word text ≡ Some rest → bytes_eq text word ≡ (length rest == 0)
same_after_some word text [] e = (bytes_eq-Decides text word).1 (after_word_takes word text [] e ∙ append-nil word)
same_after_some word text (b ∷ bs) e =
    let left : (length (b ∷ bs) == 0) ≡ false = grind (arith, nat_tests) in
    rw left (false_from_ne_true (bytes_eq text word) (λ same. let nothing = whole_word word text same in absurd cc))

pub same_after_none : (word text : List ℕ) → after_word word text ≡ None → bytes_eq text word ≡ false
same_after_none word text e = false_from_ne_true (bytes_eq text word) (λ same. let nothing = whole_word word text same in absurd cc)
