-- A text that was written in quotes is read back, whatever follows except a quote.
use Rattle.std.proofs.Common.{◌≡◌, ℕ, zero, suc, ◌+◌, ◌<◌, ◌≤◌, Bool, true, false, List, [], ◌∷◌, ◌++◌, length, Some, None, refl, ap, ◌∙◌, arith, append-nil, append_assoc, length-append, inl, inr}
use Rattle.std.proofs.lemmas.Bool.{cases_eq}
use Rattle.std.proofs.lemmas.Bool.Decides.{nat_tests}
use Rattle.std.proofs.lemmas.List.Concat.{flat_map-cons}
use Rattle.std.specs.List.{flat_map}
use Rattle.std.specs.Prelude.{codes, not, ◌==◌}
use Rattle.rapid_limits.specs.declared.TheConstants.{LONGEST_STRING}
use Rattle.rapid_model.specs.Printable.{ArePrintable, takes}
use Rattle.rapid_num.specs.Characters.{is_printable}
use Rattle.value_text.specs.ValueText.{quoted_byte, quoted_text}
use Rattle.history_text.specs.InRange.{IsText}
use Rattle.history_text.specs.Reading.{character_at, characters_at, quoted_at}
use Rattle.history_text.proofs.AfterWord.{after_word_again}
use Rattle.history_text.proofs.Stops.{Stops}

-- anything but a quote
abbrev pub no_quote : ℕ → Bool
no_quote b = not (b == 34)

plain_again : (x : ℕ) (tail : List ℕ) → (x == 34) ≡ false → (x == 92) ≡ false → character_at (x ∷ tail) ≡ Some (Some x, tail)
unfolding character_at
plain_again x [] quote backslash = rw quote refl
plain_again x (c ∷ cs) quote backslash = rw (quote, backslash) refl

character_again : (x : ℕ) (tail : List ℕ) → character_at (quoted_byte x ++ tail) ≡ Some (Some x, tail)
unfolding character_at
character_again x tail =
    elim (cases_eq x 34) [
      | inl quote ↦ rw quote refl
      | inr other ↦ elim (cases_eq x 92) [
        | inl backslash ↦ rw backslash refl
        | inr plain ↦
            let first : (x == 34) ≡ false = grind (arith, nat_tests) in
            let second : (x == 92) ≡ false = grind (arith, nat_tests) in
            rw (first, second) (plain_again x tail first second)
      ]
    ]

end_again : (rest : List ℕ) → Stops no_quote rest → character_at (34 ∷ rest) ≡ Some (None, rest)
unfolding character_at
end_again [] stops = refl
end_again (c ∷ cs) stops = let other : (c == 34) ≡ false = grind (arith, nat_tests) in rw other refl

characters_again : (steps : ℕ) (so_far text rest : List ℕ) → ArePrintable text → length so_far + length text ≤ LONGEST_STRING → length text < steps → Stops no_quote rest
    → characters_at steps so_far (flat_map quoted_byte text ++ 34 ∷ rest) ≡ Some (so_far ++ text, rest)
unfolding characters_at
characters_again zero so_far text rest printable room few stops = absurd (omega arith)
characters_again (suc steps) so_far [] rest printable room few stops = rw (end_again rest stops, append-nil so_far) refl
characters_again (suc steps) so_far (x ∷ xs) rest printable room few stops =
    let first : is_printable x ≡ true = printable.0 in
    let tail = flat_map quoted_byte xs ++ 34 ∷ rest in
    let regrouped : flat_map quoted_byte (x ∷ xs) ++ 34 ∷ rest ≡ quoted_byte x ++ tail =
    ap (λ w. w ++ 34 ∷ rest) (flat_map-cons quoted_byte x xs) ∙ append_assoc (quoted_byte x) (flat_map quoted_byte xs) (34 ∷ rest) in
    let taken : takes LONGEST_STRING so_far x ≡ true = grind (arith, nat_tests) in
    let more = characters_again steps (so_far ++ x ∷ []) xs rest printable.1 (omega (arith, length-append so_far (x ∷ []))) (omega arith) stops in
    let step : characters_at (suc steps) so_far (quoted_byte x ++ tail) ≡ Some ((so_far ++ x ∷ []) ++ xs, rest) = rw (character_again x tail, taken) more in
    ap (characters_at (suc steps) so_far) regrouped ∙ step ∙ ap (λ w. Some (w, rest)) (append_assoc so_far (x ∷ []) xs)

pub quoted_again : (text rest : List ℕ) → IsText text → Stops no_quote rest → quoted_at (quoted_text text ++ rest) ≡ Some (text, rest)
unfolding quoted_at
quoted_again text rest fits stops =
    let regrouped : quoted_text text ++ rest ≡ codes "\"" ++ (flat_map quoted_byte text ++ 34 ∷ rest) = ap (λ w. 34 ∷ w) (append_assoc (flat_map quoted_byte text) (34 ∷ []) rest) in
    ap quoted_at regrouped ∙ rw (after_word_again (codes "\"") (flat_map quoted_byte text ++ 34 ∷ rest)) (characters_again (LONGEST_STRING + 1) [] text rest fits.printable (omega (arith, fits.short)) (omega (arith, fits.short)) stops)
