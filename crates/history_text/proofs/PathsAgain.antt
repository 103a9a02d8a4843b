-- A part of a persistent that was written is read back.
use Rattle.std.proofs.Common.{◌≡◌, ℕ, suc, ◌^◌, Bool, true, false, cond, List, [], ◌∷◌, ◌++◌, Some, refl, ap, ◌∙◌, arith, decimal, append_assoc, inl, inr}
use Rattle.std.proofs.lemmas.Bool.{cases_eq}
use Rattle.std.proofs.lemmas.Bool.Decides.{nat_tests}
use Rattle.std.specs.Prelude.{not, ◌==◌}
use Rattle.rapid_model.specs.declared.part_name.PartName.{PartName}
use Rattle.rapid_model.specs.declared.part_name.PartName.TheVariants as parts
use Rattle.rapid_model.specs.declared.path.Path.{Path}
use Rattle.value_text.specs.ValueText.{part_text}
use Rattle.history_text.specs.EventWords.{element_words, path_words}
use Rattle.history_text.specs.InRange.{IsPath, IsU16, IsU32}
use Rattle.history_text.specs.Named.{is_part}
use Rattle.history_text.specs.Reading.{after_word, ends_whole}
use Rattle.history_text.specs.ValueReading.{axis_at, element_at, part_at, path_at, speed_at}
use Rattle.history_text.proofs.NumbersAgain.{whole_again}
use Rattle.history_text.proofs.Stops.{Stops}

-- anything but an opening brace
abbrev no_brace : ℕ → Bool
no_brace b = not (b == 123)

-- a part starts with a point, and what follows it with a space
record IsPart (part : PartName) (more : List ℕ) : Type 0 where
  again : part_at (part_text part ++ 32 ∷ more) ≡ Some (part, 32 ∷ more)
  whole : Stops ends_whole (part_text part ++ 32 ∷ more)
  brace : Stops no_brace (part_text part ++ 32 ∷ more)

part_again : (part : PartName) (more : List ℕ) → is_part part ≡ true → IsPart part more
unfolding part_at speed_at axis_at after_word
part_again (parts.Axis (suc (suc (suc (suc (suc (suc (suc (suc (suc (suc (suc (suc n))))))))))))) more h = absurd (grind (arith, nat_tests))
part_again (parts.SpeedPart (suc (suc (suc (suc n))))) more h = absurd (grind (arith, nat_tests))
part_again _ more h = record { again = refl; whole = refl; brace = refl }

no_element : (rest : List ℕ) → Stops no_brace rest → element_at rest ≡ Some (0, rest)
unfolding element_at after_word
no_element [] stops = refl
no_element (b ∷ bs) stops = let other : (b == 123) ≡ false = grind (arith, nat_tests) in rw other refl

some_element : (index : ℕ) (rest : List ℕ) → IsU16 index → element_at (123 ∷ (decimal index ++ 125 ∷ rest)) ≡ Some (index, rest)
unfolding element_at after_word
some_element index rest small = rw (whole_again (2 ^ 16) index (125 ∷ rest) small (omega arith) refl) refl

element_again : (index : ℕ) (rest : List ℕ) → IsU16 index → Stops no_brace rest → element_at (element_words index ++ rest) ≡ Some (index, rest)
element_again index rest small stops =
    elim (cases_eq index 0) [
      | inl none ↦ rw none (no_element rest stops)
      | inr some ↦
          let test : (index == 0) ≡ false = grind (arith, nat_tests) in
          let regrouped : (123 ∷ decimal index ++ 125 ∷ []) ++ rest ≡ 123 ∷ (decimal index ++ 125 ∷ rest) = simp append_assoc in
          rw test (ap element_at regrouped ∙ some_element index rest small)
    ]

element_begins : (index : ℕ) (rest : List ℕ) → Stops ends_whole rest → Stops ends_whole (element_words index ++ rest)
element_begins index rest stops =
    elim (index == 0) as (λ b. Stops ends_whole (cond b [] (123 ∷ decimal index ++ 125 ∷ []) ++ rest)) [
      | true ↦ stops
      | false ↦ refl
    ]

pub path_again : (pers : ℕ) (path : Path) (more : List ℕ) → IsU32 pers → IsPath path → is_part path.part ≡ true
    → path_at (path_words pers path ++ 32 ∷ more) ≡ Some ((pers, path), 32 ∷ more)
unfolding path_at after_word
path_again pers path more small fits named =
    let tail = part_text path.part ++ 32 ∷ more in
    let part = part_again path.part more named in
    let regrouped : path_words pers path ++ 32 ∷ more ≡ 80 ∷ (decimal pers ++ (element_words path.index ++ tail)) = simp append_assoc in
    ap path_at regrouped
    ∙ rw (whole_again (2 ^ 32) pers (element_words path.index ++ tail) small small (element_begins path.index tail part.whole), element_again path.index tail fits.element part.brace, part.again) refl
