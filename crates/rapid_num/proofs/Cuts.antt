-- Decimal literals, split at the exponent letter.
use Rattle.std.proofs.Common.{◌≡◌, ℕ, ◌+◌, ◌-◌, ◌<◌, ◌≤◌, Bool, true, false, cond, ◌||◌, List, [], ◌∷◌, length, take, drop, refl, sym, ap, ◌∙◌, arith, Some, None, ℤ, pos, ◌+ℤ◌, ◌-ℤ◌}
use Rattle.std.proofs.lemmas.List.Sums.{prefix_len-le-length}
use Rattle.std.proofs.lemmas.List.{take_all, take_rest}
use Rattle.std.proofs.lemmas.Bool.Decides.{nat_tests}
use Rattle.std.specs.List.{list_any, before_first, after_first, position_or_len, position}
use Rattle.std.specs.Option.{option_map, option_and_then}
use Rattle.std.specs.Prelude.{Option, not, nat_lt}
use Rattle.rapid_num.specs.Literal.{is_exponent_letter, mantissa_of, exponent_of, decimal_thousandths, scaled}
use Rattle.rapid_num.specs.Reading.{scaled_mantissa}

place_at_most : (p : ℕ → Bool) (xs : List ℕ) → position_or_len p xs ≤ length xs
place_at_most p xs = prefix_len-le-length (λ x. not (p x)) xs

found_at : (p : ℕ → Bool) (xs : List ℕ) (i : ℕ) → Some i ≡ position p xs → (position_or_len p xs ≡ i) × (i < length xs)
found_at p xs i e = let most = place_at_most p xs in grind (arith, nat_tests)

found_nowhere : (p : ℕ → Bool) (xs : List ℕ) → ◌≡◌ {A = Option ℕ} None (position p xs) → position_or_len p xs ≡ length xs
found_nowhere p xs e = let most = place_at_most p xs in grind (arith, nat_tests)

list_any_found : (p : ℕ → Bool) (xs : List ℕ) → list_any p xs ≡ nat_lt (position_or_len p xs) (length xs)
list_any_found p [] = refl
list_any_found p (x ∷ xs) =
    let rest = list_any_found p xs in
    elim (p x) as (λ b. ◌||◌ b (list_any p xs) ≡ nat_lt (cond (not b) (1 + position_or_len p xs) 0) (length (x ∷ xs))) [
      | true ↦ grind (arith, nat_tests)
      | false ↦ rest ∙ grind (arith, nat_tests)
    ]

any_at : (p : ℕ → Bool) (xs : List ℕ) (i : ℕ) → Some i ≡ position p xs → list_any p xs ≡ true
any_at p xs i e = let found = found_at p xs i e in let any = list_any_found p xs in grind (arith, nat_tests)

any_nowhere : (p : ℕ → Bool) (xs : List ℕ) → ◌≡◌ {A = Option ℕ} None (position p xs) → list_any p xs ≡ false
any_nowhere p xs e = let found = found_nowhere p xs e in let any = list_any_found p xs in grind (arith, nat_tests)

-- the exponent and the mantissa in the other order
no_exponent : (o : Option (ℕ × ℕ)) (f : ℕ × ℕ → ℤ → ℕ) → option_and_then (λ m. option_map (λ e. f m e) None) o ≡ None
no_exponent None f = refl
no_exponent (Some m) f = refl

one_exponent : (o : Option (ℕ × ℕ)) (f : ℕ × ℕ → ℤ → ℕ) (e : ℤ) → option_and_then (λ m. option_map (λ e. f m e) (Some e)) o ≡ option_map (λ m. f m e) o
one_exponent None f e = refl
one_exponent (Some m) f e = refl

decimal_by : List ℕ → Option ℤ → Option ℕ
decimal_by front exponent = option_and_then (λ m. option_map (λ e. scaled m.0 ((e -ℤ pos m.1) +ℤ pos 3)) exponent) (mantissa_of front)

pub decimal_with : (text : List ℕ) (i : ℕ) (e : ℤ) → Some i ≡ position is_exponent_letter text → Some e ≡ exponent_of (take (length text - (i + 1)) (drop (i + 1) text)) → decimal_thousandths text ≡ scaled_mantissa (take i text) e
unfolding decimal_by
decimal_with text i e at some =
    let place = (found_at is_exponent_letter text i at).0 in
    let any = any_at is_exponent_letter text i at in
    ap (λ b. decimal_by (before_first is_exponent_letter text) (cond b (exponent_of (after_first is_exponent_letter text)) (Some (pos 0)))) any
    ∙ ap (λ n. decimal_by (take n text) (exponent_of (drop (n + 1) text))) place
    ∙ ap (decimal_by (take i text)) (ap exponent_of (sym (take_rest text (i + 1))) ∙ sym some)
    ∙ one_exponent (mantissa_of (take i text)) (λ m e. scaled m.0 ((e -ℤ pos m.1) +ℤ pos 3)) e

pub decimal_amiss : (text : List ℕ) (i : ℕ) → Some i ≡ position is_exponent_letter text → ◌≡◌ {A = Option ℤ} None (exponent_of (take (length text - (i + 1)) (drop (i + 1) text))) → decimal_thousandths text ≡ None
unfolding decimal_by
decimal_amiss text i at none =
    let place = (found_at is_exponent_letter text i at).0 in
    let any = any_at is_exponent_letter text i at in
    ap (λ b. decimal_by (before_first is_exponent_letter text) (cond b (exponent_of (after_first is_exponent_letter text)) (Some (pos 0)))) any
    ∙ ap (λ n. decimal_by (take n text) (exponent_of (drop (n + 1) text))) place
    ∙ ap (decimal_by (take i text)) (ap exponent_of (sym (take_rest text (i + 1))) ∙ sym none)
    ∙ no_exponent (mantissa_of (take i text)) (λ m e. scaled m.0 ((e -ℤ pos m.1) +ℤ pos 3))

pub decimal_without : (text : List ℕ) → ◌≡◌ {A = Option ℕ} None (position is_exponent_letter text) → decimal_thousandths text ≡ scaled_mantissa text (pos 0)
unfolding decimal_by
decimal_without text nowhere =
    let place = found_nowhere is_exponent_letter text nowhere in
    let any = any_nowhere is_exponent_letter text nowhere in
    ap (λ b. decimal_by (before_first is_exponent_letter text) (cond b (exponent_of (after_first is_exponent_letter text)) (Some (pos 0)))) any
    ∙ ap (λ n. decimal_by (take n text) (Some (pos 0))) place
    ∙ ap (λ front. decimal_by front (Some (pos 0))) (take_all (length text) text (omega arith))
    ∙ one_exponent (mantissa_of text) (λ m e. scaled m.0 ((e -ℤ pos m.1) +ℤ pos 3)) (pos 0)
