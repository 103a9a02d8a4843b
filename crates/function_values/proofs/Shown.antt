-- A size with a point before its decimals.
use Rattle.std.proofs.Common.{◌≡◌, ℕ, ◌+◌, ◌/◌, ◌%◌, List, [], ◌∷◌, ◌++◌, refl, sym, ap, ◌∙◌, arith, decimal}
use Rattle.std.proofs.lemmas.List.{append_assoc}
use Rattle.rapid_meaning.specs.Functions.{last_digits, size_text}

behind : (xs ys zs : List ℕ) (point : ℕ) → ((xs ++ ys) ++ point ∷ []) ++ zs ≡ xs ++ (ys ++ point ∷ zs)
behind xs ys zs point = append_assoc (xs ++ ys) (point ∷ []) zs ∙ append_assoc xs ys (point ∷ zs)

pub shown_one : (text : List ℕ) (size : ℕ) → ((text ++ decimal (size / 10)) ++ 46 ∷ []) ++ (48 + size % 10) ∷ [] ≡ text ++ size_text 1 size
unfolding last_digits
shown_one text size =
    let digit : size % 10 % 10 ≡ size % 10 = omega arith in
    behind text (decimal (size / 10)) ((48 + size % 10) ∷ []) 46 ∙ ap (λ d. text ++ (decimal (size / 10) ++ 46 ∷ (48 + d) ∷ [])) (sym digit)

pub shown_two : (text : List ℕ) (size : ℕ) → (((text ++ decimal (size / 100)) ++ 46 ∷ []) ++ (48 + size % 100 / 10 % 10) ∷ []) ++ (48 + size % 100 % 10) ∷ [] ≡ text ++ size_text 2 size
unfolding last_digits
shown_two text size =
    append_assoc ((text ++ decimal (size / 100)) ++ 46 ∷ []) ((48 + size % 100 / 10 % 10) ∷ []) ((48 + size % 100 % 10) ∷ [])
    ∙ behind text (decimal (size / 100)) ((48 + size % 100 / 10 % 10) ∷ (48 + size % 100 % 10) ∷ []) 46

pub shown_three : (text : List ℕ) (size : ℕ)
    → ((((text ++ decimal (size / 1_000)) ++ 46 ∷ []) ++ (48 + size % 1_000 / 10 / 10 % 10) ∷ []) ++ (48 + size % 1_000 / 10 % 10) ∷ []) ++ (48 + size % 1_000 % 10) ∷ []
    ≡ text ++ size_text 3 size
unfolding last_digits
shown_three text size =
    append_assoc (((text ++ decimal (size / 1_000)) ++ 46 ∷ []) ++ (48 + size % 1_000 / 10 / 10 % 10) ∷ []) ((48 + size % 1_000 / 10 % 10) ∷ []) ((48 + size % 1_000 % 10) ∷ [])
    ∙ append_assoc ((text ++ decimal (size / 1_000)) ++ 46 ∷ []) ((48 + size % 1_000 / 10 / 10 % 10) ∷ []) ((48 + size % 1_000 / 10 % 10) ∷ (48 + size % 1_000 % 10) ∷ [])
    ∙ behind text (decimal (size / 1_000)) ((48 + size % 1_000 / 10 / 10 % 10) ∷ (48 + size % 1_000 / 10 % 10) ∷ (48 + size % 1_000 % 10) ∷ []) 46
