-- Sets of signs, as lists. Whether two are disjoint, or one contains the other, is computed.
use Rattle.std.proofs.Common.{◌≡◌, ℕ, Bool, true, false, not, ◌||◌, ◌&&◌, ◌==◌, cond, ◌⊎◌, inl, inr, List, [], ◌∷◌, ◌++◌, map, refl, sym, ◌∙◌, ap}
use Rattle.std.proofs.lemmas.Bool.{or_cases, or_left, or_right, and_parts, not-true, both_ways, eqb-true}
use Rattle.std.proofs.lemmas.List.Folds.{list_any-append}
use Rattle.rapid_forms.specs.declared.sign.Sign.{Sign}
use Rattle.rapid_forms.specs.Signs.{has, code}

abbrev pub listed : List ℕ → ℕ → Bool
listed [] k = false
listed (c ∷ cs) k = (c == k) || listed cs k

abbrev pub none_listed : List ℕ → List ℕ → Bool
none_listed [] ds = true
none_listed (c ∷ cs) ds = not (listed ds c) && none_listed cs ds

abbrev pub all_listed : List ℕ → List ℕ → Bool
all_listed [] ds = true
all_listed (c ∷ cs) ds = listed ds c && all_listed cs ds

-- no sign is in both sets
abbrev pub apart : List Sign → List Sign → Bool
apart xs ys = none_listed (map code xs) (map code ys)

-- the second set contains the first
abbrev pub covered : List Sign → List Sign → Bool
covered xs ys = all_listed (map code xs) (map code ys)

-- a set, but empty unless a condition holds
abbrev pub when : Bool → List Sign → List Sign
when b xs = cond b xs []

none_twice : (cs ds : List ℕ) (k : ℕ) → none_listed cs ds ≡ true → listed cs k ≡ true → listed ds k ≡ true → ⊥
none_twice [] ds k e h h' = cc
none_twice (c ∷ cs) ds k e h h' =
    let both = and_parts (not (listed ds c)) (none_listed cs ds) e in
    elim (or_cases (c == k) (listed cs k) h) [
      | inl p ↦ both_ways (listed ds c) (not-true _ both.0) (ap (listed ds) (eqb-true c k p) ∙ h')
      | inr p ↦ none_twice cs ds k both.1 p h'
    ]

all_there : (cs ds : List ℕ) (k : ℕ) → all_listed cs ds ≡ true → listed cs k ≡ true → listed ds k ≡ true
all_there [] ds k e h = cc
all_there (c ∷ cs) ds k e h =
    let both = and_parts (listed ds c) (all_listed cs ds) e in
    elim (or_cases (c == k) (listed cs k) h) [
      | inl p ↦ sym (ap (listed ds) (eqb-true c k p)) ∙ both.0
      | inr p ↦ all_there cs ds k both.1 p
    ]

has_listed : (xs : List Sign) (s : Sign) → has xs s ≡ listed (map code xs) (code s)
unfolding has
has_listed [] s = refl
has_listed (x ∷ xs) s = ap (λ b. (code x == code s) || b) (has_listed xs s)

pub has_apart : (xs ys : List Sign) (s : Sign) → apart xs ys ≡ true → has xs s ≡ true → has ys s ≡ true → ⊥
has_apart xs ys s e h h' = none_twice _ _ (code s) e (sym (has_listed xs s) ∙ h) (sym (has_listed ys s) ∙ h')

pub has_covered : (xs ys : List Sign) (s : Sign) → covered xs ys ≡ true → has xs s ≡ true → has ys s ≡ true
has_covered xs ys s e h = has_listed ys s ∙ all_there _ _ (code s) e (sym (has_listed xs s) ∙ h)

has_append : (xs ys : List Sign) (s : Sign) → has (xs ++ ys) s ≡ (has xs s || has ys s)
unfolding has
has_append xs ys s = list_any-append (λ x. code x == code s) xs ys

pub has_left : (xs ys : List Sign) (s : Sign) → has xs s ≡ true → has (xs ++ ys) s ≡ true
has_left xs ys s h = has_append xs ys s ∙ or_left _ _ h

pub has_right : (xs ys : List Sign) (s : Sign) → has ys s ≡ true → has (xs ++ ys) s ≡ true
has_right xs ys s h = has_append xs ys s ∙ or_right _ _ h

pub has_cases : (xs ys : List Sign) (s : Sign) → has (xs ++ ys) s ≡ true → (has xs s ≡ true) ⊎ (has ys s ≡ true)
has_cases xs ys s h = or_cases _ _ (sym (has_append xs ys s) ∙ h)

-- a set after another, under a condition that holds
pub has_when : (b : Bool) (xs ys : List Sign) (s : Sign) → b ≡ true → has ys s ≡ true → has (xs ++ when b ys) s ≡ true
has_when true xs ys s e h = has_right xs ys s h
has_when false xs ys s e h = cc
