-- Two splits of the same list.
use Rattle.std.proofs.Common.{◌≡◌, refl, sym, ◌∙◌, ap, ◌⊎◌, inl, inr, List, [], ◌∷◌, ◌++◌}
use Rattle.std.proofs.lemmas.List.{append_assoc}

-- the splits are equal, or one front is the other extended by x ∷ m
pub data Cut {A : Type 0} (u v u' v' : List A) : Type 0 where
  Even : u ≡ u' → v ≡ v' → Cut u v u' v'
  Shorter : (x : A) (m : List A) → u' ≡ u ++ x ∷ m → v ≡ x ∷ m ++ v' → Cut u v u' v'
  Longer : (x : A) (m : List A) → u ≡ u' ++ x ∷ m → v' ≡ x ∷ m ++ v → Cut u v u' v'

pub cuts : {A : Type 0} (u v u' v' : List A) → u ++ v ≡ u' ++ v' → Cut u v u' v'
cuts [] v [] v' e = Even refl e
cuts [] v (x ∷ u') v' e = Shorter x u' refl e
cuts (x ∷ u) v [] v' e = Longer x u refl (sym e)
cuts (x ∷ u) v (x' ∷ u') v' e =
    let h : x ≡ x' = cc in
    elim (cuts u v u' v' (cc)) [ Even p q ↦ Even (cc) q | Shorter y m p q ↦ Shorter y m (cc) q | Longer y m p q ↦ Longer y m (cc) q ]

-- a split of the empty list
pub both_empty : {A : Type 0} (u v : List A) → [] ≡ u ++ v → (u ≡ []) × (v ≡ [])
both_empty [] v e = (refl, sym e)
both_empty (x ∷ u) v e = cc

-- a split of a nonempty list: its head is that of the front, or the front is empty
pub heads : {A : Type 0} (x : A) (xs u v : List A) → x ∷ xs ≡ u ++ v
    → ((m : List A) × (u ≡ x ∷ m) × (xs ≡ m ++ v)) ⊎ ((u ≡ []) × (v ≡ x ∷ xs))
heads x xs [] v e = inr (refl, sym e)
heads x xs (y ∷ u) v e = inl (u, cc, cc)

-- what follows a split list follows its second part
pub behind : {A : Type 0} (ts u v w : List A) → ts ≡ u ++ v → ts ++ w ≡ u ++ (v ++ w)
behind ts u v w e = ap (λ l. l ++ w) e ∙ append_assoc u v w

pub no_middle : {A : Type 0} (u : List A) (x : A) (v : List A) → u ++ x ∷ v ≡ [] → ⊥
no_middle [] x v e = cc
no_middle (y ∷ u) x v e = cc

-- a split with an empty front
pub no_front : {A : Type 0} (ts u v : List A) → ts ≡ u ++ v → u ≡ [] → ts ≡ v
no_front ts u v p q = p ∙ ap (λ l. l ++ v) q

-- a split of the second part is a split of the whole
pub ahead : {A : Type 0} (u v u' v' : List A) → v ≡ u' ++ v' → u ++ v ≡ (u ++ u') ++ v'
ahead u v u' v' e = ap (λ l. u ++ l) e ∙ sym (append_assoc u u' v')
