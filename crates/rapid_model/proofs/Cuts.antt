-- Splitting a list at an element.
use Rattle.std.proofs.Common.{◌≡◌, Bool, true, false, cond, List, [], ◌∷◌, ◌++◌, refl, ap, inl, inr, ◌⊎◌, sym, ◌∙◌, subst, append_assoc}

-- if a list whose last element is x is split at e, then e is that x or comes before it
pub last_or_before : {A : Type 0} (xs before after : List A) (x e : A) → xs ++ x ∷ [] ≡ before ++ e ∷ after
    → ((before ≡ xs) × (e ≡ x)) ⊎ ((rest : List A) × (xs ≡ before ++ e ∷ rest))
last_or_before [] [] after x e p = let q : x ≡ e = cc in inl (refl, sym q)
last_or_before [] (b ∷ []) after x e p = let q : [] ≡ e ∷ after = cc in cc
last_or_before [] (b ∷ c ∷ before) after x e p = let q : [] ≡ c ∷ (before ++ e ∷ after) = cc in cc
last_or_before (y ∷ xs) [] after x e p = let q : y ≡ e = cc in inr (xs, ap (λ z. z ∷ xs) q)
last_or_before (y ∷ xs) (b ∷ before) after x e p =
    let q : y ≡ b = cc in
    let r : xs ++ x ∷ [] ≡ before ++ e ∷ after = cc in
    elim (last_or_before xs before after x e r) [
      | inl w ↦ let s : b ∷ before ≡ y ∷ xs = cc in inl (s, w.1)
      | inr w ↦ let s : y ∷ xs ≡ b ∷ (before ++ e ∷ w.0) = cc in inr (w.0, s)
    ]

-- the property holds at each split of the list, of the elements before and the element there
abbrev pub AtEachCut : {A : Type 0} → (List A → A → Type 0) → List A → Type 0
AtEachCut {A} P xs = (before after : List A) (e : A) → xs ≡ before ++ e ∷ after → P before e

pub cut_none : {A : Type 0} (P : List A → A → Type 0) → AtEachCut P []
cut_none P [] after e p = cc
cut_none P (b ∷ before) after e p = cc

pub cut_more : {A : Type 0} (P : List A → A → Type 0) (xs : List A) (x : A) → AtEachCut P xs → P xs x → AtEachCut P (xs ++ x ∷ [])
cut_more P xs x all last before after e p =
    elim (last_or_before xs before after x e p) [
      | inl w ↦ subst (λ ys. P ys e) (sym w.0) (subst (λ y. P xs y) (sym w.1) last)
      | inr w ↦ all before w.0 e w.1
    ]

-- each split of the elements before a split has the property too
pub cut_before : {A : Type 0} (P : List A → A → Type 0) (xs front back : List A) → xs ≡ front ++ back → AtEachCut P xs → AtEachCut P front
cut_before P xs front back is all before after e p =
    all before (after ++ back) e (is ∙ ap (λ ys. ys ++ back) p ∙ append_assoc before (e ∷ after) back)

-- dropping the first element, for a property of each element alone
pub cut_tail : {A : Type 0} (P : A → Type 0) (x : A) (xs : List A) → AtEachCut (λ before e. P e) (x ∷ xs) → AtEachCut (λ before e. P e) xs
cut_tail P x xs all before after e p = all (x ∷ before) after e (ap (λ ys. x ∷ ys) p)

-- it holds of the elements that a filter keeps
pub cut_if : {A : Type 0} (P : A → Type 0) (b : Bool) (x : A) (kept : List A) → P x → AtEachCut (λ before e. P e) kept → AtEachCut (λ before e. P e) (cond b (x ∷ kept) kept)
cut_if P false x kept one rest = rest
cut_if {A = A} P true x kept one rest = λ before after e p. here before after e p
  where
    here : (before after : List A) (e : A) → x ∷ kept ≡ before ++ e ∷ after → P e
    here [] after e p = let same : x ≡ e = cc in subst P same one
    here (b ∷ before) after e p = rest before after e cc
