-- Lists that grow, and lists that are written to.
use Rattle.std.proofs.Common.{◌≡◌, ℕ, zero, suc, List, [], ◌∷◌, ◌++◌, get_or, set, refl, ap, sym, ◌∙◌, subst, append_assoc}
use Rattle.std.proofs.lemmas.List.{append-nil}

-- what holds of the empty list, and of one more element whenever it held before, holds of the whole list
pub from_front : {A : Type 0} (P : List A → Type 0) (xs : List A) → P [] → ((before after : List A) (e : A) → xs ≡ before ++ e ∷ after → P before → P (before ++ e ∷ [])) → P xs
from_front {A = A} P xs none more = go [] xs refl none
  where
    go : (before rest : List A) → xs ≡ before ++ rest → P before → P xs
    go before [] is p = subst P (sym (is ∙ append-nil before)) p
    go before (e ∷ rest) is p = go (before ++ e ∷ []) rest (is ∙ sym (append_assoc before (e ∷ []) rest)) (more before rest e is p)

-- what holds of an element, and of the written one if that is the same element, holds of it after the write
pub written_keeps : {A : Type 0} (P : A → Type 0) (xs : List A) (i j : ℕ) (a d : A) → P (get_or xs j d) → (j ≡ i → P a) → P (get_or (set xs i a) j d)
written_keeps P [] i j a d old new = old
written_keeps P (x ∷ xs) zero zero a d old new = new refl
written_keeps P (x ∷ xs) zero (suc j) a d old new = old
written_keeps P (x ∷ xs) (suc i) zero a d old new = old
written_keeps P (x ∷ xs) (suc i) (suc j) a d old new = written_keeps P xs i j a d old (λ e. new (ap suc e))
