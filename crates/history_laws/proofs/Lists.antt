-- What holds of each element of a list.
use Rattle.std.proofs.Common.{◌≡◌, Bool, true, false, cond, List, [], ◌∷◌, ◌++◌, sym, ◌∙◌, append_assoc}
use Rattle.std.specs.List.{AllByRecursion, filter}

-- of each element, if at each cut
pub from_cuts : {A : Type 0} (P : A → Type 0) (all front rest : List A) → all ≡ front ++ rest → ((before after : List A) (x : A) → all ≡ before ++ x ∷ after → P x) → AllByRecursion P rest
from_cuts P all front [] is at = tt
from_cuts P all front (x ∷ rest) is at = (at front rest x is, from_cuts P all (front ++ x ∷ []) rest (is ∙ sym (append_assoc front (x ∷ []) rest)) at)

pub both_all : {A : Type 0} (P Q : A → Type 0) (xs : List A) → AllByRecursion P xs → AllByRecursion Q xs → AllByRecursion (λ x. P x × Q x) xs
both_all P Q [] p q = tt
both_all P Q (x ∷ xs) p q = ((p.0, q.0), both_all P Q xs p.1 q.1)

pub filter_all : {A : Type 0} (P : A → Type 0) (test : A → Bool) (xs : List A) → AllByRecursion P xs → AllByRecursion P (filter test xs)
filter_all P test [] all = tt
filter_all {A = A} P test (x ∷ xs) all = by (test x) (filter_all P test xs all.1)
  where
    by : (b : Bool) → AllByRecursion P (filter test xs) → AllByRecursion P (cond b (x ∷ filter test xs) (filter test xs))
    by true more = (all.0, more)
    by false more = more
