-- A test that each element of a list passes.
use Rattle.std.proofs.Common.{◌≡◌, Bool, true, ◌&&◌, List, [], ◌∷◌, ◌++◌, refl, ◌∙◌}
use Rattle.std.specs.List.{list_all}
use Rattle.std.proofs.lemmas.Bool.{and_from}
use Rattle.std.proofs.lemmas.List.Folds.{list_all-append}

pub all_more : {A : Type 0} (p : A → Bool) (front : List A) (x : A) → list_all p front ≡ true → p x ≡ true → list_all p (front ++ x ∷ []) ≡ true
all_more p front x all is = list_all-append p front (x ∷ []) ∙ and_from (list_all p front) (p x && true) all (and_from (p x) true is refl)
