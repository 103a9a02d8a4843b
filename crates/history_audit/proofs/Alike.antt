-- Lists that are compared element by element.
use Rattle.std.proofs.Common.{◌≡◌, ◌≤◌, ℕ, List, length, take, ap, sym, ◌∙◌}
use Rattle.std.proofs.lemmas.List.{take_all}

-- equal first elements, which are all
pub all_alike : {A : Type 0} (xs ys : List A) (k : ℕ) → take k xs ≡ take k ys → length xs ≤ k → length ys ≤ k → xs ≡ ys
all_alike xs ys k same short less = sym (take_all k xs short) ∙ same ∙ take_all k ys less
