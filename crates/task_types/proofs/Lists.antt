-- The rows of data that are left.
use Rattle.std.proofs.Common.{◌≡◌, ℕ, zero, suc, List, [], ◌∷◌, ◌++◌, drop, length, map, refl, ap, ◌∙◌, length-append, arith}
use Rattle.std.proofs.lemmas.List.{drop-drop, length-map}
use Rattle.data_scopes.specs.Scopes.{list_at}

list_at-drop : {A : Type 0} (n : ℕ) (lists : List (List A)) → list_at (drop n lists) 0 ≡ list_at lists n
list_at-drop zero lists = refl
list_at-drop (suc n) [] = refl
list_at-drop (suc n) (list ∷ lists) = list_at-drop n lists

-- the first list that is left after so many is the one with that number
pub first_left : {A X Y : Type 0} (lists left : List (List A)) (taken : List A) (f : X → Y) (done : List X) (number : ℕ) → left ≡ drop (length (map f done)) lists → taken ≡ list_at left 0 → number ≡ length done → taken ≡ list_at lists number
first_left lists left taken f done number is first same =
    first ∙ ap (λ xs. list_at xs 0) is ∙ list_at-drop (length (map f done)) lists ∙ ap (list_at lists) (omega (arith, same, length-map done f))

-- the one after the first, and what is left then
pub rest_left : {A X Y : Type 0} (lists left rest : List (List A)) (f : X → Y) (done more : List X) (x : X) → left ≡ drop (length (map f done)) lists → rest ≡ drop 1 left → more ≡ done ++ x ∷ [] → rest ≡ drop (length (map f more)) lists
rest_left lists left rest f done more x is one behind =
    one ∙ ap (drop 1) is ∙ drop-drop 1 (length (map f done)) lists ∙ ap (λ k. drop k lists) (omega (arith, ap length behind, length-append done (x ∷ []), length-map done f, length-map more f))
