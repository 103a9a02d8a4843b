-- The list at an index of a Vec of lists.
use Rattle.std.proofs.Common.{◌≡◌, ℕ, zero, suc, ◌<◌, ◌≤◌, List, [], ◌∷◌, length, get_or, refl, ap, sym, arith}
use Rattle.std.specs.declared.alloc.Global.{Global}
use Rattle.std.specs.declared.vec.Vec.{Vec}
use Rattle.data_scopes.specs.Scopes.{Loop, list_at, loop_rows}

pub list_at-there : {A : Type 0} (lists : List (List A)) (n : ℕ) (list : List A) → n < length lists → list ≡ get_or lists n list → list_at lists n ≡ list
list_at-there [] n list within is = absurd (omega arith)
list_at-there (xs ∷ more) zero list within is = sym is
list_at-there (xs ∷ more) (suc n) list within is = list_at-there more n list (omega arith) is

pub list_at-past : {A : Type 0} (lists : List (List A)) (n : ℕ) → length lists ≤ n → list_at lists n ≡ []
list_at-past [] n past = refl
list_at-past (xs ∷ more) zero past = absurd (omega arith)
list_at-past (xs ∷ more) (suc n) past = list_at-past more n (omega arith)

pub rows_at-there : (lists : List (Vec Loop Global)) (n : ℕ) (rows : Vec Loop Global) → n < length lists → rows ≡ get_or lists n rows → list_at (loop_rows lists) n ≡ rows.items
rows_at-there [] n rows within is = absurd (omega arith)
rows_at-there (xs ∷ more) zero rows within is = ap (λ v. v.items) (sym is)
rows_at-there (xs ∷ more) (suc n) rows within is = rows_at-there more n rows (omega arith) is

pub rows_at-past : (lists : List (Vec Loop Global)) (n : ℕ) → length lists ≤ n → list_at (loop_rows lists) n ≡ []
rows_at-past [] n past = refl
rows_at-past (xs ∷ more) zero past = absurd (omega arith)
rows_at-past (xs ∷ more) (suc n) past = rows_at-past more n (omega arith)
