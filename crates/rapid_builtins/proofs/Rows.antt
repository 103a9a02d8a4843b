-- In a table whose names differ, each row is found by its name.
use Rattle.std.proofs.Common.{◌≡◌, ℕ, zero, suc, ◌<◌, true, false, not, List, [], ◌∷◌, length, get_or, Some, refl, sym, ap, subst, ◌∙◌, arith}
use Rattle.std.specs.List.{Contains}
use Rattle.std.specs.Str.{str_eq_ignore_ascii_case, str_to_ascii_lowercase}
use Rattle.std.proofs.lemmas.Bool.{and_parts, not-true, or_parts}
use Rattle.std.proofs.lemmas.Slice.Eq.{bytes_eq-Decides}
use Rattle.rapid_model.specs.Names.{is_among, differ}
use Rattle.rapid_builtins.specs.Names.{meant_by, names_of}

same_name : (name : List ℕ) → str_eq_ignore_ascii_case name name ≡ true
same_name name = (bytes_eq-Decides (str_to_ascii_lowercase name) (str_to_ascii_lowercase name)).1 refl

-- a name that is not in a table is not the name of its row k
other_name : {A : Type 0} (rows : List (List ℕ × A)) (name : List ℕ) (k : ℕ) (row : List ℕ × A) → is_among name (names_of rows) ≡ false → k < length rows → get_or rows k row ≡ row → str_eq_ignore_ascii_case name row.0 ≡ false
other_name [] name k row none lt is = absurd (omega arith)
other_name (r ∷ rows) name zero row none lt is = ap (λ x. str_eq_ignore_ascii_case name x.0) (sym is) ∙ (or_parts _ _ none).0
other_name (r ∷ rows) name (suc k) row none lt is = other_name rows name k row (or_parts _ _ none).1 (omega arith) is

found_at : {A : Type 0} (rows : List (List ℕ × A)) (k : ℕ) (row : List ℕ × A) → differ (names_of rows) ≡ true → k < length rows → get_or rows k row ≡ row → meant_by row.0 rows ≡ Some row.1
found_at [] k row apart lt is = absurd (omega arith)
found_at (r ∷ rows) zero row apart lt is = subst (λ x. meant_by x.0 (r ∷ rows) ≡ Some x.1) is (rw (same_name r.0) refl)
found_at (r ∷ rows) (suc k) row apart lt is =
    let parts = and_parts (not (is_among r.0 (names_of rows))) (differ (names_of rows)) apart in
    rw (other_name rows r.0 k row (not-true _ parts.0) (omega arith) is) (found_at rows k row parts.1 (omega arith) is)

pub row_found : {A : Type 0} (rows : List (List ℕ × A)) (name : List ℕ) (x : A) → differ (names_of rows) ≡ true → Contains rows (name, x) → meant_by name rows ≡ Some x
row_found rows name x apart h = found_at rows h.0 (name, x) apart h.1 h.2
