-- Rows that are read one after another.
use Rattle.std.proofs.Common.{◌≡◌, ℕ, ◌+◌, ◌≤◌, Bool, true, ◌&&◌, nat_le, List, [], ◌∷◌, ◌++◌, length, map, Ok, Err, refl, ap, ◌∙◌, arith}
use Rattle.std.specs.List.{list_all}
use Rattle.std.proofs.lemmas.Bool.{and_parts, and_from, leb-true}
use Rattle.std.proofs.lemmas.List.{map-append, length-append}
use Rattle.std.proofs.lemmas.List.Folds.{list_all-append}
use Rattle.toml.specs.Data.{Data, as_array}
use Rattle.rapid_model.specs.Names.{differ}
use Rattle.rapid_model.specs.Limits.{is_within}
use Rattle.rapid_model.specs.declared.script_rule.ScriptRule.TheVariants.{Kind, Range}
use Rattle.rule_checks.specs.Checks.{◌>>◌, must, found_or}
use Rattle.cell_script.specs.Break.{Read, at_key}
use Rattle.cell_script.specs.Keys.{items_list, rows_at, each_row}
use Rattle.cell_script.specs.Parts.{rows_in}
use Rattle.rule_checks.proofs.Keeps.{Keeps, Keeps-then, Keeps-any, Keeps-must}
use Rattle.cell_script.proofs.KeepsNames.{IsNew, differ_more}

abbrev pub IsAt : {A : Type 0} → (A → Bool) → A → Type 0
IsAt test x = test x ≡ true

-- each row satisfies this, and there are as many as elements
pub record Rows {A : Type 0} (test : A → Bool) (count : ℕ) (rows : List A) : Type 0 where
  pub each : list_all test rows ≡ true
  pub count_is : length rows ≡ count

pub each_keeps : {A : Type 0} (test : A → Bool) (read : List A → Data → Read A) (before : List A) (ds : List Data) → ((b : List A) (d : Data) → Keeps (IsAt test) (read b d)) → list_all test before ≡ true
    → Keeps (Rows test (length before + length ds)) (each_row read before ds)
each_keeps test read before [] row so_far = record { each = so_far; count_is = omega arith }
each_keeps {A} test read before (d ∷ ds) row so_far =
    let count : ℕ = length before + length (d ∷ ds) in
    Keeps-then (IsAt test) (Rows test count) (read before d) (λ x. each_row read (before ++ (x ∷ [])) ds) (row before d) (λ x is.
    let all : list_all test (before ++ (x ∷ [])) ≡ true = list_all-append test before (x ∷ []) ∙ and_from (list_all test before) (test x && true) so_far (and_from (test x) true is refl) in
    let same : length (before ++ (x ∷ [])) + length ds ≡ count = omega (arith, length-append before (x ∷ [])) in
    rw same at (each_keeps test read (before ++ (x ∷ [])) ds row all))

pub each_differs : {A : Type 0} (name : A → List ℕ) (read : List A → Data → Read A) (before : List A) (ds : List Data) → ((b : List A) (d : Data) → Keeps (λ x. IsNew (map name b) (name x)) (read b d)) → differ (map name before) ≡ true
    → Keeps (λ xs. differ (map name xs) ≡ true) (each_row read before ds)
each_differs name read before [] row so_far = so_far
each_differs {A} name read before (d ∷ ds) row so_far =
    let P : A → Type 0 = λ x. IsNew (map name before) (name x) in
    let Q : List A → Type 0 = λ xs. differ (map name xs) ≡ true in
    Keeps-then P Q (read before d) (λ x. each_row read (before ++ (x ∷ [])) ds) (row before d) (λ x new.
    each_differs name read (before ++ (x ∷ [])) ds row (ap differ (map-append name before (x ∷ [])) ∙ differ_more (map name before) (name x) so_far new))

-- the rows of an array of bounded length
pub record SoMany {A : Type 0} (test : A → Bool) (low high : ℕ) (rows : List A) : Type 0 where
  pub each : list_all test rows ≡ true
  pub at_least : low ≤ length rows
  pub at_most : length rows ≤ high

pub rows_keep : {A : Type 0} (test : A → Bool) (key : List ℕ) (low high : ℕ) (read : List A → Data → Read A) (d : Data) → ((b : List A) (e : Data) → Keeps (IsAt test) (read b e)) → Keeps (SoMany test low high) (rows_in key low high read d)
rows_keep {A} test key low high read d row =
    let P : List Data → Type 0 = λ ds. is_within low high (length ds) ≡ true in
    let within : Keeps P (rows_at key low high d) =
    Keeps-any P (found_or (as_array d) (at_key key Kind)) (λ items. must (is_within low high (length (items_list items))) (at_key key Range) >> Ok (items_list items)) (λ items.
    Keeps-must P (is_within low high (length (items_list items))) (at_key key Range) (Ok (items_list items)) (λ e. e)) in
    Keeps-then P (SoMany test low high) (rows_at key low high d) (each_row read []) within (λ ds e.
    let parts = and_parts (nat_le low (length ds)) (nat_le (length ds) high) e in
    so_many ds (leb-true _ _ parts.0) (leb-true _ _ parts.1) (each_row read [] ds) (each_keeps test read [] ds row refl))
  where
    so_many : (ds : List Data) → low ≤ length ds → length ds ≤ high → (r : Read (List A)) → Keeps (Rows test (length {A = A} [] + length ds)) r → Keeps (SoMany test low high) r
    so_many ds at_least at_most (Ok xs) rows = record { each = rows.each; at_least = omega (arith, rows.count_is); at_most = omega (arith, rows.count_is) }
    so_many ds at_least at_most (Err b) rows = tt

pub rows_differ : {A : Type 0} (name : A → List ℕ) (key : List ℕ) (low high : ℕ) (read : List A → Data → Read A) (d : Data) → ((b : List A) (e : Data) → Keeps (λ x. IsNew (map name b) (name x)) (read b e))
    → Keeps (λ xs. differ (map name xs) ≡ true) (rows_in key low high read d)
rows_differ {A} name key low high read d row =
    let Q : List A → Type 0 = λ xs. differ (map name xs) ≡ true in
    Keeps-any Q (rows_at key low high d) (each_row read []) (λ ds. each_differs name read [] ds row refl)
