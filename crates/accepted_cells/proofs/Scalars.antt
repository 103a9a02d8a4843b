-- The CONSTs among a routine's data that are not arrays.
use Rattle.std.proofs.Common.{◌≡◌, ℕ, ◌+◌, Bool, true, false, not, ◌&&◌, List, [], ◌∷◌, ◌++◌, length, Option, Some, None, is_some, is_none, slice_get, refl, ap, ◌∙◌, if◌then◌else◌, arith}
use Rattle.std.proofs.lemmas.Bool.{and_parts, not-true}
use Rattle.rapid_model.specs.Truths.{one_if}
use Rattle.raw_trees.specs.Plain.{PlainDatum, PlainExpr}
use Rattle.data_scopes.specs.declared.data_row.DatumRow.{DatumRow}
use Rattle.data_scopes.specs.declared.data_row.Since.{Since}
use Rattle.data_scopes.specs.Numbers.{is_const, is_scalar_const}
use Rattle.data_scopes.specs.Rows.{scalar_rows, since_of, value_at}

-- a row is that of a CONST that is not an array
abbrev pub is_scalar : DatumRow → Bool
is_scalar row = is_some row.since && not row.array

some_if : (const : Bool) (since : Since) (len : Option PlainExpr) → (is_some (if const then Some since else None) && not (is_some len)) ≡ (const && is_none len)
some_if true since None = refl
some_if true since (Some e) = refl
some_if false since len = refl

pub row_scalar : (number : ℕ) (d : PlainDatum) (row : DatumRow) → row.array ≡ is_some d.len → row.since ≡ since_of number d → is_scalar row ≡ is_scalar_const d
row_scalar number d row array since =
    ap (λ (o : Option Since). is_some o && not row.array) since
    ∙ ap (λ (b : Bool). is_some (since_of number d) && not b) array
    ∙ some_if (is_const d.kind) (record { «module» = number; at = value_at d.name d.first }) d.len

-- one more row counts if it is one
count_if : (since array : Bool) (row : DatumRow) (xs ys : List DatumRow) (n : ℕ) → length ys ≡ length xs + n
    → length (if since then (if array then ys else row ∷ ys) else ys) ≡ length (if since then (if array then xs else row ∷ xs) else xs) + n
count_if true true row xs ys n e = e
count_if true false row xs ys n e = omega (arith, e)
count_if false array row xs ys n e = e

last_count : (since array : Bool) (row : DatumRow) → length (if since then (if array then [] else row ∷ []) else []) ≡ one_if (since && not array)
last_count true true row = refl
last_count true false row = refl
last_count false array row = refl

pub scalars_more : (before : List DatumRow) (row : DatumRow) → length (scalar_rows (before ++ row ∷ [])) ≡ length (scalar_rows before) + one_if (is_scalar row)
scalars_more [] row = let e = last_count (is_some row.since) row.array row in omega (arith, e)
scalars_more (r ∷ before) row = count_if (is_some r.since) r.array r (scalar_rows before) (scalar_rows (before ++ row ∷ [])) (one_if (is_scalar row)) (scalars_more before row)

-- the row's place among these is the count of those before it
at_if : (since array : Bool) (row r : DatumRow) (xs ys : List DatumRow) → slice_get ys (length xs) ≡ Some row
    → slice_get (if since then (if array then ys else r ∷ ys) else ys) (length (if since then (if array then xs else r ∷ xs) else xs)) ≡ Some row
at_if true true row r xs ys e = e
at_if true false row r xs ys e = e
at_if false array row r xs ys e = e

first_there : (since array : Bool) (row : DatumRow) (ys : List DatumRow) → since ≡ true → array ≡ false → slice_get (if since then (if array then ys else row ∷ ys) else ys) 0 ≡ Some row
first_there true true row ys s a = absurd cc
first_there true false row ys s a = refl
first_there false array row ys s a = absurd cc

pub scalar_there : (before later : List DatumRow) (row : DatumRow) → is_scalar row ≡ true → slice_get (scalar_rows (before ++ row ∷ later)) (length (scalar_rows before)) ≡ Some row
scalar_there [] later row is =
    let parts = and_parts (is_some row.since) (not row.array) is in
    first_there (is_some row.since) row.array row (scalar_rows later) parts.0 (not-true row.array parts.1)
scalar_there (r ∷ before) later row is = at_if (is_some r.since) r.array row r (scalar_rows before) (scalar_rows (before ++ row ∷ later)) (scalar_there before later row is)
