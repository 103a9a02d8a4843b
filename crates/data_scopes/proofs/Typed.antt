-- For each CONST that is not an array, a value of its type is kept, or none.
use Rattle.std.proofs.Common.{◌≡◌, ℕ, ◌<◌, ◌≤◌, List, [], ◌∷◌, length, Option, Some, None, sym, ap, subst, ◌∙◌, replicate, zero, suc, set, slice_get, IfSome, IsTrue, length-set, Ok, arith}
use Rattle.std.proofs.lemmas.List.{length-replicate}
use Rattle.rapid_model.specs.declared.signal_row.SignalRow.{SignalRow}
use Rattle.rapid_model.specs.declared.value.Value.{Value}
use Rattle.raw_trees.specs.Plain.{PlainModule}
use Rattle.data_scopes.specs.declared.data_row.DatumRow.{DatumRow}
use Rattle.data_scopes.specs.Kept.{IsBelow, AreKept, AreOfTypes, TablesMean}
use Rattle.data_scopes.specs.Numbers.{no_counts, tables_of}
use Rattle.data_scopes.specs.Rows.{modules_rows, no_rows}
use Rattle.rapid_model.specs.Sorts.{is_value_of}
use Rattle.data_scopes.specs.Scopes.{Tables, Rows}
use Rattle.data_scopes.proofs.Rowed.{modules_rowed, none_rowed}
use Rattle.data_scopes.proofs.Within.{after_modules, tables_below}

abbrev no_values : ℕ → List (Option Value)
no_values n = replicate n None

length-no_values : (n : ℕ) → length (no_values n) ≡ n
length-no_values n = length-replicate n None

none_typed : (rows : List DatumRow) → AreOfTypes rows (replicate (length rows) None)
none_typed [] = tt
none_typed (row ∷ rows) = (tt, none_typed rows)

-- the names of the modules keep their invariant
pub names_kept : (ms : List PlainModule) (signals : List SignalRow) (tables : Tables) (rows : Rows) (count : ℕ) (kept : List (Option Value)) → tables ≡ tables_of ms signals → modules_rows tables 0 ms no_rows ≡ Ok rows → count ≡ length rows.consts → no_values count ≡ kept → AreKept tables rows.consts kept
names_kept ms signals tables rows count kept filled found counts none =
    let as_many : (after_modules no_counts ms).consts ≡ length rows.consts = (modules_rowed tables 0 no_counts ms no_rows rows found none_rowed).consts in
    let all : no_values (length rows.consts) ≡ kept = ap no_values (sym counts) ∙ none in
    let fits : (after_modules no_counts ms).consts ≤ length kept = omega (arith, as_many, ap length all, length-no_values (length rows.consts)) in
    record {
      below = subst (TablesMean (IsBelow (length kept))) (sym filled) (tables_below (length kept) ms signals fits);
      types = subst (AreOfTypes rows.consts) all (none_typed rows.consts);
    }

-- keeping a value of the right type leaves the others unchanged
kept_typed : (rows : List DatumRow) (kept : List (Option Value)) (constant : ℕ) (value : Value) → constant < length kept → IfSome (slice_get rows constant) (λ row. IsTrue (is_value_of row.sort value)) → AreOfTypes rows kept → AreOfTypes rows (set kept constant (Some value))
kept_typed [] [] constant value within typed all = absurd (omega arith)
kept_typed [] (k ∷ ks) constant value within typed all = absurd all
kept_typed (r ∷ rs) [] constant value within typed all = absurd all
kept_typed (r ∷ rs) (k ∷ ks) zero value within typed all = (typed, all.1)
kept_typed (r ∷ rs) (k ∷ ks) (suc constant) value within typed all = (all.0, kept_typed rs ks constant value (omega arith) typed all.1)

pub one_more_kept : (tables : Tables) (rows : List DatumRow) (kept more : List (Option Value)) (constant : ℕ) (value : Value) → constant < length kept → IfSome (slice_get rows constant) (λ row. IsTrue (is_value_of row.sort value)) → more ≡ set kept constant (Some value) → AreKept tables rows kept → AreKept tables rows more
one_more_kept tables rows kept more constant value within typed is all =
    let as_long : length kept ≡ length more = sym (length-set kept constant (Some value)) ∙ ap length (sym is) in
    record {
      below = subst (λ n. TablesMean (IsBelow n) tables) as_long all.below;
      types = subst (AreOfTypes rows) (sym is) (kept_typed rows kept constant value within typed all.types);
    }

raised : (o : Option DatumRow) (P Q : Type 0) → (P → Q) → IfSome o (λ _. P) → IfSome o (λ _. Q)
raised None P Q f h = tt
raised (Some row) P Q f h = f h

-- a CONST's number is that of a value, or of none
numbered : (rows : List DatumRow) (kept : List (Option Value)) (constant : ℕ) → AreOfTypes rows kept → IfSome (slice_get rows constant) (λ _. constant < length kept)
numbered [] [] constant all = tt
numbered [] (k ∷ ks) constant all = absurd all
numbered (r ∷ rs) [] constant all = absurd all
numbered (r ∷ rs) (k ∷ ks) zero all = omega arith
numbered (r ∷ rs) (k ∷ ks) (suc constant) all = raised (slice_get rs constant) (constant < length ks) (suc constant < length (k ∷ ks)) (λ h. omega arith) (numbered rs ks constant all.1)

pub row_numbered : (rows : List DatumRow) (kept : List (Option Value)) (constant : ℕ) (o : Option DatumRow) → o ≡ slice_get rows constant → AreOfTypes rows kept → IfSome o (λ _. constant < length kept)
row_numbered rows kept constant o is all = subst (λ p. IfSome p (λ _. constant < length kept)) (sym is) (numbered rows kept constant all)
