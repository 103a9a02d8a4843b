-- The values kept for CONSTs that are not arrays, and the invariants of a task's names.
use Rattle.std.specs.Prelude.{ℕ, ◌<◌, List, [], ◌∷◌, length, set, Option, Some, None, IsTrue}
use Rattle.rapid_model.specs.declared.sort.Sort.{Sort}
use Rattle.rapid_model.specs.declared.value.Value.{Value}
use Rattle.data_scopes.specs.declared.data_row.DatumRow.{DatumRow}
use Rattle.data_scopes.specs.declared.meant.Meant.{Meant}
use Rattle.data_scopes.specs.declared.meant.Meant.TheVariants as meants
use Rattle.data_scopes.specs.Scopes.{Scope, Tables, Names}
use Rattle.rapid_model.specs.Sorts.{is_value_of}

-- the names, with one more value kept
abbrev pub with_kept : Names → ℕ → Value → Names
with_kept names constant value = record {
  tables = names.tables;
  kept = set names.kept constant (Some value);
  rows = names.rows;
  outputs = names.outputs;
  axes = names.axes;
}

-- the number of a CONST is below this
abbrev pub IsBelow : ℕ → Meant → Type 0
IsBelow n (meants.Const constant) = constant < n
IsBelow n _ = Unit {0}

-- P holds of what each name of a scope means
abbrev pub Mean : (Meant → Type 0) → Scope → Type 0
Mean P [] = Unit {0}
Mean P (entry ∷ entries) = P entry.1 × Mean P entries

abbrev pub AllMean : (Meant → Type 0) → List Scope → Type 0
AllMean P [] = Unit {0}
AllMean P (scope ∷ scopes) = Mean P scope × AllMean P scopes

-- P holds of what each declared name means
pub record TablesMean (P : Meant → Type 0) (tables : Tables) : Type 0 where
  pub task : Mean P tables.task
  pub own : AllMean P tables.own
  pub inner : AllMean P tables.inner
  pub signals : Mean P tables.signals

-- a kept value is of its CONST's type
abbrev pub IsOfType : Sort → Option Value → Type 0
IsOfType sort None = Unit {0}
IsOfType sort (Some value) = IsTrue (is_value_of sort value)

-- for each CONST a value of its type, or none
abbrev pub AreOfTypes : List DatumRow → List (Option Value) → Type 0
AreOfTypes [] [] = Unit {0}
AreOfTypes (row ∷ rows) (kept ∷ more) = IsOfType row.sort kept × AreOfTypes rows more
AreOfTypes _ _ = ⊥

pub record AreKept (tables : Tables) (consts : List DatumRow) (kept : List (Option Value)) : Type 0 where
  pub below : TablesMean (IsBelow (length kept)) tables
  pub types : AreOfTypes consts kept
