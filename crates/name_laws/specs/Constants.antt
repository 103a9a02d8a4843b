-- Which CONST, other than an array, a number means: those of modules and of routines are numbered together, and each
-- has a row and a value.
use Rattle.std.specs.Prelude.{◌≡◌, ◌⊎◌, ℕ, ◌<◌, ◌≤◌, Bool, true, false, List, [], ◌∷◌, Option, Some, None, Ok, slice_get}
use Rattle.raw_trees.specs.Plain.{PlainDatum, PlainModule, Datum}
use Rattle.rapid_model.specs.declared.signal_row.SignalRow.{SignalRow}
use Rattle.rapid_model.specs.declared.sort.Sort.{Sort}
use Rattle.rapid_model.specs.declared.value.Value.{Value}
use Rattle.rapid_model.specs.Names.{IsOneName}
use Rattle.rule_checks.specs.declared.spot.Spot.{Spot}
use Rattle.typed_trees.specs.Plain.{TypedTree}
use Rattle.constant_meaning.specs.Constants.{Elements}
use Rattle.data_scopes.specs.declared.data_row.DatumRow.{DatumRow}
use Rattle.data_scopes.specs.Declarations.{spot_of}
use Rattle.data_scopes.specs.Numbers.{is_scalar_const, tables_of}
use Rattle.data_scopes.specs.Rows.{value_at}
use Rattle.data_scopes.specs.Scopes.{Names, Tables}
use Rattle.decl_types.specs.Values.{initial}
use Rattle.name_laws.specs.Declared.{IsSeen, IsType}
use Rattle.name_laws.specs.Meant.{Inside}

-- a CONST, other than an array, of the module with this number, and of this routine if it is in one; what starts after
-- its value may name it
pub record IsConstRow (tables : Tables) (number : ℕ) (routine : Option ℕ) (d : PlainDatum) (row : DatumRow) : Type 0 where
  pub constant : is_scalar_const d ≡ true
  pub sort : IsType tables (spot_of number routine d.sort) d.sort row.sort
  pub no_array : row.array ≡ false
  pub since : row.since ≡ Some (record { «module» = number; at = value_at d.name d.first })

-- After all data were checked, these names have the value with this number. It is the value of this declaration when
-- just the values with lower numbers were known.
pub record HasItsValue (names : Names) (k number : ℕ) (routine : Option ℕ) (d : PlainDatum) (sort : Sort) : Type 0 where
  pub before : Names
  pub known : Elements
  pub value : Value
  pub comes_to : initial before number routine known sort d ≡ Ok (record { len = None; values = Some (value ∷ []) })
  pub has_value : slice_get names.kept k ≡ Some (Some value)
  pub same : before ≡ record names { kept = before.kept }
  pub below : (j : ℕ) → j < k → slice_get before.kept j ≡ slice_get names.kept j
  pub above : (j : ℕ) (value : Option Value) → k ≤ j → slice_get before.kept j ≡ Some value → value ≡ None

module _ (modules : List PlainModule) (signals : List SignalRow) (tree : TypedTree) (names : Names) (spot : Spot) (name : List ℕ) where
  -- a visible CONST of a module, its row and its value
  pub record IsModuleConst (k : ℕ) : Type 0 where
    pub number : ℕ
    pub local : Bool
    pub task : Bool
    pub d : PlainDatum
    pub at : ℕ
    pub row : DatumRow
    pub seen : IsSeen modules spot name number (Datum local task d at)
    pub has_row : slice_get names.rows.consts k ≡ Some row
    pub is_row : IsConstRow (tables_of modules signals) number None d row
    pub has_value : HasItsValue names k number None d row.sort

  -- a CONST of the enclosing routine, its row and its value
  pub record IsRoutineConst (k : ℕ) : Type 0 where
    pub inside : Inside modules signals tree spot name
    pub index : ℕ
    pub d : PlainDatum
    pub row : DatumRow
    pub is_datum : slice_get inside.r.locals index ≡ Some d
    pub named : IsOneName name d.name.text
    pub has_row : slice_get names.rows.consts k ≡ Some row
    pub is_row : IsConstRow (tables_of modules signals) inside.number (Some inside.routine) d row
    pub has_value : HasItsValue names k inside.number (Some inside.routine) d row.sort

  -- the number of a visible CONST
  abbrev pub IsConst : ℕ → Type 0
  IsConst k = IsModuleConst k ⊎ IsRoutineConst k
