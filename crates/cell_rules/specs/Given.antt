-- What a script says about persistents: which values fit the declarations of a cell, and which rule any other one
-- breaks.
use Rattle.std.specs.Prelude.{◌≡◌, ℕ, ◌<◌, ◌≤◌, false, List, Option, Some, None, is_some, slice_get}
use Rattle.rapid_model.specs.declared.pers_value.PersValue.{PersValue}
use Rattle.rapid_model.specs.declared.script_rule.ScriptRule.{ScriptRule}
use Rattle.rapid_model.specs.declared.script_rule.ScriptRule.TheVariants.{NoSuch, Kind, Range, Twice}
use Rattle.rapid_model.specs.declared.sort.Sort.{Sort}
use Rattle.rapid_model.specs.declared.sort.Sort.TheVariants as sorts
use Rattle.rapid_model.specs.declared.value.Value.{Value}
use Rattle.rapid_model.specs.declared.value.Value.TheVariants as values
use Rattle.rapid_model.specs.Names.{IsOneName}
use Rattle.typed_trees.specs.Plain.{TypedPers}
use Rattle.cell_rules.specs.Declared.{Declared}

-- a script gives nums, truth values and texts, each to a persistent of exactly that type
abbrev pub given_sort : Value → Option Sort
given_sort (values.Num n) = Some sorts.Num
given_sort (values.Bool b) = Some sorts.Bool
given_sort (values.Text t) = Some sorts.Text
given_sort _ = None

-- the value is for the global persistent that is declared here
pub record IsFor (value : PersValue) (d : Declared) : Type 0 where
  pub global : d.row.own ≡ false
  pub named : IsOneName value.name d.row.name

-- a declaration of the persistent that the value is for
pub record Finds (declared : List Declared) (value : PersValue) (row : TypedPers) : Type 0 where
  pub index : ℕ
  pub d : Declared
  pub there : slice_get declared index ≡ Some d
  pub is_for : IsFor value d
  pub is_row : row ≡ d.row

-- a value of the type, for an element of an array or for a persistent that is not an array
pub record Suits (value : PersValue) (row : TypedPers) : Type 0 where
  pub sort : given_sort value.value ≡ Some row.sort
  pub index : is_some value.index ≡ is_some row.len

-- the index, counted from 1, is that of one of that many elements
abbrev pub IsInside : Option ℕ → Option ℕ → Type 0
IsInside (Some index) (Some len) = index ≤ len
IsInside _ _ = Unit {0}

-- the values are for the same element of persistents with the same name
pub record AreForOne (value other : PersValue) : Type 0 where
  pub named : IsOneName value.name other.name
  pub index : value.index ≡ other.index

module _ (declared : List Declared) (given : List PersValue) (number : ℕ) (value : PersValue) where
  -- the value with this number keeps the rules
  pub record IsRight : Type 0 where
    pub row : TypedPers
    pub finds : Finds declared value row
    pub suits : Suits value row
    pub inside : IsInside value.index row.len
    pub once : (before : ℕ) (other : PersValue) → before < number → slice_get given before ≡ Some other → AreForOne other value → ⊥

  -- there is no such global persistent
  abbrev pub IsNoSuch : Type 0
  IsNoSuch = (row : TypedPers) → Finds declared value row → ⊥

  -- the persistent has another type, or is an array without an index, or has an index but is not an array
  pub record IsOtherKind : Type 0 where
    pub row : TypedPers
    pub finds : Finds declared value row
    pub other : Suits value row → ⊥

  pub record IsOutside : Type 0 where
    pub row : TypedPers
    pub finds : Finds declared value row
    pub suits : Suits value row
    pub outside : IsInside value.index row.len → ⊥

  -- an earlier value is for that element
  pub record IsTwice : Type 0 where
    pub row : TypedPers
    pub finds : Finds declared value row
    pub suits : Suits value row
    pub inside : IsInside value.index row.len
    pub before : ℕ
    pub other : PersValue
    pub earlier : before < number
    pub there : slice_get given before ≡ Some other
    pub for_one : AreForOne other value

  -- the value with this number breaks the rule
  abbrev pub Breaks : ScriptRule → Type 0
  Breaks NoSuch = IsNoSuch
  Breaks Kind = IsOtherKind
  Breaks Range = IsOutside
  Breaks Twice = IsTwice
  Breaks _ = ⊥
