-- What a persistent of a cell is, by all of its declarations and by the script: its first values are the script's,
-- otherwise those of the first declaration that gives any, otherwise the initial values of its type.
use Rattle.std.specs.Prelude.{◌≡◌, ℕ, ◌+◌, ◌<◌, List, length, Option, Some, None, if◌then◌else◌, slice_get}
use Rattle.rapid_model.specs.Sorts.{width}
use Rattle.rapid_model.specs.declared.pers_cell.PersCell.{PersCell}
use Rattle.rapid_model.specs.declared.pers_value.PersValue.{PersValue}
use Rattle.rapid_model.specs.declared.sort.Sort.{Sort}
use Rattle.rapid_model.specs.declared.value.Value.{Value}
use Rattle.rapid_values.specs.Values.{start_value}
use Rattle.cell_rules.specs.Declared.{Declared}
use Rattle.cell_rules.specs.Given.{IsFor}
use Rattle.cell_rules.specs.Numbering.{HasNumber, IsFirst}

-- an index, counted from 1, is that of this element, counted from 0; without an index there is one element
abbrev pub IsIndexOf : Option ℕ → ℕ → Type 0
IsIndexOf None element = element ≡ 0
IsIndexOf (Some index) element = index ≡ element + 1

-- a global persistent belongs to no task
abbrev pub owner_of : Declared → Option ℕ
owner_of d = if d.row.own then Some d.task else None

module _ (declared : List Declared) (numbers : List ℕ) (k : ℕ) where
  -- the first of the persistent's declarations with values gives these
  pub record IsDeclared (first : List Value) : Type 0 where
    pub index : ℕ
    pub d : Declared
    pub has_number : HasNumber declared numbers k index d
    pub gives : d.row.first ≡ Some first
    pub none_before : (other : ℕ) (e : Declared) → other < index → HasNumber declared numbers k other e → e.row.first ≡ None

  -- no declaration of the persistent gives values
  abbrev pub IsUndeclared : Type 0
  IsUndeclared = (index : ℕ) (d : Declared) → HasNumber declared numbers k index d → d.row.first ≡ None

module _ (given : List PersValue) (declared : List Declared) (numbers : List ℕ) (k : ℕ) where
  -- the script gives this value to an element of the persistent of this number
  pub record IsGiven (element : ℕ) (value : Value) : Type 0 where
    pub number : ℕ
    pub row : PersValue
    pub there : slice_get given number ≡ Some row
    pub index : ℕ
    pub d : Declared
    pub has_number : HasNumber declared numbers k index d
    pub is_for : IsFor row d
    pub at_element : IsIndexOf row.index element
    pub gives : value ≡ row.value

  abbrev pub IsNotGiven : ℕ → Type 0
  IsNotGiven element = (value : Value) → IsGiven element value → ⊥

  -- the first value of an element of the persistent, which has this type
  pub data IsFirstValue (sort : Sort) (element : ℕ) (value : Value) : Type 0 where
    ByScript : IsGiven element value → IsFirstValue sort element value
    ByDeclaration : IsNotGiven element → (first : List Value) → IsDeclared declared numbers k first → slice_get first element ≡ Some value → IsFirstValue sort element value
    ByType : IsNotGiven element → IsUndeclared declared numbers k → start_value sort ≡ Some value → IsFirstValue sort element value

  -- the persistent has the name and the owner of its first declaration, the type and the length of each of them, and
  -- that many first values
  pub record IsPersistent (p : PersCell) : Type 0 where
    pub d : Declared
    pub is_first : IsFirst declared numbers k d
    pub name : p.name ≡ d.row.name
    pub owner : p.owner ≡ owner_of d
    pub sort : (index : ℕ) (e : Declared) → HasNumber declared numbers k index e → p.sort ≡ e.row.sort
    pub len : (index : ℕ) (e : Declared) → HasNumber declared numbers k index e → p.len ≡ e.row.len
    pub as_many : length p.first ≡ width p.len
    pub first : (element : ℕ) (value : Value) → slice_get p.first element ≡ Some value → IsFirstValue p.sort element value
