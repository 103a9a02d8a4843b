-- The declarations of a task's modules, by where they are and where they are visible.
use Rattle.std.specs.Prelude.{◌≡◌, ℕ, true, List, [], ◌∷◌, Option, Some, None, slice_get}
use Rattle.raw_trees.specs.Plain.{PlainItem, PlainModule, PlainName}
use Rattle.rapid_model.specs.declared.sort.Sort.{Sort}
use Rattle.rapid_model.specs.Names.{IsOneName}
use Rattle.rule_checks.specs.declared.spot.Spot.{Spot}
use Rattle.data_scopes.specs.declared.meant.Meant.{Meant}
use Rattle.data_scopes.specs.Declarations.{type_of}
use Rattle.data_scopes.specs.Numbers.{item_name, is_local}
use Rattle.data_scopes.specs.Scopes.{Tables, meaning}

-- an item is in the module with this number
pub record StandsIn (modules : List PlainModule) (number : ℕ) (item : PlainItem) : Type 0 where
  pub unit : PlainModule
  pub index : ℕ
  pub is_module : slice_get modules number ≡ Some unit
  pub is_item : slice_get unit.items index ≡ Some item

-- an item of the module with this number has the name, and is visible at the spot: a LOCAL one only in its own module
pub record IsSeen (modules : List PlainModule) (spot : Spot) (name : List ℕ) (number : ℕ) (item : PlainItem) : Type 0 where
  pub stands : StandsIn modules number item
  pub named : IsOneName name (item_name item).text
  pub within : is_local item ≡ true → number ≡ spot.«module»

-- the type that a type's name means at a spot
pub record IsType (tables : Tables) (spot : Spot) (name : PlainName) (sort : Sort) : Type 0 where
  pub meant : Meant
  pub means : meaning tables spot name.text ≡ Some meant
  pub is_type : type_of meant ≡ Some sort

-- the type of a function's result, if there is one
abbrev pub IsResultType : Tables → (PlainName → Spot) → Option PlainName → Option Sort → Type 0
IsResultType tables spot None None = Unit {0}
IsResultType tables spot (Some name) (Some sort) = IsType tables (spot name) name sort
IsResultType tables spot _ _ = ⊥

-- two lists have the same length, and the relation holds of each two elements with the same index
abbrev pub AreEach : {A B : Type 0} → (A → B → Type 0) → List A → List B → Type 0
AreEach IsSuch [] [] = Unit {0}
AreEach IsSuch (x ∷ xs) (y ∷ ys) = IsSuch x y × AreEach IsSuch xs ys
AreEach IsSuch _ _ = ⊥
