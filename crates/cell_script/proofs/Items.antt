-- The items of an array, and loops over them.
use Rattle.std.proofs.Common.{◌≡◌, ◌+◌, List, [], ◌∷◌, ◌++◌, map, Option, Some, None, refl, ap}
use Rattle.toml.specs.Data.{Data}
use Rattle.toml.specs.View.{view, items_view}
use Rattle.toml.specs.declared.value.Value.{Value}
use Rattle.cell_script.specs.Keys.{items_list, each_as}

pub items_list-view : (items : List Value) → items_list (items_view items) ≡ map view items
items_list-view [] = refl
items_list-view (item ∷ items) = ap (λ ds. view item ∷ ds) (items_list-view items)

-- what is already collected, and what is still to be read
abbrev pub with_front : {A : Type 0} → List A → Option (List A) → Option (List A)
with_front front None = None
with_front front (Some xs) = Some (front ++ xs)

abbrev pub left : {A : Type 0} → (Data → Option A) → List Value → Option (List A)
left read items = each_as read (map view items)
