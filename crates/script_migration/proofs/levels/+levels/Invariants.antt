use Rattle.std.proofs.Common.{◌≡◌, ◌≤◌, ◌++◌, List, take}
use Rattle.toml.specs.Data.{items_depth, members_depth}
use Rattle.toml.specs.View.{items_view, members_view}
use Rattle.toml.proofs.Views.{Entry}
use Rattle.script_migration.proofs.levels.+levels.Given as goal

abbrev pub invariant-array_fits-items : goal.invariant-array_fits-items
invariant-array_fits-items l = items_depth (items_view (take l.item-index l.item-items)) ≤ l.levels

abbrev pub invariant-table_fits-members : goal.invariant-table_fits-members
invariant-table_fits-members l =
    (goal.iterator-table_fits-members).can_next l._key-iterator × (goal.iterator-table_fits-members).is_finite l._key-iterator
    × (done : List Entry) × (l.table.entries ≡ done ++ l._key-iterator) × (members_depth (members_view done) ≤ l.levels)
