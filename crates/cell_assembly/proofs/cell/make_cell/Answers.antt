use Rattle.std.proofs.Common.{◌≡◌, ℕ, true, List, length, map, Ok, refl, ap, sym, ◌∙◌}
use Rattle.std.proofs.lemmas.List.{length-map}
use Rattle.std.specs.List.{list_all}
use Rattle.rapid_model.specs.CellData.{is_pers_cell}
use Rattle.rapid_model.specs.declared.pers_value.PersValue.{PersValue}
use Rattle.typed_trees.specs.declared.tree.Tree.{Tree}
use Rattle.typed_trees.specs.Sound.{has_sound_pers}
use Rattle.typed_trees.specs.Views.{view_tree}
use Rattle.cell_assembly.specs.declared.tables.CellTables.{CellTables}
use Rattle.cell_assembly.specs.Cells.{cell_tables}
use Rattle.cell_assembly.specs.Made.{pers_cell}
use Rattle.cell_assembly.specs.Views.{view_info, view_tables}
use Rattle.cell_assembly.proofs.SoundTables.{AreRight, tables_are_right}
use Rattle.cell_assembly.proofs.cell.make_cell.Goals as goal

made_right : (tasks : ℕ) (rows : List PersValue) (trees : List Tree) (t : CellTables) → length trees ≡ tasks → list_all has_sound_pers (map view_tree trees) ≡ true
    → cell_tables rows (map view_tree trees) ≡ Ok (view_tables t) → AreRight tasks (view_tables t)
made_right tasks rows trees t each = tables_are_right tasks rows (map view_tree trees) (view_tables t) (length-map trees view_tree ∙ each)

pub cell_of-requires : goal.cell_of-requires
cell_of-requires c =
    let tasks = length c.args.script.now.tasks in
    let right = made_right tasks _ c.args.trees.now c.in_ok-pers.field-0 c.requires.one_each c.requires.sound c.in_ok-pers.ensures in
    ap (λ pers. list_all (is_pers_cell tasks) (map pers_cell (map view_info pers))) c.deref.ensures.value ∙ right.pers

pub number_trees-requires-clause-pers : goal.number_trees-requires-clause-pers
number_trees-requires-clause-pers c =
    let right = made_right _ _ c.args.trees.now c.in_ok-pers.field-0 refl c.requires.sound c.in_ok-pers.ensures in
    sym (length-map c.in_ok-pers.field-0.pers_of.items (λ v. v.items)) ∙ right.pers_of

pub number_trees-requires-clause-meetings : goal.number_trees-requires-clause-meetings
number_trees-requires-clause-meetings c =
    let right = made_right _ _ c.args.trees.now c.in_ok-pers.field-0 refl c.requires.sound c.in_ok-pers.ensures in
    sym (length-map c.in_ok-pers.field-0.meeting_of.items (λ v. v.items)) ∙ right.meeting_of
