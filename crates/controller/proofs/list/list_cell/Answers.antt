use Rattle.std.proofs.Common.{List, All, ap, inr, map, subst, sym, ◌∙◌}
use Rattle.typed_trees.specs.Views.{view_tree}
use Rattle.typed_trees.specs.declared.tree.Tree.{Tree}
use Rattle.code_laws.specs.Checked.{IsChecked}
use Rattle.cell_loading.specs.Loaded.{made_of}
use Rattle.controller.proofs.CheckedTrees.{all_checked, codes_are}
use Rattle.cell_runs.proofs.Compiling.{code_of}
use Rattle.controller.proofs.list.list_cell.Goals as goal

pub compile_all-requires : goal.compile_all-requires
compile_all-requires g c = subst (λ (ts : List Tree). All IsChecked (map view_tree ts)) (sym c.as_slice.ensures.value) (all_checked (made_of c.args.accepted.now) c.requires)

pub returns-in-Ok : goal.returns-in-Ok
returns-in-Ok g c =
    inr (c.report_list.ensures (map view_tree c.args.accepted.now.trees.items)
    (codes_are (made_of c.args.accepted.now) c.as_slice-in-Ok.result.now c.requires (c.as_slice-in-Ok.ensures.value ∙ c.in-Ok.ensures ∙ ap code_of c.as_slice.ensures.value)))
