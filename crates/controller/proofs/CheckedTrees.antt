-- The trees of an accepted cell are checked, and their codes ask what they ask.
use Rattle.std.proofs.Common.{◌≡◌, ℕ, zero, suc, List, [], ◌∷◌, length, map, refl, ap, sym, ◌∙◌, subst}
use Rattle.std.specs.Prelude.{All, Some, slice_get}
use Rattle.std.specs.Option.{option_map}
use Rattle.std.proofs.lemmas.List.{length-map}
use Rattle.std.proofs.lemmas.List.Elements.{All-cons, All-nil}
use Rattle.std.proofs.lemmas.Option.{slice_get-map}
use Rattle.rapid_model.specs.CellData.{CellData}
use Rattle.typed_trees.specs.Plain.{TypedTree}
use Rattle.typed_trees.specs.declared.tree.Tree.{Tree}
use Rattle.cell_assembly.specs.Made.{MadeCell}
use Rattle.stack_code.specs.CodeData.{CodeData}
use Rattle.stack_code.specs.Compiled.{compiled}
use Rattle.code_laws.specs.Asking.{AsksAs}
use Rattle.code_laws.specs.Checked.{IsChecked}
use Rattle.code_laws.proofs.Lives.{asks_as}
use Rattle.accepted_cells.proofs.Checking.{checked_is}
use Rattle.controller.specs.Answered.{AreCodesOf}
use Rattle.controller.specs.Ready.{HasScript}
use Rattle.cell_loading.specs.Loaded.{made_with}

all_from : (trees : List TypedTree) → ((k : ℕ) (tree : TypedTree) → slice_get trees k ≡ Some tree → IsChecked tree) → All IsChecked trees
all_from [] each = All-nil IsChecked
all_from (tree ∷ trees) each = All-cons IsChecked tree trees (each zero tree refl) (all_from trees (λ k t at. each (suc k) t at))

checked_at : (made : MadeCell) (k : ℕ) (tree : TypedTree) → HasScript made → slice_get made.trees k ≡ Some tree → IsChecked tree
checked_at made k tree has at = checked_is has.script made k tree has.accepted at

pub all_checked : (made : MadeCell) → HasScript made → All IsChecked made.trees
all_checked made has = all_from made.trees (λ k tree at. checked_at made k tree has at)

-- the same of its trees as a slice
pub seen_script : (cell : CellData) (trees seen : List Tree) → seen ≡ trees → HasScript (made_with cell trees) → HasScript (made_with cell seen)
seen_script cell trees seen same has = subst (λ (ts : List Tree). HasScript (made_with cell ts)) (sym same) has

-- what it asks
pub codes_are : (made : MadeCell) (codes : List CodeData) → HasScript made → codes ≡ map compiled made.trees → AreCodesOf made.trees codes
codes_are made codes has are = record {
  one_each = ap length are ∙ length-map made.trees compiled;
  ask = λ k tree code at there.
      let e : Some (compiled tree) ≡ Some code = ap (option_map compiled) (sym at) ∙ sym (slice_get-map compiled made.trees k) ∙ ap (λ (cs : List CodeData). slice_get cs k) (sym are) ∙ there in
      let same : compiled tree ≡ code = cc in
      subst (λ (c : CodeData). AsksAs tree c) same (asks_as tree (checked_at made k tree has at));
}
