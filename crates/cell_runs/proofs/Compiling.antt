-- Compiling one tree after another.
use Rattle.std.proofs.Common.{◌≡◌, ℕ, ◌+◌, ◌<◌, ◌≤◌, List, [], ◌∷◌, ◌++◌, length, take, get_or, map, ap, sym, ◌∙◌, subst, arith}
use Rattle.std.specs.Prelude.{All}
use Rattle.std.specs.List.{AllByRecursion}
use Rattle.std.proofs.lemmas.List.{get_or-map, length-map, map-append, take_all}
use Rattle.std.proofs.lemmas.List.Elements.{All-get_or}
use Rattle.typed_trees.specs.Views.{view_tree}
use Rattle.typed_trees.specs.declared.tree.Tree.{Tree}
use Rattle.stack_code.specs.CodeData.{CodeData}
use Rattle.stack_code.specs.Compiled.{compiled}
use Rattle.code_laws.specs.Checked.{IsChecked}
use Rattle.task_machine.specs.MachineData.{MachineData}
use Rattle.task_steps.specs.Phases as phases
use Rattle.sink_lines.proofs.Lists.{take-element}

-- the trees of an accepted cell are checked

-- one of them
pub tree_checked : (trees : List Tree) (k : ℕ) (tree : Tree) → k < length trees → tree ≡ get_or trees k tree → All IsChecked (map view_tree trees) → IsChecked (view_tree tree)
tree_checked trees k tree lt is all =
    let long = length-map trees view_tree in
    let within : k < length (map view_tree trees) = omega (arith, long, lt) in
    subst IsChecked (get_or-map view_tree trees k tree (view_tree tree) lt ∙ ap view_tree (sym is)) (All-get_or IsChecked (map view_tree trees) k (view_tree tree) within all)

-- the code of some trees
abbrev pub code_of : List Tree → List CodeData
code_of trees = map compiled (map view_tree trees)

-- and of one more
one_more : (trees : List Tree) (k : ℕ) (tree : Tree) → k < length trees → tree ≡ get_or trees k tree → code_of (take (k + 1) trees) ≡ code_of (take k trees) ++ compiled (view_tree tree) ∷ []
one_more trees k tree lt is =
    ap code_of (take-element trees k tree lt is) ∙ ap (map compiled) (map-append view_tree (take k trees) (tree ∷ []))
    ∙ map-append compiled (map view_tree (take k trees)) (view_tree tree ∷ [])

pub compiled_more : (trees : List Tree) (k : ℕ) (tree : Tree) (codes more : List CodeData) (code : CodeData) → k < length trees → tree ≡ get_or trees k tree → codes ≡ code_of (take k trees)
    → code ≡ compiled (view_tree tree) → more ≡ codes ++ code ∷ [] → more ≡ code_of (take (k + 1) trees)
compiled_more trees k tree codes more code lt is here one pushed =
    pushed ∙ ap (λ (cs : List CodeData). cs ++ code ∷ []) here ∙ ap (λ (c : CodeData). code_of (take k trees) ++ c ∷ []) one ∙ sym (one_more trees k tree lt is)

-- all of it
pub compiled_all : (trees : List Tree) (k : ℕ) (codes : List CodeData) → length trees ≤ k → codes ≡ code_of (take k trees) → codes ≡ code_of trees
compiled_all trees k codes past here = here ∙ ap code_of (take_all k trees past)

-- machines that have asked nothing yet

abbrev pub is_new : MachineData → Type 0
is_new m = m.phase ≡ phases.New

abbrev pub code_in : List MachineData → List CodeData
code_in machines = map (λ (m : MachineData). m.code) machines

pub machine_more : (trees : List Tree) (k : ℕ) (tree : Tree) (machines more : List MachineData) (m : MachineData) → k < length trees → tree ≡ get_or trees k tree
    → code_in machines ≡ code_of (take k trees) → m.code ≡ compiled (view_tree tree) → more ≡ machines ++ m ∷ [] → code_in more ≡ code_of (take (k + 1) trees)
machine_more trees k tree machines more m lt is here one pushed =
    compiled_more trees k tree (code_in machines) (code_in more) m.code lt is here one (ap code_in pushed ∙ map-append (λ (x : MachineData). x.code) machines (m ∷ []))

pub all_new : (machines : List MachineData) (m : MachineData) → AllByRecursion is_new machines → is_new m → AllByRecursion is_new (machines ++ m ∷ [])
all_new [] m all here = (here, tt)
all_new (n ∷ machines) m all here = (all.0, all_new machines m all.1 here)
