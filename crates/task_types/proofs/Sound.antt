-- The persistents of a checked task are sound.
use Rattle.std.proofs.Common.{◌≡◌, ℕ, Bool, nat_le, List, [], Result, Ok, Err, subst}
use Rattle.std.specs.Prelude.{IfOk, IsTrue}
use Rattle.rapid_limits.specs.declared.TheConstants.{MOST_VALUES}
use Rattle.raw_trees.specs.Plain.{PlainModule}
use Rattle.rapid_model.specs.declared.signal_row.SignalRow.{SignalRow}
use Rattle.typed_trees.specs.Plain.{TypedTree}
use Rattle.typed_trees.specs.Sound.{has_sound_pers}
use Rattle.typed_trees.specs.Views.{view_tree}
use Rattle.typed_trees.specs.declared.tree.Tree.{Tree}
use Rattle.rule_checks.specs.declared.fault.TypeFault.{TypeFault}
use Rattle.rule_checks.specs.declared.rule.TypeRule.TheVariants.{DataRange}
use Rattle.rule_checks.specs.Checks.{must}
use Rattle.rule_checks.specs.TypeChecks.{Gives}
use Rattle.data_scopes.specs.Naming.{names_of}
use Rattle.rule_checks.proofs.Steps.{behind, ok_same}
use Rattle.named_data.specs.Rules.{at_byte}
use Rattle.decl_types.specs.Data.{beginning, data_of}
use Rattle.decl_types.proofs.Sound.{pers_are_sound}
use Rattle.task_types.specs.Task.{task_of, bodies, main_or, top, main_among, routines_of, tree_of}

-- each persistent has a type with values, up to 1000 elements, and values that fit
pub task_sound : (modules : List PlainModule) (tasks : List (List ℕ)) (signals : List SignalRow) (axes : ℕ) (tree : TypedTree) → task_of modules tasks signals axes ≡ Ok tree → IsTrue (has_sound_pers tree)
task_sound modules tasks signals axes tree is =
    let P : Type 0 = IsTrue (has_sound_pers tree) in
    behind P tree (names_of modules signals axes) _ is (λ names named rest.
    behind P tree (data_of 0 modules (beginning names)) _ rest (λ p found more.
    behind P tree (bodies p.names p.locals 0 modules []) _ more (λ routines typed left.
    behind P tree (main_or (top p.names) (main_among (routines_of modules))) _ left (λ main runs last.
    behind P tree (must (nat_le p.values MOST_VALUES) (at_byte (top p.names) 0 DataRange)) _ last (λ u few done.
    subst (λ t. IsTrue (has_sound_pers t)) (ok_same (tree_of modules tasks axes p routines main) tree done) (pers_are_sound modules signals axes names p named found))))))

-- the same for a tree that a function returned
pub given_sound : (modules : List PlainModule) (tasks : List (List ℕ)) (signals : List SignalRow) (axes : ℕ) (result : Result Tree TypeFault) → Gives view_tree result (task_of modules tasks signals axes) → IfOk result (λ tree. IsTrue (has_sound_pers (view_tree tree)))
given_sound modules tasks signals axes (Ok tree) given = task_sound modules tasks signals axes (view_tree tree) given
given_sound modules tasks signals axes (Err fault) given = tt
