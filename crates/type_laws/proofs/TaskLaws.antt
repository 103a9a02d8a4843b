-- The typed tree of a task's modules.
use Rattle.std.proofs.Common.{◌≡◌, ◌↔◌, ℕ, Bool, List, [], nat_le, Option, Some, None, Ok, ap}
use Rattle.rapid_limits.specs.declared.TheConstants.{MOST_VALUES}
use Rattle.raw_trees.specs.Plain.{PlainModule}
use Rattle.rapid_model.specs.declared.signal_row.SignalRow.{SignalRow}
use Rattle.typed_trees.specs.Plain.{TypedTree}
use Rattle.rule_checks.specs.declared.rule.TypeRule.TheVariants.{DataRange}
use Rattle.data_scopes.specs.Naming.{names_of}
use Rattle.named_data.specs.Rules.{Site}
use Rattle.decl_types.specs.Data.{beginning, data_of}
use Rattle.task_types.specs.Task.{bodies, main_among, routines_of, top, main_or, tree_of, task_of}
use Rattle.type_laws.proofs.Steps.{in_words, done, then, where_it_holds}
use Rattle.type_laws.specs.Tasks.{IsTyped}
use Rattle.type_laws.proofs.Rows.{names_law}
use Rattle.type_laws.proofs.Data.{data_law}
use Rattle.type_laws.proofs.Routines.{routines_law}

main_law : (s : Site) (found : Option ℕ) (main : ℕ) → (main_or s found ≡ Ok main) ↔ (found ≡ Some main)
main_law s None main = (λ e. absurd (cc), λ e. absurd (cc))
main_law s (Some found) main = (λ e. ap Some (cc), λ e. ap Ok (cc))

pub task_law : (modules : List PlainModule) (tasks : List (List ℕ)) (signals : List SignalRow) (axes : ℕ) (tree : TypedTree) → (task_of modules tasks signals axes ≡ Ok tree) ↔ IsTyped modules tasks signals axes tree
task_law modules tasks signals axes tree =
    in_words
    (then (names_of modules signals axes) _ tree (names_law modules signals axes) (λ names.
    then (data_of 0 modules (beginning names)) _ tree (data_law 0 modules (beginning names)) (λ p.
    then (bodies p.names p.locals 0 modules []) _ tree (routines_law p.names p.locals 0 modules []) (λ routines.
    then (main_or (top p.names) (main_among (routines_of modules))) _ tree (main_law (top p.names) (main_among (routines_of modules))) (λ main.
    where_it_holds (top p.names) (nat_le p.values MOST_VALUES) 0 DataRange _ tree (
    done (tree_of modules tasks axes p routines main) tree))))))
    (λ (names, are_names, (p, are_data, (routines, are_routines, (main, has_main, (few, is))))).
    record { names = names; data_are = p; routines = routines; main = main; are_names = are_names; are_data = are_data; are_routines = are_routines; has_main = has_main; few_values = few; is_tree = is })
    (λ h. (h.names, h.are_names, (h.data_are, h.are_data, (h.routines, h.are_routines, (h.main, h.has_main, (h.few_values, h.is_tree))))))
