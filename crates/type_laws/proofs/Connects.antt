-- CONNECT: an interrupt's number, and a trap.
use Rattle.std.proofs.Common.{◌≡◌, ◌↔◌, ℕ, Option, Some, None, Ok, refl, sym, ap, subst}
use Rattle.raw_trees.specs.Plain.{PlainName, PlainPlace}
use Rattle.rapid_model.specs.declared.routine_kind.RoutineKind.{RoutineKind}
use Rattle.rapid_model.specs.declared.routine_kind.RoutineKind.TheVariants as kinds
use Rattle.rapid_model.specs.declared.sort.Sort.TheVariants as sorts
use Rattle.typed_trees.specs.Plain
use Rattle.typed_trees.specs.Plain.{TypedStmt}
use Rattle.rule_checks.specs.declared.rule.TypeRule.TheVariants.{NotThis}
use Rattle.data_scopes.specs.declared.meant.Meant.{Meant}
use Rattle.data_scopes.specs.declared.meant.Meant.TheVariants as meants
use Rattle.data_scopes.specs.Called.{kind_of}
use Rattle.named_data.specs.Data.{named}
use Rattle.named_data.specs.Rules.{Site}
use Rattle.expr_types.specs.Places.{lent_place}
use Rattle.stmt_types.specs.Bodies.{name_of, is_signal, trap_of_kind, trap_meant, connected}
use Rattle.type_laws.proofs.Steps.{in_words, neither, done, never, then}
use Rattle.type_laws.specs.Statements.{IsConnect}
use Rattle.type_laws.proofs.Sequences.{where_it_fails}
use Rattle.type_laws.proofs.Places.{interrupt_law}

trap_of_kind_law : (s : Site) (at routine : ℕ) (kind : Option RoutineKind) (r : ℕ) → (trap_of_kind s at routine kind ≡ Ok r) ↔ ((kind ≡ Some kinds.Trap) × (r ≡ routine))
trap_of_kind_law s at routine (Some kinds.Trap) r = in_words (done routine r) (λ e. (refl, e)) (λ (trap, e). e)
trap_of_kind_law s at routine kind r = neither (never _ r) (λ (trap, e). cc)

trap_law : (s : Site) (at : ℕ) (meant : Option Meant) (r : ℕ)
    → (trap_meant s at meant ≡ Ok r) ↔ ((meant ≡ Some (meants.Routine r)) × (kind_of s.names.rows r ≡ Some kinds.Trap))
trap_law s at None r = neither (never _ r) (λ (meant, trap). cc)
trap_law s at (Some (meants.Routine routine)) r =
    in_words
    (trap_of_kind_law s at routine (kind_of s.names.rows routine) r)
    (λ (trap, same). (ap (λ n. Some (meants.Routine n)) (sym same), subst (λ n. kind_of s.names.rows n ≡ Some kinds.Trap) (sym same) trap))
    (λ (meant, trap). let same : r ≡ routine = cc in (subst (λ n. kind_of s.names.rows n ≡ Some kinds.Trap) same trap, same))
trap_law s at (Some _) r = neither (never _ r) (λ (meant, trap). cc)

pub connect_law : (s : Site) (at : ℕ) (written : PlainPlace) (trap : PlainName) (t : TypedStmt) → (connected s at written trap ≡ Ok t) ↔ IsConnect s at written trap t
connect_law s at written trap t =
    in_words
    (where_it_fails s (is_signal (named s (name_of written))) (name_of written).at NotThis _ t (
    then (lent_place s (name_of written).at sorts.IntNum written) _ t (interrupt_law s (name_of written).at written) (λ place.
    then (trap_meant s trap.at (named s trap)) _ t (trap_law s trap.at (named s trap)) (λ r. done (Plain.Connect at place r) t))))
    (λ (silent, (place, (p, is_named, number, stands), (r, (meant, trap), is))). (p, place, r, silent, is_named, number, stands, meant, trap, is))
    (λ (p, place, r, silent, is_named, number, stands, meant, trap, is). (silent, (place, (p, is_named, number, stands), (r, (meant, trap), is))))
