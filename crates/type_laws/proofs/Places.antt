-- Places that are written: the left side of an assignment, and a place of an interrupt's number.
use Rattle.std.proofs.Common.{◌≡◌, ◌↔◌, ℕ, true, false, Ok, refl, ap, ◌∙◌}
use Rattle.raw_trees.specs.Plain.{PlainPlace, PlaceOf}
use Rattle.rapid_model.specs.declared.sort.Sort.{Sort}
use Rattle.rapid_model.specs.declared.sort.Sort.TheVariants as sorts
use Rattle.typed_trees.specs.Plain
use Rattle.typed_trees.specs.Plain.{TypedPlace}
use Rattle.typed_trees.specs.declared.expr.TreeRoot.{TreeRoot}
use Rattle.rule_checks.specs.declared.rule.TypeRule.TheVariants.{NotThis, TypeClash, ReadOnly}
use Rattle.rule_checks.specs.TypeChecks.{Checked}
use Rattle.rapid_model.specs.Sorts.{has_values}
use Rattle.named_data.specs.declared.named.Access.{Access}
use Rattle.named_data.specs.declared.named.Source.{Source}
use Rattle.named_data.specs.declared.named.Source.TheVariants as sources
use Rattle.named_data.specs.Data.{NamedPart, named}
use Rattle.named_data.specs.Rules.{Site}
use Rattle.named_data.specs.Wants.{same_sort}
use Rattle.expr_types.specs.Arguments.{is_held, is_fixed}
use Rattle.expr_types.specs.Places.{place, lent_from, lent_place}
use Rattle.expr_types.specs.Typing.{index}
use Rattle.stmt_types.specs.Bodies.{name_of, is_signal, target_from, target}
use Rattle.type_laws.specs.Calls.{Stands}
use Rattle.type_laws.proofs.Steps.{in_words, neither, done, never, then, where_it_holds}
use Rattle.type_laws.proofs.Names.{place_law}
use Rattle.type_laws.proofs.ExpressionLaws.{index_law}
use Rattle.type_laws.specs.Statements.{IsNamed, IsPlaceOf, IsTarget}
use Rattle.type_laws.proofs.Sequences.{where_it_fails}

named_law : (s : Site) (written : PlainPlace) (p : NamedPart) → (place s false written ≡ Ok p) ↔ IsNamed s written p
named_law s (PlaceOf name held components) p = place_law s false name (is_held held) (index s held) components p (index_law s held)

-- the place of a part in the task's data, where this is its source
abbrev IsPlaceFrom : Source → NamedPart → TypedPlace → Type 0
IsPlaceFrom source p t = (root : TreeRoot) × (access : Access) × Stands source root access × (t ≡ Plain.PlaceOf root p.index p.part p.sort)

placed : (root : TreeRoot) (access : Access) (p : NamedPart) (t : TypedPlace)
    → (◌≡◌ {A = Checked TypedPlace} (Ok (Plain.PlaceOf root p.index p.part p.sort)) (Ok t)) ↔ IsPlaceFrom (sources.Place root access) p t
placed root access p t =
    in_words
    (done (Plain.PlaceOf root p.index p.part p.sort) t)
    (λ e. (root, access, (refl, refl), e))
    (λ (r, a, (same, by), is). is ∙ ap (λ r. Plain.PlaceOf r p.index p.part p.sort) same)

target_at : (s : Site) (at : ℕ) (source : Source) (p : NamedPart) (t : TypedPlace) → (target_from s at p source ≡ Ok t) ↔ IsPlaceFrom source p t
target_at s at (sources.Place root access) p t = placed root access p t
target_at s at source p t = neither (never _ t) (λ (r, a, none, is). none)

pub target_law : (s : Site) (written : PlainPlace) (t : TypedPlace) → (target s written ≡ Ok t) ↔ IsTarget s written t
target_law s written t =
    let at : ℕ = (name_of written).at in
    in_words
    (where_it_fails s (is_signal (named s (name_of written))) at NotThis _ t (
    then (place s false written) _ t (named_law s written) (λ p.
    where_it_holds s (has_values p.sort) at TypeClash _ t (
    where_it_fails s (is_fixed p.source) at ReadOnly _ t (target_at s at p.source p t)))))
    (λ (silent, (p, is_named, (valued, (free, is)))). (p, silent, is_named, valued, free, is))
    (λ (p, silent, is_named, valued, free, is). (silent, (p, is_named, (valued, (free, is)))))

-- a type is that of interrupts' numbers
of_interrupts : (sort : Sort) → (same_sort sort sorts.IntNum ≡ true) ↔ (sort ≡ sorts.IntNum)
of_interrupts sorts.IntNum = (λ e. refl, λ e. refl)
of_interrupts sort = (λ e. absurd (cc), λ e. absurd (cc))

number_at : (s : Site) (at : ℕ) (source : Source) (p : NamedPart) (t : TypedPlace)
    → (lent_from s sorts.IntNum at p source ≡ Ok t) ↔ ((p.sort ≡ sorts.IntNum) × IsPlaceFrom source p t)
number_at s at (sources.Place root access) p t =
    in_words
    (where_it_holds s (same_sort p.sort sorts.IntNum) at TypeClash _ t (placed root access p t))
    (λ (same, is). ((of_interrupts p.sort).0 same, is))
    (λ (same, is). ((of_interrupts p.sort).1 same, is))
number_at s at source p t = neither (never _ t) (λ (same, (r, a, none, is)). none)

-- a place of an interrupt's number
pub interrupt_law : (s : Site) (at : ℕ) (written : PlainPlace) (t : TypedPlace)
    → (lent_place s at sorts.IntNum written ≡ Ok t) ↔ ((p : NamedPart) × IsNamed s written p × (p.sort ≡ sorts.IntNum) × IsPlaceOf p t)
interrupt_law s at written t =
    in_words
    (then (place s false written) _ t (named_law s written) (λ p. number_at s at p.source p t))
    (λ (p, is_named, (number, is)). (p, is_named, number, is))
    (λ (p, is_named, number, is). (p, is_named, (number, is)))
