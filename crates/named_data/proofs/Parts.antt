-- Components, one by one.
use Rattle.std.proofs.Common.{◌≡◌, ℕ, suc, ◌+◌, ◌<◌, List, [], ◌∷◌, length, map, drop, get_or, Option, Some, None, option_map, Ok, Err, refl, sym, ap, ◌∙◌, add-one, drop-cons}
use Rattle.raw_trees.specs.Plain.{PlainName}
use Rattle.raw_trees.specs.Views.{view_name}
use Rattle.raw_trees.specs.declared.raw_name.RawName.{RawName}
use Rattle.rapid_model.specs.declared.sort.Sort.{Sort}
use Rattle.rapid_values.specs.Components.{Component, components, component_of}
use Rattle.rapid_model.specs.declared.part_name.PartName.{PartName}
use Rattle.rule_checks.specs.Checks.{◌>>=◌, found_or}
use Rattle.rule_checks.specs.TypeChecks.{Checked, Fails}
use Rattle.rule_checks.specs.declared.rule.TypeRule.TheVariants.{NoName}
use Rattle.rule_checks.specs.declared.fault.TypeFault.{TypeFault}
use Rattle.rule_checks.specs.declared.fault.TypeFault.TheVariants.{Rule, Memory}
use Rattle.named_data.specs.declared.component.Part.{Part}
use Rattle.named_data.specs.Data.{as_part, part_at}
use Rattle.named_data.specs.Rules.{Site, at_byte}

abbrev row : PartName → Sort → PartName × Sort
row name sort = (name, sort)

-- the part that a component of a type is
pub found_part : (site : Site) (at : ℕ) (x : Option Component) (name : PartName) (sort : Sort) → Some (row name sort) ≡ option_map (λ c. row c.part c.sort) x
    → (found_or x (at_byte site at NoName) >>= (λ c. part_at site (as_part c) [])) ≡ Ok (record { name = name; sort = sort })
found_part site at None name sort e = absurd cc
found_part site at (Some c) name sort e =
    let same : row name sort ≡ row c.part c.sort = cc in ap (λ (r : PartName × Sort). Ok (record { name = r.0; sort = r.1 })) (sym same)

-- the first component, and then the others
one_more : (site : Site) (found : Part) (name : PlainName) (more : List PlainName)
    → part_at site found (name ∷ more) ≡ (part_at site found (name ∷ []) >>= (λ p. part_at site p more))
one_more site found name more = at (found_or (component_of name.text (components found.sort)) (at_byte site name.at NoName))
  where
    at : (c : Checked Component) → (c >>= (λ x. part_at site (as_part x) more)) ≡ ((c >>= (λ x. part_at site (as_part x) [])) >>= (λ p. part_at site p more))
    at (Ok x) = refl
    at (Err b) = refl

-- the components from this one on
from_here : (site : Site) (found : Part) (names : List RawName) (i : ℕ) (d : RawName) → i < length names
    → part_at site found (map view_name (drop i names))
    ≡ (part_at site found (view_name (get_or names i d) ∷ []) >>= (λ p. part_at site p (map view_name (drop (i + 1) names))))
from_here site found names i d lt = rw (add-one, drop-cons names i d lt) (one_more site found (view_name (get_or names i d)) (map view_name (drop (suc i) names)))

-- a component that is found: the others are looked for in its part
pub goes_on : (site : Site) (found next : Part) (names : List RawName) (i : ℕ) (d : RawName) (whole : Checked Part) → i < length names
    → part_at site found (view_name (get_or names i d) ∷ []) ≡ Ok next → part_at site found (map view_name (drop i names)) ≡ whole
    → part_at site next (map view_name (drop (i + 1) names)) ≡ whole
goes_on site found next names i d whole lt first all =
    sym (ap (λ (r : Checked Part). r >>= (λ p. part_at site p (map view_name (drop (i + 1) names)))) first) ∙ sym (from_here site found names i d lt) ∙ all

-- a name that is not a component: the whole fails
pub fails_here : (fault : TypeFault) (site : Site) (found : Part) (names : List RawName) (i : ℕ) (d : RawName) (whole : Checked Part) → i < length names
    → Fails fault (part_at site found (view_name (get_or names i d) ∷ [])) → part_at site found (map view_name (drop i names)) ≡ whole
    → Fails fault whole
fails_here (Rule number at rule) site found names i d whole lt first all =
    sym all ∙ from_here site found names i d lt ∙ ap (λ (r : Checked Part). r >>= (λ p. part_at site p (map view_name (drop (i + 1) names)))) first
fails_here Memory site found names i d whole lt first all = tt
