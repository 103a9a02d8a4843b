-- Declared names, and the names of their types.
use Rattle.std.proofs.Common.{◌≡◌, ◌↔◌, ℕ, ◌+◌, Bool, not, ◌||◌, List, [], ◌∷◌, ◌++◌, length, Option, Some, None, is_some, Ok, refl, sym, subst}
use Rattle.raw_trees.specs.Plain.{PlainDatum, PlainParam, PlainItem, PlainModule, PlainName, Datum, Routine}
use Rattle.rapid_model.specs.declared.sort.Sort.{Sort}
use Rattle.rapid_model.specs.Names.{is_among}
use Rattle.rule_checks.specs.declared.rule.TypeRule.TheVariants.{NameTwice, NameTaken, NotThis, TypeClash, PersKind}
use Rattle.data_scopes.specs.declared.meant.Meant.{Meant}
use Rattle.data_scopes.specs.declared.meant.Meant.TheVariants as meants
use Rattle.rule_checks.specs.declared.spot.Spot.{Spot}
use Rattle.rule_checks.specs.Checks.{must}
use Rattle.rule_checks.specs.TypeChecks.{at_spot}
use Rattle.data_scopes.specs.Declarations.{spot_of, type_of, sort_meant, sort_at, is_own, item_scope, item_name_rules, datum_sort, takes_sort, param_rules, params_rules, locals_rules, result_rules, item_rules, items_rules, module_rules, modules_rules}
use Rattle.data_scopes.specs.Numbers.{Tally, is_const, is_pers, datum_meant, after_item, after_items, param_meant, local_meant}
use Rattle.data_scopes.specs.Scopes.{Tables, list_at, meant_in, meant_outside, meaning}
use Rattle.rapid_model.specs.Sorts.{has_values}
use Rattle.type_laws.proofs.Steps.{in_words, neither, done, never, then, found_law, it_holds}
use Rattle.type_laws.specs.DeclaredNames.{IsSort, IsDatumSort, IsItemName, IsParam, AreParams, AreLocals, IsResult, IsItem, AreItems, AreModules}
use Rattle.type_laws.proofs.TaskSteps.{regrouped, where_they_hold, it_fails}

sort_meant_law : (spot : Spot) (found : Option Meant) (sort : Sort) → (sort_meant spot found ≡ Ok sort) ↔ ((meant : Meant) × (found ≡ Some meant) × (type_of meant ≡ Some sort))
sort_meant_law spot None sort = neither (never _ sort) (λ (meant, none, is). cc)
sort_meant_law spot (Some found) sort =
    in_words
    (found_law (type_of found) (at_spot spot NotThis) sort)
    (λ is. (found, refl, is))
    (λ (meant, same, is). let e : meant ≡ found = cc in subst (λ m. type_of m ≡ Some sort) e is)

pub sort_law : (tables : Tables) (spot : Spot) (name : PlainName) (sort : Sort) → (sort_at tables spot name ≡ Ok sort) ↔ IsSort tables spot name sort
sort_law tables spot name sort = sort_meant_law spot (meaning tables spot name.text) sort

datum_sort_law : (tables : Tables) (number : ℕ) (routine : Option ℕ) (d : PlainDatum) (sort : Sort) → (datum_sort tables number routine d ≡ Ok sort) ↔ IsDatumSort tables number routine d sort
datum_sort_law tables number routine d sort =
    let spot : Spot = spot_of number routine d.sort in
    in_words
    (then (sort_at tables spot d.sort) _ sort (sort_law tables spot d.sort) (λ found.
    where_they_hold (must (has_values found || not (is_const d.kind)) (at_spot spot TypeClash)) _ sort (it_holds (has_values found || not (is_const d.kind)) (at_spot spot TypeClash)) (
    where_they_hold (must (has_values found || not (is_pers d.kind)) (at_spot spot PersKind)) _ sort (it_holds (has_values found || not (is_pers d.kind)) (at_spot spot PersKind)) (
    done found sort))))
    (λ (found, is, (fits, (persists, same))). subst (IsDatumSort tables number routine d) (sym same) (is, fits, persists))
    (λ (is, fits, persists). (sort, is, (fits, (persists, refl))))

item_name_law : (tables : Tables) (number : ℕ) (local : Bool) (own : Meant) (name : PlainName) (t : Unit {0})
    → (item_name_rules tables (spot_of number None name) local own name ≡ Ok t) ↔ IsItemName tables number local own name
item_name_law tables number local own name t =
    let spot : Spot = spot_of number None name in
    let is_first : Bool = is_own own (meant_in name.text (item_scope tables number local)) in
    where_they_hold (must is_first (at_spot spot NameTwice)) _ t (it_holds is_first (at_spot spot NameTwice)) (it_fails (is_some (meant_outside tables name.text)) (at_spot spot NameTaken) t)

param_law : (tables : Tables) (number routine place : ℕ) (p : PlainParam) (t : Unit {0}) → (param_rules tables number routine place p ≡ Ok t) ↔ IsParam tables number routine place p
param_law tables number routine place p t =
    let spot : Spot = spot_of number (Some routine) p.sort in
    let is_first : Bool = is_own (param_meant place p.mode) (meant_in p.name.text (list_at tables.inner routine)) in
    in_words
    (then (sort_at tables spot p.sort) _ t (sort_law tables spot p.sort) (λ sort.
    where_they_hold (must (takes_sort p.mode sort) (at_spot spot TypeClash)) _ t (it_holds (takes_sort p.mode sort) (at_spot spot TypeClash)) (
    it_holds is_first (at_spot (spot_of number (Some routine) p.name) NameTwice) t)))
    (λ (sort, is, (fits, first)). (sort, is, fits, first))
    (λ (sort, is, fits, first). (sort, is, (fits, first)))

params_law : (tables : Tables) (number routine place : ℕ) (ps : List PlainParam) (t : Unit {0}) → (params_rules tables number routine place ps ≡ Ok t) ↔ AreParams tables number routine place ps
params_law tables number routine place [] t = (λ e. tt, λ u. refl)
params_law tables number routine place (p ∷ ps) t =
    where_they_hold (param_rules tables number routine place p) _ t (param_law tables number routine place p) (params_law tables number routine (place + 1) ps t)

locals_law : (tables : Tables) (number routine place consts : ℕ) (ds : List PlainDatum) (t : Unit {0})
    → (locals_rules tables number routine place consts ds ≡ Ok t) ↔ AreLocals tables number routine place consts ds
locals_law tables number routine place consts [] t = (λ e. tt, λ u. refl)
locals_law tables number routine place consts (d ∷ ds) t =
    let spot : Spot = spot_of number (Some routine) d.name in
    let is_first : Bool = is_own (local_meant place consts d) (meant_in d.name.text (list_at tables.inner routine)) in
    in_words
    (regrouped (datum_sort tables number (Some routine) d) _ _ t (
    then (datum_sort tables number (Some routine) d) _ t (datum_sort_law tables number (Some routine) d) (λ sort.
    where_they_hold (must is_first (at_spot spot NameTwice)) _ t (it_holds is_first (at_spot spot NameTwice)) (
    locals_law tables number routine (place + 1) _ ds t))))
    (λ (sort, is, (first, are)). (sort, is, first, are))
    (λ (sort, is, first, are). (sort, is, (first, are)))

result_law : (tables : Tables) (number routine : ℕ) (result : Option PlainName) (t : Unit {0}) → (result_rules tables number routine result ≡ Ok t) ↔ IsResult tables number routine result
result_law tables number routine None t = (λ e. tt, λ u. refl)
result_law tables number routine (Some name) t =
    let spot : Spot = spot_of number (Some routine) name in
    then (sort_at tables spot name) _ t (sort_law tables spot name) (λ sort. it_holds (has_values sort) (at_spot spot TypeClash) t)

item_law : (tables : Tables) (number : ℕ) (c : Tally) (i : PlainItem) (t : Unit {0}) → (item_rules tables number c i ≡ Ok t) ↔ IsItem tables number c i
item_law tables number c (Datum local task d at) t =
    then (datum_sort tables number None d) _ t (datum_sort_law tables number None d) (λ sort. item_name_law tables number local (datum_meant c d) d.name t)
item_law tables number c (Routine r) t =
    let own : Meant = meants.Routine c.routines in
    in_words
    (where_they_hold (result_rules tables number c.routines r.result) _ t (result_law tables number c.routines r.result) (
    where_they_hold (item_name_rules tables (spot_of number None r.name) r.local own r.name) _ t (item_name_law tables number r.local own r.name) (
    where_they_hold (params_rules tables number c.routines 0 r.params) _ t (params_law tables number c.routines 0 r.params) (
    locals_law tables number c.routines (length r.params) c.consts r.locals t))))
    (λ (result, (named, (params, locals))). (result, named, params, locals))
    (λ (result, named, params, locals). (result, (named, (params, locals))))

items_law : (tables : Tables) (number : ℕ) (c : Tally) (is : List PlainItem) (t : Unit {0}) → (items_rules tables number c is ≡ Ok t) ↔ AreItems tables number c is
items_law tables number c [] t = (λ e. tt, λ u. refl)
items_law tables number c (i ∷ is) t = where_they_hold (item_rules tables number c i) _ t (item_law tables number c i) (items_law tables number (after_item c i) is t)

pub modules_law : (tables : Tables) (number : ℕ) (names : List (List ℕ)) (c : Tally) (ms : List PlainModule) (t : Unit {0})
    → (modules_rules tables number names c ms ≡ Ok t) ↔ AreModules tables number names c ms
modules_law tables number names c [] t = (λ e. tt, λ u. refl)
modules_law tables number names c (m ∷ ms) t =
    let is_twice : Bool = is_among m.name.text names in
    let spot : Spot = spot_of number None m.name in
    in_words
    (where_they_hold (module_rules tables number names c m) _ t (λ u.
    where_they_hold (must (not is_twice) (at_spot spot NameTwice)) _ u (it_fails is_twice (at_spot spot NameTwice)) (items_law tables number c m.items u))
    (modules_law tables (number + 1) (names ++ m.name.text ∷ []) (after_items c m.items) ms t))
    (λ ((is_first, are), more). (is_first, are, more))
    (λ (is_first, are, more). ((is_first, are), more))
