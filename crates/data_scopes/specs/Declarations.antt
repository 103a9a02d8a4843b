-- The first broken rule at a declared name or at the name of its type, in text order through the modules, a
-- declaration's type before its name.
use Rattle.std.specs.Prelude.{ℕ, ◌+◌, Bool, true, false, not, ◌||◌, List, [], ◌∷◌, ◌++◌, length, map, Option, Some, None, is_some, Ok, ◌==◌, if◌then◌else◌}
use Rattle.raw_trees.specs.Plain.{PlainDatum, PlainParam, PlainRoutine, PlainItem, PlainModule, PlainName, Datum, Routine}
use Rattle.rapid_model.specs.declared.mode.Mode.{Mode}
use Rattle.rapid_model.specs.declared.mode.Mode.TheVariants as modes
use Rattle.rapid_model.specs.declared.sort.Sort.{Sort}
use Rattle.rapid_model.specs.Names.{is_among}
use Rattle.rule_checks.specs.declared.rule.TypeRule.TheVariants.{NameTwice, NameTaken, NoName, NotThis, TypeClash, PersKind}
use Rattle.data_scopes.specs.declared.counts.Counts.{Counts}
use Rattle.data_scopes.specs.declared.meant.Meant.{Meant}
use Rattle.data_scopes.specs.declared.meant.Meant.TheVariants as meants
use Rattle.rule_checks.specs.declared.spot.Spot.{Spot}
use Rattle.rule_checks.specs.Checks.{◌>>=◌, must, found_or}
use Rattle.rule_checks.specs.TypeChecks.{Checked, at_spot}
use Rattle.data_scopes.specs.Numbers.{is_const, is_pers, is_scalar_const, datum_meant, after_item, after_items, param_meant, local_meant}
use Rattle.data_scopes.specs.Scopes.{Scope, Tables, list_at, meant_in, meant_outside, meaning}
use Rattle.rapid_model.specs.Sorts.{has_values}
use Rattle.data_scopes.specs.Sorts.{sort_of}

-- the spot of a name in a module, or in one of its routines
abbrev pub spot_of : ℕ → Option ℕ → PlainName → Spot
spot_of number routine name = record { «module» = number; routine = routine; within = None; at = name.at }

-- the type that a name means, by what it means
abbrev pub type_of : Meant → Option Sort
type_of (meants.Predefined name) = sort_of name
type_of _ = None

abbrev pub sort_meant : Spot → Option Meant → Checked Sort
sort_meant spot meant = found_or meant (at_spot spot NoName) >>= (λ found. found_or (type_of found) (at_spot spot NotThis))

-- the type that a name means, which is looked up as any name
abbrev pub sort_at : Tables → Spot → PlainName → Checked Sort
sort_at tables spot name = sort_meant spot (meaning tables spot name.text)

-- a name means what this declaration of it means: no earlier declaration in its scope has the name
abbrev pub is_own : Meant → Option Meant → Bool
is_own (meants.Slot a) (Some (meants.Slot b)) = a == b
is_own (meants.Local a) (Some (meants.Local b)) = a == b
is_own (meants.Ref a) (Some (meants.Ref b)) = a == b
is_own (meants.Pers a) (Some (meants.Pers b)) = a == b
is_own (meants.Const a) (Some (meants.Const b)) = a == b
is_own (meants.Routine a) (Some (meants.Routine b)) = a == b
is_own _ _ = false

-- the scope of a module's items
abbrev pub item_scope : Tables → ℕ → Bool → Scope
item_scope tables number true = list_at tables.own number
item_scope tables number false = tables.task

-- the rules for an item's name
abbrev pub item_name_rules : Tables → Spot → Bool → Meant → PlainName → Checked (Unit {0})
item_name_rules tables spot local own name =
    must (is_own own (meant_in name.text (item_scope tables spot.«module» local))) (at_spot spot NameTwice)
    >>= (λ _. must (not (is_some (meant_outside tables name.text))) (at_spot spot NameTaken))

-- the type of a datum, which must suit its kind
abbrev pub datum_sort : Tables → ℕ → Option ℕ → PlainDatum → Checked Sort
datum_sort tables number routine d =
    let spot = spot_of number routine d.sort in
    sort_at tables spot d.sort >>= (λ sort.
    must (has_values sort || not (is_const d.kind)) (at_spot spot TypeClash) >>= (λ _.
    must (has_values sort || not (is_pers d.kind)) (at_spot spot PersKind) >>= (λ _. Ok sort)))

abbrev pub datum_rules : Tables → ℕ → Bool → Counts → PlainDatum → Checked (Unit {0})
datum_rules tables number local c d =
    datum_sort tables number None d >>= (λ _. item_name_rules tables (spot_of number None d.name) local (datum_meant c d) d.name)

-- a parameter passed by value has a type with values
abbrev pub takes_sort : Mode → Sort → Bool
takes_sort modes.Value sort = has_values sort
takes_sort modes.Inout sort = true
takes_sort modes.Var sort = true
takes_sort modes.Pers sort = true

-- the rules for the parameter at this index of a routine
abbrev pub param_rules : Tables → ℕ → ℕ → ℕ → PlainParam → Checked (Unit {0})
param_rules tables number routine index p =
    let spot = spot_of number (Some routine) p.sort in
    sort_at tables spot p.sort >>= (λ sort.
    must (takes_sort p.mode sort) (at_spot spot TypeClash) >>= (λ _.
    must (is_own (param_meant index p.mode) (meant_in p.name.text (list_at tables.inner routine))) (at_spot (spot_of number (Some routine) p.name) NameTwice)))

abbrev pub params_rules : Tables → ℕ → ℕ → ℕ → List PlainParam → Checked (Unit {0})
params_rules tables number routine index [] = Ok tt
params_rules tables number routine index (p ∷ ps) =
    param_rules tables number routine index p >>= (λ _. params_rules tables number routine (index + 1) ps)

-- how many parameters there are, if none breaks a rule
abbrev pub counted : List PlainParam → Checked (Unit {0}) → Checked ℕ
counted params checked = checked >>= (λ _. Ok (length params))

-- the rules for the datum at this index of a routine, with this many CONSTs before it
abbrev pub local_rules : Tables → ℕ → ℕ → ℕ → ℕ → PlainDatum → Checked (Unit {0})
local_rules tables number routine index consts d =
    datum_sort tables number (Some routine) d >>= (λ _.
    must (is_own (local_meant index consts d) (meant_in d.name.text (list_at tables.inner routine))) (at_spot (spot_of number (Some routine) d.name) NameTwice))

abbrev pub locals_rules : Tables → ℕ → ℕ → ℕ → ℕ → List PlainDatum → Checked (Unit {0})
locals_rules tables number routine index consts [] = Ok tt
locals_rules tables number routine index consts (d ∷ ds) =
    local_rules tables number routine index consts d >>= (λ _.
    locals_rules tables number routine (index + 1) (consts + (if is_scalar_const d then 1 else 0)) ds)

-- the type of a function's result, which must have values
abbrev pub result_rules : Tables → ℕ → ℕ → Option PlainName → Checked (Unit {0})
result_rules tables number routine None = Ok tt
result_rules tables number routine (Some name) =
    let spot = spot_of number (Some routine) name in
    sort_at tables spot name >>= (λ sort. must (has_values sort) (at_spot spot TypeClash))

abbrev pub routine_rules : Tables → ℕ → Counts → PlainRoutine → Checked (Unit {0})
routine_rules tables number c r =
    result_rules tables number c.routines r.result >>= (λ _.
    item_name_rules tables (spot_of number None r.name) r.local (meants.Routine c.routines) r.name >>= (λ _.
    params_rules tables number c.routines 0 r.params >>= (λ _.
    locals_rules tables number c.routines (length r.params) c.consts r.locals)))

-- the rules for an item of a module
abbrev pub item_rules : Tables → ℕ → Counts → PlainItem → Checked (Unit {0})
item_rules tables number c (Datum local task d at) = datum_rules tables number local c d
item_rules tables number c (Routine r) = routine_rules tables number c r

-- the rules for the items of a module
abbrev pub items_rules : Tables → ℕ → Counts → List PlainItem → Checked (Unit {0})
items_rules tables number c [] = Ok tt
items_rules tables number c (item ∷ items) = item_rules tables number c item >>= (λ _. items_rules tables number (after_item c item) items)

-- names of modules are compared only with each other
abbrev pub names : List PlainModule → List (List ℕ)
names modules = map (λ m. m.name.text) modules

-- the rules for a module with this number, after modules with these names
abbrev pub module_rules : Tables → ℕ → List (List ℕ) → Counts → PlainModule → Checked (Unit {0})
module_rules tables number before c m =
    must (not (is_among m.name.text before)) (at_spot (spot_of number None m.name) NameTwice) >>= (λ _. items_rules tables number c m.items)

-- the rules for all modules, given the number of the first
abbrev pub modules_rules : Tables → ℕ → List (List ℕ) → Counts → List PlainModule → Checked (Unit {0})
modules_rules tables number before c [] = Ok tt
modules_rules tables number before c (m ∷ ms) =
    module_rules tables number before c m >>= (λ _.
    modules_rules tables (number + 1) (before ++ (m.name.text ∷ [])) (after_items c m.items) ms)
