-- The data of a task's modules.
use Rattle.std.proofs.Common.{◌≡◌, ◌↔◌, ℕ, ◌+◌, Bool, ◌||◌, List, [], ◌∷◌, length, Option, Some, None, slice_get, Ok}
use Rattle.raw_trees.specs.Plain.{PlainDatum, PlainItem, PlainModule, Datum, Routine}
use Rattle.rapid_model.specs.declared.sort.Sort.{Sort}
use Rattle.rapid_model.specs.declared.value.Value.{Value}
use Rattle.constant_meaning.specs.Constants.{Elements}
use Rattle.data_scopes.specs.Called.{local_of}
use Rattle.data_scopes.specs.Numbers.{is_pers, is_scalar_const}
use Rattle.decl_types.specs.Values.{initial}
use Rattle.decl_types.specs.Data.{Progress, Inner, sort_in, with_const, with_pers, with_slot, with_local, of_modules, datum_const, datum_pers, datum_slot, datum, entered, left, locals, item, items, data_of}
use Rattle.type_laws.proofs.Steps.{done, then}
use Rattle.type_laws.specs.Data.{IsConstData, IsPersData, IsSlotData, ByKind, IsDatumData, AreLocalsData, IsItemData, AreItemsData, AreModulesData}
use Rattle.type_laws.proofs.TaskSteps.{regrouped}
use Rattle.type_laws.proofs.Choices.{one_of_three}
use Rattle.type_laws.proofs.Values.{initial_law}

const_law : (number : ℕ) (d : PlainDatum) (p q : Progress) → (datum_const number d p ≡ Ok q) ↔ IsConstData number d p q
const_law number d p q =
    let sort : Sort = sort_in (slice_get p.names.rows.consts p.consts) in
    then (initial p.names number None (of_modules p) sort d) _ q (initial_law p.names number None (of_modules p) sort d) (λ i. done (with_const p i) q)

pers_law : (number : ℕ) (own : Bool) (d : PlainDatum) (p q : Progress) → (datum_pers number own d p ≡ Ok q) ↔ IsPersData number own d p q
pers_law number own d p q =
    let sort : Sort = sort_in (slice_get p.names.rows.pers (length p.pers)) in
    then (initial p.names number None (of_modules p) sort d) _ q (initial_law p.names number None (of_modules p) sort d) (λ i. done (with_pers p number own d sort i) q)

slot_law : (number : ℕ) (d : PlainDatum) (p q : Progress) → (datum_slot number d p ≡ Ok q) ↔ IsSlotData number d p q
slot_law number d p q =
    let sort : Sort = sort_in (slice_get p.names.rows.slots (length p.slots)) in
    then (initial p.names number None (of_modules p) sort d) _ q (initial_law p.names number None (of_modules p) sort d) (λ i. done (with_slot p d sort i) q)

datum_law : (number : ℕ) (own : Bool) (d : PlainDatum) (p q : Progress) → (datum number own d p ≡ Ok q) ↔ IsDatumData number own d p q
datum_law number own d p q =
    one_of_three (λ single pers. ByKind single pers number own d p q) (is_scalar_const d) (is_pers d.kind) _ _ _ q
    (λ pers. const_law number d p q) (pers_law number own d p q) (slot_law number d p q)

locals_law : (number routine : ℕ) (slots : List (Option (List Value))) (ds : List PlainDatum) (n m : Inner) → (locals number routine slots ds n ≡ Ok m) ↔ AreLocalsData number routine slots ds n m
locals_law number routine slots [] n m = done n m
locals_law number routine slots (d ∷ ds) n m =
    let sort : Sort = sort_in (local_of n.names.rows (Some routine) (length n.known)) in
    let known : Elements = record { slots = slots; locals = n.known } in
    regrouped (initial n.names number (Some routine) known sort d) _ _ m (
    then (initial n.names number (Some routine) known sort d) _ m (initial_law n.names number (Some routine) known sort d) (λ i.
    locals_law number routine slots ds (with_local n d sort i) m))

item_law : (number : ℕ) (i : PlainItem) (p q : Progress) → (item number i p ≡ Ok q) ↔ IsItemData number i p q
item_law number (Datum local task d at) p q = datum_law number (local || task) d p q
item_law number (Routine r) p q =
    let routine : ℕ = length p.locals in
    then (locals number routine p.known r.locals (entered p r.params)) _ q (locals_law number routine p.known r.locals (entered p r.params)) (λ n. done (left p n) q)

items_law : (number : ℕ) (is : List PlainItem) (p q : Progress) → (items number is p ≡ Ok q) ↔ AreItemsData number is p q
items_law number [] p q = done p q
items_law number (i ∷ is) p q = then (item number i p) _ q (item_law number i p) (λ middle. items_law number is middle q)

pub data_law : (number : ℕ) (ms : List PlainModule) (p q : Progress) → (data_of number ms p ≡ Ok q) ↔ AreModulesData number ms p q
data_law number [] p q = done p q
data_law number (m ∷ ms) p q = then (items number m.items p) _ q (items_law number m.items p) (λ middle. data_law (number + 1) ms middle q)
