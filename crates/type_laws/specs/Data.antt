-- Which lengths and initial values of data are valid, and the data of a task's modules with their first values.
use Rattle.std.specs.Prelude.{◌≡◌, ℕ, ℤ, ◌+◌, Bool, true, false, not, ◌||◌, List, [], ◌∷◌, length, Option, Some, None, is_some, slice_get}
use Rattle.std.specs.List.{list_all}
use Rattle.rapid_limits.specs.declared.TheConstants.{LONGEST_ARRAY}
use Rattle.raw_trees.specs.Plain.{PlainDatum, PlainItem, PlainModule, PlainExpr, PlainExprs, Aggregate, Group, NoExprs, MoreExprs, Datum, Routine}
use Rattle.rapid_model.specs.declared.sort.Sort.{Sort}
use Rattle.rapid_model.specs.declared.sort.Sort.TheVariants as sorts
use Rattle.rapid_model.specs.declared.value.Value.{Value}
use Rattle.rapid_model.specs.declared.value.Value.TheVariants as values
use Rattle.typed_trees.specs.Plain
use Rattle.typed_trees.specs.Plain.{TypedExpr, TypedExprs}
use Rattle.rapid_values.specs.Elements.{element_number}
use Rattle.constant_meaning.specs.Constants.{Elements, all, constant_value, constant_values, is_constant, are_constant}
use Rattle.constant_meaning.specs.declared.outcome.Outcome.TheVariants as outcomes
use Rattle.data_scopes.specs.Called.{local_of}
use Rattle.data_scopes.specs.Numbers.{is_const, is_pers, is_scalar_const}
use Rattle.data_scopes.specs.Scopes.{Names}
use Rattle.rapid_model.specs.Sorts.{has_values, is_value_of}
use Rattle.named_data.specs.declared.wanted.Wanted.TheVariants.{Is}
use Rattle.named_data.specs.Rules.{Site}
use Rattle.decl_types.specs.Values.{Initial, site_of}
use Rattle.decl_types.specs.Data.{Progress, Inner, sort_in, with_const, with_slot, with_pers, with_local, of_modules, entered, left}
use Rattle.type_laws.specs.Expressions.{IsExpr}

-- the length of an array: constant, and an integer from 1 to the maximum length
abbrev pub IsLength : Site → Elements → PlainExpr → ℕ → Type 0
IsLength s known e n =
    (t : TypedExpr) × (v : ℤ) × IsExpr s e (Is sorts.Num) t × (is_constant known t ≡ true) × (constant_value known t ≡ outcomes.Value (values.Num v))
    × (element_number LONGEST_ARRAY v ≡ Some n)

abbrev pub IsLen : Names → ℕ → Option ℕ → Elements → Option PlainExpr → Option ℕ → Type 0
IsLen names number routine known None len = len ≡ None
IsLen names number routine known (Some e) len = (n : ℕ) × IsLength (site_of names number routine e) known e n × (len ≡ Some n)

-- the initial value of a datum that is not an array
abbrev pub IsSingle : Site → Elements → Sort → PlainExpr → List Value → Type 0
IsSingle s known sort e vs =
    (t : TypedExpr) × (v : Value) × IsExpr s e (Is sort) t × (is_constant known t ≡ true) × (constant_value known t ≡ outcomes.Value v)
    × (is_value_of sort v ≡ true) × (vs ≡ v ∷ [])

abbrev pub AreArrayElements : Site → Sort → PlainExprs → TypedExprs → Type 0
AreArrayElements s sort NoExprs ts = ts ≡ Plain.NoExprs
AreArrayElements s sort (MoreExprs e es) ts =
    (u : TypedExpr) × (us : TypedExprs) × IsExpr s e (Is sort) u × AreArrayElements s sort es us × (ts ≡ Plain.MoreExprs u us)

abbrev pub AreBrackets : Site → Sort → PlainExpr → TypedExprs → Type 0
AreBrackets s sort (Aggregate at es) ts = AreArrayElements s sort es ts
AreBrackets s sort (Group at e) ts = AreBrackets s sort e ts
AreBrackets s sort e ts = ⊥

-- the initial value of an array: brackets with a constant value of its type for each element
abbrev pub AreArrayValues : Site → Elements → Sort → ℕ → PlainExpr → List Value → Type 0
AreArrayValues s known sort len e vs =
    (ts : TypedExprs) × AreBrackets s sort e ts × (are_constant known ts ≡ true) × (constant_values known ts ≡ all vs)
    × (list_all (is_value_of sort) vs ≡ true) × (length vs ≡ len)

abbrev pub AreInitialValues : Site → Elements → Sort → Option ℕ → PlainExpr → List Value → Type 0
AreInitialValues s known sort None e vs = (has_values sort ≡ true) × IsSingle s known sort e vs
AreInitialValues s known sort (Some len) e vs = (has_values sort ≡ true) × AreArrayValues s known sort len e vs

abbrev pub AreValues : Names → ℕ → Option ℕ → Elements → Sort → Option ℕ → Option PlainExpr → Option (List Value) → Type 0
AreValues names number routine known sort len None values = values ≡ None
AreValues names number routine known sort len (Some e) values =
    (vs : List Value) × AreInitialValues (site_of names number routine e) known sort len e vs × (values ≡ Some vs)

-- the length and the values that a declaration gives; a CONST has a value
abbrev pub IsInitial : Names → ℕ → Option ℕ → Elements → Sort → PlainDatum → Initial → Type 0
IsInitial names number routine known sort d i =
    ((is_some d.first || not (is_const d.kind)) ≡ true) × IsLen names number routine known d.len i.len
    × AreValues names number routine known sort i.len d.first i.values

abbrev pub IsConstData : ℕ → PlainDatum → Progress → Progress → Type 0
IsConstData number d p q =
    (i : Initial) × IsInitial p.names number None (of_modules p) (sort_in (slice_get p.names.rows.consts p.consts)) d i × (q ≡ with_const p i)

abbrev pub IsPersData : ℕ → Bool → PlainDatum → Progress → Progress → Type 0
IsPersData number own d p q =
    (i : Initial) × IsInitial p.names number None (of_modules p) (sort_in (slice_get p.names.rows.pers (length p.pers))) d i
    × (q ≡ with_pers p number own d (sort_in (slice_get p.names.rows.pers (length p.pers))) i)

abbrev pub IsSlotData : ℕ → PlainDatum → Progress → Progress → Type 0
IsSlotData number d p q =
    (i : Initial) × IsInitial p.names number None (of_modules p) (sort_in (slice_get p.names.rows.slots (length p.slots))) d i
    × (q ≡ with_slot p d (sort_in (slice_get p.names.rows.slots (length p.slots))) i)

abbrev pub ByKind : Bool → Bool → ℕ → Bool → PlainDatum → Progress → Progress → Type 0
ByKind true pers number own d p q = IsConstData number d p q
ByKind false true number own d p q = IsPersData number own d p q
ByKind false false number own d p q = IsSlotData number d p q

-- a datum of a module: a CONST that is not an array, a PERS, or another one
abbrev pub IsDatumData : ℕ → Bool → PlainDatum → Progress → Progress → Type 0
IsDatumData number own d p q = ByKind (is_scalar_const d) (is_pers d.kind) number own d p q

-- the data of a routine
abbrev pub AreLocalsData : ℕ → ℕ → List (Option (List Value)) → List PlainDatum → Inner → Inner → Type 0
AreLocalsData number routine slots [] n m = m ≡ n
AreLocalsData number routine slots (d ∷ ds) n m =
    (i : Initial)
    × IsInitial n.names number (Some routine) (record { slots = slots; locals = n.known }) (sort_in (local_of n.names.rows (Some routine) (length n.known))) d i
    × AreLocalsData number routine slots ds (with_local n d (sort_in (local_of n.names.rows (Some routine) (length n.known))) i) m

abbrev pub IsItemData : ℕ → PlainItem → Progress → Progress → Type 0
IsItemData number (Datum local task d at) p q = IsDatumData number (local || task) d p q
IsItemData number (Routine r) p q = (n : Inner) × AreLocalsData number (length p.locals) p.known r.locals (entered p r.params) n × (q ≡ left p n)

abbrev pub AreItemsData : ℕ → List PlainItem → Progress → Progress → Type 0
AreItemsData number [] p q = q ≡ p
AreItemsData number (i ∷ is) p q = (middle : Progress) × IsItemData number i p middle × AreItemsData number is middle q

-- the modules, given the number of the first
abbrev pub AreModulesData : ℕ → List PlainModule → Progress → Progress → Type 0
AreModulesData number [] p q = q ≡ p
AreModulesData number (m ∷ ms) p q = (middle : Progress) × AreItemsData number m.items p middle × AreModulesData (number + 1) ms middle q
