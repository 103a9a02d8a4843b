-- Each CONST, VAR, PERS and routine that a scope of the modules has is one of those that the walk counts.
use Rattle.std.proofs.Common.{◌≡◌, ℕ, ◌+◌, ◌<◌, ◌≤◌, Bool, true, false, List, [], ◌∷◌, length, Some, if◌then◌else◌, arith}
use Rattle.rapid_model.specs.declared.signal_row.SignalRow.{SignalRow}
use Rattle.raw_trees.specs.Plain.{PlainDatum, PlainParam, PlainItem, PlainModule, Datum, Routine}
use Rattle.rapid_model.specs.declared.mode.Mode.{Mode}
use Rattle.rapid_model.specs.declared.mode.Mode.TheVariants as modes
use Rattle.data_scopes.specs.declared.counts.Counts.{Counts}
use Rattle.data_scopes.specs.declared.meant.Meant.{Meant}
use Rattle.data_scopes.specs.declared.meant.Meant.TheVariants as meants
use Rattle.rule_checks.specs.declared.spot.Spot.{Spot}
use Rattle.data_scopes.specs.Kept.{IsBelow, Mean, AllMean, TablesMean}
use Rattle.data_scopes.specs.Numbers.{is_pers, is_scalar_const, scalar_consts, is_local, item_name, item_meant, after_item, after_items, param_meant, declare_params, local_meant, declare_locals, own_items, task_items, item_scopes, routine_scopes, task_scope, own_scopes, inner_scopes, signal_scope, no_counts, tables_of}
use Rattle.data_scopes.specs.Scopes.{Scope, Tables, meaning}
use Rattle.data_scopes.proofs.Meanings.{tables_weaker, mean_if, mean_declare, all_mean_append, meant_is_such}

-- the counts after the modules
abbrev pub after_modules : Counts → List PlainModule → Counts
after_modules c [] = c
after_modules c (m ∷ ms) = after_modules (after_items c m.items) ms

-- a datum, by whether it is a CONST that is not an array, and whether it is a PERS
abbrev pub after_by : Counts → Bool → Bool → Counts
after_by c scalar pers =
    if scalar then record { slots = c.slots; pers = c.pers; consts = c.consts + 1; routines = c.routines }
    else if pers then record { slots = c.slots; pers = c.pers + 1; consts = c.consts; routines = c.routines }
    else record { slots = c.slots + 1; pers = c.pers; consts = c.consts; routines = c.routines }

-- a number is below the count of its kind
abbrev pub IsWithin : Counts → Meant → Type 0
IsWithin n (meants.Const k) = k < n.consts
IsWithin n (meants.Slot k) = k < n.slots
IsWithin n (meants.Pers k) = k < n.pers
IsWithin n (meants.Routine k) = k < n.routines
IsWithin n _ = Unit {0}

-- no more of any kind
pub record Fits (a b : Counts) : Type 0 where
  pub slots : a.slots ≤ b.slots
  pub pers : a.pers ≤ b.pers
  pub consts : a.consts ≤ b.consts
  pub routines : a.routines ≤ b.routines

pub fits_same : (a : Counts) → Fits a a
fits_same a = record { slots = omega arith; pers = omega arith; consts = omega arith; routines = omega arith }

fits_then : (a b c : Counts) → Fits a b → Fits b c → Fits a c
fits_then a b c h k = record {
  slots = omega (arith, h.slots, k.slots);
  pers = omega (arith, h.pers, k.pers);
  consts = omega (arith, h.consts, k.consts);
  routines = omega (arith, h.routines, k.routines);
}

within_more : (a b : Counts) (m : Meant) → Fits a b → IsWithin a m → IsWithin b m
within_more a b (meants.Const k) le h = omega (arith, le.consts)
within_more a b (meants.Slot k) le h = omega (arith, le.slots)
within_more a b (meants.Local k) le h = tt
within_more a b (meants.Ref k) le h = tt
within_more a b (meants.Pers k) le h = omega (arith, le.pers)
within_more a b (meants.For k) le h = tt
within_more a b (meants.Signal k) le h = tt
within_more a b (meants.Routine k) le h = omega (arith, le.routines)
within_more a b (meants.Instruction k) le h = tt
within_more a b (meants.Function k) le h = tt
within_more a b (meants.Predefined k) le h = tt

within_datum_by : (c : Counts) (scalar pers : Bool) →
    IsWithin (after_by c scalar pers) (if scalar then meants.Const c.consts else if pers then meants.Pers c.pers else meants.Slot c.slots)
within_datum_by c true pers = omega arith
within_datum_by c false true = omega arith
within_datum_by c false false = omega arith

within_item : (c : Counts) (item : PlainItem) → IsWithin (after_item c item) (item_meant c item)
within_item c (Datum local task d at) = within_datum_by c (is_scalar_const d) (is_pers d.kind)
within_item c (Routine r) = omega arith

grows_by : (c : Counts) (scalar pers : Bool) → Fits c (after_by c scalar pers)
grows_by c true pers = record { slots = omega arith; pers = omega arith; consts = omega arith; routines = omega arith }
grows_by c false true = record { slots = omega arith; pers = omega arith; consts = omega arith; routines = omega arith }
grows_by c false false = record { slots = omega arith; pers = omega arith; consts = omega arith; routines = omega arith }

grows_item : (c : Counts) (item : PlainItem) → Fits c (after_item c item)
grows_item c (Datum local task d at) = grows_by c (is_scalar_const d) (is_pers d.kind)
grows_item c (Routine r) = record { slots = omega arith; pers = omega arith; consts = omega arith; routines = omega arith }

grows_items : (c : Counts) (items : List PlainItem) → Fits c (after_items c items)
grows_items c [] = fits_same c
grows_items c (item ∷ items) = fits_then _ _ _ (grows_item c item) (grows_items (after_item c item) items)

grows_modules : (c : Counts) (ms : List PlainModule) → Fits c (after_modules c ms)
grows_modules c [] = fits_same c
grows_modules c (m ∷ ms) = fits_then _ _ _ (grows_items c m.items) (grows_modules (after_items c m.items) ms)

module _ (n : Counts) where
  within_own : (c : Counts) (items : List PlainItem) (scope : Scope) → Fits (after_items c items) n → Mean (IsWithin n) scope → Mean (IsWithin n) (own_items c items scope)
  within_own c [] scope le all = all
  within_own c (item ∷ items) scope le all =
      let grows = fits_then _ _ n (grows_items (after_item c item) items) le in
      within_own (after_item c item) items _ le
      (mean_if (IsWithin n) _ _ (is_local item) (mean_declare (IsWithin n) (item_name item).text (item_meant c item) scope (within_more _ n (item_meant c item) grows (within_item c item)) all) all)

  within_task : (c : Counts) (items : List PlainItem) (scope : Scope) → Fits (after_items c items) n → Mean (IsWithin n) scope → Mean (IsWithin n) (task_items c items scope)
  within_task c [] scope le all = all
  within_task c (item ∷ items) scope le all =
      let grows = fits_then _ _ n (grows_items (after_item c item) items) le in
      within_task (after_item c item) items _ le
      (mean_if (IsWithin n) _ _ (is_local item) all (mean_declare (IsWithin n) (item_name item).text (item_meant c item) scope (within_more _ n (item_meant c item) grows (within_item c item)) all))

  within_param : (index : ℕ) (mode : Mode) → IsWithin n (param_meant index mode)
  within_param index modes.Value = tt
  within_param index modes.Inout = tt
  within_param index modes.Var = tt
  within_param index modes.Pers = tt

  within_params : (index : ℕ) (ps : List PlainParam) (scope : Scope) → Mean (IsWithin n) scope → Mean (IsWithin n) (declare_params index ps scope)
  within_params index [] scope all = all
  within_params index (p ∷ ps) scope all =
      within_params (index + 1) ps _ (mean_declare (IsWithin n) p.name.text (param_meant index p.mode) scope (within_param index p.mode) all)

  within_local : (index consts : ℕ) (b : Bool) → consts + (if b then 1 else 0) ≤ n.consts → IsWithin n (if b then meants.Const consts else meants.Local index)
  within_local index consts true le = omega arith
  within_local index consts false le = tt

  within_locals : (index consts : ℕ) (ds : List PlainDatum) (scope : Scope) → consts + scalar_consts ds ≤ n.consts → Mean (IsWithin n) scope → Mean (IsWithin n) (declare_locals index consts ds scope)
  within_locals index consts [] scope le all = all
  within_locals index consts (d ∷ ds) scope le all =
      within_locals (index + 1) (consts + (if is_scalar_const d then 1 else 0)) ds _ (omega arith)
      (mean_declare (IsWithin n) d.name.text (local_meant index consts d) scope (within_local index consts (is_scalar_const d) (omega arith)) all)

  within_scope : (c : Counts) (item : PlainItem) → Fits (after_item c item) n → AllMean (IsWithin n) (item_scopes c item)
  within_scope c (Datum local task d at) le = tt
  within_scope c (Routine r) le = (within_locals (length r.params) c.consts r.locals (declare_params 0 r.params []) le.consts (within_params 0 r.params [] tt), tt)

  within_scopes : (c : Counts) (items : List PlainItem) → Fits (after_items c items) n → AllMean (IsWithin n) (routine_scopes c items)
  within_scopes c [] le = tt
  within_scopes c (item ∷ items) le =
      let grows = fits_then _ _ n (grows_items (after_item c item) items) le in
      all_mean_append (IsWithin n) (item_scopes c item) _ (within_scope c item grows) (within_scopes (after_item c item) items le)

  within_task_scope : (c : Counts) (ms : List PlainModule) (scope : Scope) → Fits (after_modules c ms) n → Mean (IsWithin n) scope → Mean (IsWithin n) (task_scope c ms scope)
  within_task_scope c [] scope le all = all
  within_task_scope c (m ∷ ms) scope le all =
      let grows = fits_then _ _ n (grows_modules (after_items c m.items) ms) le in
      within_task_scope (after_items c m.items) ms _ le (within_task c m.items scope grows all)

  within_own_scopes : (c : Counts) (ms : List PlainModule) → Fits (after_modules c ms) n → AllMean (IsWithin n) (own_scopes c ms)
  within_own_scopes c [] le = tt
  within_own_scopes c (m ∷ ms) le =
      let grows = fits_then _ _ n (grows_modules (after_items c m.items) ms) le in
      (within_own c m.items [] grows tt, within_own_scopes (after_items c m.items) ms le)

  within_inner_scopes : (c : Counts) (ms : List PlainModule) → Fits (after_modules c ms) n → AllMean (IsWithin n) (inner_scopes c ms)
  within_inner_scopes c [] le = tt
  within_inner_scopes c (m ∷ ms) le =
      let grows = fits_then _ _ n (grows_modules (after_items c m.items) ms) le in
      all_mean_append (IsWithin n) (routine_scopes c m.items) _ (within_scopes c m.items grows) (within_inner_scopes (after_items c m.items) ms le)

  within_signals : (number : ℕ) (rows : List SignalRow) (scope : Scope) → Mean (IsWithin n) scope → Mean (IsWithin n) (signal_scope number rows scope)
  within_signals number [] scope all = all
  within_signals number (row ∷ rows) scope all = within_signals (number + 1) rows _ (mean_declare (IsWithin n) row.name (meants.Signal number) scope tt all)

  pub tables_within : (ms : List PlainModule) (signals : List SignalRow) → Fits (after_modules no_counts ms) n → TablesMean (IsWithin n) (tables_of ms signals)
  tables_within ms signals le = record {
    task = within_task_scope no_counts ms [] le tt;
    own = within_own_scopes no_counts ms le;
    inner = within_inner_scopes no_counts ms le;
    signals = within_signals 0 signals [] tt;
  }

  -- what a name means is below the counts
  pub meant_within : (tables : Tables) (spot : Spot) (name : List ℕ) (meant : Meant) → TablesMean (IsWithin n) tables → meaning tables spot name ≡ Some meant → IsWithin n meant
  meant_within = meant_is_such (IsWithin n) (record { counters = λ k. tt; instructions = λ i. tt; functions = λ f. tt; predefined = λ p. tt })

within_below : (c : Counts) (n : ℕ) → c.consts ≤ n → (m : Meant) → IsWithin c m → IsBelow n m
within_below c n le (meants.Const k) h = omega arith
within_below c n le (meants.Slot k) h = tt
within_below c n le (meants.Local k) h = tt
within_below c n le (meants.Ref k) h = tt
within_below c n le (meants.Pers k) h = tt
within_below c n le (meants.For k) h = tt
within_below c n le (meants.Signal k) h = tt
within_below c n le (meants.Routine k) h = tt
within_below c n le (meants.Instruction k) h = tt
within_below c n le (meants.Function k) h = tt
within_below c n le (meants.Predefined k) h = tt

-- each CONST is below the count
pub tables_below : (n : ℕ) (ms : List PlainModule) (signals : List SignalRow) → (after_modules no_counts ms).consts ≤ n → TablesMean (IsBelow n) (tables_of ms signals)
tables_below n ms signals le =
    let c = after_modules no_counts ms in
    tables_weaker (IsWithin c) (IsBelow n) (within_below c n le) (tables_of ms signals) (tables_within c ms signals (fits_same c))

-- a CONST that a name means is below the count
pub const_below : (n : ℕ) (tables : Tables) (spot : Spot) (name : List ℕ) (constant : ℕ) → TablesMean (IsBelow n) tables → meaning tables spot name ≡ Some (meants.Const constant) → constant < n
const_below n tables spot name constant =
    meant_is_such (IsBelow n) (record { counters = λ k. tt; instructions = λ i. tt; functions = λ f. tt; predefined = λ p. tt }) tables spot name (meants.Const constant)
