-- What holds of all that is declared, and of all that is predefined, holds of what a name means.
use Rattle.std.proofs.Common.{ℕ, zero, suc, Bool, true, false, List, [], ◌∷◌, ◌++◌, Option, Some, None, is_some, ◌≡◌, subst, if◌then◌else◌, bytes_eq}
use Rattle.std.specs.Option.{option_map, option_or}
use Rattle.rapid_model.specs.declared.function.Function.{Function}
use Rattle.rapid_model.specs.declared.instruction.Instruction.{Instruction}
use Rattle.rapid_model.specs.declared.predefined.Predefined.{Predefined}
use Rattle.rapid_builtins.specs.Names.{instruction_of, function_of, predefined_of}
use Rattle.name_tables.specs.Names.{found_by as entry_by}
use Rattle.data_scopes.specs.declared.meant.Meant.{Meant}
use Rattle.data_scopes.specs.declared.meant.Meant.TheVariants as meants
use Rattle.rule_checks.specs.declared.spot.Spot.{Spot}
use Rattle.data_scopes.specs.Kept.{Mean, AllMean, TablesMean}
use Rattle.data_scopes.specs.Scopes.{Scope, Tables, declare, list_at, meant_in, meant_in_routine, meant_predefined, meaning}

-- what holds implies what is weaker
module _ (P Q : Meant → Type 0) (weaker : (m : Meant) → P m → Q m) where
  mean_weaker : (scope : Scope) → Mean P scope → Mean Q scope
  mean_weaker [] all = tt
  mean_weaker (entry ∷ entries) all = (weaker entry.1 all.0, mean_weaker entries all.1)

  all_weaker : (scopes : List Scope) → AllMean P scopes → AllMean Q scopes
  all_weaker [] all = tt
  all_weaker (scope ∷ scopes) all = (mean_weaker scope all.0, all_weaker scopes all.1)

  pub tables_weaker : (tables : Tables) → TablesMean P tables → TablesMean Q tables
  tables_weaker tables all = record {
    task = mean_weaker tables.task all.task;
    own = all_weaker tables.own all.own;
    inner = all_weaker tables.inner all.inner;
    signals = mean_weaker tables.signals all.signals;
  }

-- a scope with one more declaration, and scopes side by side
module _ (P : Meant → Type 0) where
  mean_last : (scope : Scope) (entry : List ℕ × Meant) → Mean P scope → P entry.1 → Mean P (scope ++ entry ∷ [])
  mean_last [] entry all h = (h, tt)
  mean_last (e ∷ es) entry all h = (all.0, mean_last es entry all.1 h)

  pub mean_if : (a b : Scope) (t : Bool) → Mean P a → Mean P b → Mean P (if t then a else b)
  mean_if a b true ha hb = ha
  mean_if a b false ha hb = hb

  pub mean_declare : (name : List ℕ) (meant : Meant) (scope : Scope) → P meant → Mean P scope → Mean P (declare name meant scope)
  mean_declare name meant scope h all = mean_if _ _ (is_some (meant_in name scope)) all (mean_last scope _ all h)

  pub all_mean_append : (a b : List Scope) → AllMean P a → AllMean P b → AllMean P (a ++ b)
  all_mean_append [] b ha hb = hb
  all_mean_append (s ∷ a) b ha hb = (ha.0, all_mean_append a b ha.1 hb)

-- P holds of what no module declares
pub record IsElsewhere (P : Meant → Type 0) : Type 0 where
  pub counters : (k : ℕ) → P (meants.For k)
  pub instructions : (i : Instruction) → P (meants.Instruction i)
  pub functions : (f : Function) → P (meants.Function f)
  pub predefined : (p : Predefined) → P (meants.Predefined p)

module _ (P : Meant → Type 0) (elsewhere : IsElsewhere P) where
  -- P holds of what is found
  abbrev Found : Option Meant → Type 0
  Found None = Unit {0}
  Found (Some meant) = P meant

  found_if : (a b : Option Meant) (t : Bool) → Found a → Found b → Found (if t then a else b)
  found_if a b true ha hb = ha
  found_if a b false ha hb = hb

  found_by : (key : List ℕ) (scope : Scope) → Mean P scope → Found (entry_by key scope)
  found_by key [] all = tt
  found_by key (e ∷ es) all = found_if (Some e.1) (entry_by key es) (bytes_eq key e.0) all.0 (found_by key es all.1)

  found_or : (a b : Option Meant) → Found a → Found b → Found (option_or a b)
  found_or None b ha hb = hb
  found_or (Some m) b ha hb = ha

  found_for : (o : Option ℕ) → Found (option_map meants.For o)
  found_for None = tt
  found_for (Some k) = elsewhere.counters k

  found_instruction : (o : Option Instruction) → Found (option_map meants.Instruction o)
  found_instruction None = tt
  found_instruction (Some k) = elsewhere.instructions k

  found_function : (o : Option Function) → Found (option_map meants.Function o)
  found_function None = tt
  found_function (Some k) = elsewhere.functions k

  found_type : (o : Option Predefined) → Found (option_map meants.Predefined o)
  found_type None = tt
  found_type (Some k) = elsewhere.predefined k

  found_predefined : (name : List ℕ) → Found (meant_predefined name)
  unfolding meant_predefined
  found_predefined name = found_or _ _ (found_instruction (instruction_of name)) (found_or _ _ (found_function (function_of name)) (found_type (predefined_of name)))

  found_at : (scopes : List Scope) (k : ℕ) → AllMean P scopes → Mean P (list_at scopes k)
  found_at [] k all = tt
  found_at (s ∷ ss) zero all = all.0
  found_at (s ∷ ss) (suc k) all = found_at ss k all.1

  found_in_routine : (tables : Tables) (name : List ℕ) (routine within : Option ℕ) → TablesMean P tables → Found (meant_in_routine tables name routine within)
  found_in_routine tables name None within all = tt
  found_in_routine tables name (Some routine) within all =
      found_or _ _ (found_for _) (found_by _ (list_at tables.inner routine) (found_at tables.inner routine all.inner))

  found : (tables : Tables) (spot : Spot) (name : List ℕ) → TablesMean P tables → Found (meaning tables spot name)
  found tables spot name all =
      found_or _ _ (found_in_routine tables name spot.routine spot.within all)
      (found_or _ _ (found_by _ (list_at tables.own spot.«module») (found_at tables.own spot.«module» all.own))
      (found_or _ _ (found_by _ tables.task all.task) (found_or _ _ (found_by _ tables.signals all.signals) (found_predefined name))))

  -- P holds of what a name means
  pub meant_is_such : (tables : Tables) (spot : Spot) (name : List ℕ) (meant : Meant) → TablesMean P tables → meaning tables spot name ≡ Some meant → P meant
  meant_is_such tables spot name meant all is = subst Found is (found tables spot name all)
