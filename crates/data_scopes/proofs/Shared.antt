-- The signals and the predefined names, declared in one scope after a task's items.
use Rattle.std.proofs.Common.{◌≡◌, ℕ, ◌+◌, Bool, true, false, List, [], ◌∷◌, ◌++◌, length, take, Option, Some, None, is_some, if◌then◌else◌, bytes_eq, refl, sym, ap, ◌∙◌, true≢false, append-nil, append_assoc}
use Rattle.std.specs.Option.{option_map, option_or}
use Rattle.std.specs.Str.{str_to_ascii_lowercase, str_eq_ignore_ascii_case}
use Rattle.std.proofs.lemmas.List.{take_at}
use Rattle.std.proofs.lemmas.Slice.Eq.{bytes_eq-Decides}
use Rattle.rapid_model.specs.declared.signal_row.SignalRow.{SignalRow}
use Rattle.rapid_builtins.specs.Names.{meant_by, instruction_rows, instruction_of, function_rows, function_of, type_rows, data_rows, predefined_of}
use Rattle.name_tables.proofs.Places.{enters}
use Rattle.data_scopes.specs.declared.meant.Meant.{Meant}
use Rattle.data_scopes.specs.declared.meant.Meant.TheVariants as meants
use Rattle.data_scopes.specs.Numbers.{signal_scope}
use Rattle.data_scopes.specs.Scopes.{Scope, Loop, Tables, declare, meant_in, meant_predefined}
use Rattle.data_scopes.specs.Shared.{declare_rows, declare_predefined, IsShared}

-- the second scope begins with the first
record Extends (a b : Scope) : Type 0 where
  pub more : Scope
  pub is : b ≡ a ++ more

same_scope : (a : Scope) → Extends a a
same_scope a = record { more = []; is = sym (append-nil a) }

extends_then : (a b c : Scope) → Extends a b → Extends b c → Extends a c
extends_then a b c h k = record { more = h.more ++ k.more; is = k.is ∙ ap (λ s. s ++ k.more) h.is ∙ append_assoc a h.more k.more }

declared_extends : (name : List ℕ) (meant : Meant) (scope : Scope) → Extends scope (declare name meant scope)
declared_extends name meant scope = by (is_some (meant_in name scope))
  where
    by : (t : Bool) → Extends scope (if t then scope else scope ++ ((str_to_ascii_lowercase name, meant) ∷ []))
    by true = same_scope scope
    by false = record { more = (str_to_ascii_lowercase name, meant) ∷ []; is = refl }

signals_extend : (number : ℕ) (rows : List SignalRow) (scope : Scope) → Extends scope (signal_scope number rows scope)
signals_extend number [] scope = same_scope scope
signals_extend number (row ∷ rows) scope = extends_then _ _ _ (declared_extends row.name (meants.Signal number) scope) (signals_extend (number + 1) rows _)

rows_extend : {A : Type 0} (meant : A → Meant) (rows : List (List ℕ × A)) (scope : Scope) → Extends scope (declare_rows meant rows scope)
unfolding declare_rows
rows_extend meant [] scope = same_scope scope
rows_extend meant (row ∷ rows) scope = extends_then _ _ _ (declared_extends row.0 (meant row.1) scope) (rows_extend meant rows _)

or_none : (a : Option Meant) → a ≡ option_or a None
or_none None = refl
or_none (Some m) = refl

or_assoc : (a b c : Option Meant) → option_or (option_or a b) c ≡ option_or a (option_or b c)
or_assoc None b c = refl
or_assoc (Some m) b c = refl

-- what a name means as a signal
abbrev signal_named : ℕ → List SignalRow → List ℕ → Option Meant
signal_named number [] name = None
signal_named number (row ∷ rows) name = option_or (if str_eq_ignore_ascii_case name row.name then Some (meants.Signal number) else None) (signal_named (number + 1) rows name)

signals_mean : (number : ℕ) (rows : List SignalRow) (scope : Scope) (name : List ℕ) → meant_in name (signal_scope number rows scope) ≡ option_or (meant_in name scope) (signal_named number rows name)
signals_mean number [] scope name = or_none (meant_in name scope)
signals_mean number (row ∷ rows) scope name =
    signals_mean (number + 1) rows _ name ∙ ap (λ o. option_or o (signal_named (number + 1) rows name)) (enters row.name (meants.Signal number) scope name)
    ∙ or_assoc (meant_in name scope) _ _

-- two names are equal either way round
same_turned : (k l : List ℕ) (s t : Bool) → bytes_eq k l ≡ s → bytes_eq l k ≡ t → s ≡ t
same_turned k l true true e f = refl
same_turned k l false false e f = refl
same_turned k l true false e f = sym ((bytes_eq-Decides l k).1 (sym ((bytes_eq-Decides k l).0 e))) ∙ f
same_turned k l false true e f = sym e ∙ (bytes_eq-Decides k l).1 (sym ((bytes_eq-Decides l k).0 f))

turned : (a b : List ℕ) → str_eq_ignore_ascii_case a b ≡ str_eq_ignore_ascii_case b a
turned a b = same_turned (str_to_ascii_lowercase a) (str_to_ascii_lowercase b) _ _ refl refl

row_or : {A : Type 0} (meant : A → Meant) (x : A) (rest : Option A) (s t : Bool) → s ≡ t → option_or (if s then Some (meant x) else None) (option_map meant rest) ≡ option_map meant (if t then Some x else rest)
row_or meant x rest true true e = refl
row_or meant x rest false false e = refl
row_or meant x rest true false e = absurd (true≢false e)
row_or meant x rest false true e = absurd (true≢false (sym e))

rows_mean : {A : Type 0} (meant : A → Meant) (rows : List (List ℕ × A)) (scope : Scope) (name : List ℕ) → meant_in name (declare_rows meant rows scope) ≡ option_or (meant_in name scope) (option_map meant (meant_by name rows))
unfolding declare_rows
rows_mean meant [] scope name = or_none (meant_in name scope)
rows_mean meant (row ∷ rows) scope name =
    rows_mean meant rows _ name ∙ ap (λ o. option_or o (option_map meant (meant_by name rows))) (enters row.0 (meant row.1) scope name)
    ∙ or_assoc (meant_in name scope) _ _
    ∙ ap (option_or (meant_in name scope)) (row_or meant row.1 (meant_by name rows) _ _ (turned name row.0))

predefined_mean : (scope : Scope) (name : List ℕ) → meant_in name (declare_predefined scope) ≡ option_or (meant_in name scope) (meant_predefined name)
unfolding meant_predefined
predefined_mean scope name =
    let i = option_map meants.Instruction (instruction_of name) in
    let f = option_map meants.Function (function_of name) in
    let p = option_map meants.Predefined (predefined_of name) in
    rows_mean meants.Predefined (type_rows ++ data_rows) (declare_rows meants.Function function_rows (declare_rows meants.Instruction instruction_rows scope)) name
    ∙ ap (λ o. option_or o p) (rows_mean meants.Function function_rows (declare_rows meants.Instruction instruction_rows scope) name)
    ∙ ap (λ o. option_or (option_or o f) p) (rows_mean meants.Instruction instruction_rows scope name)
    ∙ or_assoc (option_or (meant_in name scope) i) f p ∙ or_assoc (meant_in name scope) i (option_or f p)

predefined_extends : (scope : Scope) → Extends scope (declare_predefined scope)
predefined_extends scope =
    extends_then _ _ _ (rows_extend meants.Instruction instruction_rows scope)
    (extends_then _ _ _ (rows_extend meants.Function function_rows _) (rows_extend meants.Predefined (type_rows ++ data_rows) _))

abbrev after : List SignalRow → Scope → Scope
after signals task = declare_predefined (signal_scope 0 signals task)

-- the items stay first
items_first : (task : Scope) (signals : List SignalRow) → take (length task) (after signals task) ≡ task
items_first task signals =
    let e = extends_then _ _ _ (signals_extend 0 signals task) (predefined_extends (signal_scope 0 signals task)) in
    ap (take (length task)) e.is ∙ take_at task e.more (length task) refl

is_shared : (task : Scope) (signals : List SignalRow) → IsShared (after signals task) task (signal_scope 0 signals [])
is_shared task signals name =
    predefined_mean (signal_scope 0 signals task) name ∙ ap (λ o. option_or o (meant_predefined name)) (signals_mean 0 signals task name)
    ∙ or_assoc (meant_in name task) _ _
    ∙ ap (λ o. option_or (meant_in name task) (option_or o (meant_predefined name))) (sym (signals_mean 0 signals [] name))

abbrev tables : Scope → List Scope → List Scope → List (List Loop) → Scope → Tables
tables task own inner loops signals = record { task = task; own = own; inner = inner; loops = loops; signals = signals }

-- a scope that was filled with the items, the signals and the predefined names
module _ (task more shared outside : Scope) (signals : List SignalRow) (count : ℕ) (declared : more ≡ signal_scope 0 signals task) (all : shared ≡ declare_predefined more) (counted : count ≡ length task) (alone : outside ≡ signal_scope 0 signals []) where
  filled_first : take count shared ≡ task
  filled_first = ap (λ n. take n shared) counted ∙ ap (take (length task)) (all ∙ ap declare_predefined declared) ∙ items_first task signals

  pub filled : IsShared shared (take count shared) outside
  filled name =
      ap (meant_in name) (all ∙ ap declare_predefined declared) ∙ is_shared task signals name
      ∙ ap (λ t. option_or (meant_in name t) (option_or (meant_in name (signal_scope 0 signals [])) (meant_predefined name))) (sym filled_first)
      ∙ ap (λ s. option_or (meant_in name (take count shared)) (option_or (meant_in name s) (meant_predefined name))) (sym alone)

  pub filled_tables : (own inner : List Scope) (loops : List (List Loop)) (t : Tables) → t ≡ tables (take count shared) own inner loops outside → t ≡ tables task own inner loops (signal_scope 0 signals [])
  filled_tables own inner loops t is = is ∙ ap (λ s. tables s own inner loops outside) filled_first ∙ ap (tables task own inner loops) alone
