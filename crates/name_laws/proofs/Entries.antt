-- What holds of the entries of scopes, each by its name in lower case and by what it means, holds of what is found in
-- them.
use Rattle.std.proofs.Common.{◌≡◌, ℕ, zero, suc, ◌+◌, Bool, true, false, List, [], ◌∷◌, ◌++◌, Option, Some, None, is_some, IfSome, length, refl, sym, subst, if◌then◌else◌, bytes_eq, arith}
use Rattle.std.specs.Option.{option_map, option_or}
use Rattle.std.specs.Str.{str_to_ascii_lowercase}
use Rattle.std.proofs.lemmas.Slice.Eq.{bytes_eq-Decides}
use Rattle.rapid_model.specs.declared.function.Function.{Function}
use Rattle.rapid_model.specs.declared.instruction.Instruction.{Instruction}
use Rattle.rapid_model.specs.declared.predefined.Predefined.{Predefined}
use Rattle.rapid_builtins.specs.Names.{instruction_of, function_of, predefined_of}
use Rattle.name_tables.specs.Names.{found_by as entry_by}
use Rattle.rule_checks.specs.declared.spot.Spot.{Spot}
use Rattle.data_scopes.specs.declared.meant.Meant.{Meant}
use Rattle.data_scopes.specs.declared.meant.Meant.TheVariants as meants
use Rattle.data_scopes.specs.Scopes.{Scope, Tables, declare, list_at, loop_named, meant_in, meant_in_routine, meant_predefined, meaning}

abbrev pub Holds : (List ℕ → Meant → Type 0) → Scope → Type 0
Holds P [] = Unit {0}
Holds P (entry ∷ entries) = P entry.0 entry.1 × Holds P entries

-- scopes one after the other, given the number of the first
abbrev pub EachHolds : (ℕ → List ℕ → Meant → Type 0) → ℕ → List Scope → Type 0
EachHolds P number [] = Unit {0}
EachHolds P number (scope ∷ scopes) = Holds (P number) scope × EachHolds P (number + 1) scopes

module _ (P : List ℕ → Meant → Type 0) where
  holds_last : (scope : Scope) (entry : List ℕ × Meant) → Holds P scope → P entry.0 entry.1 → Holds P (scope ++ entry ∷ [])
  holds_last [] entry all h = (h, tt)
  holds_last (e ∷ es) entry all h = (all.0, holds_last es entry all.1 h)

  holds_if : (a b : Scope) (t : Bool) → Holds P a → Holds P b → Holds P (if t then a else b)
  holds_if a b true ha hb = ha
  holds_if a b false ha hb = hb

  pub holds_declare : (name : List ℕ) (meant : Meant) (scope : Scope) → P (str_to_ascii_lowercase name) meant → Holds P scope → Holds P (declare name meant scope)
  holds_declare name meant scope h all = holds_if _ _ (is_some (meant_in name scope)) all (holds_last scope _ all h)

  found_if : (key : List ℕ) (entry : List ℕ × Meant) (rest : Option Meant) (b : Bool) → bytes_eq key entry.0 ≡ b → P entry.0 entry.1 → IfSome rest (P key) → IfSome (if b then Some entry.1 else rest) (P key)
  found_if key entry rest true is h k = subst (λ n. P n entry.1) (sym ((bytes_eq-Decides key entry.0).0 is)) h
  found_if key entry rest false is h k = k

  found_by : (key : List ℕ) (scope : Scope) → Holds P scope → IfSome (entry_by key scope) (P key)
  found_by key [] all = tt
  found_by key (e ∷ es) all = found_if key e (entry_by key es) (bytes_eq key e.0) refl all.0 (found_by key es all.1)

  pub found_there : (name : List ℕ) (scope : Scope) → Holds P scope → IfSome (meant_in name scope) (P (str_to_ascii_lowercase name))
  found_there name scope all = found_by (str_to_ascii_lowercase name) scope all

pub holds_at : (P : ℕ → List ℕ → Meant → Type 0) (number k : ℕ) (scopes : List Scope) → EachHolds P number scopes → Holds (P (number + k)) (list_at scopes k)
holds_at P number k [] all = tt
holds_at P number zero (s ∷ ss) all = let e : number ≡ number + zero = omega arith in subst (λ n. Holds (P n) s) e all.0
holds_at P number (suc k) (s ∷ ss) all =
    let e : (number + 1) + k ≡ number + suc k = omega arith in subst (λ n. Holds (P n) (list_at ss k)) e (holds_at P (number + 1) k ss all.1)

-- what holds of it implies what is weaker
pub raised : (o : Option Meant) (P Q : Meant → Type 0) → ((m : Meant) → P m → Q m) → IfSome o P → IfSome o Q
raised None P Q f h = tt
raised (Some m) P Q f h = f m h

module _ (tables : Tables) (spot : Spot) (name : List ℕ) (Q : Meant → Type 0) where
  one_of : (a b : Option Meant) → IfSome a Q → IfSome b Q → IfSome (option_or a b) Q
  one_of None b ha hb = hb
  one_of (Some m) b ha hb = ha

  mapped : {A : Type 0} (f : A → Meant) (o : Option A) → ((x : A) → o ≡ Some x → Q (f x)) → IfSome (option_map f o) Q
  mapped f None h = tt
  mapped f (Some x) h = h x refl

  -- what no module declares has the property
  pub record IsElsewhere : Type 0 where
    pub instructions : (i : Instruction) → Q (meants.Instruction i)
    pub functions : (f : Function) → Q (meants.Function f)
    pub predefined : (p : Predefined) → Q (meants.Predefined p)

  -- a FOR around the spot in its routine
  abbrev pub Counter : ℕ → ℕ → Type 0
  Counter routine k =
      let loops = list_at tables.loops routine in
      loop_named (length loops) (str_to_ascii_lowercase name) loops spot.within ≡ Some k

  -- what is declared in each place has the property
  pub record AreSources : Type 0 where
    pub counters : (routine k : ℕ) → spot.routine ≡ Some routine → Counter routine k → Q (meants.For k)
    pub inner : (routine : ℕ) → spot.routine ≡ Some routine → IfSome (meant_in name (list_at tables.inner routine)) Q
    pub own : IfSome (meant_in name (list_at tables.own spot.«module»)) Q
    pub task : IfSome (meant_in name tables.task) Q
    pub signals : IfSome (meant_in name tables.signals) Q

  predefined_such : IsElsewhere → IfSome (meant_predefined name) Q
  unfolding meant_predefined
  predefined_such e =
      one_of _ _ (mapped meants.Instruction (instruction_of name) (λ i _. e.instructions i))
      (one_of _ _ (mapped meants.Function (function_of name) (λ f _. e.functions f)) (mapped meants.Predefined (predefined_of name) (λ p _. e.predefined p)))

  in_routine_such : AreSources → (routine : Option ℕ) → spot.routine ≡ routine → IfSome (meant_in_routine tables name routine spot.within) Q
  in_routine_such s None is = tt
  in_routine_such s (Some routine) is = one_of _ _ (mapped meants.For _ (λ k found. s.counters routine k is found)) (s.inner routine is)

  pub meaning_such : IsElsewhere → AreSources → (meant : Meant) → meaning tables spot name ≡ Some meant → Q meant
  meaning_such e s meant is =
      let all : IfSome (meaning tables spot name) Q =
      one_of _ _ (in_routine_such s spot.routine refl) (one_of _ _ s.own (one_of _ _ s.task (one_of _ _ s.signals (predefined_such e)))) in
      subst (λ o. IfSome o Q) is all
