-- What a sink gained.
use Rattle.std.specs.Prelude.{◌≡◌, ◌≢◌, ℕ, List, [], ◌++◌, Option, Some, IfSome}
use Rattle.outside.specs.declared.call.Call.{Call}

-- a sink at one time: its bytes and its calls, if it reports them, and its faults
pub record Seen : Type 0 where
  pub bytes : Option (List ℕ)
  pub calls : Option (List Call)
  pub faults : ℕ

-- a sink before and after
pub record Sunk : Type 0 where
  pub old : Seen
  pub new : Seen

-- what a sink reports by these, before and after
abbrev pub sunk : {S : Type 0} → (S → Option (List ℕ)) → (S → Option (List Call)) → (S → ℕ) → S → S → Sunk
sunk told calls faults old new = record {
  old = record { bytes = told old; calls = calls old; faults = faults old };
  new = record { bytes = told new; calls = calls new; faults = faults new };
}

-- if the sink reported its bytes or its calls, it still reports them, and gained exactly these
abbrev pub Gained : {A : Type 0} → List A → Option (List A) → Option (List A) → Type 0
Gained more old new = IfSome old (λ held. new ≡ Some (held ++ more))

-- a proper prefix of the bytes
pub record IsProperPrefix (front bytes : List ℕ) : Type 0 where
  pub rest : List ℕ
  pub lacks : rest ≢ []
  pub whole : bytes ≡ front ++ rest

-- it gained a proper prefix of these
pub record GainedPart (bytes : List ℕ) (old new : Option (List ℕ)) : Type 0 where
  pub front : List ℕ
  pub proper : IsProperPrefix front bytes
  pub gained : Gained front old new

-- it gained calls of which this holds
pub record GainedCalls (P : List Call → Type 0) (old new : Option (List Call)) : Type 0 where
  pub calls : List Call
  pub holds : P calls
  pub gained : Gained calls old new
