-- What one write to a sink takes, and what the sink reports then.
use Rattle.std.specs.Prelude.{◌≡◌, ℕ, List, [], ◌∷◌, ◌++◌, take, Option, Some, Result, Ok, Err, IfSome}
use Rattle.outside.specs.declared.call.Call.{Call}

-- the bytes of the piece that were written
abbrev pub taken : {E : Type 0} → Result ℕ E → List ℕ → List ℕ
taken (Ok n) piece = take n piece
taken (Err _) piece = []

-- the call for a write that was given this many bytes; none if it wrote nothing
abbrev pub call_of : {E : Type 0} → Result ℕ E → ℕ → List Call
call_of (Ok n) handed = record { handed = handed; taken = n } ∷ []
call_of (Err _) handed = []

-- if something was reported, it still is, followed by these
abbrev pub Appended : {A : Type 0} → Option (List A) → List A → Option (List A) → Type 0
Appended old more new = IfSome old (λ held. new ≡ Some (held ++ more))
