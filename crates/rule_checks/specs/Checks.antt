-- Checks that stop at the first error. A check returns a value, or the rule that is broken and its position.
use Rattle.std.specs.Prelude.{Bool, Option, Some, None, Result, Ok, Err, if◌then◌else◌}

-- a check, then one that depends on its value
infixl 10 ◌>>=◌
abbrev pub ◌>>=◌ : {A B Break : Type 0} → Result A Break → (A → Result B Break) → Result B Break
(Ok x) >>= next = next x
(Err broken) >>= next = Err broken

-- a check, then another one
infixl 10 ◌>>◌
abbrev pub ◌>>◌ : {A B Break : Type 0} → Result A Break → Result B Break → Result B Break
check >> next = check >>= (λ _. next)

-- an error unless the rule holds
abbrev pub must : {Break : Type 0} → Bool → Break → Result (Unit {0}) Break
must holds broken = if holds then Ok tt else Err broken

-- the value if there is one, else an error
abbrev pub found_or : {A Break : Type 0} → Option A → Break → Result A Break
found_or (Some x) broken = Ok x
found_or None broken = Err broken
