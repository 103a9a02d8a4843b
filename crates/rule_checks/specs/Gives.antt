-- What a function that performs a check returns.
use Rattle.std.specs.Prelude.{◌≡◌, Option, Some, None, Result, Ok, Err}

-- the rule in a fault is the first broken one; a fault without a rule, as out of memory, says nothing
abbrev pub Fails : {A Break : Type 0} → Option Break → Result A Break → Type 0
Fails (Some broken) check = check ≡ Err broken
Fails None check = Unit {0}

-- what a function returned, through a view, is the result of the check, except for faults without a rule
abbrev pub Gives : {X A Fault Break : Type 0} → (Fault → Option Break) → (X → A) → Result X Fault → Result A Break → Type 0
Gives broken view (Ok x) check = check ≡ Ok (view x)
Gives broken view (Err fault) check = Fails (broken fault) check
