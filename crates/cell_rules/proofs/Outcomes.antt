-- The outcome of a check: what holds of its value, or of the broken rule.
use Rattle.std.proofs.Common.{◌≡◌, Bool, true, false, Result, Ok, Err, if◌then◌else◌, refl}
use Rattle.rule_checks.specs.Checks.{◌>>=◌, ◌>>◌, must}

abbrev pub Outcome : {A Break : Type 0} → (A → Type 0) → (Break → Type 0) → Result A Break → Type 0
Outcome P E (Ok x) = P x
Outcome P E (Err broken) = E broken

module _ {A B Break : Type 0} (P : A → Type 0) (Q : B → Type 0) (E : Break → Type 0) where
  pub followed : (check : Result A Break) (next : A → Result B Break) → Outcome P E check → ((x : A) → P x → Outcome Q E (next x)) → Outcome Q E (check >>= next)
  followed (Ok x) next is follows = follows x is
  followed (Err broken) next is follows = is

module _ {A Break : Type 0} (P : A → Type 0) (E : Break → Type 0) where
  pub ruled : (holds : Bool) (broken : Break) (next : Result A Break) → (holds ≡ false → E broken) → (holds ≡ true → Outcome P E next) → Outcome P E (must holds broken >> next)
  ruled true broken next otherwise holds = holds refl
  ruled false broken next otherwise holds = otherwise refl

  pub chosen : (test : Bool) (first second : Result A Break) → (test ≡ true → Outcome P E first) → (test ≡ false → Outcome P E second) → Outcome P E (if test then first else second)
  chosen true first second one other = one refl
  chosen false first second one other = other refl
