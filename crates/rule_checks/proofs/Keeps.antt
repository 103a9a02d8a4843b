-- What holds of every value that a check may return.
use Rattle.std.proofs.Common.{◌≡◌, Bool, true, false, Option, Some, None, Result, Ok, Err, refl}
use Rattle.std.specs.Result.{IfOk}
use Rattle.std.proofs.lemmas.Result.{IfOk-at_ok}
use Rattle.rule_checks.specs.Checks.{◌>>=◌, ◌>>◌, must, found_or}

abbrev pub Keeps : {A Break : Type 0} → (A → Type 0) → Result A Break → Type 0
Keeps P check = IfOk check P

pub Keeps-then : {A B Break : Type 0} (P : A → Type 0) (Q : B → Type 0) (check : Result A Break) (f : A → Result B Break) → Keeps P check → ((x : A) → P x → Keeps Q (f x)) → Keeps Q (check >>= f)
Keeps-then P Q (Ok x) f holds next = next x holds
Keeps-then P Q (Err b) f holds next = tt

pub Keeps-any : {A B Break : Type 0} (Q : B → Type 0) (check : Result A Break) (f : A → Result B Break) → ((x : A) → Keeps Q (f x)) → Keeps Q (check >>= f)
Keeps-any Q (Ok x) f next = next x
Keeps-any Q (Err b) f next = tt

pub Keeps-must : {A Break : Type 0} (Q : A → Type 0) (holds : Bool) (broken : Break) (next : Result A Break) → (holds ≡ true → Keeps Q next) → Keeps Q (must holds broken >> next)
Keeps-must Q true broken next then = then refl
Keeps-must Q false broken next then = tt

pub Keeps-found : {A Break : Type 0} (Q : A → Type 0) (o : Option A) (broken : Break) → ((x : A) → o ≡ Some x → Q x) → Keeps Q (found_or o broken)
Keeps-found Q (Some x) broken then = then x refl
Keeps-found Q None broken then = tt

-- the value that a check returned has the property
pub kept : {A Break : Type 0} (Q : A → Type 0) (check : Result A Break) (x : A) → Keeps Q check → check ≡ Ok x → Q x
kept Q check x keeps is = IfOk-at_ok Q is keeps

-- two steps in a row, however they are grouped
pub Keeps-grouped : {A B C Break : Type 0} (Q : C → Type 0) (check : Result A Break) (f : A → Result B Break) (g : B → Result C Break) → Keeps Q (check >>= (λ x. f x >>= g)) → Keeps Q ((check >>= f) >>= g)
Keeps-grouped Q (Ok x) f g keeps = keeps
Keeps-grouped Q (Err b) f g keeps = tt
