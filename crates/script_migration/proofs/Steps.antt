-- The steps of a check that returned a value.
use Rattle.std.proofs.Common.{◌≡◌, Bool, true, false, Result, Ok, Err, is_ok, refl, ap, ◌∙◌}
use Rattle.rule_checks.specs.Checks.{◌>>=◌, ◌>>◌, must}

pub record Then {A B Break : Type 0} (check : Result A Break) (next : A → Result B Break) (y : B) : Type 0 where
  pub value : A
  pub first : check ≡ Ok value
  pub rest : next value ≡ Ok y

pub behind : {A B Break : Type 0} (check : Result A Break) (next : A → Result B Break) (y : B) → (check >>= next) ≡ Ok y → Then check next y
behind (Ok x) next y is = record { value = x; first = refl; rest = is }
behind (Err b) next y is = absurd cc

pub record Held {A Break : Type 0} (test : Bool) (next : Result A Break) (y : A) : Type 0 where
  pub holds : test ≡ true
  pub rest : next ≡ Ok y

pub held : {A Break : Type 0} (holds : Bool) (broken : Break) (next : Result A Break) (y : A) → (must holds broken >> next) ≡ Ok y → Held holds next y
held true broken next y is = record { holds = refl; rest = is }
held false broken next y is = absurd cc

pub ok_is : {A Break : Type 0} (check : Result A Break) (x : A) → check ≡ Ok x → is_ok check ≡ true
ok_is check x is = ap is_ok is

-- a check whose value is only wrapped
pub wrapped : {A B Break : Type 0} (check : Result A Break) (f : A → B) → is_ok (check >>= (λ x. Ok (f x))) ≡ true → is_ok check ≡ true
wrapped (Ok x) f is = refl
wrapped (Err b) f is = is

-- a check that returns this value, and then one that returns that
pub joined : {A B Break : Type 0} (check : Result A Break) (next : A → Result B Break) (value : A) (y : B) → check ≡ Ok value → next value ≡ Ok y → (check >>= next) ≡ Ok y
joined check next value y first rest = ap (λ read. read >>= next) first ∙ rest
