-- What follows if the steps of a check return values.
use Rattle.std.proofs.Common.{◌≡◌, Bool, true, false, Result, Ok, Err, refl}
use Rattle.rule_checks.specs.Checks.{◌>>=◌, must}

-- if a step and the rest both succeed, each of them does
module _ {A B Break : Type 0} (P : Type 0) (y : B) where
  pub behind : (x : Result A Break) (f : A → Result B Break) → (x >>= f) ≡ Ok y → ((a : A) → x ≡ Ok a → f a ≡ Ok y → P) → P
  behind (Ok a) f e next = next a refl e
  behind (Err b) f e next = absurd (cc)

pub ok_same : {A Break : Type 0} (x y : A) → ◌≡◌ {A = Result A Break} (Ok x) (Ok y) → x ≡ y
ok_same x y e = cc

pub it_holds : {Break : Type 0} (holds : Bool) (broken : Break) (u : Unit {0}) → must holds broken ≡ Ok u → holds ≡ true
it_holds true broken u e = refl
it_holds false broken u e = absurd (cc)
