-- What holds of everything that is made.
use Rattle.std.proofs.Common.{◌≡◌, Bool, true, false, refl, if◌then◌else◌}
use Rattle.std.specs.Result.{IfOk}
use Rattle.cell_assembly.specs.Cells.{Making}

pub either_holds : {A : Type 0} (Q : A → Type 0) (t : Bool) (x y : Making A) → (t ≡ true → IfOk x Q) → (t ≡ false → IfOk y Q) → IfOk (if t then x else y) Q
either_holds Q true x y one other = one refl
either_holds Q false x y one other = other refl
