-- What each arm of a match knows about a sign.
use Rattle.std.proofs.Common.{◌≡◌, Bool, true, false, if◌then◌else◌, [], ◌∷◌, refl, sym}
use denote.Enum.Bare.{tag_one}
use Rattle.rapid_forms.specs.contracts.sign.Sign.{the_type}
use Rattle.rapid_forms.specs.declared.sign.Sign.{Sign}
use Rattle.rapid_forms.specs.Signs.{has}
use Rattle.rapid_forms.proofs.Codes.{has_behind}

pub not_there : (sign other : Sign) → (sign ≡ other → ⊥) → has (other ∷ []) sign ≡ false
unfolding has
not_there sign other ne = has_behind other sign [] (λ e. ne (tag_one the_type tt sign other (sym e)))

pub either_way : {X : Type 0} (b : Bool) (x : X) → x ≡ (if b then x else x)
either_way true x = refl
either_way false x = refl
