-- Steps of the loop over signs.
use Rattle.std.proofs.Common.{◌≡◌, true, List, ◌∷◌, refl, sym, ◌∙◌, eq-eqb}
use Rattle.std.proofs.lemmas.Bool.{ne_eqb}
use denote.Enum.Declared.{tag_of}
use Rattle.rapid_forms.specs.contracts.sign.Sign.{the_type}
use Rattle.rapid_forms.specs.declared.sign.Sign.{Sign}
use Rattle.rapid_forms.specs.declared.sign.Sign.TheVariants.{Name}
use Rattle.rapid_forms.specs.Signs.{has, code}

-- the number by which the code compares a sign is the sign's code
tag_is : (s : Sign) → tag_of the_type s ≡ code s
tag_is s = elim s as (λ s. tag_of the_type s ≡ code s) [ Name ↦ refl | _ ↦ refl ]

pub has_here : (one sign : Sign) (signs : List Sign) → tag_of the_type one ≡ tag_of the_type sign → has (one ∷ signs) sign ≡ true
unfolding has
has_here one sign signs e = rw (eq-eqb (code one) (code sign) (sym (tag_is one) ∙ e ∙ tag_is sign)) refl

pub has_behind : (one sign : Sign) (signs : List Sign) → (tag_of the_type one ≡ tag_of the_type sign → ⊥) → has (one ∷ signs) sign ≡ has signs sign
unfolding has
has_behind one sign signs ne = rw (ne_eqb (code one) (code sign) (λ e. ne (tag_is one ∙ e ∙ sym (tag_is sign)))) refl
