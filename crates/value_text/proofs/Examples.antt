-- Values and parts as text, worked by hand.
use Rattle.std.proofs.Common.{◌≡◌, refl, true, pos, neg_ℤ, [], ◌∷◌}
use Rattle.std.specs.Prelude.{codes}
use Rattle.std.specs.Fmt.{digits}
use Rattle.rapid_model.specs.declared.part_name.PartName.TheVariants as parts
use Rattle.rapid_model.specs.declared.value.Value.TheVariants as values
use Rattle.value_text.specs.ValueText.{part_text, value_text}

-- quotes and backslashes are doubled
quoted : value_text (values.Text (codes "a\"b\\")) ≡ codes "\"a\"\"b\\\\\""
quoted = refl

below_zero : value_text (values.Num (neg_ℤ (pos 1))) ≡ codes "-0.001"
unfolding digits
below_zero = refl

truth : value_text (values.Bool true) ≡ codes "TRUE"
truth = refl

target : value_text (values.Target (record { axis = pos 0 ∷ pos 90_000 ∷ pos 0 ∷ pos 0 ∷ pos 500 ∷ pos 0 ∷ pos 1_000 ∷ pos 0 ∷ pos 0 ∷ pos 0 ∷ pos 0 ∷ pos 0 ∷ [] })) ≡ codes "[[0,90,0,0,0.5,0],[1,0,0,0,0,0]]"
unfolding digits
target = refl

speed : value_text (values.Speed (pos 100_000 ∷ pos 500_000 ∷ pos 5_000_000 ∷ pos 1_000_000 ∷ [])) ≡ codes "[100,500,5000,1000]"
unfolding digits
speed = refl

first_axis : part_text (parts.Axis 0) ≡ codes ".robax.rax_1"
first_axis = refl

last_axis : part_text (parts.Axis 11) ≡ codes ".extax.eax_f"
last_axis = refl
