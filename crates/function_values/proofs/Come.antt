-- Results of functions that read a value first.
use Rattle.std.proofs.Common.{◌≡◌, ℕ, ℤ, pos, nat_abs, ◌*ℤ◌, ◌*◌, List, length, Option, None, Some, refl, sym, ap, ◌∙◌}
use Rattle.rapid_num.specs.Arithmetic.{whole_part}
use Rattle.rapid_model.specs.declared.function.Function.TheVariants as functions
use Rattle.rapid_model.specs.declared.value.Value.{Value}
use Rattle.rapid_model.specs.declared.value.Value.TheVariants as values
use Rattle.rapid_meaning.specs.Doings.{Doing, Gives, Misfit, Raises, after, ◌>>=◌, or_misfit}
use Rattle.rapid_meaning.specs.Functions.{num_text, decimals_of}
use Rattle.rapid_meaning.specs.Values.{num_in, text_in}
use Rattle.stack_code.specs.Functions.{of_value, of_values}

-- after what is read
pub given : {A B : Type 0} (m : Doing A) (v : A) (next : A → Doing B) → m ≡ Gives v → (m >>= next) ≡ next v
unfolding after
given m v next e = ap (λ x. x >>= next) e

pub lacks : {A B : Type 0} (m : Doing A) (next : A → Doing B) → m ≡ Misfit → (m >>= next) ≡ Misfit
unfolding after
lacks m next e = ap (λ x. x >>= next) e
