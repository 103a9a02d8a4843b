use Rattle.std.proofs.Common.{ap, sym, refl, ℤ, ◌∙◌, pos, nat_abs, ◌*ℤ◌, ◌*◌, length}
use Rattle.rapid_num.specs.Arithmetic.{whole_part}
use Rattle.rapid_model.specs.declared.value.Value.TheVariants as values
use Rattle.rapid_meaning.specs.Doings.{Gives, ◌>>=◌, or_misfit}
use Rattle.rapid_meaning.specs.Functions.{decimals_of, num_text}
use Rattle.rapid_meaning.specs.Values.{num_in, text_in, whole}
use Rattle.function_values.proofs.Come.{given, lacks}
use Rattle.function_values.proofs.functions.num_to_str.Goals as goal

pub returns-in-Some : goal.returns-in-Some
returns-in-Some c = given (num_in c.args.first.now) c.in-Some.n (λ n. num_in c.args.second.now >>= λ k. Gives (values.Text (num_text n (decimals_of k)))) (c.num_of.ensures ∙ ap or_misfit c.in-Some.is) ∙ sym (given (num_in (values.Num c.in-Some.n)) c.in-Some.n (λ (m : ℤ). num_in c.args.second.now >>= λ k. Gives (values.Text (num_text m (decimals_of k)))) refl) ∙ c.with_decimals.ensures

pub returns-in-None : goal.returns-in-None
returns-in-None c = lacks (num_in c.args.first.now) (λ n. num_in c.args.second.now >>= λ k. Gives (values.Text (num_text n (decimals_of k)))) (c.num_of.ensures ∙ ap or_misfit c.in-None.is)
