use Rattle.std.proofs.Common.{ap, sym, refl, ℤ, ◌∙◌, pos, nat_abs, ◌*ℤ◌, ◌*◌, length}
use Rattle.rapid_num.specs.Arithmetic.{whole_part}
use Rattle.rapid_model.specs.declared.value.Value.TheVariants as values
use Rattle.rapid_meaning.specs.Doings.{Gives, ◌>>=◌, or_misfit}
use Rattle.rapid_meaning.specs.Functions.{decimals_of, num_text}
use Rattle.rapid_meaning.specs.Values.{num_in, text_in, whole}
use Rattle.function_values.proofs.Come.{given, lacks}
use Rattle.function_values.proofs.functions.with_decimals.Goals as goal

pub returns-in-Some : goal.returns-in-Some
returns-in-Some c = given (num_in (values.Num c.args.n)) c.args.n (λ (m : ℤ). num_in c.args.count.now >>= λ k. Gives (values.Text (num_text m (decimals_of k)))) refl ∙ given (num_in c.args.count.now) c.in-Some.count (λ k. Gives (values.Text (num_text c.args.n (decimals_of k)))) (c.num_of.ensures ∙ ap or_misfit c.in-Some.is) ∙ ap (λ t. Gives (values.Text t)) (sym (c.num_text.ensures ∙ ap (num_text c.args.n) c.decimals.ensures))

pub returns-in-None : goal.returns-in-None
returns-in-None c = given (num_in (values.Num c.args.n)) c.args.n (λ (m : ℤ). num_in c.args.count.now >>= λ k. Gives (values.Text (num_text m (decimals_of k)))) refl ∙ lacks (num_in c.args.count.now) (λ k. Gives (values.Text (num_text c.args.n (decimals_of k)))) (c.num_of.ensures ∙ ap or_misfit c.in-None.is)
