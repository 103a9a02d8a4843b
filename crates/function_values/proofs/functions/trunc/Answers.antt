use Rattle.std.proofs.Common.{ap, sym, ◌∙◌, pos, nat_abs, ◌*ℤ◌, ◌*◌, length}
use Rattle.rapid_num.specs.Arithmetic.{whole_part}
use Rattle.rapid_model.specs.declared.value.Value.TheVariants as values
use Rattle.rapid_meaning.specs.Doings.{Gives, ◌>>=◌, or_misfit}
use Rattle.rapid_meaning.specs.Functions.{decimals_of, num_text}
use Rattle.rapid_meaning.specs.Values.{num_in, text_in, whole}
use Rattle.function_values.proofs.Come.{given, lacks}
use Rattle.function_values.proofs.functions.trunc.Goals as goal

pub returns-in-Some : goal.returns-in-Some
returns-in-Some c = given (num_in c.args.value.now) c.in-Some.n (λ n. Gives (values.Num (whole_part n 1_000 *ℤ pos 1_000))) (c.num_of.ensures ∙ ap or_misfit c.in-Some.is) ∙ ap (λ z. Gives (values.Num z)) (sym c.truncated.ensures)

pub returns-in-None : goal.returns-in-None
returns-in-None c = lacks (num_in c.args.value.now) (λ n. Gives (values.Num (whole_part n 1_000 *ℤ pos 1_000))) (c.num_of.ensures ∙ ap or_misfit c.in-None.is)
