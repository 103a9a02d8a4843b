use Rattle.std.proofs.Common.{ap, sym, ◌∙◌, Bor, option_map, pos, nat_abs, ◌*ℤ◌, ◌*◌, length}
use Rattle.rapid_num.specs.Arithmetic.{whole_part}
use Rattle.rapid_model.specs.declared.value.Value.TheVariants as values
use Rattle.rapid_meaning.specs.Doings.{Gives, ◌>>=◌, or_misfit}
use Rattle.rapid_meaning.specs.Functions.{decimals_of, num_text}
use Rattle.rapid_meaning.specs.Values.{num_in, text_in, whole}
use Rattle.function_values.proofs.Come.{given, lacks}
use Rattle.function_values.proofs.functions.str_len.Goals as goal

pub returns-in-Some : goal.returns-in-Some
returns-in-Some c = given (text_in c.args.value.now) c.in-Some.text.now (λ text. Gives (whole (length text))) (c.text_in.ensures ∙ ap or_misfit (ap (λ m. option_map (λ (t : Bor _). t.now) m) c.in-Some.is)) ∙ ap (λ z. Gives (values.Num z)) (sym c.characters.ensures)

pub returns-in-None : goal.returns-in-None
returns-in-None c = lacks (text_in c.args.value.now) (λ text. Gives (whole (length text))) (c.text_in.ensures ∙ ap or_misfit (ap (λ m. option_map (λ (t : Bor _). t.now) m) c.in-None.is))
