-- The predefined functions that are operations: the result of each for the operands that it pops.
use Rattle.rapid_model.specs.declared.function.Function.{Function}
use Rattle.rapid_model.specs.declared.function.Function.TheVariants as functions
use Rattle.rapid_model.specs.declared.value.Value.{Value}
use Rattle.rapid_meaning.specs.Doings.{Doing, Misfit}
use Rattle.rapid_meaning.specs.Functions.{absolute, shown, text_length, truncated}

abbrev pub of_value : Function → Value → Doing Value
of_value functions.Abs v = absolute v
of_value functions.Trunc v = truncated v
of_value functions.StrLen v = text_length v
of_value function v = Misfit

abbrev pub of_values : Function → Value → Value → Doing Value
of_values functions.NumToStr v w = shown v w
of_values function v w = Misfit
