-- A value that was written is read back by its type.
use Rattle.std.proofs.Common.{◌≡◌, ℕ, Bool, true, false, List, ◌++◌, Some, refl}
use Rattle.rapid_model.specs.Sorts.{is_value_of}
use Rattle.rapid_model.specs.declared.sort.Sort.{Sort}
use Rattle.rapid_model.specs.declared.sort.Sort.TheVariants as sorts
use Rattle.rapid_model.specs.declared.value.Value.{Value}
use Rattle.rapid_model.specs.declared.value.Value.TheVariants as values
use Rattle.value_text.specs.ValueText.{truth_text, value_text}
use Rattle.history_text.specs.InRange.{IsValue}
use Rattle.history_text.specs.Reading.{after_word, ends_num, truth_at}
use Rattle.history_text.specs.ValueReading.{value_at}
use Rattle.history_text.proofs.NumbersAgain.{num_again}
use Rattle.history_text.proofs.NumsAgain.{brackets_again, target_again}
use Rattle.history_text.proofs.QuotesAgain.{no_quote, quoted_again}
use Rattle.history_text.proofs.Stops.{Stops}

pub truth_again : (truth : Bool) (rest : List ℕ) → truth_at (truth_text truth ++ rest) ≡ Some (truth, rest)
unfolding truth_at after_word
truth_again true rest = refl
truth_again false rest = refl

pub value_again : (sort : Sort) (value : Value) (rest : List ℕ) → is_value_of sort value ≡ true → IsValue value → Stops ends_num rest → Stops no_quote rest
    → value_at sort (value_text value ++ rest) ≡ Some (value, rest)
unfolding value_at
value_again sorts.Num (values.Num n) rest h fits num quote = rw (num_again n rest fits num) refl
value_again sorts.Bool (values.Bool b) rest h fits num quote = rw (truth_again b rest) refl
value_again sorts.Text (values.Text t) rest h fits num quote = rw (quoted_again t rest fits quote) refl
value_again sorts.Tasks (values.Text t) rest h fits num quote = rw (quoted_again t rest fits quote) refl
value_again sorts.RobJoint (values.Rob axes) rest h fits num quote = rw (brackets_again 5 axes rest fits) refl
value_again sorts.ExtJoint (values.Ext axes) rest h fits num quote = rw (brackets_again 5 axes rest fits) refl
value_again sorts.JointTarget (values.Target joints) rest h fits num quote = rw (target_again joints rest fits) refl
value_again sorts.SpeedData (values.Speed nums) rest h fits num quote = rw (brackets_again 3 nums rest fits) refl
value_again _ _ rest h fits num quote = absurd cc
