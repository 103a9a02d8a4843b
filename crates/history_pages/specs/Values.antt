-- Values and the tails of texts: their forms, which are kept in a head, and their words.
use Rattle.std.specs.Prelude.{ℕ, Bool, true, ℤ, List, [], ◌∷◌, length, Option, Some, option_map}
use Rattle.rapid_limits.specs.declared.TheConstants.{MOST_AXES}
use Rattle.rapid_num.specs.Range.{is_num}
use Rattle.rapid_num.specs.declared.joints.Joints.{Joints}
use Rattle.rapid_model.specs.declared.tail.Tail.{Tail}
use Rattle.rapid_model.specs.declared.tail.Tail.TheVariants as tails
use Rattle.rapid_model.specs.declared.value.Value.{Value}
use Rattle.rapid_model.specs.declared.value.Value.TheVariants as values
use Rattle.history_pages.specs.Words.{are_nums, is_text, num_in, nums_in, text_in, text_words}
use Rattle.history_pages.specs.declared.tail_form.TailForm.{TailForm}
use Rattle.history_pages.specs.declared.tail_form.TailForm.TheVariants as tail_forms
use Rattle.history_pages.specs.declared.value_form.ValueForm.{ValueForm}
use Rattle.history_pages.specs.declared.value_form.ValueForm.TheVariants as forms

abbrev pub value_form : Value → ValueForm
value_form (values.Num number) = forms.Num
value_form (values.Bool truth) = forms.Bool truth
value_form (values.Text text) = forms.Text (length text)
value_form (values.Rob axes) = forms.Rob
value_form (values.Ext axes) = forms.Ext
value_form (values.Target joints) = forms.Target
value_form (values.Speed parts) = forms.Speed

abbrev pub value_words : Value → List ℤ
value_words (values.Num number) = number ∷ []
value_words (values.Bool truth) = []
value_words (values.Text text) = text_words text
value_words (values.Rob axes) = axes
value_words (values.Ext axes) = axes
value_words (values.Target joints) = joints.axis
value_words (values.Speed parts) = parts

abbrev pub joints_of : List ℤ → Joints
joints_of axes = record { axis = axes }

-- the value of a form whose words begin at the first word
abbrev pub value_in : ValueForm → List ℤ → Option Value
value_in forms.Num words = option_map values.Num (num_in words)
value_in (forms.Bool truth) words = Some (values.Bool truth)
value_in (forms.Text count) words = option_map values.Text (text_in count words)
value_in forms.Rob words = option_map values.Rob (nums_in 6 words)
value_in forms.Ext words = option_map values.Ext (nums_in 6 words)
value_in forms.Target words = option_map (λ axes. values.Target (joints_of axes)) (nums_in MOST_AXES words)
value_in forms.Speed words = option_map values.Speed (nums_in 4 words)

-- nums in range, as many as the type says, and texts of printable characters, as in every value of a program
abbrev pub is_proper_value : Value → Bool
is_proper_value (values.Num number) = is_num number
is_proper_value (values.Bool truth) = true
is_proper_value (values.Text text) = is_text text
is_proper_value (values.Rob axes) = are_nums 6 axes
is_proper_value (values.Ext axes) = are_nums 6 axes
is_proper_value (values.Target joints) = are_nums MOST_AXES joints.axis
is_proper_value (values.Speed parts) = are_nums 4 parts

abbrev pub tail_form : Tail → TailForm
tail_form tails.None = tail_forms.None
tail_form (tails.Num number) = tail_forms.Num
tail_form (tails.Bool truth) = tail_forms.Bool truth

abbrev pub tail_words : Tail → List ℤ
tail_words tails.None = []
tail_words (tails.Num number) = number ∷ []
tail_words (tails.Bool truth) = []

-- the tail of a form whose words begin at the first word
abbrev pub tail_in : TailForm → List ℤ → Option Tail
tail_in tail_forms.None words = Some tails.None
tail_in tail_forms.Num words = option_map tails.Num (num_in words)
tail_in (tail_forms.Bool truth) words = Some (tails.Bool truth)

-- how many words the tail of a form has
abbrev pub tail_count : TailForm → ℕ
tail_count tail_forms.Num = 1
tail_count _ = 0

abbrev pub is_proper_tail : Tail → Bool
is_proper_tail (tails.Num number) = is_num number
is_proper_tail _ = true
