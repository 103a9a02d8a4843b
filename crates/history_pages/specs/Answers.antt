-- Answers: their forms, which are kept in a head.
use Rattle.std.specs.Prelude.{ℕ, ℤ, List, Option, Some, option_map}
use Rattle.rapid_limits.specs.declared.TheConstants.{MOST_AXES}
use Rattle.rapid_model.specs.declared.answer.Answer.{Answer}
use Rattle.rapid_model.specs.declared.answer.Answer.TheVariants as answers
use Rattle.history_pages.specs.Values.{joints_of, value_form, value_in}
use Rattle.history_pages.specs.Words.{nums_in}
use Rattle.history_pages.specs.declared.answer_form.AnswerForm.{AnswerForm}
use Rattle.history_pages.specs.declared.answer_form.AnswerForm.TheVariants as forms

abbrev pub answer_form : Answer → AnswerForm
answer_form answers.Ok = forms.Ok
answer_form (answers.Go seen) = forms.Go
answer_form (answers.Trap number trap) = forms.Trap number
answer_form answers.Flood = forms.Flood
answer_form (answers.Val value) = forms.Val (value_form value)
answer_form (answers.Yes met) = forms.Yes met
answer_form (answers.Bit bit) = forms.Bit bit
answer_form (answers.At position) = forms.At
answer_form answers.Given = forms.Given
answer_form (answers.Stopped zone) = forms.Stopped zone
answer_form (answers.Number number) = forms.Number number
answer_form answers.Already = forms.Already
answer_form answers.Unknown = forms.Unknown
answer_form answers.NoMore = forms.NoMore
answer_form answers.ZoneUsed = forms.ZoneUsed
answer_form answers.ZoneFull = forms.ZoneFull
answer_form answers.NoZone = forms.NoZone
answer_form answers.Tied = forms.Tied
answer_form answers.Met = forms.Met
answer_form answers.Apart = forms.Apart

-- the answer of a form whose words begin at the first word, with the number that a Look was told
abbrev pub answer_in : AnswerForm → ℕ → List ℤ → Option Answer
answer_in forms.Ok told words = Some answers.Ok
answer_in forms.Go told words = Some (answers.Go told)
answer_in (forms.Trap number) told words = Some (answers.Trap number told)
answer_in forms.Flood told words = Some answers.Flood
answer_in (forms.Val form) told words = option_map answers.Val (value_in form words)
answer_in (forms.Yes met) told words = Some (answers.Yes met)
answer_in (forms.Bit bit) told words = Some (answers.Bit bit)
answer_in forms.At told words = option_map (λ axes. answers.At (joints_of axes)) (nums_in MOST_AXES words)
answer_in forms.Given told words = Some answers.Given
answer_in (forms.Stopped zone) told words = Some (answers.Stopped zone)
answer_in (forms.Number number) told words = Some (answers.Number number)
answer_in forms.Already told words = Some answers.Already
answer_in forms.Unknown told words = Some answers.Unknown
answer_in forms.NoMore told words = Some answers.NoMore
answer_in forms.ZoneUsed told words = Some answers.ZoneUsed
answer_in forms.ZoneFull told words = Some answers.ZoneFull
answer_in forms.NoZone told words = Some answers.NoZone
answer_in forms.Tied told words = Some answers.Tied
answer_in forms.Met told words = Some answers.Met
answer_in forms.Apart told words = Some answers.Apart
