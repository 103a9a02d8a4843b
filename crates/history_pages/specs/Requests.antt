-- Requests: their forms, which are kept in a head, and their words.
use Rattle.std.specs.Prelude.{ℕ, Bool, true, false, ◌&&◌, ℤ, List, [], ◌++◌, length, drop, Option, Some, option_map}
use Rattle.std.specs.Option.{option_and_then}
use Rattle.rapid_limits.specs.declared.TheConstants.{MOST_AXES}
use Rattle.rapid_model.specs.declared.answer.Answer.{Answer}
use Rattle.rapid_model.specs.declared.answer.Answer.TheVariants as answers
use Rattle.rapid_model.specs.declared.request.Request.{Request}
use Rattle.rapid_model.specs.declared.request.Request.TheVariants as requests
use Rattle.rapid_model.specs.declared.tail.Tail.{Tail}
use Rattle.rapid_model.specs.declared.watched.Watched.{Watched}
use Rattle.rapid_model.specs.declared.watched.Watched.TheVariants as watched
use Rattle.history_pages.specs.Values.{is_proper_tail, is_proper_value, joints_of, tail_count, tail_form, tail_in, tail_words, value_form, value_in, value_words}
use Rattle.history_pages.specs.Words.{are_nums, is_proper_shape, is_text, nums_in, shape_in, shape_words, text_in, text_words}
use Rattle.history_pages.specs.declared.request_form.RequestForm.{RequestForm}
use Rattle.history_pages.specs.declared.request_form.RequestForm.TheVariants as forms
use Rattle.history_pages.specs.declared.tail_form.TailForm.{TailForm}

-- the number in the answer to a Look: of changes, or of a trap
abbrev pub told_by : Answer → ℕ
told_by (answers.Go seen) = seen
told_by (answers.Trap number trap) = trap
told_by _ = 0

abbrev pub order_form : ℕ → Watched → Bool → RequestForm
order_form number (watched.Signal signal value) single = forms.OrderSignal number single value signal
order_form number (watched.Pers pers) single = forms.OrderPers number single pers

-- a Look keeps the number in its answer; every other request keeps everything except its words
abbrev pub request_form : Request → Answer → RequestForm
request_form requests.Look answer = forms.Look (told_by answer)
request_form (requests.ReadP pers path) answer = forms.ReadP path pers
request_form (requests.WriteP pers path value) answer = forms.WriteP (value_form value) path pers
request_form (requests.TestSet pers path) answer = forms.TestSet path pers
request_form (requests.ReadS signal) answer = forms.ReadS signal
request_form (requests.WriteS signal value) answer = forms.WriteS value signal
request_form requests.Position answer = forms.Position
request_form (requests.Setpoint to) answer = forms.Setpoint
request_form (requests.Connect old trap) answer = forms.Connect old trap
request_form (requests.Order number on single) answer = order_form number on single
request_form (requests.Sleep number) answer = forms.Sleep number
request_form (requests.Watch number) answer = forms.Watch number
request_form (requests.Delete number) answer = forms.Delete number
request_form requests.Disable answer = forms.Disable
request_form requests.Enable answer = forms.Enable
request_form requests.Leave answer = forms.Leave
request_form (requests.ZoneSet old temporary shape) answer = forms.ZoneSet old temporary shape.inside
request_form (requests.ZoneTie old temporary shape signal value) answer = forms.ZoneTie old temporary shape.inside value signal
request_form (requests.ZoneOn zone) answer = forms.ZoneOn zone
request_form (requests.ZoneOff zone) answer = forms.ZoneOff zone
request_form (requests.ZoneFree zone) answer = forms.ZoneFree zone
request_form (requests.Arrive meeting tasks) answer = forms.Arrive tasks meeting
request_form (requests.Hold seen) answer = forms.Hold seen
request_form requests.Rise answer = forms.Rise
request_form (requests.Input index) answer = forms.Input index
request_form (requests.Say text tail) answer = forms.Say (length text) (tail_form tail)
request_form (requests.End fate) answer = forms.End fate

-- the word of the tail, if it has one, comes before those of the text
abbrev pub said_words : List ℕ → Tail → List ℤ
said_words text tail = tail_words tail ++ text_words text

abbrev pub request_words : Request → List ℤ
request_words (requests.WriteP pers path value) = value_words value
request_words (requests.Setpoint to) = to.axis
request_words (requests.ZoneSet old temporary shape) = shape_words shape
request_words (requests.ZoneTie old temporary shape signal value) = shape_words shape
request_words (requests.Say text tail) = said_words text tail
request_words _ = []

abbrev pub said_in : ℕ → TailForm → List ℤ → Option Request
said_in count form words =
    option_and_then (λ text. option_map (λ tail. requests.Say text tail) (tail_in form words)) (text_in count (drop (tail_count form) words))

-- the request of a form whose words begin at the first word
abbrev pub request_in : RequestForm → List ℤ → Option Request
request_in (forms.Look told) words = Some requests.Look
request_in (forms.ReadP path pers) words = Some (requests.ReadP pers path)
request_in (forms.WriteP form path pers) words = option_map (λ value. requests.WriteP pers path value) (value_in form words)
request_in (forms.TestSet path pers) words = Some (requests.TestSet pers path)
request_in (forms.ReadS signal) words = Some (requests.ReadS signal)
request_in (forms.WriteS value signal) words = Some (requests.WriteS signal value)
request_in forms.Position words = Some requests.Position
request_in forms.Setpoint words = option_map (λ axes. requests.Setpoint (joints_of axes)) (nums_in MOST_AXES words)
request_in (forms.Connect old trap) words = Some (requests.Connect old trap)
request_in (forms.OrderSignal number single value signal) words = Some (requests.Order number (watched.Signal signal value) single)
request_in (forms.OrderPers number single pers) words = Some (requests.Order number (watched.Pers pers) single)
request_in (forms.Sleep number) words = Some (requests.Sleep number)
request_in (forms.Watch number) words = Some (requests.Watch number)
request_in (forms.Delete number) words = Some (requests.Delete number)
request_in forms.Disable words = Some requests.Disable
request_in forms.Enable words = Some requests.Enable
request_in forms.Leave words = Some requests.Leave
request_in (forms.ZoneSet old temporary inside) words = option_map (λ shape. requests.ZoneSet old temporary shape) (shape_in inside words)
request_in (forms.ZoneTie old temporary inside value signal) words = option_map (λ shape. requests.ZoneTie old temporary shape signal value) (shape_in inside words)
request_in (forms.ZoneOn zone) words = Some (requests.ZoneOn zone)
request_in (forms.ZoneOff zone) words = Some (requests.ZoneOff zone)
request_in (forms.ZoneFree zone) words = Some (requests.ZoneFree zone)
request_in (forms.Arrive tasks meeting) words = Some (requests.Arrive meeting tasks)
request_in (forms.Hold seen) words = Some (requests.Hold seen)
request_in forms.Rise words = Some requests.Rise
request_in (forms.Input index) words = Some (requests.Input index)
request_in (forms.Say count tail) words = said_in count tail words
request_in (forms.End fate) words = Some (requests.End fate)

-- nums in range, as many as the types say, and texts of printable characters, as in every request of a program
abbrev pub is_proper_request : Request → Bool
is_proper_request (requests.WriteP pers path value) = is_proper_value value
is_proper_request (requests.Setpoint to) = are_nums MOST_AXES to.axis
is_proper_request (requests.ZoneSet old temporary shape) = is_proper_shape shape
is_proper_request (requests.ZoneTie old temporary shape signal value) = is_proper_shape shape
is_proper_request (requests.Say text tail) = is_text text && is_proper_tail tail
is_proper_request _ = true

-- a setpoint or a text to the operator: no other request has a line in what a run prints
abbrev pub is_lined : Request → Bool
is_lined (requests.Setpoint to) = true
is_lined (requests.Say text tail) = true
is_lined _ = false

-- its form
abbrev pub is_lined_form : RequestForm → Bool
is_lined_form forms.Setpoint = true
is_lined_form (forms.Say count tail) = true
is_lined_form _ = false
