-- The head and the words of an event, and the event that is read from them.
use Rattle.std.specs.Prelude.{ℕ, Bool, ℤ, List, drop, Option, option_map}
use Rattle.std.specs.Option.{option_and_then}
use Rattle.rapid_limits.specs.declared.TheConstants.{MOST_AXES}
use Rattle.rapid_model.specs.declared.answer.Answer.{Answer}
use Rattle.rapid_model.specs.declared.answer.Answer.TheVariants as answers
use Rattle.rapid_model.specs.declared.event.Event.{Event}
use Rattle.rapid_model.specs.declared.request.Request.{Request}
use Rattle.history_pages.specs.Answers.{answer_form, answer_in}
use Rattle.history_pages.specs.Requests.{is_proper_request, request_form, request_in, request_words}
use Rattle.history_pages.specs.Values.{is_proper_value, value_words}
use Rattle.history_pages.specs.Words.{are_nums}
use Rattle.history_pages.specs.declared.head.Head.{Head}
use Rattle.history_pages.specs.declared.request_form.RequestForm.{RequestForm}
use Rattle.history_pages.specs.declared.request_form.RequestForm.TheVariants.{Look}

abbrev pub event_of : ℕ → Request → Answer → Event
event_of actor request answer = record { actor = actor; request = request; answer = answer }

-- the head of an event whose words begin at this index
abbrev pub head_of : ℕ → Event → Head
head_of from e = record {
  actor = e.actor;
  from = from;
  request = request_form e.request e.answer;
  answer = answer_form e.answer;
}

-- the words of an event: of its answer if that is a value or a position, otherwise of its request
abbrev pub words_of : Request → Answer → List ℤ
words_of request (answers.Val value) = value_words value
words_of request (answers.At position) = position.axis
words_of request _ = request_words request

-- the number in the answer to a Look
abbrev pub told_in : RequestForm → ℕ
told_in (Look told) = told
told_in _ = 0

-- the event of a head whose words are the first ones
abbrev pub event_from : Head → List ℤ → Option Event
event_from head words =
    option_and_then (λ request. option_map (event_of head.actor request) (answer_in head.answer (told_in head.request) words))
    (request_in head.request words)

-- the event of a head, read from all words
abbrev pub event_in : List ℤ → Head → Option Event
event_in words head = event_from head (drop head.from words)

-- nums in range, as many as the types say, and texts of printable characters, as in every event of a program
abbrev pub is_proper : Request → Answer → Bool
is_proper request (answers.Val value) = is_proper_value value
is_proper request (answers.At position) = are_nums MOST_AXES position.axis
is_proper request _ = is_proper_request request
