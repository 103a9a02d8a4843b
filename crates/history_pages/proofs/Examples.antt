-- Worked examples: the events of a short run, with their heads and words.
use Rattle.std.proofs.Common.{◌≡◌, true, false, ℤ, pos, negsuc, List, [], ◌∷◌, replicate, None, Some, refl}
use Rattle.rapid_model.specs.declared.answer.Answer.TheVariants as answers
use Rattle.rapid_model.specs.declared.event.Event.{Event}
use Rattle.rapid_model.specs.declared.part_name.PartName.TheVariants.{Axis, Whole}
use Rattle.rapid_model.specs.declared.request.Request.TheVariants as requests
use Rattle.rapid_model.specs.declared.tail.Tail.TheVariants as tails
use Rattle.rapid_model.specs.declared.value.Value.TheVariants as values
use Rattle.history_pages.specs.Packing.{event_in, event_of, head_of, words_of}
use Rattle.history_pages.specs.Pages.{events_in}
use Rattle.history_pages.specs.Replies.{is_reply_to}
use Rattle.history_pages.specs.Words.{no_num}
use Rattle.history_pages.specs.declared.answer_form.AnswerForm.TheVariants as answer_forms
use Rattle.history_pages.specs.declared.head.Head.{Head}
use Rattle.history_pages.specs.declared.request_form.RequestForm.TheVariants as request_forms
use Rattle.history_pages.specs.declared.tail_form.TailForm.TheVariants as tail_forms
use Rattle.history_pages.specs.declared.value_form.ValueForm.TheVariants as value_forms

-- a Look of task 1, which was told of 7 changes: all of it is in the head

look : Event
look = event_of 1 requests.Look (answers.Go 7)

look_head : Head
look_head = record { actor = 1; from = 0; request = request_forms.Look 7; answer = answer_forms.Go }

packed_look : head_of 0 look ≡ look_head
unfolding look look_head
packed_look = refl

look_has_no_words : words_of requests.Look (answers.Go 7) ≡ []
look_has_no_words = refl

-- `t{2}.extax.eax_f := -0.5;`: the num is a word, in thousandths

writing : Event
writing = event_of 2 (requests.WriteP 3 (record { index = 2; part = Axis 11 }) (values.Num (negsuc 499))) answers.Ok

writing_head : Head
writing_head = record { actor = 2; from = 0; request = request_forms.WriteP value_forms.Num (record { index = 2; part = Axis 11 }) 3; answer = answer_forms.Ok }

packed_writing : head_of 0 writing ≡ writing_head
unfolding writing writing_head
packed_writing = refl

-- the text `x=0.25` for the operator: the tail is a word, and two characters are one, 120 + 256 * 61

saying : Event
saying = event_of 1 (requests.Say (120 ∷ 61 ∷ []) (tails.Num (pos 250))) answers.Ok

saying_head : Head
saying_head = record { actor = 1; from = 1; request = request_forms.Say 2 tail_forms.Num; answer = answer_forms.Ok }

said_words : words_of (requests.Say (120 ∷ 61 ∷ []) (tails.Num (pos 250))) answers.Ok ≡ pos 250 ∷ pos 15736 ∷ []
said_words = refl

packed_saying : head_of 1 saying ≡ saying_head
unfolding saying saying_head
packed_saying = refl

-- nine characters take two words
nine_characters : words_of (requests.Say (replicate 9 65) tails.None) answers.Ok ≡ pos 4702111234474983745 ∷ pos 65 ∷ []
nine_characters = refl

-- a zone that bounds only axis 1: its bounds are two words, and the other axes have words that are not nums

zone_words : List ℤ
zone_words = pos 10500 ∷ pos 11500 ∷ replicate 22 no_num

watching : Event
watching = event_of 0 (requests.ZoneSet 0 false (record { inside = true; bounds = Some (record { low = pos 10500; high = pos 11500 }) ∷ replicate 11 None })) (answers.Number 1)

watching_head : Head
watching_head = record { actor = 0; from = 3; request = request_forms.ZoneSet 0 false true; answer = answer_forms.Number 1 }

packed_watching : head_of 3 watching ≡ watching_head
unfolding watching watching_head
packed_watching = refl

watched_words : words_of (requests.ZoneSet 0 false (record { inside = true; bounds = Some (record { low = pos 10500; high = pos 11500 }) ∷ replicate 11 None })) (answers.Number 1) ≡ zone_words
unfolding zone_words
watched_words = refl

-- the four heads, and the words of all events in a row: the events are read back
read_back : events_in (look_head ∷ writing_head ∷ saying_head ∷ watching_head ∷ []) (negsuc 499 ∷ pos 250 ∷ pos 15736 ∷ zone_words) ≡ look ∷ writing ∷ saying ∷ watching ∷ []
unfolding look look_head writing writing_head saying saying_head watching watching_head zone_words
read_back = refl

-- too few words spell nothing, and neither does a word that is not a num
too_few : event_in (pos 250 ∷ []) (record { actor = 1; from = 0; request = request_forms.Say 2 tail_forms.Num; answer = answer_forms.Ok }) ≡ None
too_few = refl

no_value : event_in (no_num ∷ []) (record { actor = 2; from = 0; request = request_forms.WriteP value_forms.Num (record { index = 0; part = Whole }) 3; answer = answer_forms.Ok }) ≡ None
no_value = refl

-- a value is not an answer to a Look
no_reply : is_reply_to requests.Look (answers.Val (values.Bool true)) ≡ false
no_reply = refl
