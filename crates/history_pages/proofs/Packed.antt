-- The event of a head and its words is the event that they were made from.
use Rattle.std.proofs.Common.{◌≡◌, ℕ, zero, suc, ◌+◌, ◌*◌, ◌<◌, ◌≤◌, true, ◌&&◌, ◌==◌, nat_le, ℤ, List, [], ◌∷◌, ◌++◌, length, drop, slice_get, Option, None, Some, option_map, refl, sym, ap, ◌∙◌, lit≤, append_assoc, arith}
use Rattle.std.proofs.Math.Seq.{drop-append_seam}
use Rattle.std.proofs.lemmas.Bool.{and_from, and_parts, eqb-true, false≢true, leb-true}
use Rattle.std.proofs.lemmas.List.{append-nil, length-append, length-map, map-append}
use Rattle.std.proofs.lemmas.List.FromFn.{length-map-range_with_len}
use Rattle.std.proofs.lemmas.List.Folds.{list_all-append}
use Rattle.std.proofs.lemmas.Option.{none-some, same_Some, slice_get-map}
use Rattle.std.specs.List.{list_all}
use Rattle.std.specs.Option.{option_and_then}
use Rattle.std.specs.Prelude.{is_some, unwrap_or}
use Rattle.rapid_num.specs.Characters.{is_printable}
use Rattle.rapid_num.specs.Range.{is_num}
use Rattle.rapid_model.specs.declared.answer.Answer.{Answer}
use Rattle.rapid_model.specs.declared.answer.Answer.TheVariants as answers
use Rattle.rapid_model.specs.declared.event.Event.{Event}
use Rattle.rapid_model.specs.declared.request.Request.{Request}
use Rattle.rapid_model.specs.declared.request.Request.TheVariants as requests
use Rattle.rapid_model.specs.declared.tail.Tail.{Tail}
use Rattle.rapid_model.specs.declared.tail.Tail.TheVariants as tails
use Rattle.rapid_model.specs.declared.value.Value.{Value}
use Rattle.rapid_model.specs.declared.value.Value.TheVariants as values
use Rattle.rapid_model.specs.declared.watched.Watched.TheVariants as watched
use Rattle.history_pages.specs.Answers.{answer_form, answer_in}
use Rattle.history_pages.specs.Packing.{event_from, event_in, event_of, head_of, is_proper, told_in, words_of}
use Rattle.history_pages.specs.Paged.{PagedData, with_items}
use Rattle.history_pages.specs.Pages.{IsKept, PagesData, events_in}
use Rattle.history_pages.specs.Replies.{is_reply_to}
use Rattle.history_pages.specs.Requests.{is_proper_request, request_form, request_in, request_words, said_in, said_words}
use Rattle.history_pages.specs.Values.{is_proper_tail, is_proper_value, joints_of, tail_form, tail_in, value_form, value_in, value_words}
use Rattle.history_pages.specs.Words.{are_nums, is_text, text_words, word_of, words_for}
use Rattle.history_pages.specs.declared.head.Head.{Head}
use Rattle.history_pages.proofs.Kept.{event_in-keeps}
use Rattle.history_pages.proofs.Written.{length-shape_words, num_in-front, nums_in-front, shape_in-front, text_in-front}

value_in-front : (value : Value) (rest : List ℤ) → is_proper_value value ≡ true → value_in (value_form value) (value_words value ++ rest) ≡ Some value
value_in-front (values.Num number) rest proper = ap (option_map values.Num) (num_in-front number rest proper)
value_in-front (values.Bool truth) rest proper = refl
value_in-front (values.Text text) rest proper = ap (option_map values.Text) (text_in-front text rest proper)
value_in-front (values.Rob axes) rest proper = ap (option_map values.Rob) (nums_in-front 6 axes rest proper)
value_in-front (values.Ext axes) rest proper = ap (option_map values.Ext) (nums_in-front 6 axes rest proper)
value_in-front (values.Target joints) rest proper = ap (option_map (λ axes. values.Target (joints_of axes))) (nums_in-front 12 joints.axis rest proper)
value_in-front (values.Speed parts) rest proper = ap (option_map values.Speed) (nums_in-front 4 parts rest proper)

-- the text comes after the word of its tail
said_in-front : (text : List ℕ) (tail : Tail) (rest : List ℤ) → is_text text ≡ true → is_proper_tail tail ≡ true → said_in (length text) (tail_form tail) (said_words text tail ++ rest) ≡ Some (requests.Say text tail)
said_in-front text tails.None rest is proper = ap (option_and_then (λ t. option_map (λ tail. requests.Say t tail) (Some tails.None))) (text_in-front text rest is)
said_in-front text (tails.Num number) rest is proper =
    ap (option_and_then (λ t. option_map (λ tail. requests.Say t tail) (tail_in (tail_form (tails.Num number)) (number ∷ (text_words text ++ rest))))) (text_in-front text rest is)
    ∙ ap (λ o. option_map (λ tail. requests.Say text tail) (option_map tails.Num o)) (num_in-front number (text_words text ++ rest) proper)
said_in-front text (tails.Bool truth) rest is proper = ap (option_and_then (λ t. option_map (λ tail. requests.Say t tail) (Some (tails.Bool truth)))) (text_in-front text rest is)

request_in-front : (request : Request) (answer : Answer) (rest : List ℤ) → is_proper_request request ≡ true → request_in (request_form request answer) (request_words request ++ rest) ≡ Some request
request_in-front (requests.WriteP pers path value) answer rest proper = ap (option_map (λ v. requests.WriteP pers path v)) (value_in-front value rest proper)
request_in-front (requests.Setpoint to) answer rest proper = ap (option_map (λ axes. requests.Setpoint (joints_of axes))) (nums_in-front 12 to.axis rest proper)
request_in-front (requests.ZoneSet old temporary shape) answer rest proper = ap (option_map (λ s. requests.ZoneSet old temporary s)) (shape_in-front shape rest proper)
request_in-front (requests.ZoneTie old temporary shape signal value) answer rest proper =
    ap (option_map (λ s. requests.ZoneTie old temporary s signal value)) (shape_in-front shape rest proper)
request_in-front (requests.Say text tail) answer rest proper =
    let parts = and_parts (is_text text) (is_proper_tail tail) proper in
    said_in-front text tail rest parts.0 parts.1
request_in-front (requests.Order number (watched.Signal signal value) single) answer rest proper = refl
request_in-front (requests.Order number (watched.Pers pers) single) answer rest proper = refl
request_in-front _ answer rest proper = refl

-- a request whose answer is a value or a position has no words
before_value : (request : Request) (value : Value) (words : List ℤ) → is_reply_to request (answers.Val value) ≡ true → request_in (request_form request (answers.Val value)) words ≡ Some request
before_value (requests.ReadP pers path) value words reply = refl
before_value _ value words reply = absurd (false≢true reply)

before_position : (request : Request) (axes : List ℤ) (words : List ℤ)
    → is_reply_to request (answers.At (joints_of axes)) ≡ true → request_in (request_form request (answers.At (joints_of axes))) words ≡ Some request
before_position requests.Position axes words reply = refl
before_position _ axes words reply = absurd (false≢true reply)

-- only a Look is told a number of changes, or a trap
told_go : (request : Request) (seen : ℕ) → is_reply_to request (answers.Go seen) ≡ true → told_in (request_form request (answers.Go seen)) ≡ seen
told_go requests.Look seen reply = refl
told_go _ seen reply = absurd (false≢true reply)

told_trap : (request : Request) (number trap : ℕ) → is_reply_to request (answers.Trap number trap) ≡ true → told_in (request_form request (answers.Trap number trap)) ≡ trap
told_trap requests.Look number trap reply = refl
told_trap _ number trap reply = absurd (false≢true reply)

request_part : (request : Request) (answer : Answer) (rest : List ℤ)
    → is_reply_to request answer ≡ true → is_proper request answer ≡ true → request_in (request_form request answer) (words_of request answer ++ rest) ≡ Some request
request_part request (answers.Val value) rest reply proper = before_value request value (value_words value ++ rest) reply
request_part request (answers.At position) rest reply proper = before_position request position.axis (position.axis ++ rest) reply
request_part request answer rest reply proper = request_in-front request answer rest proper

answer_part : (request : Request) (answer : Answer) (rest : List ℤ)
    → is_reply_to request answer ≡ true → is_proper request answer ≡ true → answer_in (answer_form answer) (told_in (request_form request answer)) (words_of request answer ++ rest) ≡ Some answer
answer_part request (answers.Go seen) rest reply proper = ap (λ n. Some (answers.Go n)) (told_go request seen reply)
answer_part request (answers.Trap number trap) rest reply proper = ap (λ n. Some (answers.Trap number n)) (told_trap request number trap reply)
answer_part request (answers.Val value) rest reply proper = ap (option_map answers.Val) (value_in-front value rest proper)
answer_part request (answers.At position) rest reply proper = ap (option_map (λ axes. answers.At (joints_of axes))) (nums_in-front 12 position.axis rest proper)
answer_part request _ rest reply proper = refl

both_read : {A B C : Type 0} (f : A → B → C) (o : Option A) (p : Option B) (a : A) (b : B) → o ≡ Some a → p ≡ Some b → option_and_then (λ x. option_map (f x) p) o ≡ Some (f a b)
both_read f o p a b first second = ap (option_and_then (λ x. option_map (f x) p)) first ∙ ap (option_map (f a)) second

event_from-front : (actor from : ℕ) (request : Request) (answer : Answer) (rest : List ℤ) → is_reply_to request answer ≡ true → is_proper request answer ≡ true
    → event_from (head_of from (event_of actor request answer)) (words_of request answer ++ rest) ≡ Some (event_of actor request answer)
event_from-front actor from request answer rest reply proper =
    let words : List ℤ = words_of request answer ++ rest in
    both_read (event_of actor) (request_in (request_form request answer) words) (answer_in (answer_form answer) (told_in (request_form request answer)) words) request answer
    (request_part request answer rest reply proper) (answer_part request answer rest reply proper)

pub event_in-there : (actor : ℕ) (request : Request) (answer : Answer) (before after : List ℤ) → is_reply_to request answer ≡ true → is_proper request answer ≡ true
    → event_in (before ++ words_of request answer ++ after) (head_of (length before) (event_of actor request answer)) ≡ Some (event_of actor request answer)
event_in-there actor request answer before after reply proper =
    let own : drop (length before) (before ++ words_of request answer ++ after) ≡ words_of request answer ++ after =
    ap (drop (length before)) (append_assoc before (words_of request answer) after) ∙ drop-append_seam before (words_of request answer ++ after)
    in
    ap (event_from (head_of (length before) (event_of actor request answer))) own ∙ event_from-front actor (length before) request answer after reply proper

-- an event has at most 24 words

length-text_words : (text : List ℕ) → length (text_words text) ≡ words_for (length text)
length-text_words text = length-map-range_with_len (λ k. word_of (drop (8 * k) text)) 0 (words_for (length text))

text_few : (text : List ℕ) → is_text text ≡ true → length (text_words text) ≤ 10
text_few text is =
    let short : length text ≤ 80 = leb-true (length text) 80 (and_parts (nat_le (length text) 80) (list_all is_printable text) is).0 in
    let many : length (text_words text) ≡ words_for (length text) = length-text_words text in
    omega arith

nums_few : (count : ℕ) (nums : List ℤ) → are_nums count nums ≡ true → length nums ≤ count
nums_few count nums are = let many : length nums ≡ count = eqb-true (length nums) count (and_parts (length nums == count) (list_all is_num nums) are).0 in omega arith

value_few : (value : Value) → is_proper_value value ≡ true → length (value_words value) ≤ 12
value_few (values.Num number) proper = lit≤ tt
value_few (values.Bool truth) proper = lit≤ tt
value_few (values.Text text) proper = let few : length (text_words text) ≤ 10 = text_few text proper in omega arith
value_few (values.Rob axes) proper = let few : length axes ≤ 6 = nums_few 6 axes proper in omega arith
value_few (values.Ext axes) proper = let few : length axes ≤ 6 = nums_few 6 axes proper in omega arith
value_few (values.Target joints) proper = nums_few 12 joints.axis proper
value_few (values.Speed parts) proper = let few : length parts ≤ 4 = nums_few 4 parts proper in omega arith

said_few : (text : List ℕ) (tail : Tail) → is_text text ≡ true → length (said_words text tail) ≤ 24
said_few text tails.None is = let few : length (text_words text) ≤ 10 = text_few text is in omega arith
said_few text (tails.Num number) is = let few : length (text_words text) ≤ 10 = text_few text is in omega arith
said_few text (tails.Bool truth) is = let few : length (text_words text) ≤ 10 = text_few text is in omega arith

request_few : (request : Request) → is_proper_request request ≡ true → length (request_words request) ≤ 24
request_few (requests.WriteP pers path value) proper = let few : length (value_words value) ≤ 12 = value_few value proper in omega arith
request_few (requests.Setpoint to) proper = let few : length to.axis ≤ 12 = nums_few 12 to.axis proper in omega arith
request_few (requests.ZoneSet old temporary shape) proper = length-shape_words shape proper
request_few (requests.ZoneTie old temporary shape signal value) proper = length-shape_words shape proper
request_few (requests.Say text tail) proper = said_few text tail (and_parts (is_text text) (is_proper_tail tail) proper).0
request_few _ proper = lit≤ tt

pub words_few : (request : Request) (answer : Answer) → is_proper request answer ≡ true → length (words_of request answer) ≤ 24
words_few request (answers.Val value) proper = let few : length (value_words value) ≤ 12 = value_few value proper in omega arith
words_few request (answers.At position) proper = let few : length position.axis ≤ 12 = nums_few 12 position.axis proper in omega arith
words_few request _ proper = request_few request proper

-- all heads keep their events, and the new one has its own

some_there : {A : Type 0} (o : Option A) → is_some o ≡ true → (x : A) × (o ≡ Some x)
some_there None is = absurd (false≢true is)
some_there (Some x) is = (x, refl)

all_stay : (heads : List Head) (words more : List ℤ) → list_all (λ head. is_some (event_in words head)) heads ≡ true
    → (list_all (λ head. is_some (event_in (words ++ more) head)) heads ≡ true) × (events_in heads (words ++ more) ≡ events_in heads words)
all_stay [] words more all = (refl, refl)
all_stay (head ∷ heads) words more all =
    let parts = and_parts (is_some (event_in words head)) (list_all (λ h. is_some (event_in words h)) heads) all in
    let there = some_there (event_in words head) parts.0 in
    let stays : event_in (words ++ more) head ≡ Some there.0 = event_in-keeps head words more there.0 there.1 in
    let rest = all_stay heads words more parts.1 in
    let none : Event = event_of 0 requests.Rise answers.Ok in
    let first : unwrap_or (event_in (words ++ more) head) none ≡ unwrap_or (event_in words head) none = ap (λ o. unwrap_or o none) (stays ∙ sym there.1) in (
      and_from (is_some (event_in (words ++ more) head)) (list_all (λ h. is_some (event_in (words ++ more) h)) heads) (ap is_some stays) rest.0,
      ap (λ e. e ∷ events_in heads (words ++ more)) first ∙ ap (λ es. unwrap_or (event_in words head) none ∷ es) rest.1,
    )

-- the last head has its event among all words
last_there : (actor : ℕ) (request : Request) (answer : Answer) (words : List ℤ) → is_reply_to request answer ≡ true → is_proper request answer ≡ true
    → event_in (words ++ words_of request answer) (head_of (length words) (event_of actor request answer)) ≡ Some (event_of actor request answer)
last_there actor request answer words reply proper =
    let head : Head = head_of (length words) (event_of actor request answer) in
    let all : words ++ words_of request answer ++ [] ≡ words ++ words_of request answer = append-nil (words ++ words_of request answer) in
    ap (λ ws. event_in ws head) (sym all) ∙ event_in-there actor request answer words [] reply proper

pub kept_with : (heads : PagedData Head) (words : PagedData ℤ) (room actor : ℕ) (request : Request) (answer : Answer)
    → IsKept heads words room → length heads.items < room → is_reply_to request answer ≡ true → is_proper request answer ≡ true
    → IsKept (with_items heads (head_of (length words.items) (event_of actor request answer) ∷ [])) (with_items words (words_of request answer)) room
kept_with heads words room actor request answer kept less reply proper =
    let head : Head = head_of (length words.items) (event_of actor request answer) in
    let more : List ℤ = words_of request answer in
    let few : length more ≤ 24 = words_few request answer proper in
    let long : length (words.items ++ more) ≡ length words.items + length more = length-append words.items more in
    let many : length (heads.items ++ head ∷ []) ≡ length heads.items + 1 = length-append heads.items (head ∷ []) in
    let stay = all_stay heads.items words.items more kept.there in
    let last : is_some (event_in (words.items ++ more) head) ≡ true = ap is_some (last_there actor request answer words.items reply proper) in
    let short : length words.items ≤ 24 * length heads.items = kept.short in
    record {
      there = list_all-append (λ h. is_some (event_in (words.items ++ more) h)) heads.items (head ∷ [])
          ∙ and_from (list_all (λ h. is_some (event_in (words.items ++ more) h)) heads.items) (is_some (event_in (words.items ++ more) head) && true) stay.0 (and_from (is_some (event_in (words.items ++ more) head)) true last refl);
      few = omega arith;
      room_for_heads = kept.room_for_heads;
      short = omega arith;
      room_for_words = kept.room_for_words;
      indexes = kept.indexes;
    }

pub events_with : (heads : PagedData Head) (words : PagedData ℤ) (room actor : ℕ) (request : Request) (answer : Answer)
    → IsKept heads words room → is_reply_to request answer ≡ true → is_proper request answer ≡ true
    → events_in (heads.items ++ head_of (length words.items) (event_of actor request answer) ∷ []) (words.items ++ words_of request answer) ≡ events_in heads.items words.items ++ event_of actor request answer ∷ []
events_with heads words room actor request answer kept reply proper =
    let head : Head = head_of (length words.items) (event_of actor request answer) in
    let all : List ℤ = words.items ++ words_of request answer in
    let none : Event = event_of 0 requests.Rise answers.Ok in
    let stay = all_stay heads.items words.items (words_of request answer) kept.there in
    let last : unwrap_or (event_in all head) none ≡ event_of actor request answer = ap (λ o. unwrap_or o none) (last_there actor request answer words.items reply proper) in
    map-append (λ h. unwrap_or (event_in all h) none) heads.items (head ∷ []) ∙ ap (λ es. es ++ unwrap_or (event_in all head) none ∷ []) stay.1
    ∙ ap (λ e. events_in heads.items words.items ++ e ∷ []) last

-- as many heads as events
pub head_count : (heads : List Head) (words : List ℤ) (room : ℕ) (pages : PagesData) → record { events = events_in heads words; room = room } ≡ pages → length pages.events < pages.room → length heads < room
head_count heads words room pages view less =
    let events : length (events_in heads words) ≡ length pages.events = ap (λ (p : PagesData). length p.events) view in
    let count : length (events_in heads words) ≡ length heads = length-map heads (λ head. unwrap_or (event_in words head) (event_of 0 requests.Rise answers.Ok)) in
    let same : room ≡ pages.room = ap (λ (p : PagesData). p.room) view in
    omega arith

-- the event of a head is the one with its index
pub event_at : (heads : List Head) (words : List ℤ) (k : ℕ) (head : Head) → slice_get heads k ≡ Some head → list_all (λ h. is_some (event_in words h)) heads ≡ true → event_in words head ≡ slice_get (events_in heads words) k
event_at [] words k head at all = absurd (none-some head at)
event_at (h ∷ heads) words zero head at all =
    let same : h ≡ head = same_Some h head at in
    let there = some_there (event_in words h) (and_parts (is_some (event_in words h)) (list_all (λ x. is_some (event_in words x)) heads) all).0 in
    ap (event_in words) (sym same) ∙ there.1 ∙ ap (λ o. Some (unwrap_or o (event_of 0 requests.Rise answers.Ok))) (sym there.1)
event_at (h ∷ heads) words (suc k) head at all = event_at heads words k head at (and_parts (is_some (event_in words h)) (list_all (λ x. is_some (event_in words x)) heads) all).1

-- and there is one
pub spelled_at : (heads : List Head) (words : List ℤ) (k : ℕ) (head : Head) → slice_get heads k ≡ Some head → list_all (λ h. is_some (event_in words h)) heads ≡ true → is_some (event_in words head) ≡ true
spelled_at heads words k head at all =
    let read : Head → Event = λ h. unwrap_or (event_in words h) (event_of 0 requests.Rise answers.Ok) in
    ap is_some (event_at heads words k head at all ∙ slice_get-map read heads k ∙ ap (option_map read) at)
