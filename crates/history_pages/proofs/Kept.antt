-- What is read from words stays the same, whatever is appended to them.
use Rattle.std.proofs.Common.{◌≡◌, ℕ, zero, suc, ◌+◌, ◌-◌, ◌*◌, ◌/◌, ◌%◌, ◌≤◌, true, ◌&&◌, ℤ, List, [], ◌∷◌, ◌++◌, length, take, drop, map, slice_index, slice_index_or, Bool, Option, None, Some, option_map, nat_le, refl, ap, ◌∙◌, arith}
use Rattle.std.proofs.lemmas.Bool.{and_from, and_parts, cond-true, le-leb, leb-true}
use Rattle.std.proofs.lemmas.List.{get_or_append_left, length-append, take-append-le}
use Rattle.std.proofs.lemmas.Option.{cond_some, none-some}
use Rattle.std.specs.Int.{cast_unsigned, to_le_bytes, w64}
use Rattle.std.specs.List.{list_all, range_with_len}
use Rattle.std.specs.Option.{option_and_then}
use Rattle.rapid_num.specs.Range.{is_num}
use Rattle.rapid_num.specs.declared.shape.Bound.{Bound}
use Rattle.rapid_num.specs.declared.shape.Shape.{Shape}
use Rattle.rapid_model.specs.declared.answer.Answer.TheVariants as answers
use Rattle.rapid_model.specs.declared.request.Request.TheVariants as requests
use Rattle.rapid_model.specs.declared.tail.Tail.TheVariants as tails
use Rattle.rapid_model.specs.declared.value.Value.TheVariants as values
use Rattle.rapid_model.proofs.Lists.{made_alike}
use Rattle.history_pages.specs.Answers.{answer_in}
use Rattle.history_pages.specs.Packing.{event_from, event_in, event_of, told_in}
use Rattle.history_pages.specs.Requests.{request_in, said_in}
use Rattle.history_pages.specs.Values.{joints_of, tail_count, tail_in, value_in}
use Rattle.history_pages.specs.Words.{bound_at, bound_of, byte_at, bytes_in, is_text, no_num, num_in, nums_in, shape_in, text_in}
use Rattle.history_pages.specs.declared.answer_form.AnswerForm.{AnswerForm}
use Rattle.history_pages.specs.declared.answer_form.AnswerForm.TheVariants as answer_forms
use Rattle.history_pages.specs.declared.head.Head.{Head}
use Rattle.history_pages.specs.declared.request_form.RequestForm.{RequestForm}
use Rattle.history_pages.specs.declared.request_form.RequestForm.TheVariants as request_forms
use Rattle.history_pages.specs.declared.tail_form.TailForm.{TailForm}
use Rattle.history_pages.specs.declared.tail_form.TailForm.TheVariants as tail_forms
use Rattle.history_pages.specs.declared.value_form.ValueForm.{ValueForm}
use Rattle.history_pages.specs.declared.value_form.ValueForm.TheVariants as value_forms

-- if one option has it, so has the other
abbrev pub Keeps : {A : Type 0} → Option A → Option A → Type 0
Keeps {A} o p = (x : A) → o ≡ Some x → p ≡ Some x

map_keeps : {A B : Type 0} (f : A → B) (o p : Option A) → Keeps o p → Keeps (option_map f o) (option_map f p)
map_keeps f None p keeps y is = absurd (none-some _ is)
map_keeps f (Some x) p keeps y is = ap (option_map f) (keeps x refl) ∙ is

then_keeps : {A B : Type 0} (f g : A → Option B) (o p : Option A) → Keeps o p → ((x : A) → Keeps (f x) (g x)) → Keeps (option_and_then f o) (option_and_then g p)
then_keeps f g None p keeps each y is = absurd (none-some _ is)
then_keeps f g (Some x) p keeps each y is = ap (option_and_then g) (keeps x refl) ∙ each x y is

-- nums

num_in-keeps : (words more : List ℤ) → Keeps (num_in words) (num_in (words ++ more))
num_in-keeps [] more n is = absurd (none-some _ is)
num_in-keeps (word ∷ words) more n is = is

nums_in-keeps : (count : ℕ) (words more : List ℤ) → Keeps (nums_in count words) (nums_in count (words ++ more))
nums_in-keeps count words more nums is =
    let made = cond_some (nat_le count (length words) && list_all is_num (take count words)) (take count words) nums is in
    let parts = and_parts (nat_le count (length words)) (list_all is_num (take count words)) made.0 in
    let within : count ≤ length words = leb-true count (length words) parts.0 in
    let all : length (words ++ more) ≡ length words + length more = length-append words more in
    let enough : nat_le count (length (words ++ more)) ≡ true = le-leb count (length (words ++ more)) (omega arith) in
    let front : take count (words ++ more) ≡ take count words = take-append-le count words more within in
    let in_range : list_all is_num (take count (words ++ more)) ≡ true = ap (list_all is_num) front ∙ parts.1 in
    cond-true (nat_le count (length (words ++ more)) && list_all is_num (take count (words ++ more))) (Some (take count (words ++ more))) None
    (and_from (nat_le count (length (words ++ more))) (list_all is_num (take count (words ++ more))) enough in_range) ∙ ap Some (front ∙ made.1)

-- shapes and texts

shape_in-keeps : (inside : Bool) (words more : List ℤ) → Keeps (shape_in inside words) (shape_in inside (words ++ more))
shape_in-keeps inside words more shape is =
    let make : List (Option Bound) → Shape = λ bs. record { inside = inside; bounds = bs } in
    let made = cond_some (nat_le 24 (length words)) (make (map (bound_at words) (range_with_len 0 12))) shape is in
    let within : 24 ≤ length words = leb-true 24 (length words) made.0 in
    let all : length (words ++ more) ≡ length words + length more = length-append words more in
    let enough : nat_le 24 (length (words ++ more)) ≡ true = le-leb 24 (length (words ++ more)) (omega arith) in
    let same : map (bound_at (words ++ more)) (range_with_len 0 12) ≡ map (bound_at words) (range_with_len 0 12) =
    made_alike (bound_at (words ++ more)) (bound_at words) 12
    (λ k below. ap (λ low. bound_of low (slice_index_or (words ++ more) (2 * k + 1) no_num)) (get_or_append_left words more no_num (2 * k) (omega arith))
    ∙ ap (bound_of (slice_index_or words (2 * k) no_num)) (get_or_append_left words more no_num (2 * k + 1) (omega arith)))
    in
    cond-true (nat_le 24 (length (words ++ more))) (Some (make (map (bound_at (words ++ more)) (range_with_len 0 12)))) None enough
    ∙ ap (λ bs. Some (make bs)) same ∙ ap Some made.1

text_in-keeps : (count : ℕ) (words more : List ℤ) → Keeps (text_in count words) (text_in count (words ++ more))
text_in-keeps count words more text is =
    let made = cond_some (nat_le count (8 * length words) && is_text (bytes_in count words)) (bytes_in count words) text is in
    let parts = and_parts (nat_le count (8 * length words)) (is_text (bytes_in count words)) made.0 in
    let within : count ≤ 8 * length words = leb-true count (8 * length words) parts.0 in
    let all : length (words ++ more) ≡ length words + length more = length-append words more in
    let enough : nat_le count (8 * length (words ++ more)) ≡ true = le-leb count (8 * length (words ++ more)) (omega arith) in
    let same : bytes_in count (words ++ more) ≡ bytes_in count words =
    made_alike (byte_at (words ++ more)) (byte_at words) count
    (λ k below. ap (λ w. slice_index (to_le_bytes w64 (cast_unsigned w64 w)) (k % 8)) (get_or_append_left words more no_num (k / 8) (omega arith)))
    in
    let proper : is_text (bytes_in count (words ++ more)) ≡ true = ap is_text same ∙ parts.1 in
    cond-true (nat_le count (8 * length (words ++ more)) && is_text (bytes_in count (words ++ more))) (Some (bytes_in count (words ++ more))) None
    (and_from (nat_le count (8 * length (words ++ more))) (is_text (bytes_in count (words ++ more))) enough proper) ∙ ap Some (same ∙ made.1)

-- values, requests, answers

value_in-keeps : (form : ValueForm) (words more : List ℤ) → Keeps (value_in form words) (value_in form (words ++ more))
value_in-keeps value_forms.Num words more = map_keeps values.Num (num_in words) (num_in (words ++ more)) (num_in-keeps words more)
value_in-keeps (value_forms.Bool truth) words more = λ v is. is
value_in-keeps (value_forms.Text count) words more = map_keeps values.Text (text_in count words) (text_in count (words ++ more)) (text_in-keeps count words more)
value_in-keeps value_forms.Rob words more = map_keeps values.Rob (nums_in 6 words) (nums_in 6 (words ++ more)) (nums_in-keeps 6 words more)
value_in-keeps value_forms.Ext words more = map_keeps values.Ext (nums_in 6 words) (nums_in 6 (words ++ more)) (nums_in-keeps 6 words more)
value_in-keeps value_forms.Target words more =
    map_keeps (λ axes. values.Target (joints_of axes)) (nums_in 12 words) (nums_in 12 (words ++ more)) (nums_in-keeps 12 words more)
value_in-keeps value_forms.Speed words more = map_keeps values.Speed (nums_in 4 words) (nums_in 4 (words ++ more)) (nums_in-keeps 4 words more)

tail_in-keeps : (form : TailForm) (words more : List ℤ) → Keeps (tail_in form words) (tail_in form (words ++ more))
tail_in-keeps tail_forms.None words more = λ t is. is
tail_in-keeps tail_forms.Num words more = map_keeps tails.Num (num_in words) (num_in (words ++ more)) (num_in-keeps words more)
tail_in-keeps (tail_forms.Bool truth) words more = λ t is. is

-- what is left of two lists after their first words
drop-append : (n : ℕ) (words more : List ℤ) → drop n (words ++ more) ≡ drop n words ++ drop (n - length words) more
drop-append zero words more = let none : 0 - length words ≡ 0 = omega arith in rw none refl
drop-append (suc n) [] more = let all : suc n - 0 ≡ suc n = omega arith in rw all refl
drop-append (suc n) (word ∷ words) more = let one : suc n - suc (length words) ≡ n - length words = omega arith in rw one (drop-append n words more)

said_in-keeps : (count : ℕ) (form : TailForm) (words more : List ℤ) → Keeps (said_in count form words) (said_in count form (words ++ more))
said_in-keeps count form words more =
    let from : ℕ = tail_count form in
    then_keeps (λ text. option_map (λ tail. requests.Say text tail) (tail_in form words)) (λ text. option_map (λ tail. requests.Say text tail) (tail_in form (words ++ more)))
    (text_in count (drop from words)) (text_in count (drop from (words ++ more)))
    (λ text is. ap (text_in count) (drop-append from words more) ∙ text_in-keeps count (drop from words) (drop (from - length words) more) text is)
    (λ text. map_keeps (λ tail. requests.Say text tail) (tail_in form words) (tail_in form (words ++ more)) (tail_in-keeps form words more))

request_in-keeps : (form : RequestForm) (words more : List ℤ) → Keeps (request_in form words) (request_in form (words ++ more))
request_in-keeps (request_forms.WriteP form path pers) words more =
    map_keeps (λ value. requests.WriteP pers path value) (value_in form words) (value_in form (words ++ more)) (value_in-keeps form words more)
request_in-keeps request_forms.Setpoint words more =
    map_keeps (λ axes. requests.Setpoint (joints_of axes)) (nums_in 12 words) (nums_in 12 (words ++ more)) (nums_in-keeps 12 words more)
request_in-keeps (request_forms.ZoneSet old temporary inside) words more =
    map_keeps (λ shape. requests.ZoneSet old temporary shape) (shape_in inside words) (shape_in inside (words ++ more)) (shape_in-keeps inside words more)
request_in-keeps (request_forms.ZoneTie old temporary inside value signal) words more =
    map_keeps (λ shape. requests.ZoneTie old temporary shape signal value) (shape_in inside words) (shape_in inside (words ++ more)) (shape_in-keeps inside words more)
request_in-keeps (request_forms.Say count tail) words more = said_in-keeps count tail words more
request_in-keeps _ words more = λ r is. is

answer_in-keeps : (form : AnswerForm) (told : ℕ) (words more : List ℤ) → Keeps (answer_in form told words) (answer_in form told (words ++ more))
answer_in-keeps (answer_forms.Val form) told words more =
    map_keeps answers.Val (value_in form words) (value_in form (words ++ more)) (value_in-keeps form words more)
answer_in-keeps answer_forms.At told words more =
    map_keeps (λ axes. answers.At (joints_of axes)) (nums_in 12 words) (nums_in 12 (words ++ more)) (nums_in-keeps 12 words more)
answer_in-keeps _ told words more = λ a is. is

event_from-keeps : (head : Head) (words more : List ℤ) → Keeps (event_from head words) (event_from head (words ++ more))
event_from-keeps head words more =
    then_keeps (λ request. option_map (event_of head.actor request) (answer_in head.answer (told_in head.request) words))
    (λ request. option_map (event_of head.actor request) (answer_in head.answer (told_in head.request) (words ++ more)))
    (request_in head.request words) (request_in head.request (words ++ more)) (request_in-keeps head.request words more)
    (λ request. map_keeps (event_of head.actor request) (answer_in head.answer (told_in head.request) words) (answer_in head.answer (told_in head.request) (words ++ more))
    (answer_in-keeps head.answer (told_in head.request) words more))

pub event_in-keeps : (head : Head) (words more : List ℤ) → Keeps (event_in words head) (event_in (words ++ more) head)
event_in-keeps head words more e is =
    ap (event_from head) (drop-append head.from words more) ∙ event_from-keeps head (drop head.from words) (drop (head.from - length words) more) e is
