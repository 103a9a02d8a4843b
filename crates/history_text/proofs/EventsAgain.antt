-- A line that was written is read back.
use Rattle.std.proofs.Common.{◌≡◌, ℕ, ◌^◌, ◌<◌, ◌≤◌, Bool, true, false, List, [], ◌∷◌, ◌++◌, length, get_or, Some, refl, sym, ap, ◌∙◌, arith, append_assoc, inl, inr}
use Rattle.std.proofs.lemmas.Bool.{and_parts, false_from_ne_true}
use Rattle.std.proofs.lemmas.Bool.Decides.{nat_tests}
use Rattle.std.proofs.lemmas.List.Sums.{position_or_len_is}
use Rattle.std.proofs.lemmas.Option.{slice_get-get_or, slice_get_cases, slice_get_within, get_or_from_slice_get}
use Rattle.std.proofs.lemmas.Slice.Eq.{bytes_eq-Decides}
use Rattle.std.specs.List.{list_all, position_or_len}
use Rattle.std.specs.Prelude.{codes, nat_lt, slice_get, ◌&&◌, ◌==◌}
use Rattle.std.specs.Str.{bytes_eq}
use Rattle.rapid_num.specs.Characters.{is_letter, is_name, is_name_byte}
use Rattle.rapid_model.specs.declared.event.Event.{Event}
use Rattle.rapid_model.specs.declared.fate.Fate.{Fate}
use Rattle.rapid_model.specs.declared.task_row.TaskRow.{TaskRow}
use Rattle.history_text.specs.EventLines.{actor_words, event_line}
use Rattle.history_text.specs.EventReading.{actor_at, actor_of, event_at, fate_line_at, is_space, task_named, within_u32}
use Rattle.history_text.specs.EventWords.{answer_words, request_words}
use Rattle.history_text.specs.HistoryText.{AreNamed}
use Rattle.history_text.specs.InRange.{IsEvent, IsFate, IsU32}
use Rattle.history_text.specs.Lines.{fate_line, fate_words}
use Rattle.history_text.specs.Named.{NamesData, answer_fits, event_fits, has_actor, request_fits}
use Rattle.history_text.specs.Reading.{after_word}
use Rattle.history_text.proofs.AnswersAgain.{answer_again}
use Rattle.history_text.proofs.AfterWord.{after_word_again}
use Rattle.history_text.proofs.NameBytes.{IsName, IsNameByte, name_at}
use Rattle.history_text.proofs.RequestsAgain.{fate_again, request_again}
use Rattle.history_text.proofs.Stops.{GoesOn, each, front_again, rest_again}

-- names

byte_goes_on : (b : ℕ) → IsNameByte b → is_space b ≡ false
byte_goes_on b h = grind (arith, nat_tests)

name_goes_on : (name : List ℕ) → IsName name → GoesOn is_space name
name_goes_on name is = each IsNameByte (λ b. is_space b ≡ false) byte_goes_on name is.bytes

-- no name is that of the input script
name_no_minus : (name : List ℕ) → is_name name ≡ true → bytes_eq name (codes "-") ≡ false
name_no_minus [] h = refl
name_no_minus (b ∷ bs) h =
    let letter : is_letter b ≡ true = (and_parts (is_letter b) (list_all is_name_byte bs) h).0 in
    let other : (b == 45) ≡ false = grind (arith, nat_tests) in
    rw other refl

-- the task of a name is the one that has it
named_again : (tasks : List TaskRow) (actor : ℕ) (row : TaskRow) → AreNamed tasks → slice_get tasks actor ≡ Some row → task_named tasks row.name ≡ Some actor
named_again tasks actor row named at =
    let within : actor < length tasks = slice_get_within tasks actor row at in
    let test : TaskRow → Bool = λ other. bytes_eq row.name other.name in
    let here : test (get_or tasks actor row) ≡ true = rw (get_or_from_slice_get tasks actor row row at) ((bytes_eq-Decides row.name row.name).1 refl) in
    let before : (k : ℕ) → k < actor → test (get_or tasks k row) ≡ false =
    λ k less. false_from_ne_true (test (get_or tasks k row)) (λ same.
    let one : k ≡ actor = named.apart k actor (get_or tasks k row) row (slice_get-get_or tasks k row (omega arith)) at (sym ((bytes_eq-Decides row.name (get_or tasks k row).name).0 same)) in
    omega arith) in
    let place : position_or_len test tasks ≡ actor = position_or_len_is test tasks actor row (omega arith) before (λ lt. here) in
    let inside : nat_lt (position_or_len test tasks) (length tasks) ≡ true = grind (arith, nat_tests) in
    rw (inside, place) refl

within_again : (n : ℕ) → IsU32 n → within_u32 n ≡ Some n
within_again n small = let test : nat_lt n (2 ^ 32) ≡ true = grind (arith, nat_tests) in rw test refl

-- actors

task_again : (tasks : List TaskRow) (actor : ℕ) (row : TaskRow) → AreNamed tasks → slice_get tasks actor ≡ Some row → is_name row.name ≡ true → IsU32 actor → actor_of tasks row.name ≡ Some actor
unfolding actor_of
task_again tasks actor row named at form small = rw (name_no_minus row.name form, named_again tasks actor row named at) (within_again actor small)

script_again : (tasks : List TaskRow) → IsU32 (length tasks) → actor_of tasks (codes "-") ≡ Some (length tasks)
unfolding actor_of
script_again tasks small = within_again (length tasks) small

known_again : (tasks : List TaskRow) (name : List ℕ) (actor : ℕ) (more : List ℕ) → GoesOn is_space name → actor_of tasks name ≡ Some actor → actor_at tasks (name ++ 32 ∷ more) ≡ Some (actor, 32 ∷ more)
unfolding actor_at
known_again tasks name actor more goes_on is = rw (front_again is_space name (32 ∷ more) goes_on refl, rest_again is_space name (32 ∷ more) goes_on refl, is) refl

actor_again : (tasks : List TaskRow) (actor : ℕ) (more : List ℕ) → AreNamed tasks → actor ≤ length tasks → IsU32 actor → actor_at tasks (actor_words tasks actor ++ 32 ∷ more) ≡ Some (actor, 32 ∷ more)
actor_again tasks actor more named few small =
    elim ((slice_get_cases tasks actor).1) [
      | inl task ↦
          let name = name_at tasks actor task.0 named.form task.2 in
          rw task.2 (known_again tasks task.0.name actor more (name_goes_on task.0.name name) (task_again tasks actor task.0 named task.2 name.form small))
      | inr none ↦
          let last : length tasks ≡ actor = omega (arith, none.0) in
          rw none.1 (known_again tasks (codes "-") actor more (refl, tt) (script_again tasks (omega arith) ∙ ap Some last))
    ]

-- lines

regroup_line : (a r w more : List ℕ)
    → (codes "H " ++ (a ++ (32 ∷ r ++ (codes " > " ++ (w ++ codes "\n"))))) ++ more ≡ codes "H " ++ (a ++ 32 ∷ (r ++ 32 ∷ 62 ∷ 32 ∷ (w ++ 10 ∷ more)))
regroup_line a r w more = simp append_assoc

pub event_again : (names : NamesData) (e : Event) (more : List ℕ) → AreNamed names.tasks → IsEvent e → event_fits names e ≡ true → event_at names (event_line names.tasks e ++ more) ≡ Some e
unfolding event_at after_word
event_again names e more named range fits =
    let parts = and_parts (has_actor names e.actor) (request_fits names e.actor e.request && answer_fits names e.actor e.request e.answer) fits in
    let both = and_parts (request_fits names e.actor e.request) (answer_fits names e.actor e.request e.answer) parts.1 in
    let few : e.actor ≤ length names.tasks = grind (arith, nat_tests) in
    let after = answer_words e.answer ++ 10 ∷ more in
    ap (event_at names) (regroup_line (actor_words names.tasks e.actor) (request_words e.request) (answer_words e.answer) more) ∙ rw (
      actor_again names.tasks e.actor (request_words e.request ++ 32 ∷ 62 ∷ 32 ∷ after) named few range.actor,
      request_again names e.actor e.request (32 ∷ after) range.request both.0,
      answer_again names e.actor e.request e.answer more range.answer both.0 both.1,
    ) refl

regroup_fate : (name words more : List ℕ) → (codes "E " ++ (name ++ (32 ∷ words ++ codes "\n"))) ++ more ≡ codes "E " ++ (name ++ (codes " " ++ (words ++ 10 ∷ more)))
regroup_fate name words more = simp append_assoc

pub fate_line_again : (name : List ℕ) (fate : Fate) (more : List ℕ) → IsFate fate → fate_line_at name (fate_line name fate ++ more) ≡ Some fate
unfolding fate_line_at
fate_line_again name fate more range =
    let after = fate_words fate ++ 10 ∷ more in
    ap (fate_line_at name) (regroup_fate name (fate_words fate) more)
    ∙ rw (after_word_again (codes "E ") (name ++ (codes " " ++ after)), after_word_again name (codes " " ++ after), after_word_again (codes " ") after, fate_again fate (10 ∷ more) range refl) refl
