-- The state of a task after a legal history, seen at its machine.
use Rattle.std.proofs.Common.{◌≡◌, ◌<◌, ◌⊎◌, inl, inr, refl, sym, ap, ◌∙◌, subst, ℕ, zero, suc, ◌+◌, true, false, List, [], ◌∷◌, ◌++◌, length, map, Option, Some, None, arith, length-append}
use Rattle.std.specs.Prelude.{IsTrue, is_some, slice_get}
use Rattle.std.proofs.lemmas.Bool.{false≢true}
use Rattle.rapid_model.specs.CellData.{CellData}
use Rattle.rapid_model.specs.Own.{part_of, answers_of, fate_of, has_ended}
use Rattle.rapid_model.specs.declared.answer.Answer.{Answer}
use Rattle.rapid_model.specs.declared.at.At.{At}
use Rattle.rapid_model.specs.declared.event.Event.{Event}
use Rattle.rapid_model.specs.declared.request.Request.{Request}
use Rattle.typed_trees.specs.declared.datum.Datum.{Datum}
use Rattle.rapid_meaning.specs.Answering.{Asking}
use Rattle.stack_code.specs.CodeData.{CodeData}
use Rattle.stack_code.specs.CodeRuns.{code_after}
use Rattle.task_code.specs.Asking.{CodeAsks}
use Rattle.task_code.specs.Live.{CodeFits, IsLive}
use Rattle.cell_meaning.specs.Asking as asking
use Rattle.cell_meaning.specs.Asking.{with_inputs}
use Rattle.cell_meaning.specs.Histories.{IsLegal}
use Rattle.cell_meaning.specs.MayAsk.{may_ask}
use Rattle.cell_meaning.proofs.Asked.{TaskMay, ScriptMay, who_may}
use Rattle.cell_crew.specs.Courses.{IsCourse, SuitsTask, answers_in}
use Rattle.cell_crew.specs.Crew.{AsksAsProgram, answers_before_end}
use Rattle.cell_crew.specs.UnderWay.{UnderWay}
use Rattle.cell_crew.proofs.Amid.{answers_in-more, before_end_all, ended_more, stood, way_ended}
use Rattle.cell_crew.proofs.Courses.{course_before, own_course}
use Rattle.cell_crew.proofs.Crews.{map_at}
use Rattle.task_machine.specs.MachineData.{MachineData, request_of}
use Rattle.task_machine.specs.Standing.{StandsFor}
use Rattle.cell_state.specs.Codes.{IsReachedBy}
use Rattle.cell_state.specs.Due.{IsDueNext}
use Rattle.cell_state.specs.States.{TaskStateData, standing}
use Rattle.cell_state.proofs.Arrived.{asks_by, asks_there, ended_there}

-- the last of a task's events, if it has ended
record LastOf (mine : List Event) : Type 0 where
  front : List Event
  last : Event
  cut : mine ≡ front ++ last ∷ []

last_of : (mine : List Event) → has_ended mine ≡ true → LastOf mine
last_of [] ended = absurd (false≢true ended)
last_of (e ∷ es) ended = split e es
  where
    split : (x : Event) (xs : List Event) → LastOf (x ∷ xs)
    split x [] = record { front = []; last = x; cut = refl }
    split x (y ∷ ys) = let rest = split y ys in record { front = x ∷ rest.front; last = rest.last; cut = ap (λ (zs : List Event). x ∷ zs) rest.cut }

-- the answers before a last event that ends the task
before_last : (front : List Event) (last : Event) → is_some (fate_of last.request) ≡ true → has_ended front ≡ false → answers_before_end (front ++ last ∷ []) ≡ answers_before_end front
before_last front last is_end going =
    (way_ended {M = ℕ} (λ m xs. xs ≡ answers_before_end front) (λ m. Some last.request) 0 front last is_end going (record { stands = refl; asked = refl })).stands

module _ (asks : asking.Asking) (cell : CellData) (task : ℕ) (history : List Event) (m : MachineData) (live : IsLive m.code) (within : task < length cell.tasks)
    (as_code : AsksAsProgram CodeFits CodeAsks asks task m.code) (suits : SuitsTask CodeFits CodeAsks cell task m.code) (legal : IsLegal (with_inputs asks cell) cell history)
    (way : UnderWay StandsFor request_of m (part_of task history)) where
  its_course : IsCourse CodeAsks cell task m.code (part_of task history)
  its_course = own_course CodeAsks cell task m.code CodeFits asks within as_code suits.fit history legal

  -- it asks nothing more once it has ended
  none_asked : {X : Type 0} (mine : List Event) (request : Request) → IsTrue (may_ask cell task mine request) → has_ended mine ≡ true → X
  none_asked {X} mine request may ended = by (who_may cell task mine request may)
    where
      by : TaskMay cell task mine request ⊎ ScriptMay cell task mine request → X
      by (inl known) = absurd (false≢true (sym known.alive ∙ ended))
      by (inr script) = let is = script.script in absurd (omega (arith, within, is))

  -- it had not ended before the last event
  going_before : (front : List Event) (last : Event) → part_of task history ≡ front ++ last ∷ [] → has_ended front ≡ false
  going_before front last cut = by (has_ended front) refl
    where
      may : IsTrue (may_ask cell task front last.request)
      may =
          suits.may front last.request (course_before CodeAsks cell task m.code (part_of task history) front (last ∷ []) cut its_course)
          ((its_course.at front [] last cut).asked)

      by : (b : _) → has_ended front ≡ b → has_ended front ≡ false
      by false is = is
      by true is = none_asked front last.request may is

  ended_state : has_ended (part_of task history) ≡ true → IsReachedBy m.code (answers_of task history) (standing None m.data')
  ended_state ended =
      let cut = last_of (part_of task history) ended in
      let going : has_ended cut.front ≡ false = going_before cut.front cut.last cut.cut in
      let is_end : is_some (fate_of cut.last.request) ≡ true = sym (ended_more cut.front cut.last going) ∙ ap has_ended (sym cut.cut) ∙ ended in
      let before : answers_before_end (part_of task history) ≡ answers_in cut.front =
      ap answers_before_end cut.cut ∙ before_last cut.front cut.last is_end going ∙ before_end_all cut.front going in
      let all : answers_of task history ≡ answers_in cut.front ++ cut.last.answer ∷ [] = ap answers_in cut.cut ∙ answers_in-more cut.front cut.last in
      subst (λ (xs : List Answer). IsReachedBy m.code xs (standing None m.data')) (sym all)
      (ended_there m (answers_in cut.front) cut.last.answer live (subst (λ (xs : List Answer). StandsFor m xs) before way.stands) way.asked
      (subst (λ (xs : List Answer). CodeFits m.code xs) all (suits.fit (part_of task history) its_course))
      (λ k request e asked.
      none_asked (part_of task history) request
      (suits.may (part_of task history) request its_course (asks_by m.code (answers_of task history) k request e (subst (λ (xs : List Answer). code_after m.code k xs ≡ Asking request e) (sym all) asked))) ended))

  next_state : (next : Option Request) → IsDueNext m (part_of task history) next → IsReachedBy m.code (answers_of task history) (standing next m.data')
  next_state None ended = ended_state ended
  next_state (Some request) is = asks_there m (answers_of task history) request (stood StandsFor request_of m (part_of task history) way is.0) is.1

  pub task_reached : (place : Option At) (next : Option Request) (values : List Datum) → place ≡ m.data'.place → values ≡ m.data'.slots → IsDueNext m (part_of task history) next
      → IsReachedBy m.code (answers_of task history) (record { place = place; next = next; values = values })
  task_reached place next values at is due =
      subst (λ (p : Option At). IsReachedBy m.code (answers_of task history) (record { place = p; next = next; values = values })) (sym at)
      (subst (λ (v : List Datum). IsReachedBy m.code (answers_of task history) (record { place = m.data'.place; next = next; values = v })) (sym is) (next_state next due))

-- an element of a list with one more
pushed_at : {A : Type 0} (xs : List A) (x y : A) (k : ℕ) → slice_get (xs ++ x ∷ []) k ≡ Some y → (slice_get xs k ≡ Some y) ⊎ ((k ≡ length xs) × (x ≡ y))
pushed_at [] x y zero there = let same : x ≡ y = cc in inr (refl, same)
pushed_at [] x y (suc k) there = cc
pushed_at (z ∷ zs) x y zero there = inl there
pushed_at (z ∷ zs) x y (suc k) there = elim (pushed_at zs x y k there) [
  | inl before ↦ inl before
  | inr last ↦ inr (ap suc last.0, last.1)
]

-- the first tasks are in these states
pub record AmidTasks (machines : List MachineData) (history : List Event) (states : List TaskStateData) (k : ℕ) : Type 0 where
  pub count : length states ≡ k
  pub each : (task : ℕ) (code : CodeData) (here : TaskStateData) → slice_get (map (λ (m : MachineData). m.code) machines) task ≡ Some code → slice_get states task ≡ Some here
      → IsReachedBy code (answers_of task history) here

pub no_tasks : (machines : List MachineData) (history : List Event) → AmidTasks machines history [] 0
no_tasks machines history = record { count = refl; each = λ task code here there at. cc }

pub one_more_task : (machines : List MachineData) (history : List Event) (states : List TaskStateData) (k : ℕ) (m : MachineData) (state : TaskStateData) → slice_get machines k ≡ Some m
    → IsReachedBy m.code (answers_of k history) state → AmidTasks machines history states k → AmidTasks machines history (states ++ state ∷ []) (k + 1)
one_more_task machines history states k m state there reached_it amid = record { count = length-append states (state ∷ []) ∙ ap (λ (n : ℕ). n + 1) amid.count; each = each }
  where
    its_code : (code : CodeData) → slice_get (map (λ (x : MachineData). x.code) machines) k ≡ Some code → m.code ≡ code
    its_code code at = let same : Some m.code ≡ Some code = sym (map_at (λ (x : MachineData). x.code) machines k m there) ∙ at in cc

    each : (task : ℕ) (code : CodeData) (here : TaskStateData) → slice_get (map (λ (x : MachineData). x.code) machines) task ≡ Some code → slice_get (states ++ state ∷ []) task ≡ Some here
        → IsReachedBy code (answers_of task history) here
    each task code here at found = elim (pushed_at states state here task found) [
      | inl before ↦ amid.each task code here at before
      | inr last ↦ (
          let same : task ≡ k = last.0 ∙ amid.count in
          let code_is : m.code ≡ code = its_code code (subst (λ (n : ℕ). slice_get (map (λ (x : MachineData). x.code) machines) n ≡ Some code) same at) in
          subst (λ (n : ℕ). IsReachedBy code (answers_of n history) here) (sym same)
          (subst (λ (c : CodeData). IsReachedBy c (answers_of k history) here) code_is (subst (λ (s : TaskStateData). IsReachedBy m.code (answers_of k history) s) last.1 reached_it)))
    ]
