-- Courses: how they grow, and why a task's own events in a legal history are one.
use Rattle.std.proofs.Common.{◌≡◌, inl, inr, ℕ, ◌<◌, List, [], ◌∷◌, ◌++◌, length, subst, arith}
use Rattle.std.specs.Prelude.{◌==◌, IsTrue}
use Rattle.std.proofs.lemmas.Bool.{eqb-true}
use Rattle.rapid_model.specs.CellData.{CellData}
use Rattle.rapid_model.specs.Fits.{fits_request, fitting_in}
use Rattle.rapid_model.specs.Own.{part_of, answers_of}
use Rattle.rapid_model.specs.declared.answer.Answer.{Answer}
use Rattle.rapid_model.specs.declared.event.Event.{Event}
use Rattle.rapid_model.specs.declared.request.Request.{Request}
use Rattle.rapid_model.proofs.Cuts.{cut_before, cut_more, cut_none}
use Rattle.rapid_model.proofs.Lists.{there_is}
use Rattle.cell_meaning.specs.Asking.{Asking, with_inputs}
use Rattle.cell_meaning.specs.Histories.{IsLegal}
use Rattle.cell_meaning.specs.MayAsk.{may_ask}
use Rattle.cell_meaning.specs.Premises.{AsksWhatItMay}
use Rattle.cell_meaning.proofs.FilterCuts.{IsCutBy, cut_by}
use Rattle.cell_meaning.proofs.InputScript.{may_with_inputs}
use Rattle.cell_meaning.proofs.Lists.{from_front}
use Rattle.cell_crew.specs.Courses.{IsCourse, IsStep, SuitTasks, answers_in}
use Rattle.cell_crew.specs.Crew.{AskAsPrograms, AsksAsProgram}

-- what a task asks beside the input script, it asks itself
of_task : (asks : Asking) (cell : CellData) (actor task : ℕ) (answers : List Answer) (request : Request) → task < length cell.tasks → actor ≡ task → with_inputs asks cell actor answers request
    → asks actor answers request
of_task asks cell actor task answers request within same (inl it) = it.asked
of_task asks cell actor task answers request within same (inr script) = let is = script.script in absurd (omega (arith, within, same, is))

module _ {P : Type 0} (program_asks : P → List Answer → Request → Type 0) (cell : CellData) (task : ℕ) (program : P) where
  pub course_none : IsCourse program_asks cell task program []
  course_none = record { at = cut_none (λ before e. IsStep program_asks cell task program before e) }

  pub course_more : (mine : List Event) (e : Event) → IsCourse program_asks cell task program mine → IsStep program_asks cell task program mine e → IsCourse program_asks cell task program (mine ++ e ∷ [])
  course_more mine e course step = record { at = cut_more (λ before x. IsStep program_asks cell task program before x) mine e course.at step }

  -- the first events of a course are a course
  pub course_before : (mine first left : List Event) → mine ≡ first ++ left → IsCourse program_asks cell task program mine → IsCourse program_asks cell task program first
  course_before mine first left cut course = record { at = cut_before (λ before e. IsStep program_asks cell task program before e) mine first left cut course.at }

  -- A task that asks as its program does, if the answers of each course fit the program, in a legal history.
  module _ (fits : P → List Answer → Type 0) (asks : Asking) (within : task < length cell.tasks) (same : AsksAsProgram fits program_asks asks task program)
      (fit : (mine : List Event) → IsCourse program_asks cell task program mine → fits program (answers_in mine)) (history : List Event) (legal : IsLegal (with_inputs asks cell) cell history) where
    -- its next event after a course
    its_step : (before : List Event) (e : Event) → IsCutBy (λ (f : Event). f.actor == task) history before e → IsCourse program_asks cell task program before → IsStep program_asks cell task program before e
    its_step before e c course = record { own = own; asked = asked; fits = fitting }
      where
        own : e.actor ≡ task
        own = eqb-true e.actor task c.passes

        asks_it : asks e.actor (answers_of e.actor c.front) e.request
        asks_it = of_task asks cell e.actor task (answers_of e.actor c.front) e.request within own (legal.at c.front c.back e c.cut).asked

        asked : program_asks program (answers_in before) e.request
        asked =
            (same.same (answers_in before) e.request (fit before course)).0
            (subst (λ (mine : List Event). asks task (answers_in mine) e.request) c.kept (subst (λ (actor : ℕ). asks actor (answers_of actor c.front) e.request) own asks_it))

        fitting : IsTrue (fits_request (fitting_in cell task before) e.request e.answer)
        fitting =
            subst (λ (mine : List Event). IsTrue (fits_request (fitting_in cell task mine) e.request e.answer)) c.kept
            (subst (λ (actor : ℕ). IsTrue (fits_request (fitting_in cell actor (part_of actor c.front)) e.request e.answer)) own (legal.fits c.front c.back e c.cut))

    -- its own events are a course
    pub own_course : IsCourse program_asks cell task program (part_of task history)
    own_course =
        from_front (λ (es : List Event). IsCourse program_asks cell task program es) (part_of task history) course_none
        (λ before after e cut course. course_more before e course (its_step before e (cut_by (λ (f : Event). f.actor == task) history before after e cut) course))

    -- so the answers that it got fit its program
    pub own_fit : fits program (answers_of task history)
    own_fit = fit (part_of task history) own_course

-- tasks that ask as their programs, which suit them, ask what they may, and so does the input script
pub crew_asks_what_it_may : {P : Type 0} (fits : P → List Answer → Type 0) (program_asks : P → List Answer → Request → Type 0) (asks : Asking) (cell : CellData) (programs : List P)
    → length programs ≡ length cell.tasks → AskAsPrograms fits program_asks asks programs → SuitTasks fits program_asks cell programs → AsksWhatItMay (with_inputs asks cell) cell
crew_asks_what_it_may fits program_asks asks cell programs one_each ask suit = may_with_inputs asks cell tasks_may
  where
    tasks_may : (history : List Event) (task : ℕ) (request : Request) → task < length cell.tasks → IsLegal (with_inputs asks cell) cell history → asks task (answers_of task history) request
        → IsTrue (may_ask cell task (part_of task history) request)
    tasks_may history task request within legal asked =
        let of = there_is programs task (omega (arith, one_each, within)) in
        let same = ask.each task of.0 of.1 in
        let suits = suit.each task of.0 of.1 in
        let course = own_course program_asks cell task of.0 fits asks within same suits.fit history legal in
        suits.may (part_of task history) request course ((same.same (answers_of task history) request (suits.fit (part_of task history) course)).0 asked)
