-- A task that makes its next request, and the outcome.
use Rattle.std.proofs.Common.{◌≡◌, inl, inr, ℕ, Bool, true, false, List, [], ◌∷◌, ◌++◌, Option, Some, refl, sym, ◌∙◌, ap, subst, arith}
use Rattle.std.specs.Prelude.{◌↔◌, IsTrue, IsSome, is_some}
use Rattle.std.proofs.lemmas.Bool.{false≢true}
use Rattle.rapid_model.specs.CellData.{CellData}
use Rattle.rapid_model.specs.Fits.{fits_request, fitting_in}
use Rattle.rapid_model.specs.Own.{fate_of, has_ended, is_held, is_rise}
use Rattle.rapid_model.specs.Requests.{goes_with, suits_task}
use Rattle.rapid_model.specs.declared.answer.Answer.{Answer}
use Rattle.rapid_model.specs.declared.event.Event.{Event}
use Rattle.rapid_model.specs.declared.request.Request.{Request}
use Rattle.rapid_model.specs.declared.request.Request.TheVariants as requests
use Rattle.rapid_model.specs.declared.task_row.TaskRow.{TaskRow}
use Rattle.cell_meaning.specs.MayAsk.{may_ask}
use Rattle.cell_meaning.proofs.Asked.{TaskMay, who_may}
use Rattle.cell_core.specs.Serving.{event_of}
use Rattle.cell_gate.specs.Causes.{may_wait}
use Rattle.cell_gate.specs.Calls.{IsSameHolder, Looked, MayAsk, PassGained}
use Rattle.cell_gate.specs.GateData.{GateData}
use Rattle.cell_gate.specs.PassData.{PassData}
use Rattle.cell_crew.specs.Courses.{answers_in, IsCourse, SuitsTask}
use Rattle.cell_crew.specs.UnderWay.{UnderWay}
use Rattle.cell_crew.proofs.Amid.{answers_in-more, ended_more, stood, way_ended, way_on}
use Rattle.cell_crew.proofs.Courses.{course_more}
use Rattle.free_crew.specs.Amid.{GoesOnAs, HasCause, IsAmid, is_stopped}
use Rattle.free_crew.specs.declared.job.Job.{Job}
use Rattle.free_crew.specs.declared.standing.Standing.{Standing}
use Rattle.free_crew.specs.declared.standing.Standing.TheVariants as standings

-- a task asks no Input, and this is no Rise
plain_suits : (cell : CellData) (row : TaskRow) (mine : List Event) (request : Request) → suits_task cell row mine request ≡ true → is_rise request ≡ false → may_wait request ≡ false
plain_suits cell row mine requests.Rise suits other = absurd (false≢true (sym other))
plain_suits cell row mine (requests.Input index) suits other = absurd (false≢true suits)
plain_suits cell row mine _ suits other = refl

-- only a held task asks a Rise
rise_held : (held : Bool) → goes_with held true ≡ true → held ≡ true
rise_held true goes = refl
rise_held false goes = absurd (false≢true goes)

-- a task that has not stopped has not ended
pub not_ended : (due : Option Request) (cell : CellData) (pass : PassData) (s : Standing) → is_stopped s ≡ false → HasCause due cell pass s → has_ended pass.mine ≡ false
not_ended due cell pass standings.Going p cause = cause
not_ended due cell pass standings.Waiting p cause = cause.going
not_ended due cell pass standings.Ended p cause = absurd (false≢true (sym p))
not_ended due cell pass standings.Cut p cause = absurd (false≢true (sym p))
not_ended due cell pass standings.Stalled p cause = absurd (false≢true (sym p))

module _ {M P : Type 0} (program : M → P) (fits : P → List Answer → Type 0) (program_asks : P → List Answer → Request → Type 0) (stands_for : M → List Answer → Type 0) (due : M → Option Request) where
  -- a task that has not ended, and its next request
  pub record Asks (gate : GateData) (task : ℕ) (job : Job M) (request : Request) : Type 0 where
    pub asks_due : (x : M) (answers : List Answer) (r other : Request) → stands_for x answers → due x ≡ Some r → program_asks (program x) answers other ↔ (other ≡ r)
    pub amid : IsAmid program fits program_asks stands_for due gate task job
    pub going : has_ended job.pass.mine ≡ false
    pub is_due : due job.machine ≡ Some request

  pub asking : (gate : GateData) (task : ℕ) (job : Job M) (request : Request)
      → ((x : M) (answers : List Answer) (r other : Request) → stands_for x answers → due x ≡ Some r → program_asks (program x) answers other ↔ (other ≡ r))
      → IsAmid program fits program_asks stands_for due gate task job → is_stopped job.standing ≡ false → due job.machine ≡ Some request → Asks gate task job request
  asking gate task job request asks_due amid on is =
      record { asks_due = asks_due; amid = amid; going = not_ended (due job.machine) gate.cell job.pass job.standing on amid.cause; is_due = is }

  module _ (gate : GateData) (task : ℕ) (job : Job M) (request : Request) (a : Asks gate task job request) where
    asks_this : program_asks (program job.machine) (answers_in job.pass.mine) request
    asks_this = (a.asks_due job.machine (answers_in job.pass.mine) request request (stood stands_for due job.machine job.pass.mine a.amid.way a.going) a.is_due).1 refl

    may_this : IsTrue (may_ask gate.cell task job.pass.mine request)
    may_this = a.amid.suits.may job.pass.mine request a.amid.course asks_this

    pub may_pass : MayAsk job.pass request
    may_pass =
        subst (λ (g : GateData). IsTrue (may_ask g.cell job.pass.actor job.pass.mine request)) (sym a.amid.gate_is)
        (subst (λ (k : ℕ). IsTrue (may_ask gate.cell k job.pass.mine request)) (sym a.amid.actor_is) may_this)

    task_may : TaskMay gate.cell task job.pass.mine request
    task_may =
        elim (who_may gate.cell task job.pass.mine request may_this) [
          | inl t ↦ t
          | inr s ↦ (let is = s.script in let within = a.amid.within in absurd (omega (arith, is, within)))
        ]

    pub never_waits : is_rise request ≡ false → may_wait request ≡ false
    never_waits other = plain_suits gate.cell task_may.row job.pass.mine request task_may.suits other

    pub is_held_now : request ≡ requests.Rise → is_held job.pass.mine ≡ true
    is_held_now is = rise_held (is_held job.pass.mine) (subst (λ (r : Request). goes_with (is_held job.pass.mine) (is_rise r) ≡ true) is task_may.goes)

    -- it stays held
    pub waits : (pass : PassData) → IsSameHolder job.pass pass → Looked job.pass pass → request ≡ requests.Rise
        → GoesOnAs program fits program_asks stands_for due gate task job (record { machine = job.machine; pass = pass; standing = standings.Waiting })
    waits pass same looked rise = record {
      amid = record {
        gate_is = same.gate_is ∙ a.amid.gate_is;
        actor_is = same.actor_is ∙ a.amid.actor_is;
        within = a.amid.within;
        suits = a.amid.suits;
        course = subst (λ (es : List Event). IsCourse program_asks gate.cell task (program job.machine) es) (sym looked.mine) a.amid.course;
        way = subst (λ (es : List Event). UnderWay stands_for due job.machine es) (sym looked.mine) a.amid.way;
        cause = record {
          going = ap (λ (es : List Event). has_ended es) looked.mine ∙ a.going;
          held = ap (λ (es : List Event). is_held es) looked.mine ∙ is_held_now rise;
        };
      };
      program_is = refl;
    }

    module _ (pass : PassData) (before : List Event) (answer : Answer) (same : IsSameHolder job.pass pass) (grew : PassGained job.pass before request answer pass) where
      abbrev the_event : Event
      the_event = event_of job.pass.actor request answer

      its_fit : IsTrue (fits_request (fitting_in gate.cell task job.pass.mine) request answer)
      its_fit =
          subst (λ (n : ℕ). IsTrue (fits_request (fitting_in gate.cell n job.pass.mine) request answer)) a.amid.actor_is
          (subst (λ (g : GateData). IsTrue (fits_request (fitting_in g.cell job.pass.actor job.pass.mine) request answer)) a.amid.gate_is grew.fits)

      pub longer : IsCourse program_asks gate.cell task (program job.machine) pass.mine
      longer =
          subst (λ (es : List Event). IsCourse program_asks gate.cell task (program job.machine) es) (sym grew.mine)
          (course_more program_asks gate.cell task (program job.machine) job.pass.mine the_event a.amid.course (record { own = a.amid.actor_is; asked = asks_this; fits = its_fit }))

      pub fitting : (answers : List Answer) × stands_for job.machine answers × fits (program job.machine) (answers ++ answer ∷ [])
      fitting =
          let all : answers_in pass.mine ≡ answers_in job.pass.mine ++ answer ∷ [] = ap (λ (es : List Event). answers_in es) grew.mine ∙ answers_in-more job.pass.mine the_event in (
            answers_in job.pass.mine,
            stood stands_for due job.machine job.pass.mine a.amid.way a.going,
            subst (λ (xs : List Answer). fits (program job.machine) xs) all (a.amid.suits.fit pass.mine longer),
          )

      -- the task has ended
      pub ends : is_some (fate_of request) ≡ true → GoesOnAs program fits program_asks stands_for due gate task job (record { machine = job.machine; pass = pass; standing = standings.Ended })
      ends told = record {
        amid = record {
          gate_is = same.gate_is ∙ a.amid.gate_is;
          actor_is = same.actor_is ∙ a.amid.actor_is;
          within = a.amid.within;
          suits = a.amid.suits;
          course = longer;
          way = subst (λ (es : List Event). UnderWay stands_for due job.machine es) (sym grew.mine) (way_ended stands_for due job.machine job.pass.mine the_event told a.going a.amid.way);
          cause = ap (λ (es : List Event). has_ended es) grew.mine ∙ ended_more job.pass.mine the_event a.going ∙ told;
        };
        program_is = refl;
      }

      -- its machine has gone on
      pub moves : (later : M) → is_some (fate_of request) ≡ false → program later ≡ program job.machine → IsSome (due later)
          → ((answers : List Answer) → stands_for job.machine answers → stands_for later (answers ++ answer ∷ []))
          → GoesOnAs program fits program_asks stands_for due gate task job (record { machine = later; pass = pass; standing = standings.Going })
      moves later told runs asks on = record {
        amid = record {
          gate_is = same.gate_is ∙ a.amid.gate_is;
          actor_is = same.actor_is ∙ a.amid.actor_is;
          within = a.amid.within;
          suits = subst (λ (p : P). SuitsTask fits program_asks gate.cell task p) (sym runs) a.amid.suits;
          course = subst (λ (p : P). IsCourse program_asks gate.cell task p pass.mine) (sym runs) longer;
          way = subst (λ (es : List Event). UnderWay stands_for due later es) (sym grew.mine) (way_on stands_for due job.machine later job.pass.mine the_event told a.amid.way asks on);
          cause = ap (λ (es : List Event). has_ended es) grew.mine ∙ ended_more job.pass.mine the_event a.going ∙ told;
        };
        program_is = runs;
      }
