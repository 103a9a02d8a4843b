-- The state that code has reached, seen at its machine.
use Rattle.std.proofs.Common.{◌≡◌, refl, sym, ap, ◌∙◌, subst, ℕ, ◌+◌, Bool, true, false, List, [], ◌∷◌, ◌++◌, Some, None, if◌then◌else◌, arith}
use Rattle.std.specs.Prelude.{IsSome, ⊤}
use Rattle.std.proofs.lemmas.Bool.{false≢true}
use Rattle.rapid_model.specs.Fits.{fits_request}
use Rattle.rapid_model.specs.declared.answer.Answer.{Answer}
use Rattle.rapid_model.specs.declared.fate.Fate.{Fate}
use Rattle.rapid_model.specs.declared.request.Request.{Request}
use Rattle.rapid_model.specs.declared.request.Request.TheVariants.{End}
use Rattle.rapid_meaning.specs.Answering.{Outcome, Gave, Raised, Asking, Ended, Misfits, Unfit, NoFuel, joined, performed}
use Rattle.rapid_meaning.specs.Data.{Data}
use Rattle.rapid_meaning.specs.Doings.{Doing, Asks, Ends}
use Rattle.stack_code.specs.CodeData.{CodeData}
use Rattle.stack_code.specs.CodeRuns.{code_after, exec, fitting_by, goes}
use Rattle.stack_code.specs.Confs.{Conf}
use Rattle.stack_code.specs.Entering.{initial, started}
use Rattle.task_code.specs.Asking.{AsksWith, CodeAsks}
use Rattle.task_code.specs.Live.{CodeFits, IsLive, Stands}
use Rattle.task_code.specs.Reached.{Reached}
use Rattle.code_laws.specs.Standing.{Fine}
use Rattle.code_laws.proofs.Operations.{goes_more}
use Rattle.task_steps.specs.Doing.{answered, doing_of, here_of}
use Rattle.task_steps.specs.Phases.{Phase}
use Rattle.task_steps.specs.Phases as phases
use Rattle.task_steps.specs.Points.{Point}
use Rattle.task_steps.specs.Seen.{request_in}
use Rattle.task_machine.specs.MachineData.{MachineData, request_of}
use Rattle.task_machine.specs.Programs.{asks_with}
use Rattle.task_machine.specs.Standing.{StandsFor}
use Rattle.cell_state.specs.Codes.{IsReachedBy}
use Rattle.cell_state.specs.States.{standing, state_in}
use Rattle.cell_state.proofs.Dry.{Dry, dry_asked}

-- while a request is due, the code asks it with the machine's data
pub asks_there : (m : MachineData) (answers : List Answer) (request : Request) → StandsFor m answers → request_of m ≡ Some request → IsReachedBy m.code answers (standing (Some request) m.data')
asks_there m answers request stands due =
    let it : AsksWith m.code answers request m.data' = asks_with m answers request stands due in
    record { operations = it.operations; stands = λ more. ap (λ (o : Outcome ⊤). state_in o) (it.asked more) }

-- what code asks within some number of operations it asks
pub asks_by : (code : CodeData) (answers : List Answer) (k : ℕ) (request : Request) (d : Data) → code_after code k answers ≡ Asking request d → CodeAsks code answers request
asks_by code answers k request d asked = record {
  standing = d;
  by = record {
    operations = k;
    asked = λ more. goes_more (fitting_by code) code k more (started code) (initial code) answers (subst (λ (o : Outcome ⊤). Fine o) (sym asked) tt) ∙ asked;
  };
}

-- code that stands without asking has ended
not_dry : {X : Type 0} (o : Outcome ⊤) → Stands o → Dry o → ((request : Request) (d : Data) → o ≡ Asking request d → ⊥) → X
not_dry (Asking request d) stands dry never = absurd (never request d refl)
not_dry (Ended d) stands dry never = absurd dry
not_dry (Gave v d left) stands dry never = absurd stands
not_dry (Raised n d left) stands dry never = absurd stands
not_dry Misfits stands dry never = absurd stands
not_dry Unfit stands dry never = absurd stands
not_dry NoFuel stands dry never = absurd stands

-- the answer to an End that fits ends the task
ends_it : (code : CodeData) (k : ℕ) (fate : Fate) (d : Data) (a : Answer) → Stands (goes (fitting_by code) code k (Ends fate) d (a ∷ []))
    → (more : ℕ) → goes (fitting_by code) code more (Ends fate) d (a ∷ []) ≡ Ended d
unfolding performed
ends_it code k fate d a = by (fits_request (fitting_by code d.trapped) (End fate) a)
  where
    ending_by : Bool → ℕ → Outcome ⊤
    ending_by b n = let end : Outcome Conf = Ended d in joined (if b then end else Unfit) (λ next e left. exec (fitting_by code) code n next e left) (λ n e left. Misfits)

    by : (b : Bool) → Stands (ending_by b k) → (more : ℕ) → ending_by b more ≡ Ended d
    by true stands more = refl
    by false stands more = absurd stands

module _ (code : CodeData) (d : Data) (answers : List Answer) (a : Answer) (live : IsLive code) (fits : CodeFits code (answers ++ a ∷ []))
    (never : (k : ℕ) (request : Request) (e : Data) → code_after code k (answers ++ a ∷ []) ≡ Asking request e → ⊥) where
  -- with the answer it is here, and stands
  stands_here : (m : Doing Conf) → Reached code m d answers → (k : ℕ) × Stands (goes (fitting_by code) code k m d (a ∷ []))
  stands_here m here =
      let on : (k : ℕ) × ((more : ℕ) → Stands (code_after code (k + more) (answers ++ a ∷ []))) = live.goes_on (answers ++ a ∷ []) fits in
      let moved : on.0 + here.0 ≡ here.0 + on.0 = omega arith in
      let same : code_after code (on.0 + here.0) (answers ++ a ∷ []) ≡ goes (fitting_by code) code on.0 m d (a ∷ []) =
      ap (λ (k : ℕ). code_after code k (answers ++ a ∷ [])) moved ∙ here.1 on.0 (a ∷ []) in
      (on.0, subst (λ (o : Outcome ⊤). Stands o) same (on.1 here.0))

  never_asks : {X : Type 0} (request : Request) (on : Answer → Doing Conf) → Reached code (Asks request on) d answers → X
  never_asks request on here =
      let there = stands_here (Asks request on) here in
      not_dry (goes (fitting_by code) code there.0 (Asks request on) d (a ∷ [])) there.1 (dry_asked code there.0 request on d a)
      (λ other e is. never (here.0 + there.0) other e (here.1 there.0 (a ∷ []) ∙ is))

  ended_in : (phase : Phase) (c : Point) → Reached code (doing_of code phase c) d answers → IsSome (request_in phase) → IsReachedBy code (answers ++ a ∷ []) (standing None d)
  ended_in phases.New c here due = absurd (false≢true due)
  ended_in phases.Going c here due = absurd (false≢true due)
  ended_in (phases.Asking request pending) c here due = never_asks request (answered (here_of code c) pending) here
  ended_in (phases.Over fate) c here due =
      let on = stands_here (Ends fate) here in
      record { operations = here.0; stands = λ more. ap (λ (o : Outcome ⊤). state_in o) (here.1 more (a ∷ []) ∙ ends_it code on.0 fate d a on.1 more) }

-- once its End is answered, the task has ended with the machine's data
pub ended_there : (m : MachineData) (answers : List Answer) (a : Answer) → IsLive m.code → StandsFor m answers → IsSome (request_of m) → CodeFits m.code (answers ++ a ∷ [])
    → ((k : ℕ) (request : Request) (e : Data) → code_after m.code k (answers ++ a ∷ []) ≡ Asking request e → ⊥) → IsReachedBy m.code (answers ++ a ∷ []) (standing None m.data')
ended_there m answers a live stands due fits never = ended_in m.code m.data' answers a live fits never m.phase m.conf stands.1 due
