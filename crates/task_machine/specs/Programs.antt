-- The code of a machine asks one request: the one that is due.
use mathlib.Core.Path.{sym, ap, ◌∙◌, subst}
use Rattle.std.proofs.Math.Nat.{add_comm}
use Rattle.std.specs.Prelude.{◌≡◌, ◌↔◌, ℕ, ◌+◌, List, Option, Some, unwrap_or, IsSomeAnd, ⊤}
use Rattle.rapid_model.specs.declared.answer.Answer.{Answer}
use Rattle.rapid_model.specs.declared.request.Request.{Request}
use Rattle.rapid_model.specs.declared.request.Request.TheVariants.{End}
use Rattle.rapid_meaning.specs.Answering.{Outcome, Asking}
use Rattle.rapid_meaning.specs.Data.{Data}
use Rattle.stack_code.specs.CodeData.{CodeData}
use Rattle.stack_code.specs.CodeRuns.{code_after}
use Rattle.task_code.specs.Reached.{Reached}
use Rattle.task_code.proofs.Reaching.{asks_by, ends_by}
use Rattle.task_steps.specs.Doing.{answered, doing_of, here_of}
use Rattle.task_steps.specs.Points.{Point}
use Rattle.task_steps.specs.Seen.{request_in}
use Rattle.task_steps.specs.Phases.{Phase}
use Rattle.task_steps.specs.Phases as phases
use Rattle.task_code.specs.Asking.{AsksWith, CodeAsks}
use Rattle.task_machine.specs.MachineData.{MachineData, request_of}
use Rattle.task_machine.specs.Standing.{StandsFor}

-- the request that is asked, or else another one
abbrev asked_or : Request → Outcome ⊤ → Request
asked_or other (Asking request d) = request
asked_or other _ = other

pub same_outcome : (code : CodeData) (answers : List Answer) (request other : Request) (d e : Data) → AsksWith code answers request d → AsksWith code answers other e → ◌≡◌ {A = Outcome ⊤} (Asking request d) (Asking other e)
same_outcome code answers request other d e one two =
    sym (one.asked two.operations) ∙ (ap (λ (k : ℕ). code_after code k answers) (add_comm one.operations two.operations) ∙ two.asked one.operations)

pub same_request : (code : CodeData) (answers : List Answer) (request other : Request) (d e : Data) → AsksWith code answers request d → AsksWith code answers other e → other ≡ request
same_request code answers request other d e one two = sym (ap (λ (o : Outcome ⊤). asked_or request o) (same_outcome code answers request other d e one two))

-- code that asks a request asks no other
asks_just : (code : CodeData) (answers : List Answer) (request other : Request) (d : Data) → AsksWith code answers request d → CodeAsks code answers other ↔ (other ≡ request)
asks_just code answers request other d due =
    (λ asks. same_request code answers request other d asks.standing due asks.by, λ is. subst (λ (r : Request). CodeAsks code answers r) (sym is) (record { standing = d; by = due }))

asks_in : (code : CodeData) (phase : Phase) (c : Point) (d : Data) (answers : List Answer) (r : Request) → Reached code (doing_of code phase c) d answers → request_in phase ≡ Some r → AsksWith code answers r d
asks_in code phases.New c d answers r here due = absurd (subst (λ (o : Option Request). IsSomeAnd o (λ x. ⊤)) (sym due) tt)
asks_in code phases.Going c d answers r here due = absurd (subst (λ (o : Option Request). IsSomeAnd o (λ x. ⊤)) (sym due) tt)
asks_in code (phases.Asking request then) c d answers r here due =
    let it : (k : ℕ) × ((more : ℕ) → code_after code (k + more) answers ≡ Asking request d) = asks_by code request (answered (here_of code c) then) d answers here in
    subst (λ (x : Request). AsksWith code answers x d) (ap (λ (o : Option Request). unwrap_or o r) due) (record { operations = it.0; asked = it.1 })
asks_in code (phases.Over fate) c d answers r here due =
    let it : (k : ℕ) × ((more : ℕ) → code_after code (k + more) answers ≡ Asking (End fate) d) = ends_by code fate d answers here in
    subst (λ (x : Request). AsksWith code answers x d) (ap (λ (o : Option Request). unwrap_or o r) due) (record { operations = it.0; asked = it.1 })

-- what is due is what the code asks
pub asks_with : (m : MachineData) (answers : List Answer) (request : Request) → StandsFor m answers → request_of m ≡ Some request → AsksWith m.code answers request m.data'
asks_with m answers request stands due = asks_in m.code m.phase m.conf m.data' answers request stands.1 due

pub asks_due : (m : MachineData) (answers : List Answer) (request other : Request) → StandsFor m answers → request_of m ≡ Some request → CodeAsks m.code answers other ↔ (other ≡ request)
asks_due m answers request other stands due = asks_just m.code answers request other m.data' (asks_with m answers request stands due)
