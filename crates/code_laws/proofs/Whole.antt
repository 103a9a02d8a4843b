-- Each part of a program, nested to a given depth, and the whole task.
use Rattle.std.proofs.Common.{◌≡◌, refl, sym, ap, ◌∙◌, subst, ℕ, zero, suc, Bool, List, [], ◌∷◌, length}
use Rattle.std.specs.Prelude.{All, ⊤}
use Rattle.rapid_model.specs.CellData.{CellData}
use Rattle.rapid_model.specs.Fits.{Fitting}
use Rattle.rapid_model.specs.declared.answer.Answer.{Answer}
use Rattle.rapid_model.specs.declared.fate.Fate.TheVariants as fates
use Rattle.rapid_model.specs.declared.fate.Fault.TheVariants.{Unhandled}
use Rattle.typed_trees.specs.Plain.{TypedTree}
use Rattle.rapid_meaning.specs.Answering.{Outcome, Gave, Raised, Asking, Ended, Misfits, Unfit, NoFuel, Run, joined, performed, ending}
use Rattle.rapid_meaning.specs.Data.{Data}
use Rattle.rapid_meaning.specs.Doings.{Misfit}
use Rattle.rapid_meaning.specs.Flows.{Flow, Call, value_of}
use Rattle.rapid_meaning.specs.Frames as meanings
use Rattle.rapid_meaning.specs.Runs.{FitsSteps, asked_after, deep, next_of, state_after, task}
use Rattle.rapid_meaning.proofs.Composing.{ending_joined}
use Rattle.rapid_meaning.proofs.Kept.{deep_kept}
use Rattle.tree_typing.specs.Goes.{Goes}
use Rattle.tree_typing.specs.Numbered.{Numbered}
use Rattle.tree_typing.specs.WellTyped.{WellTyped}
use Rattle.tree_typing.proofs.Whole as typings
use Rattle.stack_code.specs.CodeRuns.{code_after, fitting_by}
use Rattle.stack_code.specs.Compiled.{compiled}
use Rattle.stack_code.specs.Confs.{Started}
use Rattle.stack_code.specs.Entering.{enter, initial, started}
use Rattle.stack_code.specs.Raising.{back_to, raised_to}
use Rattle.code_laws.specs.Orderly.{IsOrderly, NumbersLabels}
use Rattle.code_laws.specs.Standing.{Fine, Simulates, StandsBy}
use Rattle.code_laws.proofs.Claims.{Claims}
use Rattle.code_laws.proofs.CodeOf.{IsCodeOf}
use Rattle.code_laws.proofs.Compiles.{compiled_is, target_of}
use Rattle.code_laws.proofs.Legs.{leg_sim}
use Rattle.code_laws.proofs.Lists.{rest_sim}
use Rattle.code_laws.proofs.Procedures.{procedure_called}
use Rattle.code_laws.proofs.Operations.{goes_more}
use Rattle.code_laws.proofs.Routines.{called_sim}
use Rattle.code_laws.proofs.Sim.{Sim, Target, followed, goes_on, part_deep, part_zero, sim_does, sim_ends}
use Rattle.code_laws.proofs.Statements.{stmt_sim}
use Rattle.code_laws.proofs.Turns.{turn_sim}
use Rattle.code_laws.proofs.WellTyped.{orderly}

pub claims : (tree : TypedTree) (t : Target) → IsCodeOf tree t → (n : ℕ) → Claims t tree (deep tree n)
claims tree t code zero = record {
  kept = deep_kept tree 0;
  calls = λ routine args saved takes. part_zero tree;
  procedures = λ routine args saved takes kind. part_zero tree;
  attempts = λ b pc s stands at. part_zero tree;
  turns = λ b pc at local first last step list stands place. part_zero tree;
  legs = λ b pc own s way at. part_zero tree;
  rests = λ b pc more_pc end whole more stands at from. part_zero tree;
}
claims tree t code (suc n) = record {
  kept = deep_kept tree (suc n);
  calls = λ routine args saved takes. part_deep tree n code.fits (called_sim t tree (deep tree n) code (claims tree t code n) routine args saved takes);
  procedures = λ routine args saved takes kind.
      part_deep tree n code.fits (procedure_called t tree (deep tree n) code (claims tree t code n) routine args saved takes kind);
  attempts = λ b pc s stands at. part_deep tree n code.fits (stmt_sim t tree (deep tree n) code (claims tree t code n) b pc s stands at);
  turns = λ b pc at local first last step list stands place.
      part_deep tree n code.fits (turn_sim t tree (deep tree n) code (claims tree t code n) b pc at local first last step list stands place);
  legs = λ b pc own s way at. part_deep tree n code.fits (leg_sim t tree (deep tree n) code (claims tree t code n) b pc own s way at);
  rests = λ b pc more_pc end whole more stands at from.
      part_deep tree n code.fits (rest_sim t tree (deep tree n) code (claims tree t code n) b pc more_pc end whole more stands at from);
}

-- main is called once, and the task ends with it
task_sim : (tree : TypedTree) (t : Target) (run : Run) → IsCodeOf tree t → Claims t tree run → Sim t run (started t.code) (task tree) (λ _. Misfit) (λ n. Misfit)
unfolding raised_to
task_sim tree t run code claims =
    subst (λ (main : ℕ). Sim t run (enter t.code main [] (Started ∷ [])) (task tree) (λ _. Misfit) (λ n. Misfit)) (sym code.main)
    (sim_does (λ flow. back_to (Started ∷ []) (value_of flow)) (raised_to t.code (Started ∷ [])) (claims.calls tree.main [] (Started ∷ []) code.main_takes)
    (λ flow. sim_ends fates.Done) (λ n. sim_ends (fates.Fault (Unhandled n))))

-- so that nothing follows it
ends_followed : (t : Target) (k : ℕ) (o : Outcome Flow)
    → followed {A = ⊤} t k (λ _. Misfit) (λ n. Misfit) (joined o (λ flow e rest. ending t.by fates.Done e rest) (λ n e rest. ending t.by (fates.Fault (Unhandled n)) e rest))
    ≡ joined o (λ flow e rest. ending t.by fates.Done e rest) (λ n e rest. ending t.by (fates.Fault (Unhandled n)) e rest)
ends_followed t k (Gave flow d left) = sym (ending_joined t.by fates.Done d left (λ v e rest. goes_on t k Misfit e rest) (λ n e rest. goes_on t k Misfit e rest))
ends_followed t k (Raised n d left) = sym (ending_joined t.by (fates.Fault (Unhandled n)) d left (λ v e rest. goes_on t k Misfit e rest) (λ m e rest. goes_on t k Misfit e rest))
ends_followed t k (Asking request d) = refl
ends_followed t k (Ended d) = refl
ends_followed t k Misfits = refl
ends_followed t k Unfit = refl
ends_followed t k NoFuel = refl

task_followed : (tree : TypedTree) (t : Target) (run : Run) (k : ℕ) (d : Data) (answers : List Answer)
    → followed t k (λ _. Misfit) (λ n. Misfit) (performed t.by run (task tree) d answers) ≡ performed t.by run (task tree) d answers
unfolding performed
task_followed tree t run k d answers = ends_followed t k (run (Call tree.main []) d answers)

-- within some number of operations, and within any larger number
stands_by : (tree : TypedTree) (answers : List Answer) (k : ℕ) → Fine (state_after tree answers) → code_after (compiled tree) k answers ≡ state_after tree answers
    → StandsBy tree answers k
stands_by tree answers k fine same more =
    goes_more (fitting_by (compiled tree)) (compiled tree) k more (started (compiled tree)) (initial (compiled tree)) answers (subst (λ (o : Outcome ⊤). Fine o) (sym same) fine) ∙ same

pub simulates : (tree : TypedTree) → IsOrderly tree → Simulates tree
unfolding state_after
simulates tree orderly answers fine =
    let t : Target = target_of tree in
    let code : IsCodeOf tree t = compiled_is tree orderly in
    let run : Run = deep tree (suc (length answers)) in
    let sim : Sim t run (started t.code) (task tree) (λ _. Misfit) (λ n. Misfit) = task_sim tree t run code (claims tree t code (suc (length answers))) in
    let same : followed t 0 (λ _. Misfit) (λ n. Misfit) (performed t.by run (task tree) (meanings.initial tree) answers) ≡ state_after tree answers =
    task_followed tree t run 0 (meanings.initial tree) answers ∙ ap (λ (by : Bool → Fitting). performed by run (task tree) (meanings.initial tree) answers) code.fits in
    let come = sim.by (meanings.initial tree) answers 0 (subst (λ (o : Outcome ⊤). Fine o) (sym same) fine) in
    (come.0, stands_by tree answers come.0 fine (come.1 ∙ same))

-- a task that goes on is fine
goes_fine : (o : Outcome ⊤) → Goes (next_of o) → Fine o
goes_fine (Asking request d) goes = tt
goes_fine (Ended d) goes = tt
goes_fine o goes = absurd goes

pub typed_stands : (signals : ℕ) (cell : CellData) (number : ℕ) (tree : TypedTree) (answers : List Answer) → WellTyped signals tree → Numbered cell number tree
    → All NumbersLabels tree.routines → FitsSteps tree answers → (k : ℕ) × StandsBy tree answers k
unfolding asked_after
typed_stands signals cell number tree answers typed numbered labels fits =
    simulates tree (orderly signals tree typed labels) answers (goes_fine (state_after tree answers) (typings.goes signals cell number tree answers typed numbered fits))
