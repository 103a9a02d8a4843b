-- An answer that fits next fits the request that is due.
use Rattle.std.proofs.Common.{◌≡◌, refl, sym, ◌∙◌, subst, ℕ, List, [], ◌∷◌, ◌++◌}
use Rattle.std.specs.Prelude.{IsTrue, ⊤}
use Rattle.rapid_model.specs.Fits.{fits_request}
use Rattle.rapid_model.specs.declared.answer.Answer.{Answer}
use Rattle.rapid_model.specs.declared.request.Request.{Request}
use Rattle.rapid_meaning.specs.Answering.{Outcome, Asking}
use Rattle.rapid_meaning.specs.Data.{Data}
use Rattle.stack_code.specs.CodeData.{CodeData}
use Rattle.stack_code.specs.CodeRuns.{code_after, fitting_by}
use Rattle.stack_code.specs.Entering.{initial, started}
use Rattle.task_code.specs.Live.{CodeFits, CodeFitsNext}
use Rattle.code_laws.specs.Standing.{Fine}
use Rattle.code_laws.proofs.Operations.{goes_more}
use Rattle.task_code.specs.Asking.{AsksWith}
use Rattle.task_machine.specs.Programs.{same_outcome, same_request}

-- what it asks within some number of operations it asks within any greater one
once : (code : CodeData) (answers : List Answer) (k : ℕ) (request : Request) (d : Data) → code_after code k answers ≡ Asking request d → AsksWith code answers request d
once code answers k request d asked = record {
  operations = k;
  asked = λ more. goes_more (fitting_by code) code k more (started code) (initial code) answers (subst (λ (o : Outcome ⊤). Fine o) (sym asked) tt) ∙ asked;
}

same_standing : (code : CodeData) (answers : List Answer) (request other : Request) (d e : Data) → AsksWith code answers request d → AsksWith code answers other e → e ≡ d
same_standing code answers request other d e one two = let same : ◌≡◌ {A = Outcome ⊤} (Asking request d) (Asking other e) = same_outcome code answers request other d e one two in cc

-- the answer that fits next fits the request that is due
pub fits_due : (code : CodeData) (answers : List Answer) (a : Answer) (request : Request) (d : Data) → AsksWith code answers request d → CodeFits code (answers ++ a ∷ [])
    → IsTrue (fits_request (fitting_by code d.trapped) request a)
fits_due code answers a request d due fits =
    let next : CodeFitsNext code answers a = fits.at answers [] a refl in
    let asked : AsksWith code answers next.request next.standing = once code answers next.operations next.request next.standing next.asked in
    subst (λ (r : Request). IsTrue (fits_request (fitting_by code d.trapped) r a)) (same_request code answers request next.request d next.standing due asked)
    (subst (λ (e : Data). IsTrue (fits_request (fitting_by code e.trapped) next.request a)) (same_standing code answers request next.request d next.standing due asked) next.fits)
