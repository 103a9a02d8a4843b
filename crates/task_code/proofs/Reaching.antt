-- The points that code reaches: its start, then on by operations and by answers.
use Rattle.std.proofs.Common.{◌≡◌, refl, sym, ap, ◌∙◌, ℕ, suc, ◌+◌, nat_le, Bool, true, false, List, [], ◌∷◌, ◌++◌, length, if◌then◌else◌, IsTrue, append_assoc, arith}
use Rattle.std.proofs.lemmas.List.{append-nil}
use Rattle.rapid_model.specs.Fits.{fits_request}
use Rattle.rapid_model.specs.declared.answer.Answer.{Answer}
use Rattle.rapid_model.specs.declared.fate.Fate.{Fate}
use Rattle.rapid_model.specs.declared.request.Request.{Request}
use Rattle.rapid_model.specs.declared.request.Request.TheVariants.{End}
use Rattle.rapid_meaning.specs.Answering.{Outcome, Asking, Misfits, Unfit, joined, performed}
use Rattle.rapid_meaning.specs.Data.{Data}
use Rattle.rapid_meaning.specs.Doings.{Doing, Gives, Asks, Ends}
use Rattle.stack_code.specs.CodeData.{CodeData}
use Rattle.stack_code.specs.CodeRuns.{code_after, exec, fitting_by, goes, no_part}
use Rattle.stack_code.specs.Confs.{Conf}
use Rattle.stack_code.specs.Entering.{initial, started}
use Rattle.stack_code.specs.Steps.{step}
use Rattle.task_code.specs.Reached.{Reached}

pub begins : (code : CodeData) → Reached code (started code) (initial code) []
begins code = (0, λ more left. let none : 0 + more ≡ more = omega arith in ap (λ (k : ℕ). code_after code k left) none)

when_so : {A : Type 0} (b : Bool) (x y : A) → b ≡ true → (if b then x else y) ≡ x
when_so true x y is = refl
when_so false x y is = cc

-- an operation with room for its operands
step_done : (code : CodeData) (more : ℕ) (c : Conf) (d : Data) (left : List Answer) → IsTrue (nat_le (length c.stack) code.deepest)
    → goes (fitting_by code) code (suc more) (Gives c) d left ≡ goes (fitting_by code) code more (step code c) d left
unfolding exec performed
step_done code more c d left room = when_so (nat_le (length c.stack) code.deepest) (goes (fitting_by code) code more (step code c) d left) Misfits room

pub steps : (code : CodeData) (c : Conf) (d : Data) (answers : List Answer) → Reached code (Gives c) d answers → IsTrue (nat_le (length c.stack) code.deepest)
    → Reached code (step code c) d answers
steps code c d answers here room = (
  here.0 + 1,
  λ more left.
      let moved : here.0 + 1 + more ≡ here.0 + suc more = omega arith in
      ap (λ (k : ℕ). code_after code k (answers ++ left)) moved ∙ (here.1 (suc more) left ∙ step_done code more c d left room),
)

-- an answer that fits what is asked
answer_taken : (code : CodeData) (more : ℕ) (r : Request) (f : Answer → Doing Conf) (d : Data) (a : Answer) (left : List Answer) → IsTrue (fits_request (fitting_by code d.trapped) r a)
    → goes (fitting_by code) code more (Asks r f) d (a ∷ left) ≡ goes (fitting_by code) code more (f a) d left
unfolding performed
answer_taken code more r f d a left fits =
    ap (λ (o : Outcome Conf). joined o (λ next e rest. exec (fitting_by code) code more next e rest) (λ n e rest. Misfits))
    (when_so (fits_request (fitting_by code d.trapped) r a) (performed (fitting_by code) no_part (f a) d left) Unfit fits)

pub answers_on : (code : CodeData) (r : Request) (f : Answer → Doing Conf) (d : Data) (answers : List Answer) (a : Answer) → Reached code (Asks r f) d answers
    → IsTrue (fits_request (fitting_by code d.trapped) r a) → Reached code (f a) d (answers ++ a ∷ [])
answers_on code r f d answers a here fits = (
  here.0,
  λ more left.
      ap (λ (az : List Answer). code_after code (here.0 + more) az) (append_assoc answers (a ∷ []) left)
      ∙ (here.1 more (a ∷ left) ∙ answer_taken code more r f d a left fits),
)

-- the state of code when no answer is left
pub stands_at : (code : CodeData) (m : Doing Conf) (d : Data) (answers : List Answer) (here : Reached code m d answers) (more : ℕ)
    → code_after code (here.0 + more) answers ≡ goes (fitting_by code) code more m d []
stands_at code m d answers here more = ap (λ (az : List Answer). code_after code (here.0 + more) az) (sym (append-nil answers)) ∙ here.1 more []

-- it asks within some number of operations, and within any larger number
pub asks_by : (code : CodeData) (r : Request) (f : Answer → Doing Conf) (d : Data) (answers : List Answer) → Reached code (Asks r f) d answers
    → (k : ℕ) × ((more : ℕ) → code_after code (k + more) answers ≡ Asking r d)
unfolding performed
asks_by code r f d answers here = (here.0, λ more. stands_at code (Asks r f) d answers here more)

pub ends_by : (code : CodeData) (fate : Fate) (d : Data) (answers : List Answer) → Reached code (Ends fate) d answers
    → (k : ℕ) × ((more : ℕ) → code_after code (k + more) answers ≡ Asking (End fate) d)
unfolding performed
ends_by code fate d answers here = (here.0, λ more. stands_at code (Ends fate) d answers here more)

pub asks_it : (code : CodeData) (r : Request) (f : Answer → Doing Conf) (d : Data) (answers : List Answer) → Reached code (Asks r f) d answers
    → (k : ℕ) × (code_after code k answers ≡ Asking r d)
asks_it code r f d answers here = let it = asks_by code r f d answers here in (it.0 + 0, it.1 0)
