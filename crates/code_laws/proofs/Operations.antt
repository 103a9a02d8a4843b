-- More operations than it takes do not change the outcome of code.
use Rattle.std.proofs.Common.{◌≡◌, refl, ap, ◌∙◌, ℕ, zero, suc, ◌+◌, nat_le, Bool, true, false, List, length, if◌then◌else◌, arith}
use Rattle.std.specs.Prelude.{⊤}
use Rattle.rapid_model.specs.Fits.{Fitting}
use Rattle.rapid_model.specs.declared.answer.Answer.{Answer}
use Rattle.rapid_meaning.specs.Answering.{Outcome, Gave, Raised, Asking, Ended, Misfits, Unfit, NoFuel, joined, performed}
use Rattle.rapid_meaning.specs.Data.{Data}
use Rattle.rapid_meaning.specs.Doings.{Doing}
use Rattle.stack_code.specs.CodeData.{CodeData}
use Rattle.stack_code.specs.CodeRuns.{exec, goes, no_part}
use Rattle.stack_code.specs.Confs.{Conf}
use Rattle.stack_code.specs.Steps.{step}
use Rattle.code_laws.specs.Standing.{Fine}

joined_more : {A : Type 0} (o : Outcome A) (f g : A → Data → List Answer → Outcome ⊤) (h : ℕ → Data → List Answer → Outcome ⊤)
    → ((v : A) (d : Data) (left : List Answer) → Fine (f v d left) → g v d left ≡ f v d left) → Fine (joined o f h) → joined o g h ≡ joined o f h
joined_more (Gave v d left) f g h more fine = more v d left fine
joined_more (Raised n d left) f g h more fine = refl
joined_more (Asking request d) f g h more fine = refl
joined_more (Ended d) f g h more fine = refl
joined_more Misfits f g h more fine = refl
joined_more Unfit f g h more fine = refl
joined_more NoFuel f g h more fine = refl

within_more : (b : Bool) (o p : Outcome ⊤) → (Fine o → p ≡ o) → Fine (if b then o else Misfits) → (if b then p else Misfits) ≡ (if b then o else Misfits)
within_more true o p more fine = more fine
within_more false o p more fine = refl

exec_more : (by : Bool → Fitting) (code : CodeData) (k more : ℕ) (c : Conf) (d : Data) (left : List Answer) → Fine (exec by code k c d left)
    → exec by code (k + more) c d left ≡ exec by code k c d left
unfolding exec
exec_more by code zero more c d left fine = absurd fine
exec_more by code (suc k) more c d left fine =
    let moved : suc k + more ≡ suc (k + more) = omega arith in
    ap (λ (n : ℕ). exec by code n c d left) moved
    ∙ within_more (nat_le (length c.stack) code.deepest)
    (joined (performed by no_part (step code c) d left) (λ next e rest. exec by code k next e rest) (λ n e rest. Misfits))
    (joined (performed by no_part (step code c) d left) (λ next e rest. exec by code (k + more) next e rest) (λ n e rest. Misfits))
    (λ good. joined_more (performed by no_part (step code c) d left) (λ next e rest. exec by code k next e rest) (λ next e rest. exec by code (k + more) next e rest) (λ n e rest. Misfits)
    (λ next e rest well. exec_more by code k more next e rest well) good)
    fine

pub goes_more : (by : Bool → Fitting) (code : CodeData) (k more : ℕ) (m : Doing Conf) (d : Data) (left : List Answer) → Fine (goes by code k m d left)
    → goes by code (k + more) m d left ≡ goes by code k m d left
goes_more by code k more m d left fine =
    joined_more (performed by no_part m d left) (λ next e rest. exec by code k next e rest) (λ next e rest. exec by code (k + more) next e rest) (λ n e rest. Misfits)
    (λ next e rest well. exec_more by code k more next e rest well) fine
