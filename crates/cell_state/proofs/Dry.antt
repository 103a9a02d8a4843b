-- Without an answer code never ends: it asks before.
use Rattle.std.proofs.Common.{◌≡◌, refl, sym, subst, ℕ, zero, suc, nat_le, Bool, true, false, List, [], ◌∷◌, length, if◌then◌else◌}
use Rattle.std.specs.Prelude.{⊤}
use Rattle.rapid_model.specs.Fits.{Fitting, fits_request}
use Rattle.rapid_model.specs.declared.answer.Answer.{Answer}
use Rattle.rapid_model.specs.declared.request.Request.{Request}
use Rattle.rapid_meaning.specs.Answering.{Outcome, Gave, Raised, Asking, Ended, Misfits, Unfit, NoFuel, joined, performed}
use Rattle.rapid_meaning.specs.Data.{Data}
use Rattle.rapid_meaning.specs.Doings.{Doing, Gives, Raises, Asks, Ends, Misfit, Reads, Writes, Does}
use Rattle.stack_code.specs.CodeData.{CodeData}
use Rattle.stack_code.specs.CodeRuns.{exec, fitting_by, goes, no_part}
use Rattle.stack_code.specs.Confs.{Conf}
use Rattle.stack_code.specs.Steps.{step}

-- no answer is left, and it has not ended
abbrev pub Dry : {A : Type 0} → Outcome A → Type 0
Dry (Gave v d left) = left ≡ []
Dry (Raised n d left) = left ≡ []
Dry (Ended d) = ⊥
Dry _ = ⊤

dry_joined : {A B : Type 0} (o : Outcome A) (f : A → Data → List Answer → Outcome B) (h : ℕ → Data → List Answer → Outcome B) → Dry o → ((v : A) (d : Data) → Dry (f v d []))
    → ((n : ℕ) (d : Data) → Dry (h n d [])) → Dry (joined o f h)
dry_joined (Gave v d left) f h dry df dh = subst (λ (rest : List Answer). Dry (f v d rest)) (sym dry) (df v d)
dry_joined (Raised n d left) f h dry df dh = subst (λ (rest : List Answer). Dry (h n d rest)) (sym dry) (dh n d)
dry_joined (Asking request d) f h dry df dh = tt
dry_joined (Ended d) f h dry df dh = absurd dry
dry_joined Misfits f h dry df dh = tt
dry_joined Unfit f h dry df dh = tt
dry_joined NoFuel f h dry df dh = tt

dry_performed : {A : Type 0} (by : Bool → Fitting) (m : Doing A) (d : Data) → Dry (performed by no_part m d [])
unfolding performed
dry_performed by (Gives v) d = refl
dry_performed by (Raises n) d = refl
dry_performed by (Asks request k) d = tt
dry_performed by (Ends fate) d = tt
dry_performed by Misfit d = tt
dry_performed by (Reads k) d = dry_performed by (k d) d
dry_performed by (Writes e m) d = dry_performed by m e
dry_performed by (Does p k h) d = tt

dry_when : (b : Bool) (o : Outcome ⊤) → Dry o → Dry (if b then o else Misfits)
dry_when true o dry = dry
dry_when false o dry = tt

dry_exec : (code : CodeData) (k : ℕ) (c : Conf) (d : Data) → Dry (exec (fitting_by code) code k c d [])
unfolding exec
dry_exec code zero c d = tt
dry_exec code (suc k) c d =
    dry_when (nat_le (length c.stack) code.deepest)
    (joined (performed (fitting_by code) no_part (step code c) d []) (λ next e left. exec (fitting_by code) code k next e left) (λ n e left. Misfits))
    (dry_joined (performed (fitting_by code) no_part (step code c) d []) (λ next e left. exec (fitting_by code) code k next e left) (λ n e left. Misfits)
    (dry_performed (fitting_by code) (step code c) d) (λ next e. dry_exec code k next e) (λ n e. tt))

dry_goes : (code : CodeData) (k : ℕ) (m : Doing Conf) (d : Data) → Dry (goes (fitting_by code) code k m d [])
dry_goes code k m d =
    dry_joined (performed (fitting_by code) no_part m d []) (λ next e left. exec (fitting_by code) code k next e left) (λ n e left. Misfits) (dry_performed (fitting_by code) m d)
    (λ next e. dry_exec code k next e) (λ n e. tt)

-- nor with one answer to what it asks
pub dry_asked : (code : CodeData) (k : ℕ) (request : Request) (on : Answer → Doing Conf) (d : Data) (a : Answer) → Dry (goes (fitting_by code) code k (Asks request on) d (a ∷ []))
unfolding performed
dry_asked code k request on d a = by (fits_request (fitting_by code d.trapped) request a)
  where
    by : (b : Bool) → Dry (joined (if b then performed (fitting_by code) no_part (on a) d [] else Unfit) (λ next e left. exec (fitting_by code) code k next e left) (λ n e left. Misfits))
    by true = dry_goes code k (on a) d
    by false = tt
