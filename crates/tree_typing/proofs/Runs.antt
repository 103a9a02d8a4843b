-- What holds of doings holds of their outcomes.
use Rattle.std.proofs.Common.{refl, ℕ, zero, suc, Bool, true, false, List, [], ◌∷◌, if◌then◌else◌, IsTrue}
use Rattle.std.specs.Prelude.{⊤}
use Rattle.rapid_model.specs.Fits.{Fitting, fits_request}
use Rattle.rapid_model.specs.declared.answer.Answer.{Answer}
use Rattle.rapid_model.specs.declared.fate.Fate.{Fate}
use Rattle.rapid_model.specs.declared.request.Request.TheVariants.{End}
use Rattle.rapid_meaning.specs.Answering.{Outcome, Gave, Raised, Asking, Ended, Misfits, Unfit, NoFuel, Run, joined, ending, fitting_of, performed}
use Rattle.rapid_meaning.specs.Calls.{part}
use Rattle.rapid_meaning.specs.Data.{Data}
use Rattle.rapid_meaning.specs.Doings.{Doing, Gives, Raises, Asks, Ends, Misfit, Reads, Writes, Does}
use Rattle.rapid_meaning.specs.Flows.{Part}
use Rattle.rapid_meaning.specs.Runs.{deep}
use Rattle.tree_typing.proofs.Meets.{Rules, Meets}
use Rattle.tree_typing.proofs.OwnState.{OwnState, calm, own_state_after}

-- the outcome is no misfit, and what it has is as claimed
abbrev pub Comes : {A : Type 0} → (rules : Rules) → (A → Data → Type 0) → (ℕ → Data → Type 0) → Outcome A → Type 0
Comes rules P E (Gave v d left) = P v d
Comes rules P E (Raised n d left) = E n d
Comes rules P E (Asking request d) = rules.Asked d request
Comes rules P E (Ended d) = (fate : Fate) × rules.Asked d (End fate)
Comes rules P E Misfits = ⊥
Comes rules P E Unfit = ⊤
Comes rules P E NoFuel = ⊤

abbrev pub RunComes : Rules → Run → Type 0
RunComes rules run = (g : rules.Ghost) (p : Part) (d : Data) (left : List Answer) → rules.Begins g p d → Comes rules (rules.Ends g p) (rules.Fails g p) (run p d left)

comes_joined : {A B : Type 0} (rules : Rules) (P : A → Data → Type 0) (E : ℕ → Data → Type 0) (Q : B → Data → Type 0) (F : ℕ → Data → Type 0)
    (o : Outcome A) (f : A → Data → List Answer → Outcome B) (h : ℕ → Data → List Answer → Outcome B)
    → ((v : A) (d : Data) (left : List Answer) → P v d → Comes rules Q F (f v d left))
    → ((n : ℕ) (d : Data) (left : List Answer) → E n d → Comes rules Q F (h n d left)) → Comes rules P E o → Comes rules Q F (joined o f h)
comes_joined rules P E Q F (Gave v d left) f h cf ch c = cf v d left c
comes_joined rules P E Q F (Raised n d left) f h cf ch c = ch n d left c
comes_joined rules P E Q F (Asking request d) f h cf ch c = c
comes_joined rules P E Q F (Ended d) f h cf ch c = c
comes_joined rules P E Q F Misfits f h cf ch c = c
comes_joined rules P E Q F Unfit f h cf ch c = tt
comes_joined rules P E Q F NoFuel f h cf ch c = tt

comes_when : {A : Type 0} (rules : Rules) (P : A → Data → Type 0) (E : ℕ → Data → Type 0) (fits : Bool) (o : Outcome A)
    → (IsTrue fits → Comes rules P E o) → Comes rules P E (if fits then o else Unfit)
comes_when rules P E true o c = c refl
comes_when rules P E false o c = tt

comes_ending : {A : Type 0} (rules : Rules) (P : A → Data → Type 0) (E : ℕ → Data → Type 0) (by : Bool → Fitting) (fate : Fate) (d : Data) (left : List Answer)
    → rules.Asked d (End fate) → Comes rules P E (ending by fate d left)
comes_ending rules P E by fate d [] asked = asked
comes_ending {A} rules P E by fate d (a ∷ left) asked = comes_when {A = A} rules P E (fits_request (by d.trapped) (End fate) a) (Ended d) (λ fits. (fate, asked))

pub performed_comes : {A : Type 0} (rules : Rules) (run : Run) → RunComes rules run → (P : A → Data → Type 0) (E : ℕ → Data → Type 0)
    (m : Doing A) (t : OwnState) (d : Data) (left : List Answer) → Meets rules P E m t d → Comes rules P E (performed (fitting_of rules.tree) run m d left)
unfolding performed
performed_comes rules run good P E (Gives v) t d left m = m.1
performed_comes rules run good P E (Raises n) t d left m = m.1
performed_comes rules run good P E (Asks request k) t d [] m = m.0.asked
performed_comes rules run good P E (Asks request k) t d (a ∷ left) m =
    comes_when rules P E (fits_request (fitting_of rules.tree d.trapped) request a) (performed (fitting_of rules.tree) run (k a) d left)
    (λ fits. performed_comes rules run good P E (k a) (own_state_after t request a) d left (m.2 a fits))
performed_comes rules run good P E (Ends fate) t d left m = comes_ending rules P E (fitting_of rules.tree) fate d left m.asked
performed_comes rules run good P E Misfit t d left m = m
performed_comes rules run good P E (Reads k) t d left m = performed_comes rules run good P E (k d) t d left m
performed_comes rules run good P E (Writes e more) t d left m = performed_comes rules run good P E more t e left m
performed_comes rules run good P E (Does p k h) t d left m =
    comes_joined rules (rules.Ends m.1 p) (rules.Fails m.1 p) P E (run p d left)
    (λ flow e rest. performed (fitting_of rules.tree) run (k flow) e rest) (λ n e rest. performed (fitting_of rules.tree) run (h n) e rest)
    (λ flow e rest ends. performed_comes rules run good P E (k flow) (calm e) e rest (m.3 flow e ends))
    (λ n e rest fails. performed_comes rules run good P E (h n) (calm e) e rest (m.4 n e fails))
    (good m.1 p d left m.2)

-- each part keeps what is claimed of it
abbrev pub Keeps : Rules → Type 0
Keeps rules = (g : rules.Ghost) (p : Part) (d : Data) → rules.Begins g p d → Meets rules (rules.Ends g p) (rules.Fails g p) (part rules.tree p) (calm d) d

pub deep_comes : (rules : Rules) → Keeps rules → (n : ℕ) → RunComes rules (deep rules.tree n)
unfolding deep
deep_comes rules keeps zero g p d left begins = tt
deep_comes rules keeps (suc n) g p d left begins =
    performed_comes rules (deep rules.tree n) (deep_comes rules keeps n) (rules.Ends g p) (rules.Fails g p) (part rules.tree p) (calm d) d left (keeps g p d begins)
