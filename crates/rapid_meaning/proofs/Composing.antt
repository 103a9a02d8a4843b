-- The outcome of one doing after another.
use Rattle.std.proofs.Common.{◌≡◌, refl, ap, ◌∙◌, ℕ, Bool, true, false, List, [], ◌∷◌, if◌then◌else◌}
use Rattle.rapid_model.specs.Fits.{Fitting, fits_request}
use Rattle.rapid_model.specs.declared.answer.Answer.{Answer}
use Rattle.rapid_model.specs.declared.fate.Fate.{Fate}
use Rattle.rapid_model.specs.declared.request.Request.TheVariants.{End}
use Rattle.rapid_meaning.specs.Answering.{Outcome, Gave, Raised, Asking, Ended, Misfits, Unfit, NoFuel, Run, joined, ending, performed}
use Rattle.rapid_meaning.specs.Data.{Data}
use Rattle.rapid_meaning.specs.Doings.{Doing, Gives, Raises, Asks, Ends, Misfit, Reads, Writes, Does, after, goes_to}
use Rattle.rapid_meaning.specs.Flows.{Flow, Part}

joined_joined : {A B C : Type 0} (o : Outcome A) (f : A → Data → List Answer → Outcome C) (h : ℕ → Data → List Answer → Outcome C)
    (g : A → Data → List Answer → Outcome B) (i : ℕ → Data → List Answer → Outcome B) (k : B → Data → List Answer → Outcome C) (l : ℕ → Data → List Answer → Outcome C)
    → ((v : A) (d : Data) (left : List Answer) → f v d left ≡ joined (g v d left) k l)
    → ((e : ℕ) (d : Data) (left : List Answer) → h e d left ≡ joined (i e d left) k l) → joined o f h ≡ joined (joined o g i) k l
joined_joined (Gave v d left) f h g i k l ef eh = ef v d left
joined_joined (Raised e d left) f h g i k l ef eh = eh e d left
joined_joined (Asking r d) f h g i k l ef eh = refl
joined_joined (Ended d) f h g i k l ef eh = refl
joined_joined Misfits f h g i k l ef eh = refl
joined_joined Unfit f h g i k l ef eh = refl
joined_joined NoFuel f h g i k l ef eh = refl

when_joined : {A B : Type 0} (b : Bool) (o : Outcome B) (p : Outcome A) (f : A → Data → List Answer → Outcome B) (h : ℕ → Data → List Answer → Outcome B)
    → o ≡ joined p f h → (if b then o else Unfit) ≡ joined (if b then p else Unfit) f h
when_joined true o p f h e = e
when_joined false o p f h e = refl

pub ending_joined : {A B : Type 0} (by : Bool → Fitting) (fate : Fate) (d : Data) (left : List Answer) (f : A → Data → List Answer → Outcome B) (h : ℕ → Data → List Answer → Outcome B)
    → ending {A = B} by fate d left ≡ joined (ending {A = A} by fate d left) f h
ending_joined by fate d [] f h = refl
ending_joined {A} {B} by fate d (a ∷ left) f h = when_joined {A = A} {B = B} (fits_request (by d.trapped) (End fate) a) (Ended d) (Ended d) f h refl

pub performed_after : {A B : Type 0} (by : Bool → Fitting) (run : Run) (m : Doing A) (next : A → Doing B) (failed : ℕ → Doing B) (d : Data) (left : List Answer)
    → performed by run (after m next failed) d left
    ≡ joined (performed by run m d left) (λ v e rest. performed by run (next v) e rest) (λ n e rest. performed by run (failed n) e rest)
unfolding performed after
performed_after by run (Gives v) next failed d left = refl
performed_after by run (Raises n) next failed d left = refl
performed_after by run (Asks request k) next failed d [] = refl
performed_after by run (Asks request k) next failed d (a ∷ left) =
    when_joined (fits_request (by d.trapped) request a) (performed by run (after (k a) next failed) d left) (performed by run (k a) d left)
    (λ v e rest. performed by run (next v) e rest) (λ n e rest. performed by run (failed n) e rest) (performed_after by run (k a) next failed d left)
performed_after by run (Ends fate) next failed d left = ending_joined by fate d left (λ v e rest. performed by run (next v) e rest) (λ n e rest. performed by run (failed n) e rest)
performed_after by run Misfit next failed d left = refl
performed_after by run (Reads k) next failed d left = performed_after by run (k d) next failed d left
performed_after by run (Writes e m) next failed d left = performed_after by run m next failed e left
performed_after by run (Does p k h) next failed d left =
    joined_joined (run p d left) (λ flow e rest. performed by run (after (k flow) next failed) e rest) (λ x e rest. performed by run (after (h x) next failed) e rest)
    (λ flow e rest. performed by run (k flow) e rest) (λ x e rest. performed by run (h x) e rest)
    (λ v e rest. performed by run (next v) e rest) (λ n e rest. performed by run (failed n) e rest)
    (λ flow e rest. performed_after by run (k flow) next failed e rest) (λ x e rest. performed_after by run (h x) next failed e rest)

joined_same : (o : Outcome Flow) → joined o (λ v e rest. Gave v e rest) (λ n e rest. Raised n e rest) ≡ o
joined_same (Gave v d left) = refl
joined_same (Raised n d left) = refl
joined_same (Asking r d) = refl
joined_same (Ended d) = refl
joined_same Misfits = refl
joined_same Unfit = refl
joined_same NoFuel = refl

-- a part of the program, which ends as that does
pub goes_as : (by : Bool → Fitting) (run : Run) (p : Part) (d : Data) (left : List Answer) → performed by run (goes_to p) d left ≡ run p d left
unfolding performed
goes_as by run p d left = joined_same (run p d left)

-- it asks nothing, changes no data, and gives this value
abbrev pub Comes : {A : Type 0} → Doing A → Data → A → Type 0
Comes m d v = (by : Bool → Fitting) (run : Run) (left : List Answer) → performed by run m d left ≡ Gave v d left

pub comes_after : {A B : Type 0} (m : Doing A) (next : A → Doing B) (failed : ℕ → Doing B) (d : Data) (v : A) (w : B) → Comes m d v → Comes (next v) d w
    → Comes (after m next failed) d w
comes_after m next failed d v w first second = λ by run left.
    performed_after by run m next failed d left
    ∙ ap (λ (o : Outcome _). joined o (λ v e rest. performed by run (next v) e rest) (λ n e rest. performed by run (failed n) e rest)) (first by run left)
    ∙ second by run left
