-- One more answer: what came before it stays, and the run continues if the answer fits.
use Rattle.std.proofs.Common.{◌≡◌, ◌⊎◌, inl, inr, refl, sym, ap, subst, ℕ, zero, suc, Bool, true, false, List, [], ◌∷◌, ◌++◌, length, if◌then◌else◌, MatchBool, arith, length-append}
use Rattle.std.specs.Prelude.{⊤, IsTrue, IsFalse}
use Rattle.rapid_model.specs.Fits.{Fitting, fits_request}
use Rattle.rapid_model.specs.declared.answer.Answer.{Answer}
use Rattle.rapid_model.specs.declared.fate.Fate.{Fate}
use Rattle.rapid_model.specs.declared.request.Request.{Request}
use Rattle.rapid_model.specs.declared.request.Request.TheVariants.{End}
use Rattle.typed_trees.specs.Plain.{TypedTree}
use Rattle.rapid_meaning.specs.Answering.{Outcome, Gave, Raised, Asking, Ended, Misfits, Unfit, NoFuel, Run, joined, ending, fitting_of, performed}
use Rattle.rapid_meaning.specs.Calls.{part}
use Rattle.rapid_meaning.specs.Data.{Data}
use Rattle.rapid_meaning.specs.Doings.{Doing, Gives, Raises, Asks, Ends, Misfit, Reads, Writes, Does}
use Rattle.rapid_meaning.specs.Flows.{Part}
use Rattle.rapid_meaning.specs.Frames.{initial}
use Rattle.rapid_meaning.specs.Runs.{FitsNext, FitsSteps, deep, state_after, task}

-- an outcome that used up all answers, the last of which fitted
abbrev pub Went : {A : Type 0} → Outcome A → Type 0
Went (Gave v d left) = left ≡ []
Went (Raised e d left) = left ≡ []
Went Unfit = ⊥
Went _ = ⊤

-- the second outcome is the first one after one more answer
abbrev pub Grows : {A : Type 0} → (Bool → Fitting) → Answer → Outcome A → Outcome A → Type 0
Grows by a (Gave v d left) o = o ≡ Gave v d (left ++ a ∷ [])
Grows by a (Raised e d left) o = o ≡ Raised e d (left ++ a ∷ [])
Grows by a (Asking r d) o = MatchBool (fits_request (by d.trapped) r a) (Went o) (o ≡ Unfit)
Grows by a (Ended d) o = o ≡ Ended d
Grows by a Misfits o = o ≡ Misfits
Grows by a Unfit o = o ≡ Unfit
Grows by a NoFuel o = ⊤

went_joined : {A B : Type 0} (o : Outcome A) (f : A → Data → List Answer → Outcome B) (h : ℕ → Data → List Answer → Outcome B) → Went o
    → ((v : A) (d : Data) → Went (f v d [])) → ((e : ℕ) (d : Data) → Went (h e d [])) → Went (joined o f h)
went_joined (Gave v d left) f h w wf wh = subst (λ (x : List Answer). Went (f v d x)) (sym w) (wf v d)
went_joined (Raised e d left) f h w wf wh = subst (λ (x : List Answer). Went (h e d x)) (sym w) (wh e d)
went_joined (Asking r d) f h w wf wh = tt
went_joined (Ended d) f h w wf wh = tt
went_joined Misfits f h w wf wh = tt
went_joined Unfit f h w wf wh = absurd w
went_joined NoFuel f h w wf wh = tt

abbrev WentRun : Run → Type 0
WentRun run = (p : Part) (d : Data) → Went (run p d [])

went_performed : {A : Type 0} (by : Bool → Fitting) (run : Run) → WentRun run → (m : Doing A) (d : Data) → Went (performed by run m d [])
unfolding performed
went_performed by run good (Gives v) d = refl
went_performed by run good (Raises e) d = refl
went_performed by run good (Asks request k) d = tt
went_performed by run good (Ends fate) d = tt
went_performed by run good Misfit d = tt
went_performed by run good (Reads k) d = went_performed by run good (k d) d
went_performed by run good (Writes e m) d = went_performed by run good m e
went_performed by run good (Does p k h) d =
    went_joined (run p d []) (λ flow e rest. performed by run (k flow) e rest) (λ x e rest. performed by run (h x) e rest) (good p d)
    (λ flow e. went_performed by run good (k flow) e) (λ x e. went_performed by run good (h x) e)

went_deep : (tree : TypedTree) (n : ℕ) → WentRun (deep tree n)
unfolding deep
went_deep tree zero p d = tt
went_deep tree (suc n) p d = went_performed (fitting_of tree) (deep tree n) (went_deep tree n) (part tree p) d

asked_joined : {A B : Type 0} (fits : Bool) (o : Outcome A) (f : A → Data → List Answer → Outcome B) (h : ℕ → Data → List Answer → Outcome B)
    → MatchBool fits (Went o) (o ≡ Unfit) → ((v : A) (d : Data) → Went (f v d [])) → ((e : ℕ) (d : Data) → Went (h e d []))
    → MatchBool fits (Went (joined o f h)) (joined o f h ≡ Unfit)
asked_joined true o f h w wf wh = went_joined o f h w wf wh
asked_joined false o f h w wf wh = ap (λ (x : Outcome _). joined x f h) w

grows_joined : {A B : Type 0} (by : Bool → Fitting) (a : Answer) (o p : Outcome A) (f g : A → Data → List Answer → Outcome B) (h i : ℕ → Data → List Answer → Outcome B)
    → Grows by a o p
    → ((v : A) (d : Data) (left : List Answer) → Grows by a (f v d left) (g v d (left ++ a ∷ [])))
    → ((e : ℕ) (d : Data) (left : List Answer) → Grows by a (h e d left) (i e d (left ++ a ∷ [])))
    → ((v : A) (d : Data) → Went (g v d [])) → ((e : ℕ) (d : Data) → Went (i e d [])) → Grows by a (joined o f h) (joined p g i)
grows_joined by a (Gave v d left) p f g h i grown gf gh wg wi = subst (λ (x : Outcome _). Grows by a (f v d left) (joined x g i)) (sym grown) (gf v d left)
grows_joined by a (Raised e d left) p f g h i grown gf gh wg wi = subst (λ (x : Outcome _). Grows by a (h e d left) (joined x g i)) (sym grown) (gh e d left)
grows_joined by a (Asking r d) p f g h i grown gf gh wg wi = asked_joined (fits_request (by d.trapped) r a) p g i grown wg wi
grows_joined by a (Ended d) p f g h i grown gf gh wg wi = ap (λ (x : Outcome _). joined x g i) grown
grows_joined by a Misfits p f g h i grown gf gh wg wi = ap (λ (x : Outcome _). joined x g i) grown
grows_joined by a Unfit p f g h i grown gf gh wg wi = ap (λ (x : Outcome _). joined x g i) grown
grows_joined by a NoFuel p f g h i grown gf gh wg wi = tt

-- the pending request gets the answer
asked_when : {A : Type 0} (fits : Bool) (o : Outcome A) → Went o → MatchBool fits (Went (if fits then o else Unfit)) ((if fits then o else Unfit) ≡ Unfit)
asked_when true o w = w
asked_when false o w = refl

grows_when : {A : Type 0} (by : Bool → Fitting) (a : Answer) (fits : Bool) (o p : Outcome A) → Grows by a o p → Grows by a (if fits then o else Unfit) (if fits then p else Unfit)
grows_when by a true o p grown = grown
grows_when by a false o p grown = refl

grows_ending : (A : Type 0) (by : Bool → Fitting) (a : Answer) (fate : Fate) (d : Data) (left : List Answer)
    → Grows by a (ending {A = A} by fate d left) (ending {A = A} by fate d (left ++ a ∷ []))
grows_ending A by a fate d [] = asked_when {A = A} (fits_request (by d.trapped) (End fate) a) (Ended d) tt
grows_ending A by a fate d (b ∷ left) = grows_when {A = A} by a (fits_request (by d.trapped) (End fate) b) (Ended d) (Ended d) refl

abbrev pub GrowRuns : (Bool → Fitting) → Answer → Run → Run → Type 0
GrowRuns by a run more = (p : Part) (d : Data) (left : List Answer) → Grows by a (run p d left) (more p d (left ++ a ∷ []))

grows_performed : {A : Type 0} (by : Bool → Fitting) (a : Answer) (run more : Run) → GrowRuns by a run more → WentRun more → (m : Doing A) (d : Data) (left : List Answer)
    → Grows by a (performed by run m d left) (performed by more m d (left ++ a ∷ []))
unfolding performed
grows_performed by a run more good went (Gives v) d left = refl
grows_performed by a run more good went (Raises e) d left = refl
grows_performed by a run more good went (Asks request k) d [] =
    asked_when (fits_request (by d.trapped) request a) (performed by more (k a) d []) (went_performed by more went (k a) d)
grows_performed by a run more good went (Asks request k) d (b ∷ left) =
    grows_when by a (fits_request (by d.trapped) request b) (performed by run (k b) d left) (performed by more (k b) d (left ++ a ∷ [])) (grows_performed by a run more good went (k b) d left)
grows_performed {A} by a run more good went (Ends fate) d left = grows_ending A by a fate d left
grows_performed by a run more good went Misfit d left = refl
grows_performed by a run more good went (Reads k) d left = grows_performed by a run more good went (k d) d left
grows_performed by a run more good went (Writes e m) d left = grows_performed by a run more good went m e left
grows_performed by a run more good went (Does p k h) d left =
    grows_joined by a (run p d left) (more p d (left ++ a ∷ [])) (λ flow e rest. performed by run (k flow) e rest) (λ flow e rest. performed by more (k flow) e rest)
    (λ x e rest. performed by run (h x) e rest) (λ x e rest. performed by more (h x) e rest) (good p d left)
    (λ flow e rest. grows_performed by a run more good went (k flow) e rest) (λ x e rest. grows_performed by a run more good went (h x) e rest)
    (λ flow e. went_performed by more went (k flow) e) (λ x e. went_performed by more went (h x) e)

pub grows_deep : (tree : TypedTree) (a : Answer) (n : ℕ) → GrowRuns (fitting_of tree) a (deep tree n) (deep tree (suc n))
unfolding deep
grows_deep tree a zero p d left = tt
grows_deep tree a (suc n) p d left =
    grows_performed (fitting_of tree) a (deep tree n) (deep tree (suc n)) (grows_deep tree a n) (went_deep tree (suc n)) (part tree p) d left

-- with this much fuel
state_with : TypedTree → List Answer → ℕ → Outcome ⊤
state_with tree answers n = performed (fitting_of tree) (deep tree n) (task tree) (initial tree) answers

pub grows_state : (tree : TypedTree) (answers : List Answer) (a : Answer) → Grows (fitting_of tree) a (state_after tree answers) (state_after tree (answers ++ a ∷ []))
unfolding state_after state_with
grows_state tree answers a =
    let longer : suc (length answers) ≡ length (answers ++ a ∷ []) = omega (arith, length-append answers (a ∷ [])) in
    subst (λ (n : ℕ). Grows (fitting_of tree) a (state_with tree answers (suc (length answers))) (state_with tree (answers ++ a ∷ []) (suc n))) longer
    (grows_performed (fitting_of tree) a (deep tree (suc (length answers))) (deep tree (suc (suc (length answers)))) (grows_deep tree a (suc (length answers)))
    (went_deep tree (suc (suc (length answers)))) (task tree) (initial tree) answers)

when_true : (P Q : Type 0) (b : Bool) → b ≡ true → MatchBool b P Q → P
when_true P Q true e h = h
when_true P Q false e h = cc

when_false : (P Q : Type 0) (b : Bool) → b ≡ false → MatchBool b P Q → Q
when_false P Q true e h = cc
when_false P Q false e h = h

went_fits : {A : Type 0} (o : Outcome A) → Went o → o ≡ Unfit → ⊥
went_fits o w e = subst (λ (x : Outcome _). Went x) e w

pub goes_on : (tree : TypedTree) (before : List Answer) (a : Answer) (request : Request) (d : Data) → state_after tree before ≡ Asking request d
    → IsTrue (fits_request (fitting_of tree d.trapped) request a) → state_after tree (before ++ a ∷ []) ≡ Unfit → ⊥
goes_on tree before a request d asks fits =
    went_fits (state_after tree (before ++ a ∷ []))
    (when_true (Went (state_after tree (before ++ a ∷ []))) (state_after tree (before ++ a ∷ []) ≡ Unfit) (fits_request (fitting_of tree d.trapped) request a) fits
    (subst (λ (x : Outcome ⊤). Grows (fitting_of tree) a x (state_after tree (before ++ a ∷ []))) asks (grows_state tree before a)))

pub refuses : (tree : TypedTree) (before : List Answer) (a : Answer) (request : Request) (d : Data) → state_after tree before ≡ Asking request d
    → IsFalse (fits_request (fitting_of tree d.trapped) request a) → state_after tree (before ++ a ∷ []) ≡ Unfit
refuses tree before a request d asks fits =
    when_false (Went (state_after tree (before ++ a ∷ []))) (state_after tree (before ++ a ∷ []) ≡ Unfit) (fits_request (fitting_of tree d.trapped) request a) fits
    (subst (λ (x : Outcome ⊤). Grows (fitting_of tree) a x (state_after tree (before ++ a ∷ []))) asks (grows_state tree before a))

pub stays_ended : (tree : TypedTree) (before : List Answer) (a : Answer) (d : Data) → state_after tree before ≡ Ended d → state_after tree (before ++ a ∷ []) ≡ Ended d
stays_ended tree before a d e = subst (λ (x : Outcome ⊤). Grows (fitting_of tree) a x (state_after tree (before ++ a ∷ []))) e (grows_state tree before a)

pub stays_unfit : (tree : TypedTree) (before : List Answer) (a : Answer) → state_after tree before ≡ Unfit → state_after tree (before ++ a ∷ []) ≡ Unfit
stays_unfit tree before a e = subst (λ (x : Outcome ⊤). Grows (fitting_of tree) a x (state_after tree (before ++ a ∷ []))) e (grows_state tree before a)

went_state : (tree : TypedTree) → Went (state_after tree [])
unfolding state_after
went_state tree = went_performed (fitting_of tree) (deep tree 1) (went_deep tree 1) (task tree) (initial tree)

-- a list is empty, or has a last element
ends_with : (answers : List Answer) → (answers ≡ []) ⊎ ((before : List Answer) × (a : Answer) × (answers ≡ before ++ a ∷ []))
ends_with [] = inl refl
ends_with (b ∷ more) = elim (ends_with more) [
  | inl e ↦ inr ([], b, ap (λ (x : List Answer). b ∷ x) e)
  | inr w ↦ inr (b ∷ w.0, w.1, ap (λ (x : List Answer). b ∷ x) w.2)
]

pub fit_runs : (tree : TypedTree) (answers : List Answer) → FitsSteps tree answers → state_after tree answers ≡ Unfit → ⊥
fit_runs tree answers fits unfit = elim (ends_with answers) [
  | inl e ↦ went_fits (state_after tree []) (went_state tree) (subst (λ (x : List Answer). state_after tree x ≡ Unfit) e unfit)
  | inr w ↦
      let last : FitsNext tree w.0 w.1 = fits.at w.0 [] w.1 w.2 in
      goes_on tree w.0 w.1 last.request last.standing last.asked last.fits (subst (λ (x : List Answer). state_after tree x ≡ Unfit) w.2 unfit)
]
