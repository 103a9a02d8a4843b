-- Parts of a program never nest deeper than the number of answers, and more fuel changes nothing.
use Rattle.std.proofs.Common.{◌≡◌, refl, sym, ap, subst, ℕ, zero, suc, ◌<◌, ◌≤◌, Bool, true, false, List, [], ◌∷◌, length, if◌then◌else◌, arith}
use Rattle.std.specs.Prelude.{⊤}
use Rattle.rapid_model.specs.Fits.{Fitting, fits_request}
use Rattle.rapid_model.specs.declared.answer.Answer.{Answer}
use Rattle.rapid_model.specs.declared.fate.Fate.{Fate}
use Rattle.rapid_model.specs.declared.request.Request.TheVariants.{End}
use Rattle.typed_trees.specs.Plain.{TypedTree}
use Rattle.rapid_meaning.specs.Answering.{Outcome, Gave, Raised, Asking, Ended, Misfits, Unfit, NoFuel, Run, joined, ending, fitting_of, performed}
use Rattle.rapid_meaning.specs.Calls.{part}
use Rattle.rapid_meaning.specs.Data.{Data, Frame}
use Rattle.rapid_meaning.specs.Doings.{Doing, Gives, Raises, Asks, Ends, Misfit, Reads, Writes, Does}
use Rattle.rapid_meaning.specs.Flows.{Part}
use Rattle.rapid_meaning.specs.Frames.{initial}
use Rattle.rapid_meaning.specs.Runs.{deep, state_after, task}
use Rattle.rapid_meaning.proofs.Begins.{Begins, Anything, part_begins}

-- the fuel did not run out, and fewer than this many answers are left
abbrev pub Below : {A : Type 0} → ℕ → Outcome A → Type 0
Below n (Gave v d left) = length left < n
Below n (Raised e d left) = length left < n
Below n NoFuel = ⊥
Below n _ = ⊤

abbrev pub BelowRun : ℕ → Run → Type 0
BelowRun n run = (p : Part) (d : Data) (left : List Answer) → length left < n → Below n (run p d left)

below_joined : {A B : Type 0} (n : ℕ) (o : Outcome A) (f : A → Data → List Answer → Outcome B) (h : ℕ → Data → List Answer → Outcome B) → Below n o
    → ((v : A) (d : Data) (left : List Answer) → length left < n → Below n (f v d left))
    → ((e : ℕ) (d : Data) (left : List Answer) → length left < n → Below n (h e d left)) → Below n (joined o f h)
below_joined n (Gave v d left) f h b bf bh = bf v d left b
below_joined n (Raised e d left) f h b bf bh = bh e d left b
below_joined n (Asking r d) f h b bf bh = tt
below_joined n (Ended d) f h b bf bh = tt
below_joined n Misfits f h b bf bh = tt
below_joined n Unfit f h b bf bh = tt
below_joined n NoFuel f h b bf bh = absurd b

below_when : {A : Type 0} (n : ℕ) (b : Bool) (o : Outcome A) → Below n o → Below n (if b then o else Unfit)
below_when n true o h = h
below_when n false o h = tt

below_ending : (A : Type 0) (by : Bool → Fitting) (n : ℕ) (fate : Fate) (d : Data) (left : List Answer) → Below n (ending {A = A} by fate d left)
below_ending A by n fate d [] = tt
below_ending A by n fate d (a ∷ left) = below_when {A = A} n (fits_request (by d.trapped) (End fate) a) (Ended d) tt

below_performed : {A : Type 0} (by : Bool → Fitting) (run : Run) (n : ℕ) → BelowRun n run → (m : Doing A) (d : Data) (left : List Answer) → length left < n
    → Below n (performed by run m d left)
unfolding performed
below_performed by run n good (Gives v) d left few = few
below_performed by run n good (Raises e) d left few = few
below_performed by run n good (Asks request k) d [] few = tt
below_performed by run n good (Asks request k) d (a ∷ left) few =
    below_when n (fits_request (by d.trapped) request a) (performed by run (k a) d left) (below_performed by run n good (k a) d left (omega (arith, few)))
below_performed {A} by run n good (Ends fate) d left few = below_ending A by n fate d left
below_performed by run n good Misfit d left few = tt
below_performed by run n good (Reads k) d left few = below_performed by run n good (k d) d left few
below_performed by run n good (Writes e m) d left few = below_performed by run n good m e left few
below_performed by run n good (Does p k h) d left few =
    below_joined n (run p d left) (λ flow e rest. performed by run (k flow) e rest) (λ x e rest. performed by run (h x) e rest) (good p d left few)
    (λ flow e rest fewer. below_performed by run n good (k flow) e rest fewer) (λ x e rest fewer. below_performed by run n good (h x) e rest fewer)

below_more : {A : Type 0} (n : ℕ) (o : Outcome A) → Below n o → Below (suc n) o
below_more n (Gave v d left) b = omega (arith, b)
below_more n (Raised e d left) b = omega (arith, b)
below_more n (Asking r d) b = tt
below_more n (Ended d) b = tt
below_more n Misfits b = tt
below_more n Unfit b = tt
below_more n NoFuel b = absurd b

-- a doing that asks first uses up an answer before it does a part
below_begun : {A : Type 0} (by : Bool → Fitting) (run : Run) (n : ℕ) → BelowRun n run → (looking ending : List Frame) (m : Doing A) (d : Data) (left : List Answer)
    → Begins looking ending Anything m d → length left < suc n → Below (suc n) (performed by run m d left)
unfolding performed
below_begun by run n good looking ending (Gives v) d left begins few = few
below_begun by run n good looking ending (Raises e) d left begins few = absurd begins
below_begun by run n good looking ending (Asks request k) d [] begins few = tt
below_begun by run n good looking ending (Asks request k) d (a ∷ left) begins few =
    below_when (suc n) (fits_request (by d.trapped) request a) (performed by run (k a) d left)
    (below_more n (performed by run (k a) d left) (below_performed by run n good (k a) d left (omega (arith, few))))
below_begun {A} by run n good looking ending (Ends fate) d left begins few = below_ending A by (suc n) fate d left
below_begun by run n good looking ending Misfit d left begins few = tt
below_begun by run n good looking ending (Reads k) d left begins few = below_begun by run n good looking ending (k d) d left begins few
below_begun by run n good looking ending (Writes e m) d left begins few = below_begun by run n good looking ending m e left begins few
below_begun by run n good looking ending (Does p k h) d left begins few = absurd begins

below_deep : (tree : TypedTree) (n : ℕ) → BelowRun n (deep tree n)
unfolding deep
below_deep tree zero p d left few = absurd (omega (arith, few))
below_deep tree (suc n) p d left few =
    below_begun (fitting_of tree) (deep tree n) n (below_deep tree n) (part_begins tree p d).looking d.frames (part tree p) d left (part_begins tree p d).begins few

below_state : (tree : TypedTree) (answers : List Answer) → Below (suc (length answers)) (state_after tree answers)
unfolding state_after
below_state tree answers =
    below_performed (fitting_of tree) (deep tree (suc (length answers))) (suc (length answers)) (below_deep tree (suc (length answers))) (task tree) (initial tree) answers (omega arith)

no_fuel : {A : Type 0} (n : ℕ) (o : Outcome A) → Below n o → o ≡ NoFuel → ⊥
no_fuel n o b e = subst (λ (x : Outcome _). Below n x) e b

pub enough : (tree : TypedTree) (answers : List Answer) → state_after tree answers ≡ NoFuel → ⊥
enough tree answers e = no_fuel (suc (length answers)) (state_after tree answers) (below_state tree answers) e

-- the second outcome is the first one, unless the first ran out of fuel
abbrev pub Agrees : {A : Type 0} → Outcome A → Outcome A → Type 0
Agrees (Gave v d left) o = o ≡ Gave v d left
Agrees (Raised e d left) o = o ≡ Raised e d left
Agrees (Asking r d) o = o ≡ Asking r d
Agrees (Ended d) o = o ≡ Ended d
Agrees Misfits o = o ≡ Misfits
Agrees Unfit o = o ≡ Unfit
Agrees NoFuel o = ⊤

agrees_self : {A : Type 0} (o : Outcome A) → Agrees o o
agrees_self (Gave v d left) = refl
agrees_self (Raised e d left) = refl
agrees_self (Asking r d) = refl
agrees_self (Ended d) = refl
agrees_self Misfits = refl
agrees_self Unfit = refl
agrees_self NoFuel = tt

agrees_joined : {A B : Type 0} (o p : Outcome A) (f g : A → Data → List Answer → Outcome B) (h i : ℕ → Data → List Answer → Outcome B) → Agrees o p
    → ((v : A) (d : Data) (left : List Answer) → Agrees (f v d left) (g v d left))
    → ((e : ℕ) (d : Data) (left : List Answer) → Agrees (h e d left) (i e d left)) → Agrees (joined o f h) (joined p g i)
agrees_joined (Gave v d left) p f g h i a af ah = subst (λ (x : Outcome _). Agrees (f v d left) (joined x g i)) (sym a) (af v d left)
agrees_joined (Raised e d left) p f g h i a af ah = subst (λ (x : Outcome _). Agrees (h e d left) (joined x g i)) (sym a) (ah e d left)
agrees_joined (Asking r d) p f g h i a af ah = ap (λ (x : Outcome _). joined x g i) a
agrees_joined (Ended d) p f g h i a af ah = ap (λ (x : Outcome _). joined x g i) a
agrees_joined Misfits p f g h i a af ah = ap (λ (x : Outcome _). joined x g i) a
agrees_joined Unfit p f g h i a af ah = ap (λ (x : Outcome _). joined x g i) a
agrees_joined NoFuel p f g h i a af ah = tt

agrees_when : {A : Type 0} (b : Bool) (o p : Outcome A) → Agrees o p → Agrees (if b then o else Unfit) (if b then p else Unfit)
agrees_when true o p a = a
agrees_when false o p a = refl

abbrev AgreeRuns : Run → Run → Type 0
AgreeRuns run more = (p : Part) (d : Data) (left : List Answer) → Agrees (run p d left) (more p d left)

agrees_performed : {A : Type 0} (by : Bool → Fitting) (run more : Run) → AgreeRuns run more → (m : Doing A) (d : Data) (left : List Answer)
    → Agrees (performed by run m d left) (performed by more m d left)
unfolding performed
agrees_performed by run more good (Gives v) d left = refl
agrees_performed by run more good (Raises e) d left = refl
agrees_performed by run more good (Asks request k) d [] = refl
agrees_performed by run more good (Asks request k) d (a ∷ left) =
    agrees_when (fits_request (by d.trapped) request a) (performed by run (k a) d left) (performed by more (k a) d left) (agrees_performed by run more good (k a) d left)
agrees_performed by run more good (Ends fate) d left = agrees_self (ending by fate d left)
agrees_performed by run more good Misfit d left = refl
agrees_performed by run more good (Reads k) d left = agrees_performed by run more good (k d) d left
agrees_performed by run more good (Writes e m) d left = agrees_performed by run more good m e left
agrees_performed by run more good (Does p k h) d left =
    agrees_joined (run p d left) (more p d left) (λ flow e rest. performed by run (k flow) e rest) (λ flow e rest. performed by more (k flow) e rest)
    (λ x e rest. performed by run (h x) e rest) (λ x e rest. performed by more (h x) e rest) (good p d left)
    (λ flow e rest. agrees_performed by run more good (k flow) e rest) (λ x e rest. agrees_performed by run more good (h x) e rest)

agrees_deep : (tree : TypedTree) (n k : ℕ) → n ≤ k → AgreeRuns (deep tree n) (deep tree k)
unfolding deep
agrees_deep tree zero k few p d left = tt
agrees_deep tree (suc n) zero few p d left = absurd (omega (arith, few))
agrees_deep tree (suc n) (suc k) few p d left =
    agrees_performed (fitting_of tree) (deep tree n) (deep tree k) (agrees_deep tree n k (omega (arith, few))) (part tree p) d left

agrees_same : {A : Type 0} (n : ℕ) (o p : Outcome A) → Below n o → Agrees o p → p ≡ o
agrees_same n (Gave v d left) p b a = a
agrees_same n (Raised e d left) p b a = a
agrees_same n (Asking r d) p b a = a
agrees_same n (Ended d) p b a = a
agrees_same n Misfits p b a = a
agrees_same n Unfit p b a = a
agrees_same n NoFuel p b a = absurd b

pub more_fuel : (tree : TypedTree) (answers : List Answer) (n : ℕ) → length answers < n
    → performed (fitting_of tree) (deep tree n) (task tree) (initial tree) answers ≡ state_after tree answers
unfolding state_after
more_fuel tree answers n few =
    agrees_same (suc (length answers)) (state_after tree answers) (performed (fitting_of tree) (deep tree n) (task tree) (initial tree) answers) (below_state tree answers)
    (agrees_performed (fitting_of tree) (deep tree (suc (length answers))) (deep tree n) (agrees_deep tree (suc (length answers)) n few) (task tree) (initial tree) answers)
