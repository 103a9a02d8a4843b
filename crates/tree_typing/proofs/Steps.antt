-- What a task asks after one more answer is allowed by the state that its events then give; and it asks nothing after
-- its End.
use Rattle.std.proofs.Common.{◌≡◌, refl, sym, ap, subst, ℕ, zero, suc, Bool, true, false, List, [], ◌∷◌, ◌++◌, Option, Some, None, if◌then◌else◌, IsTrue}
use Rattle.std.specs.Prelude.{⊤}
use Rattle.rapid_model.specs.Fits.{fits_request}
use Rattle.rapid_model.specs.Own.{fate_of, is_hold}
use Rattle.rapid_model.specs.declared.answer.Answer.{Answer}
use Rattle.rapid_model.specs.declared.fate.Fate.{Fate}
use Rattle.rapid_model.specs.declared.request.Request.{Request}
use Rattle.rapid_model.specs.declared.request.Request.TheVariants.{End}
use Rattle.rapid_meaning.specs.Answering.{Outcome, Gave, Raised, Asking, Ended, Misfits, Unfit, NoFuel, Run, joined, ending, fitting_of, performed}
use Rattle.rapid_meaning.specs.Calls.{part}
use Rattle.rapid_meaning.specs.Data.{Data}
use Rattle.rapid_meaning.specs.Doings.{Doing, Gives, Raises, Asks, Ends, Misfit, Reads, Writes, Does}
use Rattle.rapid_meaning.specs.Flows.{Part}
use Rattle.rapid_meaning.specs.Runs.{deep}
use Rattle.tree_typing.proofs.Meets.{Due, Meets, Rules}
use Rattle.tree_typing.proofs.Runs.{Keeps}
use Rattle.tree_typing.proofs.OwnState.{IsCalm, OwnState, calm, is_calm, own_state_after, trapped_after}

-- with no answer left, in the state that the events gave: what is asked is allowed, and a result or an error comes only
-- when the task is not held
abbrev pub Stands : {A : Type 0} → (rules : Rules) → (A → Data → Type 0) → (ℕ → Data → Type 0) → OwnState → Outcome A → Type 0
Stands rules P E t (Gave v d left) = (left ≡ []) × IsCalm t d × P v d
Stands rules P E t (Raised n d left) = (left ≡ []) × IsCalm t d × E n d
Stands rules P E t (Asking request d) = Due rules t d request
Stands rules P E t NoFuel = ⊤
Stands rules P E t _ = ⊥

stands_joined : {A B : Type 0} (rules : Rules) (P : A → Data → Type 0) (E : ℕ → Data → Type 0) (Q : B → Data → Type 0) (F : ℕ → Data → Type 0)
    (t : OwnState) (o : Outcome A) (f : A → Data → List Answer → Outcome B) (h : ℕ → Data → List Answer → Outcome B)
    → ((v : A) (d : Data) → P v d → Stands rules Q F (calm d) (f v d [])) → ((n : ℕ) (d : Data) → E n d → Stands rules Q F (calm d) (h n d []))
    → Stands rules P E t o → Stands rules Q F t (joined o f h)
stands_joined rules P E Q F t (Gave v d left) f h sf sh s =
    subst (λ (x : List Answer). Stands rules Q F t (f v d x)) (sym s.0) (subst (λ (x : OwnState). Stands rules Q F x (f v d [])) (is_calm t d s.1) (sf v d s.2))
stands_joined rules P E Q F t (Raised n d left) f h sf sh s =
    subst (λ (x : List Answer). Stands rules Q F t (h n d x)) (sym s.0) (subst (λ (x : OwnState). Stands rules Q F x (h n d [])) (is_calm t d s.1) (sh n d s.2))
stands_joined rules P E Q F t (Asking request d) f h sf sh s = s
stands_joined rules P E Q F t (Ended d) f h sf sh s = s
stands_joined rules P E Q F t Misfits f h sf sh s = s
stands_joined rules P E Q F t Unfit f h sf sh s = s
stands_joined rules P E Q F t NoFuel f h sf sh s = tt

abbrev pub RunStands : Rules → Run → Type 0
RunStands rules run = (g : rules.Ghost) (p : Part) (d : Data) → rules.Begins g p d → Stands rules (rules.Ends g p) (rules.Fails g p) (calm d) (run p d [])

pub performed_stands : {A : Type 0} (rules : Rules) (run : Run) → RunStands rules run → (P : A → Data → Type 0) (E : ℕ → Data → Type 0)
    (m : Doing A) (t : OwnState) (d : Data) → Meets rules P E m t d → Stands rules P E t (performed (fitting_of rules.tree) run m d [])
unfolding performed
performed_stands rules run good P E (Gives v) t d m = (refl, m.0, m.1)
performed_stands rules run good P E (Raises n) t d m = (refl, m.0, m.1)
performed_stands rules run good P E (Asks request k) t d m = m.0
performed_stands rules run good P E (Ends fate) t d m = m
performed_stands rules run good P E Misfit t d m = m
performed_stands rules run good P E (Reads k) t d m = performed_stands rules run good P E (k d) t d m
performed_stands rules run good P E (Writes e more) t d m = performed_stands rules run good P E more t e m
performed_stands rules run good P E (Does p k h) t d m =
    subst (λ (x : OwnState). Stands rules P E x (performed (fitting_of rules.tree) run (Does p k h) d [])) (is_calm t d m.0)
    (stands_joined rules (rules.Ends m.1 p) (rules.Fails m.1 p) P E (calm d) (run p d [])
    (λ flow e rest. performed (fitting_of rules.tree) run (k flow) e rest) (λ n e rest. performed (fitting_of rules.tree) run (h n) e rest)
    (λ flow e ends. performed_stands rules run good P E (k flow) (calm e) e (m.3 flow e ends))
    (λ n e fails. performed_stands rules run good P E (h n) (calm e) e (m.4 n e fails)) (good m.1 p d m.2))

pub deep_stands : (rules : Rules) → Keeps rules → (n : ℕ) → RunStands rules (deep rules.tree n)
unfolding deep
deep_stands rules keeps zero g p d begins = tt
deep_stands rules keeps (suc n) g p d begins =
    performed_stands rules (deep rules.tree n) (deep_stands rules keeps n) (rules.Ends g p) (rules.Fails g p) (part rules.tree p) (calm d) d (keeps g p d begins)

-- after an End the task has ended; after any other request its state is the one that the events give
abbrev pub Behind : {A : Type 0} → (rules : Rules) → (A → Data → Type 0) → (ℕ → Data → Type 0) → Option Fate → OwnState → Data → Outcome A → Type 0
Behind rules P E None t d o = Stands rules P E t o
Behind rules P E (Some fate) t d o = o ≡ Ended d

-- the second outcome is the first one after one more answer
abbrev pub Follows : {A : Type 0} → (rules : Rules) → (A → Data → Type 0) → (ℕ → Data → Type 0) → Answer → Outcome A → Outcome A → Type 0
Follows rules P E a (Gave v d left) o = P v d × (o ≡ Gave v d (left ++ a ∷ []))
Follows rules P E a (Raised n d left) o = E n d × (o ≡ Raised n d (left ++ a ∷ []))
Follows rules P E a (Asking request d) o =
    IsTrue (fits_request (fitting_of rules.tree d.trapped) request a) → Behind rules P E (fate_of request) (own_state_after (calm d) request a) d o
Follows rules P E a _ o = ⊤

behind_joined : {A B : Type 0} (rules : Rules) (P : A → Data → Type 0) (E : ℕ → Data → Type 0) (Q : B → Data → Type 0) (F : ℕ → Data → Type 0)
    (fate : Option Fate) (t : OwnState) (d : Data) (o : Outcome A) (f : A → Data → List Answer → Outcome B) (h : ℕ → Data → List Answer → Outcome B)
    → ((v : A) (e : Data) → P v e → Stands rules Q F (calm e) (f v e [])) → ((n : ℕ) (e : Data) → E n e → Stands rules Q F (calm e) (h n e []))
    → Behind rules P E fate t d o → Behind rules Q F fate t d (joined o f h)
behind_joined rules P E Q F None t d o f h sf sh b = stands_joined rules P E Q F t o f h sf sh b
behind_joined rules P E Q F (Some fate) t d o f h sf sh b = ap (λ (x : Outcome _). joined x f h) b

follows_joined : {A B : Type 0} (rules : Rules) (P : A → Data → Type 0) (E : ℕ → Data → Type 0) (Q : B → Data → Type 0) (F : ℕ → Data → Type 0) (a : Answer)
    (o p : Outcome A) (f g : A → Data → List Answer → Outcome B) (h i : ℕ → Data → List Answer → Outcome B)
    → ((v : A) (d : Data) (left : List Answer) → P v d → Follows rules Q F a (f v d left) (g v d (left ++ a ∷ [])))
    → ((n : ℕ) (d : Data) (left : List Answer) → E n d → Follows rules Q F a (h n d left) (i n d (left ++ a ∷ [])))
    → ((v : A) (d : Data) → P v d → Stands rules Q F (calm d) (g v d [])) → ((n : ℕ) (d : Data) → E n d → Stands rules Q F (calm d) (i n d []))
    → Follows rules P E a o p → Follows rules Q F a (joined o f h) (joined p g i)
follows_joined rules P E Q F a (Gave v d left) p f g h i ff fh sg si s = subst (λ (x : Outcome _). Follows rules Q F a (f v d left) (joined x g i)) (sym s.1) (ff v d left s.0)
follows_joined rules P E Q F a (Raised n d left) p f g h i ff fh sg si s = subst (λ (x : Outcome _). Follows rules Q F a (h n d left) (joined x g i)) (sym s.1) (fh n d left s.0)
follows_joined rules P E Q F a (Asking request d) p f g h i ff fh sg si s =
    λ fits. behind_joined rules P E Q F (fate_of request) (own_state_after (calm d) request a) d p g i sg si (s fits)
follows_joined rules P E Q F a (Ended d) p f g h i ff fh sg si s = tt
follows_joined rules P E Q F a Misfits p f g h i ff fh sg si s = tt
follows_joined rules P E Q F a Unfit p f g h i ff fh sg si s = tt
follows_joined rules P E Q F a NoFuel p f g h i ff fh sg si s = tt

-- an answer that fits
when_fits : {A : Type 0} (fits : Bool) (o : Outcome A) → IsTrue fits → o ≡ (if fits then o else Unfit)
when_fits true o is = refl
when_fits false o is = absurd cc

follows_when : {A : Type 0} (rules : Rules) (P : A → Data → Type 0) (E : ℕ → Data → Type 0) (a : Answer) (fits : Bool) (o p : Outcome A)
    → (IsTrue fits → Follows rules P E a o p) → Follows rules P E a (if fits then o else Unfit) (if fits then p else Unfit)
follows_when rules P E a true o p s = s refl
follows_when rules P E a false o p s = tt

follows_ending : {A : Type 0} (rules : Rules) (P : A → Data → Type 0) (E : ℕ → Data → Type 0) (a : Answer) (fate : Fate) (d : Data) (left : List Answer)
    → Follows rules P E a (ending {A = A} (fitting_of rules.tree) fate d left) (ending {A = A} (fitting_of rules.tree) fate d (left ++ a ∷ []))
follows_ending {A} rules P E a fate d [] = λ fits. sym (when_fits {A = A} (fits_request (fitting_of rules.tree d.trapped) (End fate) a) (Ended d) fits)
follows_ending {A} rules P E a fate d (b ∷ left) = follows_when {A = A} rules P E a (fits_request (fitting_of rules.tree d.trapped) (End fate) b) (Ended d) (Ended d) (λ _. tt)

-- the state that the events give does not depend on an earlier Hold
told_same : (t : OwnState) (d : Data) (request : Request) (a : Answer) → t.trapped ≡ d.trapped → own_state_after t request a ≡ own_state_after (calm d) request a
told_same t d request a same = ap (λ (b : Bool). let u : OwnState = record { held = is_hold request; trapped = trapped_after b request a } in u) same

abbrev pub RunFollows : Rules → Answer → Run → Run → Type 0
RunFollows rules a run more =
    (g : rules.Ghost) (p : Part) (d : Data) (left : List Answer) → rules.Begins g p d → Follows rules (rules.Ends g p) (rules.Fails g p) a (run p d left) (more p d (left ++ a ∷ []))

pub performed_follows : {A : Type 0} (rules : Rules) (a : Answer) (run more : Run) → RunFollows rules a run more → RunStands rules more → (P : A → Data → Type 0) (E : ℕ → Data → Type 0)
    (m : Doing A) (t : OwnState) (d : Data) (left : List Answer) → Meets rules P E m t d
    → Follows rules P E a (performed (fitting_of rules.tree) run m d left) (performed (fitting_of rules.tree) more m d (left ++ a ∷ []))
unfolding performed
performed_follows rules a run more good stands P E (Gives v) t d left m = (m.1, refl)
performed_follows rules a run more good stands P E (Raises n) t d left m = (m.1, refl)
performed_follows rules a run more good stands P E (Asks request k) t d [] m = λ fits.
    let goes : Outcome _ = performed (fitting_of rules.tree) more (k a) d [] in
    let after : Stands rules P E (own_state_after t request a) goes = performed_stands rules more stands P E (k a) (own_state_after t request a) d (m.2 a fits) in
    subst (λ (x : Outcome _). Behind rules P E (fate_of request) (own_state_after (calm d) request a) d x) (when_fits (fits_request (fitting_of rules.tree d.trapped) request a) goes fits)
    (subst (λ (fate : Option Fate). Behind rules P E fate (own_state_after (calm d) request a) d goes) (sym m.1)
    (subst (λ (u : OwnState). Stands rules P E u goes) (told_same t d request a m.0.same) after))
performed_follows rules a run more good stands P E (Asks request k) t d (b ∷ left) m =
    follows_when rules P E a (fits_request (fitting_of rules.tree d.trapped) request b) (performed (fitting_of rules.tree) run (k b) d left) (performed (fitting_of rules.tree) more (k b) d (left ++ a ∷ []))
    (λ fits. performed_follows rules a run more good stands P E (k b) (own_state_after t request b) d left (m.2 b fits))
performed_follows rules a run more good stands P E (Ends fate) t d left m = follows_ending rules P E a fate d left
performed_follows rules a run more good stands P E Misfit t d left m = tt
performed_follows rules a run more good stands P E (Reads k) t d left m = performed_follows rules a run more good stands P E (k d) t d left m
performed_follows rules a run more good stands P E (Writes e next) t d left m = performed_follows rules a run more good stands P E next t e left m
performed_follows rules a run more good stands P E (Does p k h) t d left m =
    follows_joined rules (rules.Ends m.1 p) (rules.Fails m.1 p) P E a (run p d left) (more p d (left ++ a ∷ []))
    (λ flow e rest. performed (fitting_of rules.tree) run (k flow) e rest) (λ flow e rest. performed (fitting_of rules.tree) more (k flow) e rest)
    (λ n e rest. performed (fitting_of rules.tree) run (h n) e rest) (λ n e rest. performed (fitting_of rules.tree) more (h n) e rest)
    (λ flow e rest ends. performed_follows rules a run more good stands P E (k flow) (calm e) e rest (m.3 flow e ends))
    (λ n e rest fails. performed_follows rules a run more good stands P E (h n) (calm e) e rest (m.4 n e fails))
    (λ flow e ends. performed_stands rules more stands P E (k flow) (calm e) e (m.3 flow e ends))
    (λ n e fails. performed_stands rules more stands P E (h n) (calm e) e (m.4 n e fails))
    (good m.1 p d left m.2)

pub deep_follows : (rules : Rules) → Keeps rules → (a : Answer) (n : ℕ) → RunFollows rules a (deep rules.tree n) (deep rules.tree (suc n))
unfolding deep
deep_follows rules keeps a zero g p d left begins = tt
deep_follows rules keeps a (suc n) g p d left begins =
    performed_follows rules a (deep rules.tree n) (deep rules.tree (suc n)) (deep_follows rules keeps a n) (deep_stands rules keeps (suc n)) (rules.Ends g p) (rules.Fails g p)
    (part rules.tree p) (calm d) d left (keeps g p d begins)
