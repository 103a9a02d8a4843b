-- What a task asks after one more answer: nothing after End, a Look after Rise, and its frames keep their counts.
use Rattle.std.proofs.Common.{◌≡◌, refl, sym, ap, subst, ℕ, zero, suc, Bool, true, false, List, [], ◌∷◌, ◌++◌, length, drop, if◌then◌else◌, arith, length-append}
use Rattle.std.specs.Prelude.{⊤}
use Rattle.rapid_model.specs.Fits.{Fitting, fits_request}
use Rattle.rapid_model.specs.declared.answer.Answer.{Answer}
use Rattle.rapid_model.specs.declared.answer.Answer.TheVariants.{Ok}
use Rattle.rapid_model.specs.declared.fate.Fate.{Fate}
use Rattle.rapid_model.specs.declared.request.Request.{Request}
use Rattle.rapid_model.specs.declared.request.Request.TheVariants as requests
use Rattle.typed_trees.specs.Plain as trees
use Rattle.typed_trees.specs.Plain.{TypedStmt, TypedTree}
use Rattle.rapid_meaning.specs.Answering.{Outcome, Gave, Raised, Asking, Ended, Misfits, Unfit, NoFuel, Run, ending, fitting_of, joined, performed}
use Rattle.rapid_meaning.specs.Calls.{part}
use Rattle.rapid_meaning.specs.Data.{Data, Frame}
use Rattle.rapid_meaning.specs.Doings.{Doing, Gives, Raises, Asks, Ends, Misfit, Reads, Writes, Does, after}
use Rattle.rapid_meaning.specs.Flows.{Flow, Part, Attempt, Turn, Leg, Rest, Call, Where}
use Rattle.rapid_meaning.specs.Frames.{initial}
use Rattle.rapid_meaning.specs.Runs.{asks, asked_after, deep, next_of, state_after, task}
use Rattle.rapid_meaning.proofs.Begins.{Anything, AtLook, Begins, LooksFirst, part_begins}
use Rattle.rapid_meaning.proofs.Counts.{AreKept, IsLeft, all_left, counts, found, kept_further, left_of_left}
use Rattle.rapid_meaning.proofs.Growth.{GrowRuns, Grows, grows_deep}
use Rattle.rapid_meaning.proofs.Kept.{Kept, RunKept, deep_kept, task_tidy}
use Rattle.rapid_meaning.proofs.Room.{HasRoom, no_frames}
use Rattle.rapid_meaning.proofs.Tidy.{LeadsTo, Looks, LooksNext, Tidy, t_part}

-- ---- without an answer

abbrev IsLooking : {A : Type 0} → Outcome A → Type 0
IsLooking (Asking requests.Look d) = ⊤
IsLooking _ = ⊥

looks_joined : {A B : Type 0} (o : Outcome A) (f : A → Data → List Answer → Outcome B) (h : ℕ → Data → List Answer → Outcome B) → IsLooking o → IsLooking (joined o f h)
looks_joined (Asking requests.Look d) f h l = tt
looks_joined (Asking _ d) f h l = absurd l
looks_joined (Gave v d left) f h l = absurd l
looks_joined (Raised n d left) f h l = absurd l
looks_joined (Ended d) f h l = absurd l
looks_joined Misfits f h l = absurd l
looks_joined Unfit f h l = absurd l
looks_joined NoFuel f h l = absurd l

-- it asks, or is done, and its frames keep these counts
abbrev Keeps : {A : Type 0} → List ℕ → Outcome A → Type 0
Keeps before (Gave v d left) = (left ≡ []) × IsLeft (counts d.frames) before
Keeps before (Raised n d left) = (left ≡ []) × IsLeft (counts d.frames) before
Keeps before (Asking request d) = AreKept request (counts d.frames) before
Keeps before _ = ⊤

keeps_further : {A : Type 0} (xs ys : List ℕ) (o : Outcome A) → Keeps xs o → IsLeft xs ys → Keeps ys o
keeps_further xs ys (Gave v d left) k l = (k.0, left_of_left (counts d.frames) xs ys k.1 l)
keeps_further xs ys (Raised n d left) k l = (k.0, left_of_left (counts d.frames) xs ys k.1 l)
keeps_further xs ys (Asking request d) k l = kept_further request (counts d.frames) xs ys k l
keeps_further xs ys (Ended d) k l = tt
keeps_further xs ys Misfits k l = tt
keeps_further xs ys Unfit k l = tt
keeps_further xs ys NoFuel k l = tt

keeps_joined : {A B : Type 0} (count : ℕ) (before : List ℕ) (o : Outcome A) (f : A → Data → List Answer → Outcome B) (h : ℕ → Data → List Answer → Outcome B)
    → Kept true count o → Keeps before o → ((v : A) (d : Data) → HasRoom true count d.frames → Keeps (counts d.frames) (f v d []))
    → ((n : ℕ) (d : Data) → HasRoom true count d.frames → Keeps (counts d.frames) (h n d [])) → Keeps before (joined o f h)
keeps_joined count before (Gave v d left) f h room k kf kh =
    subst (λ (rest : List Answer). Keeps before (f v d rest)) (sym k.0) (keeps_further (counts d.frames) before (f v d []) (kf v d room) k.1)
keeps_joined count before (Raised n d left) f h room k kf kh =
    subst (λ (rest : List Answer). Keeps before (h n d rest)) (sym k.0) (keeps_further (counts d.frames) before (h n d []) (kh n d room) k.1)
keeps_joined count before (Asking request d) f h room k kf kh = k
keeps_joined count before (Ended d) f h room k kf kh = tt
keeps_joined count before Misfits f h room k kf kh = tt
keeps_joined count before Unfit f h room k kf kh = tt
keeps_joined count before NoFuel f h room k kf kh = tt

keeps_when : {A : Type 0} (before : List ℕ) (b : Bool) (o : Outcome A) → Keeps before o → Keeps before (if b then o else Unfit)
keeps_when before true o k = k
keeps_when before false o k = tt

-- parts that look do so at once, and no part changes a count before it asks
record GoesOn (run : Run) : Type 0 where
  attempts : (w : Where) (s : TypedStmt) (d : Data) → Looks s → IsLooking (run (Attempt w s) d [])
  turns : (w : Where) (s : TypedStmt) (d : Data) → IsLooking (run (Turn w s) d [])
  keeps : (p : Part) (d : Data) → Keeps (counts d.frames) (run p d [])
  kept : RunKept run

attempt_looks : (tree : TypedTree) (n : ℕ) (w : Where) (s : TypedStmt) (d : Data) → Looks s → IsLooking (deep tree (suc n) (Attempt w s) d [])
unfolding deep performed after
attempt_looks tree n w (trees.Label at label) d l = absurd l
attempt_looks tree n w s d l = tt

turn_looks : (tree : TypedTree) (n : ℕ) (w : Where) (s : TypedStmt) (d : Data) → IsLooking (deep tree (suc n) (Turn w s) d [])
unfolding deep performed after
turn_looks tree n w s d = tt

at_look : (request : Request) (d : Data) (looking ending : List Frame) → AtLook request (d.frames ≡ looking) → IsLeft (drop 1 (counts looking)) (counts ending)
    → AreKept request (counts d.frames) (counts ending)
at_look requests.Look d looking ending same there = subst (λ (frames : List Frame). IsLeft (drop 1 (counts frames)) (counts ending)) (sym same) there
at_look _ d looking ending same there = absurd same

begins_keep : (by : Bool → Fitting) (run : Run) (looking ending : List Frame) (m : Doing Flow) (d : Data) → Begins looking ending Anything m d
    → IsLeft (drop 1 (counts looking)) (counts ending) → Keeps (counts ending) (performed by run m d [])
unfolding performed
begins_keep by run looking ending (Gives v) d b there = (refl, subst (λ (frames : List Frame). IsLeft (counts d.frames) (counts frames)) b.1 (all_left (counts d.frames)))
begins_keep by run looking ending (Raises n) d b there = absurd b
begins_keep by run looking ending (Asks request k) d b there = at_look request d looking ending b there
begins_keep by run looking ending (Ends fate) d b there = tt
begins_keep by run looking ending Misfit d b there = tt
begins_keep by run looking ending (Reads k) d b there = begins_keep by run looking ending (k d) d b there
begins_keep by run looking ending (Writes e m) d b there = begins_keep by run looking ending m e b there
begins_keep by run looking ending (Does p k h) d b there = absurd b

part_keeps : (tree : TypedTree) (n : ℕ) (p : Part) (d : Data) → Keeps (counts d.frames) (deep tree (suc n) p d [])
unfolding deep
part_keeps tree n p d =
    let first : LooksFirst (part tree p) d = part_begins tree p d in
    begins_keep (fitting_of tree) (deep tree n) first.looking d.frames (part tree p) d first.begins first.there

deep_goes : (tree : TypedTree) (n : ℕ) → GoesOn (deep tree (suc n))
deep_goes tree n = record {
  attempts = λ w s d l. attempt_looks tree n w s d l;
  turns = λ w s d. turn_looks tree n w s d;
  keeps = λ p d. part_keeps tree n p d;
  kept = deep_kept tree (suc n);
}

looks_performed : {A : Type 0} (by : Bool → Fitting) (run : Run) → GoesOn run → (m : Doing A) (d : Data) → LooksNext m → IsLooking (performed by run m d [])
unfolding performed
looks_performed by run good (Does (Attempt w s) k h) d l =
    looks_joined (run (Attempt w s) d []) (λ flow e rest. performed by run (k flow) e rest) (λ n e rest. performed by run (h n) e rest) (good.attempts w s d l)
looks_performed by run good (Does (Turn w s) k h) d l =
    looks_joined (run (Turn w s) d []) (λ flow e rest. performed by run (k flow) e rest) (λ n e rest. performed by run (h n) e rest) (good.turns w s d)
looks_performed by run good (Does (Leg w s way) k h) d l = absurd l
looks_performed by run good (Does (Rest w list more) k h) d l = absurd l
looks_performed by run good (Does (Call routine args) k h) d l = absurd l
looks_performed by run good (Gives v) d l = absurd l
looks_performed by run good (Raises n) d l = absurd l
looks_performed by run good (Asks request k) d l = absurd l
looks_performed by run good (Ends fate) d l = absurd l
looks_performed by run good Misfit d l = absurd l
looks_performed by run good (Reads k) d l = absurd l
looks_performed by run good (Writes e m) d l = absurd l

keeps_performed : {A : Type 0} (by : Bool → Fitting) (run : Run) → GoesOn run → (count : ℕ) (before : List ℕ) (m : Doing A) (d : Data) → Tidy true count before m d
    → Keeps before (performed by run m d [])
unfolding performed
keeps_performed by run good count before (Gives v) d t = (refl, t.1)
keeps_performed by run good count before (Raises n) d t = (refl, t.1)
keeps_performed by run good count before (Asks request k) d t = t.4
keeps_performed by run good count before (Ends fate) d t = tt
keeps_performed by run good count before Misfit d t = tt
keeps_performed by run good count before (Reads k) d t = keeps_performed by run good count before (k d) d t
keeps_performed by run good count before (Writes e m) d t = keeps_performed by run good count before m e t
keeps_performed by run good count before (Does p k h) d t =
    keeps_joined t.0 before (run p d []) (λ flow e rest. performed by run (k flow) e rest) (λ n e rest. performed by run (h n) e rest) (good.kept true t.0 p d [] t.1)
    (keeps_further (counts d.frames) before (run p d []) (good.keeps p d) t.4) (λ flow e room. keeps_performed by run good count (counts e.frames) (k flow) e (t.2 flow e room))
    (λ n e room. keeps_performed by run good count (counts e.frames) (h n) e (t.3 n e room))

-- ---- one more answer

abbrev IsOver : {A : Type 0} → Outcome A → Type 0
IsOver (Ended d) = ⊤
IsOver Unfit = ⊤
IsOver _ = ⊥

over_joined : {A B : Type 0} (o : Outcome A) (f : A → Data → List Answer → Outcome B) (h : ℕ → Data → List Answer → Outcome B) → IsOver o → IsOver (joined o f h)
over_joined (Ended d) f h over = tt
over_joined Unfit f h over = tt
over_joined _ f h over = absurd over

over_when : (A : Type 0) (b : Bool) (d : Data) → IsOver {A = A} (if b then Ended d else Unfit)
over_when A true d = tt
over_when A false d = tt

-- if Rise was answered Ok
abbrev OnRise : Request → Answer → Type 0 → Type 0
OnRise requests.Rise Ok P = P
OnRise _ _ P = ⊤

on_rise : (request : Request) (a : Answer) (P Q : Type 0) → (P → Q) → OnRise request a P → OnRise request a Q
on_rise requests.Rise Ok P Q f p = f p
on_rise requests.Rise _ P Q f p = tt
on_rise _ a P Q f p = tt

-- the outcome after this request, with these data, was answered
abbrev NextOf : {A : Type 0} → Answer → Request → Data → Outcome A → Type 0
NextOf a (requests.End fate) d o = IsOver o
NextOf a request d o = OnRise request a (IsLooking o) × Keeps (found request a (counts d.frames)) o

-- the second outcome is the first one after one more answer
abbrev IsNext : {A : Type 0} → Answer → Outcome A → Outcome A → Type 0
IsNext a (Asking request d) o = NextOf a request d o
IsNext a _ o = ⊤

next_asked : {A : Type 0} (by : Bool → Fitting) (more : Run) → GoesOn more → (count : ℕ) (request : Request) (a : Answer) (k : Answer → Doing A) (d : Data) → LeadsTo request (k Ok)
    → Tidy true count (found request a (counts d.frames)) (k a) d → NextOf a request d (if fits_request (by d.trapped) request a then performed by more (k a) d [] else Unfit)
next_asked by more good count (requests.End fate) a k d leads t = absurd leads
next_asked by more good count requests.Rise Ok k d leads t = (looks_performed by more good (k Ok) d leads, keeps_performed by more good count (counts d.frames) (k Ok) d t)
next_asked by more good count requests.Rise a k d leads t = (tt, tt)
next_asked by more good count request a k d leads t =
    (tt, keeps_when (found request a (counts d.frames)) (fits_request (by d.trapped) request a) (performed by more (k a) d []) (keeps_performed by more good count (found request a (counts d.frames)) (k a) d t))

next_when : {A : Type 0} (a : Answer) (b : Bool) (o p : Outcome A) → IsNext a o p → IsNext a (if b then o else Unfit) (if b then p else Unfit)
next_when a true o p n = n
next_when a false o p n = tt

next_ending : (A : Type 0) (by : Bool → Fitting) (a : Answer) (fate : Fate) (d : Data) (left : List Answer) → IsNext a (ending {A = A} by fate d left) (ending {A = A} by fate d (left ++ a ∷ []))
next_ending A by a fate d [] = over_when A (fits_request (by d.trapped) (requests.End fate) a) d
next_ending A by a fate d (b ∷ left) = next_when {A = A} a (fits_request (by d.trapped) (requests.End fate) b) (Ended d) (Ended d) tt

next_further : {A B : Type 0} (count : ℕ) (a : Answer) (request : Request) (d : Data) (p : Outcome A) (g : A → Data → List Answer → Outcome B) (i : ℕ → Data → List Answer → Outcome B)
    → Kept true count p → NextOf a request d p → ((v : A) (e : Data) → HasRoom true count e.frames → Keeps (counts e.frames) (g v e []))
    → ((n : ℕ) (e : Data) → HasRoom true count e.frames → Keeps (counts e.frames) (i n e [])) → NextOf a request d (joined p g i)
next_further count a (requests.End fate) d p g i kept next kg ki = over_joined p g i next
next_further count a request d p g i kept next kg ki =
    (on_rise request a (IsLooking p) (IsLooking (joined p g i)) (looks_joined p g i) next.0, keeps_joined count (found request a (counts d.frames)) p g i kept next.1 kg ki)

next_joined : {A B : Type 0} (by : Bool → Fitting) (a : Answer) (count : ℕ) (o p : Outcome A) (f g : A → Data → List Answer → Outcome B) (h i : ℕ → Data → List Answer → Outcome B)
    → Grows by a o p → IsNext a o p → Kept true count o → Kept true count p
    → ((v : A) (d : Data) (left : List Answer) → HasRoom true count d.frames → IsNext a (f v d left) (g v d (left ++ a ∷ [])))
    → ((n : ℕ) (d : Data) (left : List Answer) → HasRoom true count d.frames → IsNext a (h n d left) (i n d (left ++ a ∷ [])))
    → ((v : A) (d : Data) → HasRoom true count d.frames → Keeps (counts d.frames) (g v d []))
    → ((n : ℕ) (d : Data) → HasRoom true count d.frames → Keeps (counts d.frames) (i n d [])) → IsNext a (joined o f h) (joined p g i)
next_joined by a count (Gave v d left) p f g h i grown next room kept nf nh kg ki = subst (λ (x : Outcome _). IsNext a (f v d left) (joined x g i)) (sym grown) (nf v d left room)
next_joined by a count (Raised n d left) p f g h i grown next room kept nf nh kg ki = subst (λ (x : Outcome _). IsNext a (h n d left) (joined x g i)) (sym grown) (nh n d left room)
next_joined by a count (Asking request d) p f g h i grown next room kept nf nh kg ki = next_further count a request d p g i kept next kg ki
next_joined by a count (Ended d) p f g h i grown next room kept nf nh kg ki = tt
next_joined by a count Misfits p f g h i grown next room kept nf nh kg ki = tt
next_joined by a count Unfit p f g h i grown next room kept nf nh kg ki = tt
next_joined by a count NoFuel p f g h i grown next room kept nf nh kg ki = tt

abbrev NextRuns : Answer → Run → Run → Type 0
NextRuns a run more = (count : ℕ) (p : Part) (d : Data) (left : List Answer) → HasRoom true count d.frames → IsNext a (run p d left) (more p d (left ++ a ∷ []))

next_performed : {A : Type 0} (by : Bool → Fitting) (a : Answer) (run more : Run) → NextRuns a run more → RunKept run → GrowRuns by a run more → GoesOn more
    → (count : ℕ) (before : List ℕ) (m : Doing A) (d : Data) (left : List Answer) → Tidy true count before m d → IsNext a (performed by run m d left) (performed by more m d (left ++ a ∷ []))
unfolding performed
next_performed by a run more next kept grow good count before (Gives v) d left t = tt
next_performed by a run more next kept grow good count before (Raises n) d left t = tt
next_performed by a run more next kept grow good count before (Asks request k) d [] t = next_asked by more good count request a k d t.2 (t.3 a)
next_performed by a run more next kept grow good count before (Asks request k) d (b ∷ left) t =
    next_when a (fits_request (by d.trapped) request b) (performed by run (k b) d left) (performed by more (k b) d (left ++ a ∷ []))
    (next_performed by a run more next kept grow good count (found request b (counts d.frames)) (k b) d left (t.3 b))
next_performed {A} by a run more next kept grow good count before (Ends fate) d left t = next_ending A by a fate d left
next_performed by a run more next kept grow good count before Misfit d left t = tt
next_performed by a run more next kept grow good count before (Reads k) d left t = next_performed by a run more next kept grow good count before (k d) d left t
next_performed by a run more next kept grow good count before (Writes e m) d left t = next_performed by a run more next kept grow good count before m e left t
next_performed by a run more next kept grow good count before (Does p k h) d left t =
    next_joined by a t.0 (run p d left) (more p d (left ++ a ∷ [])) (λ flow e rest. performed by run (k flow) e rest) (λ flow e rest. performed by more (k flow) e rest)
    (λ n e rest. performed by run (h n) e rest) (λ n e rest. performed by more (h n) e rest) (grow p d left) (next t.0 p d left t.1) (kept true t.0 p d left t.1)
    (good.kept true t.0 p d (left ++ a ∷ []) t.1)
    (λ flow e rest room. next_performed by a run more next kept grow good count (counts e.frames) (k flow) e rest (t.2 flow e room))
    (λ n e rest room. next_performed by a run more next kept grow good count (counts e.frames) (h n) e rest (t.3 n e room))
    (λ flow e room. keeps_performed by more good count (counts e.frames) (k flow) e (t.2 flow e room)) (λ n e room. keeps_performed by more good count (counts e.frames) (h n) e (t.3 n e room))

deep_next : (tree : TypedTree) (a : Answer) (n : ℕ) → NextRuns a (deep tree n) (deep tree (suc n))
unfolding deep
deep_next tree a zero count p d left room = tt
deep_next tree a (suc n) count p d left room =
    next_performed (fitting_of tree) a (deep tree n) (deep tree (suc n)) (deep_next tree a n) (deep_kept tree n) (grows_deep tree a n) (deep_goes tree n) count ((t_part tree p).first d) (part tree p) d left
    ((t_part tree p).from true count d room)

state_with : TypedTree → List Answer → ℕ → Outcome ⊤
state_with tree answers n = performed (fitting_of tree) (deep tree n) (task tree) (initial tree) answers

next_state : (tree : TypedTree) (answers : List Answer) (a : Answer) → IsNext a (state_after tree answers) (state_after tree (answers ++ a ∷ []))
unfolding state_after state_with
next_state tree answers a =
    let n : ℕ = suc (length answers) in
    let longer : n ≡ length (answers ++ a ∷ []) = omega (arith, length-append answers (a ∷ [])) in
    subst (λ (k : ℕ). IsNext a (state_with tree answers n) (state_with tree (answers ++ a ∷ []) (suc k))) longer
    (next_performed (fitting_of tree) a (deep tree n) (deep tree (suc n)) (deep_next tree a n) (deep_kept tree n) (grows_deep tree a n) (deep_goes tree n) 0 [] (task tree) (initial tree) answers
    (task_tidy tree (initial tree) no_frames))

rise_of : (o : Outcome ⊤) → next_of o ≡ asks requests.Rise → (d : Data) × (o ≡ Asking requests.Rise d)
rise_of (Asking r d) e = let same : r ≡ requests.Rise = cc in (d, ap (λ (x : Request). Asking x d) same)
rise_of o e = absurd cc

look_of : (o : Outcome ⊤) → IsLooking o → next_of o ≡ asks requests.Look
look_of (Asking requests.Look d) l = refl
look_of (Asking _ d) l = absurd l
look_of (Gave v d left) l = absurd l
look_of (Raised n d left) l = absurd l
look_of (Ended d) l = absurd l
look_of Misfits l = absurd l
look_of Unfit l = absurd l
look_of NoFuel l = absurd l

pub looks : (tree : TypedTree) (answers : List Answer) → asked_after tree answers ≡ asks requests.Rise → asked_after tree (answers ++ Ok ∷ []) ≡ asks requests.Look
unfolding asked_after
looks tree answers is =
    let rise : (d : Data) × (state_after tree answers ≡ Asking requests.Rise d) = rise_of (state_after tree answers) is in
    let next : NextOf Ok requests.Rise rise.0 (state_after tree (answers ++ Ok ∷ [])) =
    subst (λ (o : Outcome ⊤). IsNext Ok o (state_after tree (answers ++ Ok ∷ []))) rise.1 (next_state tree answers Ok) in
    look_of (state_after tree (answers ++ Ok ∷ [])) next.0

-- any request but End
abbrev pub IsGoing : Request → Type 0
IsGoing (requests.End fate) = ⊥
IsGoing _ = ⊤

-- two requests, one after the other
pub record IsAskedNext (a : Answer) (request : Request) (d : Data) (later : Request) (e : Data) : Type 0 where
  pub going : IsGoing request
  pub kept : AreKept later (counts e.frames) (found request a (counts d.frames))

next_of_two : (a : Answer) (request : Request) (d : Data) (later : Request) (e : Data) → NextOf {A = ⊤} a request d (Asking later e) → IsAskedNext a request d later e
next_of_two a (requests.End fate) d later e next = absurd next
next_of_two a request d later e next = record { going = tt; kept = next.1 }

pub asked_next : (tree : TypedTree) (answers : List Answer) (a : Answer) (request : Request) (d : Data) (later : Request) (e : Data) → state_after tree answers ≡ Asking request d
    → state_after tree (answers ++ a ∷ []) ≡ Asking later e → IsAskedNext a request d later e
asked_next tree answers a request d later e asks_first asks_later =
    let next : IsNext a (Asking request d) (state_after tree (answers ++ a ∷ [])) =
    subst (λ (o : Outcome ⊤). IsNext a o (state_after tree (answers ++ a ∷ []))) asks_first (next_state tree answers a) in
    next_of_two a request d later e (subst (λ (o : Outcome ⊤). NextOf a request d o) asks_later next)
