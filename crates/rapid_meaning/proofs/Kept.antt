-- What a run of a task keeps, from what its doings keep.
use Rattle.std.proofs.Common.{◌≡◌, refl, subst, ℕ, zero, suc, ◌≤◌, Bool, true, false, List, [], ◌∷◌, length, Some, if◌then◌else◌}
use Rattle.std.specs.Prelude.{⊤}
use Rattle.rapid_limits.specs.declared.TheConstants.{MOST_FRAMES, MOST_FRAME_VALUES}
use Rattle.rapid_model.specs.Fits.{Fitting, fits_request}
use Rattle.rapid_model.specs.declared.answer.Answer.{Answer}
use Rattle.rapid_model.specs.declared.fate.Fate.{Fate}
use Rattle.rapid_model.specs.declared.request.Request.TheVariants.{End, Hold}
use Rattle.typed_trees.specs.Plain.{TypedTree}
use Rattle.rapid_meaning.specs.Answering.{Outcome, Gave, Raised, Asking, Ended, Misfits, Unfit, NoFuel, Run, ending, fitting_of, joined, performed}
use Rattle.rapid_meaning.specs.Calls.{part}
use Rattle.rapid_meaning.specs.Data.{Data, seen_in, values_in}
use Rattle.rapid_meaning.specs.Doings.{Doing, Gives, Raises, Asks, Ends, Misfit, Reads, Writes, Does}
use Rattle.rapid_meaning.specs.Flows.{Part}
use Rattle.rapid_meaning.specs.Frames.{initial}
use Rattle.rapid_meaning.specs.Runs.{data_after, data_in, deep, state_after, task}
use Rattle.rapid_meaning.proofs.Counts.{all_left, counts, found}
use Rattle.rapid_meaning.proofs.Room.{HasRoom, no_frames}
use Rattle.rapid_meaning.proofs.Tidy.{Fair, Roomy, Tidy, t_part}

-- it ends with this many frames, and the frames keep to their limits whenever it asks
abbrev pub Kept : {A : Type 0} → Bool → ℕ → Outcome A → Type 0
Kept limited count (Gave v d left) = HasRoom limited count d.frames
Kept limited count (Raised n d left) = HasRoom limited count d.frames
Kept limited count (Asking request d) = Roomy limited d.frames × Fair request d
Kept limited count (Ended d) = Roomy limited d.frames
Kept limited count _ = ⊤

kept_joined : {A B : Type 0} (limited : Bool) (between count : ℕ) (o : Outcome A) (f : A → Data → List Answer → Outcome B) (h : ℕ → Data → List Answer → Outcome B) → Kept limited between o
    → ((v : A) (d : Data) (left : List Answer) → HasRoom limited between d.frames → Kept limited count (f v d left))
    → ((n : ℕ) (d : Data) (left : List Answer) → HasRoom limited between d.frames → Kept limited count (h n d left)) → Kept limited count (joined o f h)
kept_joined limited between count (Gave v d left) f h k kf kh = kf v d left k
kept_joined limited between count (Raised n d left) f h k kf kh = kh n d left k
kept_joined limited between count (Asking request d) f h k kf kh = k
kept_joined limited between count (Ended d) f h k kf kh = k
kept_joined limited between count Misfits f h k kf kh = tt
kept_joined limited between count Unfit f h k kf kh = tt
kept_joined limited between count NoFuel f h k kf kh = tt

kept_when : {A : Type 0} (limited : Bool) (count : ℕ) (b : Bool) (o : Outcome A) → Kept limited count o → Kept limited count (if b then o else Unfit)
kept_when limited count true o k = k
kept_when limited count false o k = tt

kept_ending : (A : Type 0) (limited : Bool) (count : ℕ) (by : Bool → Fitting) (fate : Fate) (d : Data) (left : List Answer) → Roomy limited d.frames
    → Kept limited count (ending {A = A} by fate d left)
kept_ending A limited count by fate d [] room = (room, tt)
kept_ending A limited count by fate d (a ∷ left) room = kept_when {A = A} limited count (fits_request (by d.trapped) (End fate) a) (Ended d) room

abbrev pub RunKept : Run → Type 0
RunKept run = (limited : Bool) (count : ℕ) (p : Part) (d : Data) (left : List Answer) → HasRoom limited count d.frames → Kept limited count (run p d left)

pub kept_performed : {A : Type 0} (by : Bool → Fitting) (run : Run) → RunKept run → (limited : Bool) (count : ℕ) (before : List ℕ) (m : Doing A) (d : Data) (left : List Answer)
    → Tidy limited count before m d → Kept limited count (performed by run m d left)
unfolding performed
kept_performed by run good limited count before (Gives v) d left t = t.0
kept_performed by run good limited count before (Raises n) d left t = t.0
kept_performed by run good limited count before (Asks request k) d [] t = (t.0, t.1)
kept_performed by run good limited count before (Asks request k) d (a ∷ left) t =
    kept_when limited count (fits_request (by d.trapped) request a) (performed by run (k a) d left)
    (kept_performed by run good limited count (found request a (counts d.frames)) (k a) d left (t.3 a))
kept_performed {A} by run good limited count before (Ends fate) d left t = kept_ending A limited count by fate d left t
kept_performed by run good limited count before Misfit d left t = tt
kept_performed by run good limited count before (Reads k) d left t = kept_performed by run good limited count before (k d) d left t
kept_performed by run good limited count before (Writes e m) d left t = kept_performed by run good limited count before m e left t
kept_performed by run good limited count before (Does p k h) d left t =
    kept_joined limited t.0 count (run p d left) (λ flow e rest. performed by run (k flow) e rest) (λ n e rest. performed by run (h n) e rest) (good limited t.0 p d left t.1)
    (λ flow e rest room. kept_performed by run good limited count (counts e.frames) (k flow) e rest (t.2 flow e room))
    (λ n e rest room. kept_performed by run good limited count (counts e.frames) (h n) e rest (t.3 n e room))

pub deep_kept : (tree : TypedTree) (n : ℕ) → RunKept (deep tree n)
unfolding deep
deep_kept tree zero limited count p d left room = tt
deep_kept tree (suc n) limited count p d left room =
    kept_performed (fitting_of tree) (deep tree n) (deep_kept tree n) limited count ((t_part tree p).first d) (part tree p) d left ((t_part tree p).from limited count d room)

-- main has ended, so no frame is left
pub task_tidy : (tree : TypedTree) (d : Data) → HasRoom true 0 d.frames → Tidy true 0 (counts d.frames) (task tree) d
task_tidy tree d room = (0, room, λ flow e later. (0, later), λ n e later. (0, later), all_left (counts d.frames))

state_kept : (tree : TypedTree) (answers : List Answer) → Kept true 0 (state_after tree answers)
unfolding state_after
state_kept tree answers =
    kept_performed (fitting_of tree) (deep tree (suc (length answers))) (deep_kept tree (suc (length answers))) true 0 [] (task tree) (initial tree) answers
    (task_tidy tree (initial tree) no_frames)

room_of : {A : Type 0} (o : Outcome A) (d : Data) → Kept true 0 o → data_in o ≡ Some d → Roomy true d.frames
room_of (Asking request e) d k is = let same : e ≡ d = cc in subst (λ (x : Data). Roomy true x.frames) same k.0
room_of (Ended e) d k is = let same : e ≡ d = cc in subst (λ (x : Data). Roomy true x.frames) same k
room_of (Gave v e left) d k is = absurd cc
room_of (Raised n e left) d k is = absurd cc
room_of Misfits d k is = absurd cc
room_of Unfit d k is = absurd cc
room_of NoFuel d k is = absurd cc

pub has_room : (tree : TypedTree) (answers : List Answer) (d : Data) → data_after tree answers ≡ Some d → (length d.frames ≤ MOST_FRAMES) × (values_in d.frames ≤ MOST_FRAME_VALUES)
unfolding data_after
has_room tree answers d is = let room : Roomy true d.frames = room_of (state_after tree answers) d (state_kept tree answers) is in (room.1.few refl, room.1.small refl)

pub carries : (tree : TypedTree) (answers : List Answer) (seen : ℕ) (d : Data) → state_after tree answers ≡ Asking (Hold seen) d → seen ≡ seen_in d.frames
carries tree answers seen d is =
    let o : Outcome ⊤ = Asking (Hold seen) d in
    let kept : Kept true 0 o = subst (λ (x : Outcome ⊤). Kept true 0 x) is (state_kept tree answers) in kept.1
