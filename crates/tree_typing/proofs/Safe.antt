-- Doings that keep the types of data, and have the result that is claimed.
use Rattle.std.proofs.Common.{◌≡◌, refl, sym, ap, ◌∙◌, subst, ℕ, Bool, true, false, Option, Some, None, if◌then◌else◌, IsTrue}
use Rattle.rapid_model.specs.Fits.{fits_request}
use Rattle.rapid_model.specs.Own.{fate_of, is_hold, is_leave, is_rise, is_trap}
use Rattle.rapid_model.specs.Requests.{may_tell}
use Rattle.rapid_model.specs.declared.answer.Answer.{Answer}
use Rattle.rapid_model.specs.declared.fate.Fate.{Fate}
use Rattle.rapid_model.specs.declared.fate.Fault.{Fault}
use Rattle.rapid_model.specs.declared.request.Request.{Request}
use Rattle.rapid_meaning.specs.Answering.{fitting_of}
use Rattle.rapid_meaning.specs.Data.{Data}
use Rattle.rapid_meaning.specs.Doings.{Doing, Gives, Raises, Asks, Ends, Reads, Does, ◌>>=◌, after, change, done, fault, goes_to, or_misfit}
use Rattle.rapid_meaning.specs.Flows.{Flow, Part}
use Rattle.rapid_meaning.proofs.Begins.{Anything}
use Rattle.tree_typing.specs.Asked.{IsAsked}
use Rattle.tree_typing.specs.Setting.{Setting}
use Rattle.tree_typing.proofs.Meets.{Meets, meets_after}
use Rattle.tree_typing.proofs.Scene.{Facts, Ghost, InScene, IsEnd, IsPart, Scene, frames_in, rules_of}
use Rattle.tree_typing.proofs.OwnState.{OwnState, calm, calm_itself, own_state_after}

abbrev pub Safe : {A : Type 0} → Scene → (A → Type 0) → Doing A → Type 0
Safe s P m = (d : Data) → InScene s d → Meets (rules_of s.c) (λ v e. P v × InScene s e) (λ n e. InScene s e) m (calm d) d

pub safe_gives : {A : Type 0} (s : Scene) (P : A → Type 0) (v : A) → P v → Safe s P (Gives v)
safe_gives s P v p d is = (calm_itself d, (p, is))

pub safe_any : {A : Type 0} (s : Scene) (v : A) → Safe s Anything (Gives v)
safe_any s v = safe_gives s Anything v tt

pub safe_done : (s : Scene) → Safe s Anything done
safe_done s d is = (calm_itself d, (tt, is))

pub safe_raises : {A : Type 0} (s : Scene) (P : A → Type 0) (n : ℕ) → Safe s P (Raises n)
safe_raises s P n d is = (calm_itself d, is)

pub safe_ends : {A : Type 0} (s : Scene) (P : A → Type 0) (fate : Fate) → IsTrue (may_tell fate) → Safe s P (Ends fate)
safe_ends s P fate tells d is = record { rises = refl; same = refl; asked = record { asked = tells; trapped = s.trapped; frames = s.frames; state = is } }

pub safe_fault : {A : Type 0} (s : Scene) (P : A → Type 0) (f : Fault) → Safe s P (fault f)
safe_fault s P f d is = record { rises = refl; same = refl; asked = record { asked = refl; trapped = s.trapped; frames = s.frames; state = is } }

pub safe_after : {A B : Type 0} (s : Scene) (P : A → Type 0) (Q : B → Type 0) (m : Doing A) (f : A → Doing B) (h : ℕ → Doing B)
    → Safe s P m → ((v : A) → P v → Safe s Q (f v)) → ((n : ℕ) → Safe s Q (h n)) → Safe s Q (after m f h)
safe_after s P Q m f h safe sf sh d is =
    meets_after (rules_of s.c) (λ v e. P v × InScene s e) (λ n e. InScene s e) (λ v e. Q v × InScene s e) (λ n e. InScene s e) m f h (calm d) d
    (λ v e p. sf v p.0 e p.1) (λ n e p. sh n e p) (safe d is)

pub safe_then : {A B : Type 0} (s : Scene) (P : A → Type 0) (Q : B → Type 0) (m : Doing A) (f : A → Doing B) → Safe s P m → ((v : A) → P v → Safe s Q (f v)) → Safe s Q (m >>= f)
safe_then s P Q m f safe sf = safe_after s P Q m f Raises safe sf (safe_raises s Q)

pub safe_reads : {A : Type 0} (s : Scene) (P : A → Type 0) (k : Data → Doing A) → ((d : Data) → InScene s d → Safe s P (k d)) → Safe s P (Reads k)
safe_reads s P k safe d is = safe d is d is

pub same_own_state : (s : Scene) (d e : Data) → InScene s d → InScene s e → calm e ≡ calm d
same_own_state s d e id ie = ap (λ (b : Bool). let t : OwnState = record { held = false; trapped = b } in t) (ie.in_trap ∙ sym id.in_trap)

pub safe_writes : {A : Type 0} (s : Scene) (P : A → Type 0) (m : Doing A) (d e : Data) → InScene s d → InScene s e → Safe s P m
    → Meets (rules_of s.c) (λ v x. P v × InScene s x) (λ n x. InScene s x) m (calm d) e
safe_writes s P m d e id ie safe = subst (λ (t : OwnState). Meets (rules_of s.c) (λ v x. P v × InScene s x) (λ n x. InScene s x) m t e) (same_own_state s d e id ie) (safe e ie)

pub safe_change : (s : Scene) (to : Data → Data) → ((d : Data) → InScene s d → InScene s (to d)) → Safe s Anything (change to)
safe_change s to keeps d is = safe_writes s Anything done d (to d) is (keeps d is) (safe_done s)

-- a request that is neither Hold, nor Rise, nor Leave, nor End
pub record IsQuiet (request : Request) : Type 0 where
  pub no_rise : is_rise request ≡ false
  pub no_hold : is_hold request ≡ false
  pub no_leave : is_leave request ≡ false
  pub no_end : fate_of request ≡ None

quiet_own_state : (request : Request) (a : Answer) (d : Data) → IsQuiet request → is_trap a ≡ false → calm d ≡ own_state_after (calm d) request a
quiet_own_state request a d quiet untrapped =
    ap (λ (b : Bool). let t : OwnState = record { held = b; trapped = d.trapped } in t) (sym quiet.no_hold)
    ∙ ap (λ (b : Bool). let t : OwnState = record { held = is_hold request; trapped = b } in t)
    (ap (λ (b : Bool). if b then false else d.trapped) (sym quiet.no_leave) ∙ ap (λ (b : Bool). if b then true else if is_leave request then false else d.trapped) (sym untrapped))

-- each answer that fits is no trap, and goes on well
abbrev pub Answered : {A : Type 0} → Scene → (A → Type 0) → Request → (Answer → Doing A) → Type 0
Answered s P request k = (trapped : Bool) (a : Answer) → IsTrue (fits_request (fitting_of s.c.tree trapped) request a) → (is_trap a ≡ false) × Safe s P (k a)

-- a request that may be asked of data of the scene
pub safe_asks_in : {A : Type 0} (s : Scene) (P : A → Type 0) (request : Request) (k : Answer → Doing A) → IsQuiet request → ((d : Data) → InScene s d → IsAsked s.c d request)
    → Answered s P request k → Safe s P (Asks request k)
safe_asks_in s P request k quiet asked answered d is = (
  record { rises = quiet.no_rise; same = refl; asked = record { asked = asked d is; trapped = s.trapped; frames = s.frames; state = is } },
  quiet.no_end,
  λ a fits.
      subst (λ (t : OwnState). Meets (rules_of s.c) (λ v x. P v × InScene s x) (λ n x. InScene s x) (k a) t d) (quiet_own_state request a d quiet (answered d.trapped a fits).0)
      ((answered d.trapped a fits).1 d is),
)

pub safe_asks : {A : Type 0} (s : Scene) (P : A → Type 0) (request : Request) (k : Answer → Doing A) → IsQuiet request → ((d : Data) → IsAsked s.c d request) → Answered s P request k
    → Safe s P (Asks request k)
safe_asks s P request k quiet asked answered = safe_asks_in s P request k quiet (λ d _. asked d) answered

-- what exists
pub safe_or : {A : Type 0} (s : Scene) (P : A → Type 0) (o : Option A) (v : A) → o ≡ Some v → P v → Safe s P (or_misfit o)
safe_or s P o v e p = subst (λ (x : Option _). Safe s P (or_misfit x)) (sym e) (safe_gives s P v p)

-- the scene of a part
abbrev pub scene_of : (c : Setting) → Facts c → Ghost → Part → Scene
scene_of c facts g p = record { c = c; facts = facts; trapped = g.trapped; frames = frames_in g p }

pub safe_does : {A : Type 0} (c : Setting) (facts : Facts c) (g : Ghost) (p : Part) (P : A → Type 0) (k : Flow → Doing A) (h : ℕ → Doing A) → IsPart c g p
    → ((flow : Flow) → IsEnd c g p flow → Safe (scene_of c facts g p) P (k flow)) → ((n : ℕ) → Safe (scene_of c facts g p) P (h n)) → Safe (scene_of c facts g p) P (Does p k h)
safe_does c facts g p P k h part sk sh d is = (calm_itself d, g, (part, is), λ flow e ends. sk flow ends.0 e ends.1, λ n e fails. sh n e fails)

pub safe_goes : (c : Setting) (facts : Facts c) (g : Ghost) (p : Part) → IsPart c g p → Safe (scene_of c facts g p) (IsEnd c g p) (goes_to p)
safe_goes c facts g p part = safe_does c facts g p (IsEnd c g p) Gives Raises part (λ flow ends. safe_gives (scene_of c facts g p) (IsEnd c g p) flow ends) (safe_raises (scene_of c facts g p) (IsEnd c g p))
