-- Looks, at which a trap may run, and waits that hold.
use Rattle.std.proofs.Common.{◌≡◌, refl, sym, ◌∙◌, subst, ℕ, true, false, not, ◌&&◌, List, [], ◌∷◌, map, flat_map, Option, Some, None, slice_get, IsTrue}
use Rattle.std.proofs.lemmas.Bool.{and_parts, not-true}
use Rattle.rapid_model.specs.Fits.{fits_request}
use Rattle.rapid_model.specs.declared.answer.Answer.{Answer}
use Rattle.rapid_model.specs.declared.answer.Answer.TheVariants as answers
use Rattle.rapid_model.specs.declared.fate.Fault.TheVariants.{TrapFlood}
use Rattle.rapid_model.specs.declared.request.Request.TheVariants as requests
use Rattle.rapid_model.specs.declared.routine_kind.RoutineKind.{RoutineKind}
use Rattle.rapid_model.specs.declared.routine_kind.RoutineKind.TheVariants as kinds
use Rattle.typed_trees.specs.Plain.{TypedParam, TypedRoutine, TypedTree}
use Rattle.rapid_meaning.specs.Answering.{fitting_of, is_trap_row}
use Rattle.rapid_meaning.specs.Data.{Data, Frame, seen_in, with_seen}
use Rattle.rapid_meaning.specs.Doings.{Asks, Doing, Raises, ◌>>◌, after, change, goes_to, tells, when_ok}
use Rattle.rapid_meaning.specs.Flows.{Flow, Part, Where}
use Rattle.rapid_meaning.specs.Looks.{hold, interrupted, left, look, looked, place_of}
use Rattle.rapid_meaning.proofs.Begins.{Anything}
use Rattle.tree_typing.specs.Kinds.{Cell, cells_of, kind_of}
use Rattle.tree_typing.specs.Setting.{Setting}
use Rattle.tree_typing.specs.States.{AreFrames, AreInCells, IsState}
use Rattle.tree_typing.specs.WellTyped.{IsRoutine, TakesByKind}
use Rattle.tree_typing.proofs.Meets.{Meets}
use Rattle.tree_typing.proofs.Rows.{all_at}
use Rattle.tree_typing.proofs.Safe.{Safe, safe_change, safe_fault, safe_then, scene_of}
use Rattle.tree_typing.proofs.Scene.{Facts, Ghost, IsEnd, IsPart, frames_in, rules_of}
use Rattle.tree_typing.proofs.OwnState.{OwnState, calm, calm_itself, own_state_after}

-- goes on as a part does
abbrev pub Goes : Setting → Ghost → Part → Doing Flow → OwnState → Data → Type 0
Goes c g again m t d = Meets (rules_of c) (λ flow e. IsEnd c g again flow × IsState c.tree g.trapped (frames_in g again) e) (λ n e. IsState c.tree g.trapped (frames_in g again) e) m t d

again_goes : (c : Setting) (g : Ghost) (again : Part) (d : Data) → IsPart c g again → IsState c.tree g.trapped (frames_in g again) d → Goes c g again (goes_to again) (calm d) d
again_goes c g again d part is = (calm_itself d, g, (part, is), λ flow e ends. (calm_itself e, ends), λ n e fails. (calm_itself e, fails))

-- a trap is left
left_answered : (c : Setting) (g : Ghost) (again : Part) (e : Data) (a : Answer) → IsPart c g again → g.trapped ≡ false → IsState c.tree true (frames_in g again) e
    → IsTrue (fits_request (fitting_of c.tree e.trapped) requests.Leave a)
    → Goes c g again (after (when_ok a) (λ _. change (λ d. record d { trapped = false }) >> goes_to again) Raises) (own_state_after (calm e) requests.Leave a) e
unfolding after
left_answered c g again e answers.Ok part free is fits =
    again_goes c g again (record e { trapped = false }) part (record { slots = is.slots; frames_are = is.frames_are; called = is.called; in_trap = sym free })
left_answered c g again e a part free is fits = absurd cc

left_goes : (c : Setting) (g : Ghost) (again : Part) (e : Data) → IsPart c g again → g.trapped ≡ false → IsState c.tree true (frames_in g again) e → Goes c g again (left again) (calm e) e
unfolding after
left_goes c g again e part free is = (
  record { rises = refl; same = refl; asked = record { asked = is.in_trap; trapped = true; frames = frames_in g again; state = is } },
  refl,
  λ a fits. left_answered c g again e a part free is fits,
)

-- the routine of a trap
trap_there : (o : Option TypedRoutine) → IsTrue (is_trap_row o) → (routine : TypedRoutine) × (o ≡ Some routine) × (routine.kind ≡ kinds.Trap)
trap_there None is = absurd cc
trap_there (Some routine) is = (routine, refl, by_kind routine.kind is)
  where
    by_kind : (kind : RoutineKind) → IsTrue (is_trap_row (Some (record routine { kind = kind }))) → kind ≡ kinds.Trap
    by_kind kinds.Trap is = refl
    by_kind kinds.Proc is = absurd cc
    by_kind kinds.Func is = absurd cc

takes_nothing : (tree : TypedTree) (frames : List (List Cell)) (routine : TypedRoutine) → routine.kind ≡ kinds.Trap → TakesByKind routine.kind routine.params
    → AreInCells tree frames (flat_map cells_of (map kind_of routine.params)) []
takes_nothing tree frames routine trap takes =
    let none : routine.params ≡ [] = subst (λ (k : RoutineKind). TakesByKind k routine.params) trap takes in
    subst (λ (ps : List TypedParam). AreInCells tree frames (flat_map cells_of (map kind_of ps)) []) (sym none) tt

-- a trap runs at once
interrupted_goes : (c : Setting) (facts : Facts c) (g : Ghost) (again : Part) (trap : ℕ) (d : Data) → IsPart c g again → IsState c.tree g.trapped (frames_in g again) d
    → IsTrue (is_trap_row (slice_get c.tree.routines trap) && not d.trapped) → Goes c g again (interrupted again trap) (record { held = false; trapped = true }) d
unfolding after
interrupted_goes c facts g again trap d part is fits =
    let both : IsTrue (is_trap_row (slice_get c.tree.routines trap)) × IsTrue (not d.trapped) = and_parts (is_trap_row (slice_get c.tree.routines trap)) (not d.trapped) fits in
    let there : (routine : TypedRoutine) × (slice_get c.tree.routines trap ≡ Some routine) × (routine.kind ≡ kinds.Trap) = trap_there (slice_get c.tree.routines trap) both.0 in
    let routine : IsRoutine c there.0 = all_at (IsRoutine c) c.tree.routines trap there.0 facts.routines there.1 in
    let free : g.trapped ≡ false = sym is.in_trap ∙ not-true d.trapped both.1 in (
      record { not_held = refl; same = refl },
      record { trapped = true; frames = frames_in g again; lists = [] },
      ((there.0, there.1, takes_nothing c.tree (frames_in g again) there.0 there.2 routine.takes), record { slots = is.slots; frames_are = is.frames_are; called = is.called; in_trap = refl }),
      λ flow e ends. left_goes c g again e part free ends.1,
      λ n e fails. record { rises = refl; same = refl; asked = record { asked = refl; trapped = true; frames = frames_in g again; state = fails } },
    )

seen_frames : (tree : TypedTree) (frames : List (List Cell)) (fs : List Frame) (seen : ℕ) → AreFrames tree frames fs → AreFrames tree frames (with_seen seen fs)
seen_frames tree [] [] seen are = are
seen_frames tree [] (f ∷ fs) seen are = are
seen_frames tree (cells ∷ frames) [] seen are = are
seen_frames tree (cells ∷ frames) (f ∷ fs) seen are = are

looked_goes : (c : Setting) (facts : Facts c) (g : Ghost) (again : Part) (go : Doing Flow) (a : Answer) (d : Data) → IsPart c g again → Safe (scene_of c facts g again) (IsEnd c g again) go
    → IsState c.tree g.trapped (frames_in g again) d → IsTrue (fits_request (fitting_of c.tree d.trapped) requests.Look a) → Goes c g again (looked again go a) (own_state_after (calm d) requests.Look a) d
looked_goes c facts g again go (answers.Go seen) d part safe is fits =
    safe_then (scene_of c facts g again) Anything (IsEnd c g again) (change (λ e. record e { frames = with_seen seen e.frames })) (λ _. go)
    (safe_change (scene_of c facts g again) (λ e. record e { frames = with_seen seen e.frames })
    (λ e ie. record { slots = ie.slots; frames_are = seen_frames c.tree (frames_in g again) e.frames seen ie.frames_are; called = ie.called; in_trap = ie.in_trap }))
    (λ _ _. safe) d is
looked_goes c facts g again go (answers.Trap number trap) d part safe is fits = interrupted_goes c facts g again trap d part is fits
looked_goes c facts g again go answers.Flood d part safe is fits = safe_fault (scene_of c facts g again) (IsEnd c g again) TrapFlood d is
looked_goes c facts g again go a d part safe is fits = absurd cc

pub look_safe : (c : Setting) (facts : Facts c) (g : Ghost) (again : Part) (w : Where) (byte : ℕ) (go : Doing Flow) → IsPart c g again → Safe (scene_of c facts g again) (IsEnd c g again) go
    → Safe (scene_of c facts g again) (IsEnd c g again) (look w byte again go)
look_safe c facts g again w byte go part safe =
    safe_then (scene_of c facts g again) Anything (IsEnd c g again) (change (λ d. record d { place = place_of w byte })) (λ _. Asks requests.Look (looked again go))
    (safe_change (scene_of c facts g again) (λ d. record d { place = place_of w byte }) (λ d is. record { slots = is.slots; frames_are = is.frames_are; called = is.called; in_trap = is.in_trap }))
    (λ _ _ d is. (
      record { rises = refl; same = refl; asked = record { asked = tt; trapped = g.trapped; frames = frames_in g again; state = is } },
      refl,
      λ a fits. looked_goes c facts g again go a d part safe is fits,
    ))

-- a wait holds and rises
risen_answered : (c : Setting) (g : Ghost) (again : Part) (d : Data) (a : Answer) → IsPart c g again → IsState c.tree g.trapped (frames_in g again) d
    → IsTrue (fits_request (fitting_of c.tree d.trapped) requests.Rise a)
    → Goes c g again (after (when_ok a) (λ _. goes_to again) Raises) (own_state_after (record { held = true; trapped = d.trapped }) requests.Rise a) d
unfolding after
risen_answered c g again d answers.Ok part is fits = again_goes c g again d part is
risen_answered c g again d a part is fits = absurd cc

held_answered : (c : Setting) (g : Ghost) (again : Part) (d : Data) (seen : ℕ) (a : Answer) → IsPart c g again → IsState c.tree g.trapped (frames_in g again) d
    → IsTrue (fits_request (fitting_of c.tree d.trapped) (requests.Hold seen) a)
    → Goes c g again (after (when_ok a) (λ _. tells requests.Rise >> goes_to again) Raises) (own_state_after (calm d) (requests.Hold seen) a) d
unfolding after
held_answered c g again d seen answers.Ok part is fits = (
  record { rises = refl; same = refl; asked = record { asked = tt; trapped = g.trapped; frames = frames_in g again; state = is } },
  refl,
  λ a fits. risen_answered c g again d a part is fits,
)
held_answered c g again d seen a part is fits = absurd cc

pub hold_safe : (c : Setting) (facts : Facts c) (g : Ghost) (again : Part) → IsPart c g again → Safe (scene_of c facts g again) (IsEnd c g again) (hold again)
unfolding after
hold_safe c facts g again part d is = (
  record { rises = refl; same = refl; asked = record { asked = tt; trapped = g.trapped; frames = frames_in g again; state = is } },
  refl,
  λ a fits. held_answered c g again d (seen_in d.frames) a part is fits,
)
