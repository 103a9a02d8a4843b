-- A task's own events give its state: held just after Hold, in a trap as its data say, and not past its End.
use Rattle.std.proofs.Common.{◌≡◌, refl, sym, ap, ◌∙◌, subst, ℕ, Bool, true, false, not, ◌&&◌, List, [], ◌∷◌, ◌++◌, length, map, Option, Some, None, slice_get, IsTrue, append_assoc}
use Rattle.std.specs.Prelude.{⊤}
use Rattle.std.proofs.lemmas.List.{append-nil}
use Rattle.rapid_num.specs.declared.joints.Joints.{Joints}
use Rattle.rapid_model.specs.CellData.{CellData}
use Rattle.rapid_model.specs.Fits.{fits_request}
use Rattle.rapid_model.specs.Own.{fate_of, has_ended, is_held, is_rise, is_trapped}
use Rattle.rapid_model.specs.Requests.{goes_with, suits_actor, suits_task}
use Rattle.rapid_model.specs.declared.answer.Answer.{Answer}
use Rattle.rapid_model.specs.declared.event.Event.{Event}
use Rattle.rapid_model.specs.declared.fate.Fate.{Fate}
use Rattle.rapid_model.specs.declared.request.Request.{Request}
use Rattle.rapid_model.specs.declared.request.Request.TheVariants as requests
use Rattle.rapid_model.specs.declared.task_row.TaskRow.{TaskRow}
use Rattle.rapid_model.proofs.OwnEvents.{is_held-more}
use Rattle.typed_trees.specs.Plain.{TypedTree}
use Rattle.rapid_meaning.specs.Answering.{Outcome, Gave, Raised, Asking, Ended, Misfits, Unfit, NoFuel, fitting_of}
use Rattle.rapid_meaning.specs.Data.{Data}
use Rattle.rapid_meaning.specs.Frames.{initial}
use Rattle.rapid_meaning.specs.Runs.{Next, asks, asked_after, next_of, state_after}
use Rattle.rapid_meaning.proofs.Fuel.{enough}
use Rattle.rapid_meaning.proofs.Growth.{refuses, stays_ended, stays_unfit}
use Rattle.tree_typing.specs.Asked.{IsAsked}
use Rattle.tree_typing.specs.Numbered.{Numbered}
use Rattle.tree_typing.specs.OwnEvents.{AreOwn, event_of, events_behind, own_events}
use Rattle.tree_typing.specs.Setting.{Setting}
use Rattle.tree_typing.specs.WellTyped.{WellTyped}
use Rattle.tree_typing.proofs.Events.{AreTraps, IsBalanced, balanced_last, going_last, in_order, told_trapped, traps_last}
use Rattle.tree_typing.proofs.Meets.{Due}
use Rattle.tree_typing.proofs.Scene.{rules_of}
use Rattle.tree_typing.proofs.Steps.{Behind, Follows, Stands}
use Rattle.tree_typing.proofs.Suits.{has_axes, is_armed, suits}
use Rattle.tree_typing.proofs.OwnState.{OwnState, calm, own_state_after}
use Rattle.tree_typing.proofs.Whole.{ComesTo, asked, first_stands, next_follows, state_comes}

-- ---- a well typed task with its cell's numbers

pub record Task : Type 0 where
  pub signals : ℕ
  pub cell : CellData
  pub number : ℕ
  pub tree : TypedTree
  pub typed : WellTyped signals tree
  pub numbered : Numbered cell number tree

abbrev pub setting_of : Task → Setting
setting_of t = record { signals = t.signals; tree = t.tree }

-- something is asked
pub record IsAsking (o : Outcome ⊤) : Type 0 where
  pub request : Request
  pub standing : Data
  pub is : o ≡ Asking request standing

-- after an answer that fitted, something was asked before it
asked_by : (t : Task) (before : List Answer) (a : Answer) (o : Outcome ⊤) → state_after t.tree before ≡ o → ComesTo (setting_of t) o → IsAsking (state_after t.tree (before ++ a ∷ [])) → IsAsking o
asked_by t before a (Asking request d) e comes later = record { request = request; standing = d; is = refl }
asked_by t before a (Ended d) e comes later =
    let over : Ended d ≡ Asking later.request later.standing = sym (stays_ended t.tree before a d e) ∙ later.is in absurd cc
asked_by t before a Unfit e comes later =
    let over : Unfit ≡ Asking later.request later.standing = sym (stays_unfit t.tree before a e) ∙ later.is in absurd cc
asked_by t before a (Gave v d left) e comes later = absurd comes
asked_by t before a (Raised n d left) e comes later = absurd comes
asked_by t before a Misfits e comes later = absurd comes
asked_by t before a NoFuel e comes later = absurd (enough t.tree before e)

asked_before : (t : Task) (before : List Answer) (a : Answer) → IsAsking (state_after t.tree (before ++ a ∷ [])) → IsAsking (state_after t.tree before)
asked_before t before a later =
    asked_by t before a (state_after t.tree before) refl (state_comes t.signals t.cell t.number t.tree before t.typed t.numbered) later

asked_within : (t : Task) (left before : List Answer) → IsAsking (state_after t.tree (before ++ left)) → IsAsking (state_after t.tree before)
asked_within t [] before later = subst (λ (x : List Answer). IsAsking (state_after t.tree x)) (append-nil before) later
asked_within t (a ∷ left) before later =
    asked_before t before a (asked_within t left (before ++ a ∷ []) (subst (λ (x : List Answer). IsAsking (state_after t.tree x)) (sym (append_assoc before (a ∷ []) left)) later))

-- the answer fitted
fits_last : (t : Task) (before : List Answer) (a : Answer) (request : Request) (d : Data) (fits : Bool) → state_after t.tree before ≡ Asking request d
    → fits_request (fitting_of t.tree d.trapped) request a ≡ fits → IsAsking (state_after t.tree (before ++ a ∷ [])) → fits ≡ true
fits_last t before a request d true asking e later = refl
fits_last t before a request d false asking e later =
    let over : Unfit ≡ Asking later.request later.standing = sym (refuses t.tree before a request d asking e) ∙ later.is in absurd cc

-- these events give the state of the task after these answers, when it asks
pub record Tells (tree : TypedTree) (answers : List Answer) (mine : List Event) : Type 0 where
  pub request : Request
  pub standing : Data
  pub asking : state_after tree answers ≡ Asking request standing
  pub held : is_held mine ≡ is_rise request
  pub balanced : IsBalanced mine standing.trapped
  pub going : has_ended mine ≡ false
  pub traps : AreTraps tree mine

abbrev pub StandsSo : Task → OwnState → Outcome ⊤ → Type 0
StandsSo t told o = Stands (rules_of (setting_of t)) (λ (v : ⊤) d. ⊥) (λ n d. ⊥) told o

-- a task in such a state asks
pub record IsDueSo (t : Task) (told : OwnState) (o : Outcome ⊤) : Type 0 where
  pub request : Request
  pub standing : Data
  pub is : o ≡ Asking request standing
  pub due : Due (rules_of (setting_of t)) told standing request

due_of : (t : Task) (told : OwnState) (answers : List Answer) (o : Outcome ⊤) → state_after t.tree answers ≡ o → StandsSo t told o → IsDueSo t told o
due_of t told answers (Asking request d) e stands = record { request = request; standing = d; is = refl; due = stands }
due_of t told answers (Gave v d left) e stands = absurd stands.2
due_of t told answers (Raised n d left) e stands = absurd stands.2
due_of t told answers (Ended d) e stands = absurd stands
due_of t told answers Misfits e stands = absurd stands
due_of t told answers Unfit e stands = absurd stands
due_of t told answers NoFuel e stands = absurd (enough t.tree answers e)

pub due_after : (t : Task) (told : OwnState) (answers : List Answer) → StandsSo t told (state_after t.tree answers) → IsDueSo t told (state_after t.tree answers)
due_after t told answers stands = due_of t told answers (state_after t.tree answers) refl stands

pub first_own_state : (t : Task) → Tells t.tree [] []
first_own_state t =
    let first : IsDueSo t (calm (initial t.tree)) (state_after t.tree []) =
    due_after t (calm (initial t.tree)) [] (first_stands t.signals t.cell t.number t.tree t.typed t.numbered) in
    record {
      request = first.request;
      standing = first.standing;
      asking = first.is;
      held = sym first.due.rises;
      balanced = subst (λ (b : Bool). IsBalanced [] b) first.due.same refl;
      going = refl;
      traps = λ trap no. absurd cc;
    }

-- the event by which the task goes on
abbrev pub event_now : (t : Task) (before : List Answer) (mine : List Event) → Tells t.tree before mine → Answer → Event
event_now t before mine tells a = record { actor = t.number; request = tells.request; answer = a }

pub behind_next : (t : Task) (before : List Answer) (a : Answer) (mine : List Event) (tells : Tells t.tree before mine)
    → IsTrue (fits_request (fitting_of t.tree tells.standing.trapped) tells.request a)
    → Behind (rules_of (setting_of t)) (λ (v : ⊤) d. ⊥) (λ n d. ⊥) (fate_of tells.request) (own_state_after (calm tells.standing) tells.request a) tells.standing
    (state_after t.tree (before ++ a ∷ []))
behind_next t before a mine tells fits =
    let follows : Follows (rules_of (setting_of t)) (λ (v : ⊤) x. ⊥) (λ n x. ⊥) a (Asking tells.request tells.standing) (state_after t.tree (before ++ a ∷ [])) =
    subst (λ (o : Outcome ⊤). Follows (rules_of (setting_of t)) (λ (v : ⊤) x. ⊥) (λ n x. ⊥) a o (state_after t.tree (before ++ a ∷ []))) tells.asking
    (next_follows t.signals t.cell t.number t.tree before a t.typed t.numbered) in
    follows fits

pub own_state_next : (t : Task) (before : List Answer) (a : Answer) (mine : List Event) (tells : Tells t.tree before mine)
    → IsTrue (fits_request (fitting_of t.tree tells.standing.trapped) tells.request a) → fate_of tells.request ≡ None
    → IsDueSo t (own_state_after (calm tells.standing) tells.request a) (state_after t.tree (before ++ a ∷ [])) → Tells t.tree (before ++ a ∷ []) (mine ++ event_now t before mine tells a ∷ [])
own_state_next t before a mine tells fits untold next =
    let d : Data = tells.standing in
    let e : Event = event_now t before mine tells a in
    let may : IsAsked (setting_of t) d tells.request = asked t.signals t.cell t.number t.tree before tells.request d t.typed t.numbered tells.asking in
    record {
      request = next.request;
      standing = next.standing;
      asking = next.is;
      held = is_held-more mine e ∙ sym next.due.rises;
      balanced = subst (λ (b : Bool). IsBalanced (mine ++ e ∷ []) b) next.due.same (balanced_last mine e d.trapped (in_order (setting_of t) d tells.request a may fits) tells.balanced);
      going = going_last mine e untold tells.going;
      traps = traps_last (setting_of t) d mine e may tells.traps;
    }

-- after a request with a fate the task has ended
behind_last : (t : Task) (told : OwnState) (fate : Option Fate) (d : Data) (o : Outcome ⊤) → IsAsking o → Behind (rules_of (setting_of t)) (λ (v : ⊤) x. ⊥) (λ n x. ⊥) fate told d o
    → (fate ≡ None) × StandsSo t told o
behind_last t told None d o later behind = (refl, behind)
behind_last t told (Some fate) d o later behind = let over : Ended d ≡ Asking later.request later.standing = sym behind ∙ later.is in absurd cc

pub asks_it : (tree : TypedTree) (answers : List Answer) (request : Request) (d : Data) → state_after tree answers ≡ Asking request d → asked_after tree answers ≡ asks request
unfolding asked_after
asks_it tree answers request d e = ap next_of e

next_own_state : (t : Task) (before : List Answer) (a : Answer) (mine : List Event) → Tells t.tree before mine → IsAsking (state_after t.tree (before ++ a ∷ []))
    → Tells t.tree (before ++ a ∷ []) (mine ++ event_of t.number (asked_after t.tree before) a)
next_own_state t before a mine tells later =
    let request : Request = tells.request in
    let d : Data = tells.standing in
    let told : OwnState = own_state_after (calm d) request a in
    let fits : IsTrue (fits_request (fitting_of t.tree d.trapped) request a) =
    fits_last t before a request d (fits_request (fitting_of t.tree d.trapped) request a) tells.asking refl later in
    let last : (fate_of request ≡ None) × StandsSo t told (state_after t.tree (before ++ a ∷ [])) =
    behind_last t told (fate_of request) d (state_after t.tree (before ++ a ∷ [])) later (behind_next t before a mine tells fits) in
    subst (λ (next : Next). Tells t.tree (before ++ a ∷ []) (mine ++ event_of t.number next a)) (sym (asks_it t.tree before request d tells.asking))
    (own_state_next t before a mine tells fits last.0 (due_after t told (before ++ a ∷ []) last.1))

all_own : (t : Task) (left before : List Answer) (mine : List Event) → Tells t.tree before mine → IsAsking (state_after t.tree (before ++ left))
    → Tells t.tree (before ++ left) (mine ++ events_behind t.number t.tree before left)
all_own t [] before mine tells later = subst (λ (x : List Answer). Tells t.tree x (mine ++ [])) (sym (append-nil before)) (subst (λ (x : List Event). Tells t.tree before x) (sym (append-nil mine)) tells)
all_own t (a ∷ left) before mine tells later =
    let one : List Event = event_of t.number (asked_after t.tree before) a in
    let over : IsAsking (state_after t.tree ((before ++ a ∷ []) ++ left)) = subst (λ (x : List Answer). IsAsking (state_after t.tree x)) (sym (append_assoc before (a ∷ []) left)) later in
    let told : Tells t.tree ((before ++ a ∷ []) ++ left) ((mine ++ one) ++ events_behind t.number t.tree (before ++ a ∷ []) left) =
    all_own t left (before ++ a ∷ []) (mine ++ one) (next_own_state t before a mine tells (asked_within t left (before ++ a ∷ []) over)) over in
    subst (λ (x : List Answer). Tells t.tree x (mine ++ (one ++ events_behind t.number t.tree (before ++ a ∷ []) left))) (append_assoc before (a ∷ []) left)
    (subst (λ (x : List Event). Tells t.tree ((before ++ a ∷ []) ++ left) x) (append_assoc mine one (events_behind t.number t.tree (before ++ a ∷ []) left)) told)

pub asks_as_tree : (t : Task) (answers : List Answer) → IsAsking (state_after t.tree answers) → Tells t.tree answers (own_events t.number t.tree answers)
asks_as_tree t answers later = all_own t answers [] [] (first_own_state t) later

-- ---- what may be asked

all_of : (over held rise suits : Bool) → over ≡ false → held ≡ rise → suits ≡ true → (not over && goes_with held rise && suits) ≡ true
all_of false true true true going same is = refl
all_of false false false true going same is = refl
all_of true held rise suits going same is = absurd cc
all_of false true false suits going same is = absurd cc
all_of false false true suits going same is = absurd cc
all_of false held rise false going same is = absurd cc

asking_of : (o : Outcome ⊤) (request : Request) → next_of o ≡ asks request → (d : Data) × (o ≡ Asking request d)
asking_of (Asking r d) request e = let same : r ≡ request = cc in (d, ap (λ (x : Request). Asking x d) same)
asking_of o request e = absurd cc

pub is_asking : (tree : TypedTree) (answers : List Answer) (request : Request) → asked_after tree answers ≡ asks request → (d : Data) × (state_after tree answers ≡ Asking request d)
unfolding asked_after
is_asking tree answers request e = asking_of (state_after tree answers) request e

same_asked : (o : Outcome ⊤) (r s : Request) (d e : Data) → o ≡ Asking r d → o ≡ Asking s e → (r ≡ s) × (d ≡ e)
same_asked o r s d e first second = let one : Asking r d ≡ Asking s e = sym first ∙ second in (cc, cc)

pub may_be_asked : (cell : CellData) (number : ℕ) (row : TaskRow) (tree : TypedTree) (answers : List Answer) (request : Request) → slice_get cell.tasks number ≡ Some row
    → WellTyped (length cell.signals) tree → Numbered cell number tree → asked_after tree answers ≡ asks request
    → IsTrue (suits_actor cell number (own_events number tree answers) request)
may_be_asked cell number row tree answers request there typed numbered asking =
    let t : Task = record { signals = length cell.signals; cell = cell; number = number; tree = tree; typed = typed; numbered = numbered } in
    let mine : List Event = own_events number tree answers in
    let now : (d : Data) × (state_after tree answers ≡ Asking request d) = is_asking tree answers request asking in
    let tells : Tells tree answers mine = asks_as_tree t answers (record { request = request; standing = now.0; is = now.1 }) in
    let same : (tells.request ≡ request) × (tells.standing ≡ now.0) = same_asked (state_after tree answers) tells.request request tells.standing now.0 tells.asking now.1 in
    let trapped : is_trapped mine ≡ now.0.trapped =
    told_trapped mine tells.standing.trapped tells.balanced ∙ ap (λ (d : Data). d.trapped) same.1 in
    rw there
    (all_of (has_ended mine) (is_held mine) (is_rise request) (suits_task cell row mine request) tells.going (tells.held ∙ ap is_rise same.0)
    (suits cell number row mine (setting_of t) now.0 request refl (is_armed cell number row tree there numbered) (has_axes cell number row tree there numbered) numbered trapped (asked (length cell.signals) cell number tree answers request now.0 typed numbered now.1)))

-- no setpoint is asked for in a trap
pub no_trap : (cell : CellData) (number : ℕ) (tree : TypedTree) (answers : List Answer) (to : Joints) → WellTyped (length cell.signals) tree → Numbered cell number tree
    → asked_after tree answers ≡ asks (requests.Setpoint to) → is_trapped (own_events number tree answers) ≡ false
no_trap cell number tree answers to typed numbered asking =
    let t : Task = record { signals = length cell.signals; cell = cell; number = number; tree = tree; typed = typed; numbered = numbered } in
    let mine : List Event = own_events number tree answers in
    let now : (d : Data) × (state_after tree answers ≡ Asking (requests.Setpoint to) d) = is_asking tree answers (requests.Setpoint to) asking in
    let tells : Tells tree answers mine = asks_as_tree t answers (record { request = requests.Setpoint to; standing = now.0; is = now.1 }) in
    let same : (tells.request ≡ requests.Setpoint to) × (tells.standing ≡ now.0) =
    same_asked (state_after tree answers) tells.request (requests.Setpoint to) tells.standing now.0 tells.asking now.1 in
    told_trapped mine tells.standing.trapped tells.balanced
    ∙ ap (λ (d : Data). d.trapped) same.1
    ∙ (asked (length cell.signals) cell number tree answers (requests.Setpoint to) now.0 typed numbered now.1).2

-- ---- own events, from a fact about each

own_behind : (number : ℕ) (tree : TypedTree) (before : List Answer) (mine : List Event)
    → ((first after : List Event) (e : Event) → mine ≡ first ++ e ∷ after → e.actor ≡ number)
    → ((first after : List Event) (e : Event) → mine ≡ first ++ e ∷ after → asked_after tree (before ++ map (λ (x : Event). x.answer) first) ≡ asks e.request)
    → mine ≡ events_behind number tree before (map (λ (x : Event). x.answer) mine)
own_behind number tree before [] its due = refl
own_behind number tree before (e ∷ more) its due =
    let here : asked_after tree before ≡ asks e.request = subst (λ (x : List Answer). asked_after tree x ≡ asks e.request) (append-nil before) (due [] more e refl) in
    let one : event_of number (asked_after tree before) e.answer ≡ e ∷ [] =
    ap (λ (next : Next). event_of number next e.answer) here ∙ ap (λ (actor : ℕ). let x : Event = record { actor = actor; request = e.request; answer = e.answer } in x ∷ []) (sym (its [] more e refl)) in
    let rest : more ≡ events_behind number tree (before ++ e.answer ∷ []) (map (λ (x : Event). x.answer) more) =
    own_behind number tree (before ++ e.answer ∷ []) more (λ first after x cut. its (e ∷ first) after x (ap (λ (xs : List Event). e ∷ xs) cut))
    (λ first after x cut. subst (λ (xs : List Answer). asked_after tree xs ≡ asks x.request) (sym (append_assoc before (e.answer ∷ []) (map (λ (y : Event). y.answer) first)))
    (due (e ∷ first) after x (ap (λ (xs : List Event). e ∷ xs) cut))) in
    ap (λ (xs : List Event). e ∷ xs) rest ∙ ap (λ (xs : List Event). xs ++ events_behind number tree (before ++ e.answer ∷ []) (map (λ (x : Event). x.answer) more)) (sym one)

pub are_own : (number : ℕ) (tree : TypedTree) (mine : List Event) → AreOwn number tree mine → mine ≡ own_events number tree (map (λ (e : Event). e.answer) mine)
are_own number tree mine are = own_behind number tree [] mine are.its are.due
