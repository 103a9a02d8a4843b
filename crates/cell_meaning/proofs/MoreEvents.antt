-- What one more event changes in what a history means.
use Rattle.std.proofs.Common.{◌≡◌, ℕ, ◌+◌, Bool, cond, List, [], ◌∷◌, ◌++◌, length, map, Option, Some, None, refl, sym, ◌∙◌, ap, arith, zero-add, append_assoc}
use Rattle.std.specs.Prelude.{not, ◌&&◌, ◌==◌, count_by, if◌then◌else◌, option_map, replicate, slice_get}
use Rattle.std.specs.List.{fold}
use Rattle.std.specs.Option.{option_and_then, option_or}
use Rattle.std.proofs.lemmas.Bool.{eq-eqb, ne_eqb}
use Rattle.std.proofs.lemmas.List.{append-nil}
use Rattle.std.proofs.lemmas.List.Elements.{filter-append}
use Rattle.std.proofs.lemmas.List.Sums.{fold-append, sum_by-append}
use Rattle.rapid_num.specs.declared.joints.Joints.{Joints}
use Rattle.rapid_model.specs.CellData.{CellData}
use Rattle.rapid_model.specs.Own.{part_of, fate_of, end_of}
use Rattle.rapid_model.specs.declared.answer.Answer.{Answer}
use Rattle.rapid_model.specs.declared.event.Event.{Event}
use Rattle.rapid_model.specs.declared.fate.Fate.{Fate}
use Rattle.rapid_model.specs.declared.request.Request.{Request}
use Rattle.sync_tasks.specs.Meetings.{before_all as no_stands}
use Rattle.trap_dispatch.specs.Tasks.{TaskData, before_all as no_interrupts}
use Rattle.world_zones.specs.Zones.{before_all as no_own_zones}
use Rattle.cell_meaning.specs.Changes.{is_change, changes_from, changes_by_others}
use Rattle.cell_meaning.specs.Counted.{is_counted, counted}
use Rattle.cell_meaning.specs.Interrupts.{interrupts_with, interrupts_from, interrupts_after}
use Rattle.cell_meaning.specs.Meetings.{stands_with, stands_after}
use Rattle.cell_meaning.specs.Motion.{moved, arm_along, arm_after, is_given, setpoints_given}
use Rattle.cell_meaning.specs.Rising.{seen_with, seen_after}
use Rattle.cell_meaning.specs.Stored.{signals_by, signals_from, signals_after, persistents_with, persistents_after}
use Rattle.cell_meaning.specs.Zones.{zones_with, zones_after}

-- an event from its parts
abbrev pub event : ℕ → Request → Answer → Event
event actor request answer = record { actor = actor; request = request; answer = answer }

pub its_parts : (task : ℕ) (request : Request) (answer : Answer) (e : Event) → e.actor ≡ task → e.request ≡ request → e.answer ≡ answer → e ≡ event task request answer
its_parts task request answer e actor asked told =
    ap (λ (a : ℕ). event a e.request e.answer) actor ∙ ap (λ (r : Request). event task r e.answer) asked ∙ ap (λ (x : Answer). event task request x) told

-- what an event does to a number of its own task
pub sure : {A : Type 0} (task number : ℕ) (act none : A) → (if task == task then (if number == number then act else none) else none) ≡ act
sure task number act none =
    ap (λ (b : Bool). if b then (if number == number then act else none) else none) (eq-eqb task task refl) ∙ ap (λ (b : Bool). if b then act else none) (eq-eqb number number refl)

-- the event, if it passes
abbrev kept_if : Event → Bool → List Event
kept_if e passes = cond passes (e ∷ []) []

-- the event adds to its own actor's events
pub part_of-own : (actor : ℕ) (history : List Event) (e : Event) → e.actor ≡ actor → part_of actor (history ++ e ∷ []) ≡ part_of actor history ++ e ∷ []
part_of-own actor history e own =
    filter-append (λ f. f.actor == actor) history (e ∷ []) ∙ ap (λ (b : Bool). part_of actor history ++ kept_if e b) (eq-eqb e.actor actor own)

-- and not to another's
pub part_of-other : (actor : ℕ) (history : List Event) (e : Event) → (e.actor ≡ actor → ⊥) → part_of actor (history ++ e ∷ []) ≡ part_of actor history
part_of-other actor history e other =
    filter-append (λ f. f.actor == actor) history (e ∷ []) ∙ ap (λ (b : Bool). part_of actor history ++ kept_if e b) (ne_eqb e.actor actor other)
    ∙ append-nil (part_of actor history)

option_or-None : {A : Type 0} (first : Option A) → option_or first None ≡ first
option_or-None None = refl
option_or-None (Some x) = refl

option_or-assoc : {A : Type 0} (a b c : Option A) → option_or a (option_or b c) ≡ option_or (option_or a b) c
option_or-assoc None b c = refl
option_or-assoc (Some x) b c = refl

-- the first fate stays
pub end_of-more : (es : List Event) (e : Event) → end_of (es ++ e ∷ []) ≡ option_or (end_of es) (fate_of e.request)
end_of-more [] e = option_or-None (fate_of e.request)
end_of-more (f ∷ es) e =
    ap (λ (later : Option Fate). option_or (fate_of f.request) later) (end_of-more es e) ∙ option_or-assoc (fate_of f.request) (end_of es) (fate_of e.request)

pub arm_along-more : (position : Joints) (es : List Event) (e : Event) → arm_along position (es ++ e ∷ []) ≡ moved (arm_along position es) e.request e.answer
arm_along-more position [] e = refl
arm_along-more position (f ∷ es) e = arm_along-more (moved position f.request f.answer) es e

-- where an arm that started here is after these events of its task
abbrev arm_from : Option Joints → List Event → Option Joints
arm_from start mine = option_and_then (λ position. Some (arm_along position mine)) start

arm_from-more : (start : Option Joints) (mine : List Event) (e : Event) → arm_from start (mine ++ e ∷ []) ≡ option_map (λ position. moved position e.request e.answer) (arm_from start mine)
arm_from-more None mine e = refl
arm_from-more (Some start) mine e = ap (λ (position : Joints). Some position) (arm_along-more start mine e)

abbrev start_of : CellData → ℕ → Option Joints
start_of cell task = option_and_then (λ row. row.arm) (slice_get cell.tasks task)

-- an event moves only the arm of its own task
pub arm_after-own : (cell : CellData) (history : List Event) (e : Event) → arm_after cell (history ++ e ∷ []) e.actor ≡ option_map (λ position. moved position e.request e.answer) (arm_after cell history e.actor)
arm_after-own cell history e =
    ap (λ (mine : List Event). arm_from (start_of cell e.actor) mine) (part_of-own e.actor history e refl) ∙ arm_from-more (start_of cell e.actor) (part_of e.actor history) e

pub arm_after-other : (cell : CellData) (history : List Event) (e : Event) (task : ℕ) → (e.actor ≡ task → ⊥) → arm_after cell (history ++ e ∷ []) task ≡ arm_after cell history task
arm_after-other cell history e task other = ap (λ (mine : List Event). arm_from (start_of cell task) mine) (part_of-other task history e other)

-- how many elements pass a test, in a list with one more
pub count_more : (passes : Event → Bool) (es : List Event) (e : Event) → count_by passes (es ++ e ∷ []) ≡ count_by passes es + cond (passes e) 1 0
count_more passes es e =
    sum_by-append (λ f. cond (passes f) 1 0) es (e ∷ []) ∙ ap (λ (n : ℕ). count_by passes es + n) (zero-add (cond (passes e) 1 0))

pub counted-more : (history : List Event) (e : Event) → counted (history ++ e ∷ []) ≡ counted history + cond (is_counted e.request) 1 0
counted-more history e = count_more (λ f. is_counted f.request) history e

pub setpoints_given-own : (history : List Event) (e : Event) → setpoints_given (history ++ e ∷ []) e.actor ≡ setpoints_given history e.actor + cond (is_given e.request e.answer) 1 0
setpoints_given-own history e =
    ap (λ (mine : List Event). count_by (λ f. is_given f.request f.answer) mine) (part_of-own e.actor history e refl)
    ∙ count_more (λ f. is_given f.request f.answer) (part_of e.actor history) e

pub setpoints_given-other : (history : List Event) (e : Event) (task : ℕ) → (e.actor ≡ task → ⊥) → setpoints_given (history ++ e ∷ []) task ≡ setpoints_given history task
setpoints_given-other history e task other = ap (λ (mine : List Event). count_by (λ f. is_given f.request f.answer) mine) (part_of-other task history e other)

pub seen_after-own : (history : List Event) (e : Event) → seen_after (history ++ e ∷ []) e.actor ≡ seen_with (seen_after history e.actor) e.request
seen_after-own history e =
    ap (λ (mine : List Event). fold (λ seen f. seen_with seen f.request) 0 mine) (part_of-own e.actor history e refl)
    ∙ fold-append (λ seen (f : Event). seen_with seen f.request) 0 (part_of e.actor history) (e ∷ [])

pub seen_after-other : (history : List Event) (e : Event) (task : ℕ) → (e.actor ≡ task → ⊥) → seen_after (history ++ e ∷ []) task ≡ seen_after history task
seen_after-other history e task other = ap (λ (mine : List Event). fold (λ seen f. seen_with seen f.request) 0 mine) (part_of-other task history e other)

signals_from-more : (cell : CellData) (signals : List Bool) (before es : List Event) (e : Event)
    → signals_from cell signals before (es ++ e ∷ []) ≡ signals_by cell ((before ++ es) ++ e ∷ []) e (signals_from cell signals before es)
signals_from-more cell signals before [] e = ap (λ (b : List Event). signals_by cell (b ++ e ∷ []) e signals) (sym (append-nil before))
signals_from-more cell signals before (f ∷ es) e =
    signals_from-more cell (signals_by cell (before ++ f ∷ []) f signals) (before ++ f ∷ []) es e
    ∙ ap (λ (b : List Event). signals_by cell (b ++ e ∷ []) e (signals_from cell (signals_by cell (before ++ f ∷ []) f signals) (before ++ f ∷ []) es)) (append_assoc before (f ∷ []) es)

pub signals_after-more : (cell : CellData) (history : List Event) (e : Event) → signals_after cell (history ++ e ∷ []) ≡ signals_by cell (history ++ e ∷ []) e (signals_after cell history)
signals_after-more cell history e = signals_from-more cell (map (λ row. row.start) cell.signals) [] history e

pub persistents_after-more : (cell : CellData) (history : List Event) (e : Event) → persistents_after cell (history ++ e ∷ []) ≡ persistents_with (persistents_after cell history) e.request e.answer
persistents_after-more cell history e =
    fold-append (λ rows (f : Event). persistents_with rows f.request f.answer) (map (λ row. row.first) cell.pers) history (e ∷ [])

pub stands_after-more : (cell : CellData) (history : List Event) (e : Event) → stands_after cell (history ++ e ∷ []) ≡ stands_with (stands_after cell history) e.actor e.request e.answer
stands_after-more cell history e =
    fold-append (λ stands (f : Event). stands_with stands f.actor f.request f.answer) (no_stands (length cell.tasks) (length cell.meetings)) history (e ∷ [])

pub zones_after-more : (cell : CellData) (history : List Event) (e : Event) → zones_after cell (history ++ e ∷ []) ≡ zones_with (zones_after cell history) e.actor e.request e.answer
zones_after-more cell history e =
    fold-append (λ zones (f : Event). zones_with zones f.actor f.request f.answer) (no_own_zones cell) history (e ∷ [])

interrupts_from-more : (cell : CellData) (tasks : List TaskData) (before es : List Event) (e : Event)
    → interrupts_from cell tasks before (es ++ e ∷ []) ≡ interrupts_with cell (before ++ es) e (interrupts_from cell tasks before es)
interrupts_from-more cell tasks before [] e = ap (λ (b : List Event). interrupts_with cell b e tasks) (sym (append-nil before))
interrupts_from-more cell tasks before (f ∷ es) e =
    interrupts_from-more cell (interrupts_with cell before f tasks) (before ++ f ∷ []) es e
    ∙ ap (λ (b : List Event). interrupts_with cell b e (interrupts_from cell (interrupts_with cell before f tasks) (before ++ f ∷ []) es)) (append_assoc before (f ∷ []) es)

pub interrupts_after-more : (cell : CellData) (history : List Event) (e : Event) → interrupts_after cell (history ++ e ∷ []) ≡ interrupts_with cell history e (interrupts_after cell history)
interrupts_after-more cell history e = interrupts_from-more cell (replicate (length cell.tasks) no_interrupts) [] history e

-- whether an event is a change by another actor
abbrev by_another : CellData → ℕ → List Event → Event → ℕ
by_another cell actor before e = cond (not (e.actor == actor) && is_change cell before e) 1 0

changes_from-more : (cell : CellData) (actor : ℕ) (before es : List Event) (e : Event)
    → changes_from cell actor before (es ++ e ∷ []) ≡ changes_from cell actor before es + by_another cell actor (before ++ es) e
changes_from-more cell actor before [] e =
    let same : by_another cell actor (before ++ []) e ≡ by_another cell actor before e = ap (λ (b : List Event). by_another cell actor b e) (append-nil before) in
    omega (arith, same)
changes_from-more cell actor before (f ∷ es) e =
    let rest = changes_from-more cell actor (before ++ f ∷ []) es e in
    let same : by_another cell actor ((before ++ f ∷ []) ++ es) e ≡ by_another cell actor (before ++ f ∷ es) e = ap (λ (b : List Event). by_another cell actor b e) (append_assoc before (f ∷ []) es) in
    omega (arith, rest, same)

-- an actor sees one more change if another actor made it
pub changes_by_others-more : (cell : CellData) (history : List Event) (e : Event) (actor : ℕ)
    → changes_by_others cell (history ++ e ∷ []) actor ≡ changes_by_others cell history actor + cond (not (e.actor == actor) && is_change cell history e) 1 0
changes_by_others-more cell history e actor = changes_from-more cell actor [] history e
