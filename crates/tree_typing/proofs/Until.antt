-- A task whose own events have answers that fit by the cell goes on asking until its End.
use Rattle.std.proofs.Common.{◌≡◌, ◌⊎◌, inl, inr, ⊎_elim, refl, sym, ap, ap₂, ◌∙◌, subst, ℕ, true, false, not, List, [], ◌∷◌, ◌++◌, map, Option, Some, None, is_some, slice_get, IsTrue, append_assoc}
use Rattle.std.specs.Prelude.{⊤, unwrap_or}
use Rattle.std.specs.Option.{option_map, option_or}
use Rattle.std.proofs.lemmas.Bool.{and_from, and_parts}
use Rattle.std.proofs.lemmas.List.{append-nil, map-append}
use Rattle.rapid_num.specs.Reach.{is_position}
use Rattle.rapid_model.specs.CellData.{CellData}
use Rattle.rapid_model.specs.Fits.{axes_of, fits_pers, fits_request, fitting_in}
use Rattle.rapid_model.specs.Own.{end_of, fate_of, has_connected, has_ended, is_trapped}
use Rattle.rapid_model.specs.declared.answer.Answer.{Answer}
use Rattle.rapid_model.specs.declared.answer.Answer.TheVariants as answers
use Rattle.rapid_model.specs.declared.event.Event.{Event}
use Rattle.rapid_model.specs.declared.fate.Fate.{Fate}
use Rattle.rapid_model.specs.declared.request.Request.{Request}
use Rattle.rapid_model.specs.declared.request.Request.TheVariants as requests
use Rattle.rapid_model.specs.declared.sort.Sort.{Sort}
use Rattle.rapid_model.specs.declared.task_row.TaskRow.{TaskRow}
use Rattle.typed_trees.specs.Plain.{TypedPers, TypedTree}
use Rattle.rapid_meaning.specs.Answering.{Ended, fitting_of, is_trap_row, sort_of_pers}
use Rattle.rapid_meaning.specs.Data.{Data}
use Rattle.rapid_meaning.specs.Runs.{FitsNext, FitsSteps, asks, asked_after, ended, next_of, state_after}
use Rattle.tree_typing.specs.Asked.{IsAsked}
use Rattle.tree_typing.specs.Numbered.{IsOne, Numbered}
use Rattle.tree_typing.specs.OwnEvents.{AreFit, AreOwn}
use Rattle.tree_typing.specs.States.{IsPers}
use Rattle.tree_typing.specs.WellTyped.{WellTyped}
use Rattle.tree_typing.proofs.Events.{AreTraps, told_trapped}
use Rattle.tree_typing.proofs.Own.{Task, Tells, asks_it, behind_next, due_after, event_now, first_own_state, setting_of, own_state_next}
use Rattle.tree_typing.proofs.Scene.{rules_of}
use Rattle.tree_typing.proofs.Steps.{Behind}
use Rattle.tree_typing.proofs.OwnState.{calm, own_state_after}
use Rattle.tree_typing.proofs.Whole.{asked, facts_of}

-- ---- what fits by the cell fits the tree

-- the tree and the cell give a persistent the same type
same_sort : (t : Task) (pers : ℕ) (p : TypedPers) → IsPers t.tree pers p → option_map (λ row. row.sort) (slice_get t.cell.pers pers) ≡ sort_of_pers t.tree.pers_of t.tree.pers pers
same_sort t pers p is =
    let one : IsOne t.cell p pers = t.numbered.pers is.row pers p is.numbered is.there in
    ap (option_map (λ row. row.sort)) one.there ∙ ap Some one.same_sort ∙ sym ((facts_of t.signals t.cell t.number t.tree t.typed t.numbered).sorts pers p is)

-- and the arm the same number of axes
same_axes : (t : Task) → axes_of t.cell t.number ≡ t.tree.axes
same_axes t = ap (λ (o : Option TaskRow). unwrap_or (option_map (λ row. row.axes) o) 0) t.numbered.there ∙ sym t.numbered.axes

tree_fits : (t : Task) (mine : List Event) (d : Data) (request : Request) (a : Answer) → IsAsked (setting_of t) d request → is_trapped mine ≡ d.trapped → AreTraps t.tree mine
    → IsTrue (fits_request (fitting_in t.cell t.number mine) request a) → IsTrue (fits_request (fitting_of t.tree d.trapped) request a)
tree_fits t mine d requests.Look (answers.Trap number trap) may trapped traps fits =
    let both = and_parts (has_connected mine trap) (not (is_trapped mine)) fits in
    and_from (is_trap_row (slice_get t.tree.routines trap)) (not d.trapped) (traps trap both.0) (ap not (sym trapped) ∙ both.1)
tree_fits t mine d requests.Look a may trapped traps fits = fits
tree_fits t mine d (requests.ReadP pers path) (answers.Val v) may trapped traps fits = subst (λ (o : Option Sort). IsTrue (fits_pers o path.part v)) (same_sort t pers may.0 may.1) fits
tree_fits t mine d (requests.ReadP pers path) a may trapped traps fits = fits
tree_fits t mine d requests.Position (answers.At position) may trapped traps fits = subst (λ (axes : ℕ). IsTrue (is_position axes position)) (same_axes t) fits
tree_fits t mine d requests.Position a may trapped traps fits = fits
tree_fits t mine d request a may trapped traps fits = fits

told_fits : (t : Task) (before : List Answer) (mine : List Event) (tells : Tells t.tree before mine) (a : Answer) → IsTrue (fits_request (fitting_in t.cell t.number mine) tells.request a)
    → IsTrue (fits_request (fitting_of t.tree tells.standing.trapped) tells.request a)
told_fits t before mine tells a fits =
    tree_fits t mine tells.standing tells.request a (asked t.signals t.cell t.number t.tree before tells.request tells.standing t.typed t.numbered tells.asking)
    (told_trapped mine tells.standing.trapped tells.balanced) tells.traps fits

-- ---- along own events that fit

abbrev answers_in : List Event → List Answer
answers_in mine = map (λ (e : Event). e.answer) mine

-- it asks, or has reported its fate and ended
abbrev Stood : Task → List Event → Type 0
Stood t mine = Tells t.tree (answers_in mine) mine ⊎ ((d : Data) × (state_after t.tree (answers_in mine) ≡ Ended d) × (has_ended mine ≡ true))

ended_or : (told : Option Fate) (last : Option Fate) → is_some last ≡ true → is_some (option_or told last) ≡ true
ended_or None last e = e
ended_or (Some fate) last e = refl

ended_last : (mine : List Event) (e : Event) (fate : Fate) → fate_of e.request ≡ Some fate → has_ended (mine ++ e ∷ []) ≡ true
ended_last [] e fate told = ap (λ (o : Option Fate). is_some (option_or o None)) told
ended_last (x ∷ more) e fate told = ended_or (fate_of x.request) (end_of (more ++ e ∷ [])) (ended_last more e fate told)

one_more : (first : List Event) (e : Event) → answers_in first ++ e.answer ∷ [] ≡ answers_in (first ++ e ∷ [])
one_more first e = sym (map-append (λ (x : Event). x.answer) first (e ∷ []))

next_stood : (t : Task) (first : List Event) (tells : Tells t.tree (answers_in first) first) (a : Answer) (fate : Option Fate)
    → IsTrue (fits_request (fitting_of t.tree tells.standing.trapped) tells.request a) → fate_of tells.request ≡ fate
    → Behind (rules_of (setting_of t)) (λ (v : ⊤) d. ⊥) (λ n d. ⊥) fate (own_state_after (calm tells.standing) tells.request a) tells.standing (state_after t.tree (answers_in first ++ a ∷ []))
    → Stood t (first ++ event_now t (answers_in first) first tells a ∷ [])
next_stood t first tells a None fits told behind =
    let e : Event = event_now t (answers_in first) first tells a in
    inl (subst (λ (x : List Answer). Tells t.tree x (first ++ e ∷ [])) (one_more first e)
    (own_state_next t (answers_in first) a first tells fits told (due_after t (own_state_after (calm tells.standing) tells.request a) (answers_in first ++ a ∷ []) behind)))
next_stood t first tells a (Some fate) fits told behind =
    let e : Event = event_now t (answers_in first) first tells a in
    inr (tells.standing, subst (λ (x : List Answer). state_after t.tree x ≡ Ended tells.standing) (one_more first e) behind, ended_last first e fate told)

same_request : (r s : Request) → asks r ≡ asks s → r ≡ s
same_request r s e = cc

-- an event of the task's own is the one by which it goes on
is_now : (t : Task) (mine first left : List Event) (e : Event) → mine ≡ first ++ e ∷ left → AreOwn t.number t.tree mine → (tells : Tells t.tree (answers_in first) first)
    → tells.request ≡ e.request
is_now t mine first left e cut own tells =
    same_request tells.request e.request (sym (asks_it t.tree (answers_in first) tells.request tells.standing tells.asking) ∙ own.due first left e cut)

stood_more : (t : Task) (mine first left : List Event) (e : Event) → mine ≡ first ++ e ∷ left → AreOwn t.number t.tree mine → AreFit t.cell t.number mine → Tells t.tree (answers_in first) first
    → Stood t (first ++ e ∷ [])
stood_more t mine first left e cut own fit tells =
    let same : tells.request ≡ e.request = is_now t mine first left e cut own tells in
    let fits : IsTrue (fits_request (fitting_of t.tree tells.standing.trapped) tells.request e.answer) =
    told_fits t (answers_in first) first tells e.answer (subst (λ (r : Request). IsTrue (fits_request (fitting_in t.cell t.number first) r e.answer)) (sym same) (fit.at first left e cut)) in
    let it : event_now t (answers_in first) first tells e.answer ≡ e =
    ap₂ (λ (actor : ℕ) (r : Request). let x : Event = record { actor = actor; request = r; answer = e.answer } in x) (sym (own.its first left e cut)) same in
    subst (λ (x : Event). Stood t (first ++ x ∷ [])) it
    (next_stood t first tells e.answer (fate_of tells.request) fits refl (behind_next t (answers_in first) e.answer first tells fits))

no_more : (t : Task) (answers : List Answer) (d : Data) (request : Request) → state_after t.tree answers ≡ Ended d → asked_after t.tree answers ≡ asks request → ⊥
unfolding asked_after
no_more t answers d request over due = let no : ended ≡ asks request = sym (ap next_of over) ∙ due in cc

along : (t : Task) (mine left first : List Event) → mine ≡ first ++ left → AreOwn t.number t.tree mine → AreFit t.cell t.number mine → Stood t first → Stood t mine
along t mine [] first cut own fit stood = subst (λ (x : List Event). Stood t x) (sym (append-nil first) ∙ sym cut) stood
along t mine (e ∷ left) first cut own fit stood = ⊎_elim
    (λ (tells : Tells t.tree (answers_in first) first).
    along t mine left (first ++ e ∷ []) (cut ∙ sym (append_assoc first (e ∷ []) left)) own fit (stood_more t mine first left e cut own fit tells))
    (λ (over : (d : Data) × (state_after t.tree (answers_in first) ≡ Ended d) × (has_ended first ≡ true)). absurd (no_more t (answers_in first) over.0 e.request over.1 (own.due first left e cut)))
    stood

stood_at : (t : Task) (mine : List Event) → AreOwn t.number t.tree mine → AreFit t.cell t.number mine → Stood t mine
stood_at t mine own fit = along t mine mine [] refl own fit (inl (first_own_state t))

-- the events before one are the task's own, and fit
further : (mine first left before after : List Event) (e x : Event) → mine ≡ first ++ e ∷ left → first ≡ before ++ x ∷ after → mine ≡ before ++ x ∷ (after ++ e ∷ left)
further mine first left before after e x cut inner = cut ∙ ap (λ (xs : List Event). xs ++ e ∷ left) inner ∙ append_assoc before (x ∷ after) (e ∷ left)

told_at : (t : Task) (mine first left : List Event) (e : Event) → mine ≡ first ++ e ∷ left → AreOwn t.number t.tree mine → AreFit t.cell t.number mine → Tells t.tree (answers_in first) first
told_at t mine first left e cut own fit =
    let own_first : AreOwn t.number t.tree first = record {
      its = λ before after x inner. own.its before (after ++ e ∷ left) x (further mine first left before after e x cut inner);
      due = λ before after x inner. own.due before (after ++ e ∷ left) x (further mine first left before after e x cut inner);
    } in
    let fit_first : AreFit t.cell t.number first = record { at = λ before after x inner. fit.at before (after ++ e ∷ left) x (further mine first left before after e x cut inner) } in
    ⊎_elim (λ (tells : Tells t.tree (answers_in first) first). tells)
    (λ (over : (d : Data) × (state_after t.tree (answers_in first) ≡ Ended d) × (has_ended first ≡ true)). absurd (no_more t (answers_in first) over.0 e.request over.1 (own.due first left e cut)))
    (stood_at t first own_first fit_first)

-- a cut of the answers is one of the events
pub record IsCut (mine : List Event) (before after : List Answer) (a : Answer) : Type 0 where
  pub first : List Event
  pub left : List Event
  pub e : Event
  pub cut : mine ≡ first ++ e ∷ left
  pub is_before : answers_in first ≡ before
  pub is : e.answer ≡ a

cut_more : (mine : List Event) (e : Event) (before after : List Answer) (b a : Answer) → e.answer ≡ b → IsCut mine before after a → IsCut (e ∷ mine) (b ∷ before) after a
cut_more mine e before after b a here more = record {
  first = e ∷ more.first;
  left = more.left;
  e = more.e;
  cut = ap (λ (xs : List Event). e ∷ xs) more.cut;
  is_before = ap₂ (λ (x : Answer) (xs : List Answer). x ∷ xs) here more.is_before;
  is = more.is;
}

cut_of : (mine : List Event) (before after : List Answer) (a : Answer) → answers_in mine ≡ before ++ a ∷ after → IsCut mine before after a
cut_of [] [] after a same = absurd cc
cut_of [] (b ∷ before) after a same = absurd cc
cut_of (e ∷ mine) [] after a same = record { first = []; left = mine; e = e; cut = refl; is_before = refl; is = cc }
cut_of (e ∷ mine) (b ∷ before) after a same =
    let here : e.answer ≡ b = cc in
    let behind : answers_in mine ≡ before ++ a ∷ after = cc in
    cut_more mine e before after b a here (cut_of mine before after a behind)

next_fits : (t : Task) (mine first left : List Event) (e : Event) → mine ≡ first ++ e ∷ left → AreOwn t.number t.tree mine → AreFit t.cell t.number mine → FitsNext t.tree (answers_in first) e.answer
next_fits t mine first left e cut own fit =
    let tells : Tells t.tree (answers_in first) first = told_at t mine first left e cut own fit in
    let same : tells.request ≡ e.request = is_now t mine first left e cut own tells in
    record {
      request = tells.request;
      standing = tells.standing;
      asked = tells.asking;
      fits = told_fits t (answers_in first) first tells e.answer (subst (λ (r : Request). IsTrue (fits_request (fitting_in t.cell t.number first) r e.answer)) (sym same) (fit.at first left e cut));
    }

steps_of : (t : Task) (mine : List Event) → AreOwn t.number t.tree mine → AreFit t.cell t.number mine → FitsSteps t.tree (answers_in mine)
steps_of t mine own fit = record {
  at = λ before after a same.
      let it : IsCut mine before after a = cut_of mine before after a same in
      subst (λ (x : Answer). FitsNext t.tree before x) it.is (subst (λ (xs : List Answer). FitsNext t.tree xs it.e.answer) it.is_before (next_fits t mine it.first it.left it.e it.cut own fit));
}

asks_until : (t : Task) (mine : List Event) → AreOwn t.number t.tree mine → AreFit t.cell t.number mine → has_ended mine ≡ false → (request : Request) × (asked_after t.tree (answers_in mine) ≡ asks request)
asks_until t mine own fit going = ⊎_elim
    (λ (tells : Tells t.tree (answers_in mine) mine). (tells.request, asks_it t.tree (answers_in mine) tells.request tells.standing tells.asking))
    (λ (over : (d : Data) × (state_after t.tree (answers_in mine) ≡ Ended d) × (has_ended mine ≡ true)). let no : true ≡ false = sym over.2 ∙ going in absurd cc)
    (stood_at t mine own fit)

pub fits_steps : (signals : ℕ) (cell : CellData) (number : ℕ) (tree : TypedTree) (mine : List Event) → WellTyped signals tree → Numbered cell number tree → AreOwn number tree mine
    → AreFit cell number mine → FitsSteps tree (map (λ (e : Event). e.answer) mine)
fits_steps signals cell number tree mine typed numbered own fit =
    steps_of (record { signals = signals; cell = cell; number = number; tree = tree; typed = typed; numbered = numbered }) mine own fit

pub asks_on : (signals : ℕ) (cell : CellData) (number : ℕ) (tree : TypedTree) (mine : List Event) → WellTyped signals tree → Numbered cell number tree → AreOwn number tree mine
    → AreFit cell number mine → has_ended mine ≡ false → (request : Request) × (asked_after tree (map (λ (e : Event). e.answer) mine) ≡ asks request)
asks_on signals cell number tree mine typed numbered own fit going =
    asks_until (record { signals = signals; cell = cell; number = number; tree = tree; typed = typed; numbered = numbered }) mine own fit going
