-- A signal is the output of at most one zone.
use Rattle.std.proofs.Common.{◌≡◌, ◌⊎◌, inl, inr, ◌<◌, ◌-◌, ℕ, zero, suc, ◌==◌, Bool, true, false, List, [], ◌∷◌, ◌++◌, length, get_or, Option, Some, None, is_some, refl, sym, ◌∙◌, ap, subst, if◌then◌else◌}
use Rattle.std.specs.Prelude.{IsTrue, nat_lt}
use Rattle.std.specs.List.{list_any}
use Rattle.std.proofs.lemmas.Bool.{and_parts, eqb-true, false≢true, ltb-true, or_parts}
use Rattle.rapid_num.specs.declared.shape.Shape.{Shape}
use Rattle.rapid_model.specs.CellData.{CellData}
use Rattle.rapid_model.specs.Own.{part_of}
use Rattle.rapid_model.specs.Requests.{suits_task}
use Rattle.rapid_model.specs.declared.answer.Answer.TheVariants as answers
use Rattle.rapid_model.specs.declared.event.Event.{Event}
use Rattle.rapid_model.specs.declared.request.Request.{Request}
use Rattle.rapid_model.specs.declared.request.Request.TheVariants as requests
use Rattle.world_zones.specs.declared.output.Output.{Output}
use Rattle.world_zones.specs.declared.own_zone.OwnZone.{OwnZone}
use Rattle.world_zones.specs.Outputs.{is_tied, ties}
use Rattle.world_zones.specs.Zones.{ZonesData, arm_at, no_zones, switched, zone_at}
use Rattle.cell_meaning.specs.Premises.{AllAnswered}
use Rattle.cell_meaning.specs.Zones.{zones_after}
use Rattle.cell_meaning.proofs.Asked.{who_may}
use Rattle.cell_meaning.proofs.Lists.{from_front}
use Rattle.cell_meaning.proofs.Since.{answered_fronts, with_event}
use Rattle.cell_meaning.proofs.ZonesTold.{Act, IsActs, acts_of, all_meant, frees, gives, leaves, none_first, switches, untied_before, zone_by, zone_of, zone_with}

-- the zone with this number of a task's arm names the signal
abbrev pub IsTiedBy : ZonesData → ℕ → ℕ → ℕ → Type 0
IsTiedBy zones task number signal = ties signal (zone_at (arm_at zones task) number) ≡ true

-- no two zones name the same signal
pub record OneEach (zones : ZonesData) : Type 0 where
  pub one : (task number other k signal : ℕ) → IsTiedBy zones task number signal → IsTiedBy zones other k signal → (task ≡ other) × (number ≡ k)

-- no zone names a signal that is not tied
none_at : {A : Type 0} (test : A → Bool) (xs : List A) (d : A) (k : ℕ) → test d ≡ false → list_any test xs ≡ false → test (get_or xs k d) ≡ false
none_at test [] d k none is = none
none_at test (x ∷ xs) d zero none is = (or_parts (test x) (list_any test xs) is).0
none_at test (x ∷ xs) d (suc k) none is = none_at test xs d k none (or_parts (test x) (list_any test xs) is).1

pub untied : (zones : ZonesData) (signal : ℕ) → is_tied zones signal ≡ false → (task number : ℕ) → ties signal (zone_at (arm_at zones task) number) ≡ false
untied zones signal is task number = by (number == 0)
  where
    arm : list_any (ties signal) (arm_at zones task) ≡ false
    arm = none_at (λ zs. list_any (ties signal) zs) zones.arms no_zones task refl is

    by : (b : Bool) → ties signal (if b then None else get_or (arm_at zones task) (number - 1) None) ≡ false
    by true = refl
    by false = none_at (ties signal) (arm_at zones task) None (number - 1) refl arm

-- what an event ties
pub record NewTie (task number signal : ℕ) (e : Event) : Type 0 where
  temporary : Bool
  shape : Shape
  output : Output
  is : acts_of task number e ≡ gives temporary shape (Some output)
  its : output.signal ≡ signal

switched_ties : (on : Bool) (held : Option OwnZone) (signal : ℕ) → ties signal (switched on held) ≡ ties signal held
switched_ties on None signal = refl
switched_ties on (Some zone) signal = refl

pub tied_was : (cell : CellData) (task number signal : ℕ) (h : List Event) (e : Event) → AllAnswered cell (h ++ e ∷ []) → IsTiedBy (zones_after cell (h ++ e ∷ [])) task number signal
    → NewTie task number signal e ⊎ IsTiedBy (zones_after cell h) task number signal
tied_was cell task number signal h e asked tied = by (acts_of task number e) refl
  where
    now : (a : Act) → acts_of task number e ≡ a → ties signal (zone_by a (zone_of cell task number h)) ≡ true
    now a is = sym (ap (ties signal) (zone_with cell task number h e a asked is)) ∙ tied

    by : (a : Act) → acts_of task number e ≡ a → NewTie task number signal e ⊎ IsTiedBy (zones_after cell h) task number signal
    by (gives temporary shape None) is = absurd (false≢true (now (gives temporary shape None) is))
    by (gives temporary shape (Some output)) is =
        inl (record { temporary = temporary; shape = shape; output = output; is = is; its = eqb-true output.signal signal (now (gives temporary shape (Some output)) is) })
    by (switches on) is = inr (sym (switched_ties on (zone_of cell task number h) signal) ∙ now (switches on) is)
    by frees is = absurd (false≢true (now frees is))
    by leaves is = inr (now leaves is)

-- of its own task, with the number that was answered
pub tie_of : (task number signal : ℕ) (e : Event) → NewTie task number signal e → (e.actor ≡ task) × (old : ℕ) × (temporary : Bool) × (shape : Shape) × (value : Bool) × (e.request ≡ requests.ZoneTie old temporary shape signal value) × (e.answer ≡ answers.Number number)
tie_of task number signal e new =
    let w : IsActs task number e (gives new.temporary new.shape (Some new.output)) = subst (IsActs task number e) new.is (all_meant task number e) in
    (w.0, w.1.0, new.temporary, new.shape, new.output.value, w.1.1 ∙ ap (λ (s : ℕ). requests.ZoneTie w.1.0 new.temporary new.shape s new.output.value) new.its, w.1.2)

-- which no zone named before
new_untied : (cell : CellData) (task number signal : ℕ) (h : List Event) (e : Event) → AllAnswered cell (h ++ e ∷ []) → NewTie task number signal e → (other k : ℕ) → IsTiedBy (zones_after cell h) other k signal → ⊥
new_untied cell task number signal h e asked new other k tied =
    let free = untied_before cell task number new.temporary new.shape new.output h e asked new.is in
    let none : is_tied (zones_after cell h) signal ≡ false = sym (ap (is_tied (zones_after cell h)) new.its) ∙ free in
    false≢true (sym (untied (zones_after cell h) signal none other k) ∙ tied)

one_more : (cell : CellData) (h : List Event) (e : Event) → AllAnswered cell (h ++ e ∷ []) → OneEach (zones_after cell h) → OneEach (zones_after cell (h ++ e ∷ []))
one_more cell h e asked each = record { one = λ task number other k signal a b. both task number other k signal (tied_was cell task number signal h e asked a) (tied_was cell other k signal h e asked b) }
  where
    both : (task number other k signal : ℕ) → NewTie task number signal e ⊎ IsTiedBy (zones_after cell h) task number signal → NewTie other k signal e ⊎ IsTiedBy (zones_after cell h) other k signal
        → (task ≡ other) × (number ≡ k)
    both task number other k signal (inl a) (inl b) =
        let first = tie_of task number signal e a in
        let second = tie_of other k signal e b in
        let same : answers.Number number ≡ answers.Number k = sym first.6 ∙ second.6 in
        (sym first.0 ∙ second.0, cc)
    both task number other k signal (inl a) (inr b) = absurd (new_untied cell task number signal h e asked a other k b)
    both task number other k signal (inr a) (inl b) = absurd (new_untied cell other k signal h e asked b task number a)
    both task number other k signal (inr a) (inr b) = each.one task number other k signal a b

none_tied : (cell : CellData) (task number signal : ℕ) → IsTiedBy (zones_after cell []) task number signal → ⊥
none_tied cell task number signal tied = false≢true (sym (ap (ties signal) (none_first cell task number)) ∙ tied)

pub one_each : (cell : CellData) (history : List Event) → AllAnswered cell history → OneEach (zones_after cell history)
one_each cell history asked =
    from_front (λ h. OneEach (zones_after cell h)) history (record { one = λ task number other k signal a b. absurd (none_tied cell task number signal a) })
    (λ before after e is each. one_more cell before e (with_event (AllAnswered cell) (answered_fronts cell) history before after e is asked) each)

-- and the signal exists
abbrev TiedThere : CellData → List Event → Type 0
TiedThere cell h = (task number signal : ℕ) → IsTiedBy (zones_after cell h) task number signal → signal < length cell.signals

tie_there : (cell : CellData) (task number signal : ℕ) (h : List Event) (e : Event) → AllAnswered cell (h ++ e ∷ []) → NewTie task number signal e → signal < length cell.signals
tie_there cell task number signal h e asked new =
    let w = tie_of task number signal e new in
    elim (who_may cell e.actor (part_of e.actor h) e.request (asked.might h [] e refl)) [
      | inl t ↦
          let suits : IsTrue (suits_task cell t.row (part_of e.actor h) (requests.ZoneTie w.1 w.2 w.3 signal w.4)) = subst (λ (r : Request). IsTrue (suits_task cell t.row (part_of e.actor h) r)) w.5 t.suits in
          ltb-true signal (length cell.signals) (and_parts (is_some t.row.arm) (nat_lt signal (length cell.signals)) suits).1
      | inr s ↦ let no : requests.ZoneTie w.1 w.2 w.3 signal w.4 ≡ requests.Input (length (part_of e.actor h)) = sym w.5 ∙ s.next in absurd cc
    ]

pub tied_there : (cell : CellData) (history : List Event) → AllAnswered cell history → TiedThere cell history
tied_there cell history asked =
    from_front (TiedThere cell) history (λ task number signal tied. absurd (none_tied cell task number signal tied))
    (λ before after e is each task number signal tied.
    let here = with_event (AllAnswered cell) (answered_fronts cell) history before after e is asked in
    elim (tied_was cell task number signal before e here tied) [
      | inl new ↦ tie_there cell task number signal before e here new
      | inr old ↦ each task number signal old
    ])
