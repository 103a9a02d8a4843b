-- The meetings of tasks, from the events alone.
use Rattle.std.proofs.Common.{◌≡◌, ◌⊎◌, inl, inr, ◌<◌, ◌≤◌, ◌^◌, ℕ, zero, suc, ◌+◌, ◌*◌, ◌/◌, ◌==◌, Bool, true, false, cond, List, [], ◌∷◌, ◌++◌, length, get_or, set, replicate, refl, sym, ◌∙◌, ap, subst, arith, if◌then◌else◌, append_assoc}
use Rattle.std.specs.Prelude.{◌&&◌, ◌↔◌, IsTrue, count_by, nat_lt}
use Rattle.std.proofs.lemmas.Bool.{and_from, and_parts, cases_eq, eq-eqb, eqb-true, false≢true, ltb-true, ne_eqb, true≢false}
use Rattle.std.proofs.lemmas.List.{get_or-set_same, get_or-set_other, length-set, length-replicate}
use Rattle.std.proofs.Math.Nat.{mul-le-mul_right, suc-mul}
use Rattle.std.proofs.lemmas.Nat.{div-mul-add}
use Rattle.rapid_model.specs.CellData.{CellData}
use Rattle.rapid_model.specs.Own.{part_of}
use Rattle.rapid_model.specs.Requests.{suits_task}
use Rattle.rapid_model.specs.declared.answer.Answer.{Answer}
use Rattle.rapid_model.specs.declared.answer.Answer.TheVariants as answers
use Rattle.rapid_model.specs.declared.event.Event.{Event}
use Rattle.rapid_model.specs.declared.request.Request.{Request}
use Rattle.rapid_model.specs.declared.request.Request.TheVariants as requests
use Rattle.sync_tasks.specs.Meetings.{MeetingsData, at_start, stand_at, with_stand}
use Rattle.sync_tasks.specs.declared.stand.Stand.{Stand}
use Rattle.cell_meaning.specs.Answers.{IsAnswer}
use Rattle.cell_meaning.specs.Meetings.{is_met, is_waiting, stands_after, stands_with}
use Rattle.cell_meaning.specs.MeetingsSince.{Comes, ComesApart, is_met_at}
use Rattle.cell_meaning.specs.Premises.{AllAnswered}
use Rattle.cell_meaning.specs.Since.{Since}
use Rattle.cell_meaning.proofs.Asked.{who_may}
use Rattle.cell_meaning.proofs.Lists.{from_front}
use Rattle.cell_meaning.proofs.MoreEvents.{count_more, its_parts, part_of-other, part_of-own, stands_after-more}
use Rattle.cell_meaning.proofs.Since.{Told, Tells, answered_fronts, told, tells}

-- -- the states at meetings

-- there is a state for each task and meeting
record Even (cell : CellData) (m : MeetingsData) : Type 0 where
  meetings : m.meetings ≡ length cell.meetings
  stands : length m.stands ≡ length cell.tasks * length cell.meetings

even_with : (cell : CellData) (m : MeetingsData) (task meeting : ℕ) (s : Stand) → Even cell m → Even cell (with_stand m task meeting s)
even_with cell m task meeting s even = record { meetings = even.meetings; stands = length-set m.stands (task * m.meetings + meeting) s ∙ even.stands }

even_more : (cell : CellData) (m : MeetingsData) (task : ℕ) (request : Request) (answer : Answer) → Even cell m → Even cell (stands_with m task request answer)
even_more cell m task (requests.Arrive meeting tasks) answers.Met even = even_with cell m task meeting _ even
even_more cell m task (requests.Arrive meeting tasks) answers.Apart even = even_with cell m task meeting _ even
even_more cell m task _ _ even = even

evens : (cell : CellData) (history : List Event) → Even cell (stands_after cell history)
evens cell history =
    from_front (λ h. Even cell (stands_after cell h)) history (record { meetings = refl; stands = length-replicate (length cell.tasks * length cell.meetings) at_start })
    (λ before after e is even. subst (Even cell) (sym (stands_after-more cell before e)) (even_more cell (stands_after cell before) e.actor e.request e.answer even))

-- states of other tasks or meetings stay
apart : (a b g h m : ℕ) → g < m → h < m → a * m + g ≡ b * m + h → (a ≡ b) × (g ≡ h)
apart a b g h m few_g few_h is =
    let same : a ≡ b = sym (div-mul-add a m g few_g) ∙ ap (λ (n : ℕ). n / m) is ∙ div-mul-add b m h few_h in
    let times : a * m ≡ b * m = ap (λ (n : ℕ). n * m) same in
    (same, omega (arith, is, times))

within : (a g t m n : ℕ) → a < t → g < m → n ≡ t * m → a * m + g < n
within a g t m n few_a few_g is =
    let next : suc a ≤ t = omega (arith, few_a) in
    let times : suc a * m ≤ t * m = mul-le-mul_right m next in
    omega (arith, is, times, few_g, suc-mul a m)

stand_set : (cell : CellData) (m : MeetingsData) (a g task meeting : ℕ) (s : Stand) → Even cell m → a < length cell.tasks → g < length cell.meetings → meeting < length cell.meetings
    → stand_at (with_stand m a g s) task meeting ≡ cond ((a == task) && (g == meeting)) s (stand_at m task meeting)
stand_set cell m a g task meeting s even few_a few_g few = by (a == task) (g == meeting) refl refl
  where
    few_here : g < m.meetings
    few_here = omega (arith, even.meetings, few_g)

    few_there : meeting < m.meetings
    few_there = omega (arith, even.meetings, few)

    by : (b c : Bool) → (a == task) ≡ b → (g == meeting) ≡ c → get_or (set m.stands (a * m.meetings + g) s) (task * m.meetings + meeting) at_start ≡ cond (b && c) s (stand_at m task meeting)
    by true true p q =
        let same : task * m.meetings + meeting ≡ a * m.meetings + g = ap (λ (k : ℕ). k * m.meetings + meeting) (sym (eqb-true a task p)) ∙ ap (λ (k : ℕ). a * m.meetings + k) (sym (eqb-true g meeting q)) in
        let there : a * m.meetings + g < length m.stands = subst (λ (k : ℕ). a * k + g < length m.stands) (sym even.meetings) (within a g (length cell.tasks) (length cell.meetings) (length m.stands) few_a few_g even.stands) in
        ap (λ (k : ℕ). get_or (set m.stands (a * m.meetings + g) s) k at_start) same ∙ get_or-set_same m.stands (a * m.meetings + g) s at_start there
    by true false p q =
        get_or-set_other m.stands (a * m.meetings + g) (task * m.meetings + meeting) s at_start
        (λ is. true≢false (sym (eq-eqb g meeting (sym (apart task a meeting g m.meetings few_there few_here is).1)) ∙ q))
    by false c p q =
        get_or-set_other m.stands (a * m.meetings + g) (task * m.meetings + meeting) s at_start
        (λ is. true≢false (sym (eq-eqb a task (sym (apart task a meeting g m.meetings few_there few_here is).0)) ∙ p))

-- -- what an event does to a state

abbrev here : ℕ → ℕ → ℕ → Request → Bool
here task meeting actor (requests.Arrive g tasks) = (actor == task) && (g == meeting)
here task meeting actor _ = false

abbrev arrived : Answer → Stand → Stand
arrived answers.Met s = record { passed = s.passed + 1; waits = false }
arrived answers.Apart s = record { passed = s.passed; waits = true }
arrived _ s = s

-- an actor that may arrive is a task, and the meeting exists
record May (cell : CellData) (actor meeting : ℕ) : Type 0 where
  task : actor < length cell.tasks
  there : meeting < length cell.meetings

same_stand : (m : MeetingsData) (a g task meeting : ℕ) (f : Stand → Stand) → cond ((a == task) && (g == meeting)) (f (stand_at m a g)) (stand_at m task meeting) ≡ cond ((a == task) && (g == meeting)) (f (stand_at m task meeting)) (stand_at m task meeting)
same_stand m a g task meeting f = by (a == task) (g == meeting) refl refl
  where
    by : (b c : Bool) → (a == task) ≡ b → (g == meeting) ≡ c → cond (b && c) (f (stand_at m a g)) (stand_at m task meeting) ≡ cond (b && c) (f (stand_at m task meeting)) (stand_at m task meeting)
    by true true p q = ap f (ap (λ (k : ℕ). stand_at m k g) (eqb-true a task p) ∙ ap (stand_at m task) (eqb-true g meeting q))
    by true false p q = refl
    by false c p q = refl

nothing_arrived : (b : Bool) (s : Stand) → s ≡ cond b s s
nothing_arrived true s = refl
nothing_arrived false s = refl

stepped : (cell : CellData) (m : MeetingsData) (task meeting actor : ℕ) (request : Request) (answer : Answer) → Even cell m → meeting < length cell.meetings
    → ((g tasks : ℕ) → request ≡ requests.Arrive g tasks → May cell actor g)
    → stand_at (stands_with m actor request answer) task meeting ≡ cond (here task meeting actor request) (arrived answer (stand_at m task meeting)) (stand_at m task meeting)
stepped cell m task meeting actor (requests.Arrive g tasks) answers.Met even few may =
    let w : May cell actor g = may g tasks refl in
    stand_set cell m actor g task meeting (record { passed = (stand_at m actor g).passed + 1; waits = false }) even w.task w.there few ∙ same_stand m actor g task meeting (arrived answers.Met)
stepped cell m task meeting actor (requests.Arrive g tasks) answers.Apart even few may =
    let w : May cell actor g = may g tasks refl in
    stand_set cell m actor g task meeting (record { passed = (stand_at m actor g).passed; waits = true }) even w.task w.there few ∙ same_stand m actor g task meeting (arrived answers.Apart)
stepped cell m task meeting actor (requests.Arrive g tasks) answer even few may = nothing_arrived ((actor == task) && (g == meeting)) (stand_at m task meeting)
stepped cell m task meeting actor request answer even few may = refl

may_arrive : (cell : CellData) (h : List Event) (e : Event) → AllAnswered cell (h ++ e ∷ []) → (g tasks : ℕ) → e.request ≡ requests.Arrive g tasks → May cell e.actor g
may_arrive cell h e asked g tasks is = elim (who_may cell e.actor (part_of e.actor h) e.request (asked.might h [] e refl)) [
  | inl t ↦
      let suits = subst (λ (r : Request). suits_task cell t.row (part_of e.actor h) r ≡ true) is t.suits in
      record { task = t.within; there = ltb-true g (length cell.meetings) (and_parts (nat_lt g (length cell.meetings)) (nat_lt tasks (2 ^ length cell.tasks)) suits).0 }
  | inr s ↦ let next = s.next in absurd cc
]

-- the state after one more event
stand_more : (cell : CellData) (h : List Event) (e : Event) (task meeting : ℕ) → meeting < length cell.meetings → AllAnswered cell (h ++ e ∷ [])
    → stand_at (stands_after cell (h ++ e ∷ [])) task meeting
    ≡ cond (here task meeting e.actor e.request) (arrived e.answer (stand_at (stands_after cell h) task meeting)) (stand_at (stands_after cell h) task meeting)
stand_more cell h e task meeting few asked =
    ap (λ (m : MeetingsData). stand_at m task meeting) (stands_after-more cell h e)
    ∙ stepped cell (stands_after cell h) task meeting e.actor e.request e.answer (evens cell h) few (may_arrive cell h e asked)

fresh : (count k : ℕ) → get_or (replicate count at_start) k at_start ≡ at_start
fresh zero k = refl
fresh (suc count) zero = refl
fresh (suc count) (suc k) = fresh count k

-- ---- how often a task went on

passed_own : (task meeting actor : ℕ) (request : Request) (answer : Answer) (s : Stand) → actor ≡ task
    → (cond (here task meeting actor request) (arrived answer s) s).passed ≡ s.passed + cond (is_met_at meeting request answer) 1 0
passed_own task meeting actor (requests.Arrive g tasks) answers.Met s own = by (actor == task) (g == meeting) (eq-eqb actor task own)
  where
    by : (a b : Bool) → a ≡ true → (cond (a && b) (arrived answers.Met s) s).passed ≡ s.passed + cond b 1 0
    by true true p = refl
    by true false p = omega arith
    by false b p = absurd (false≢true p)
passed_own task meeting actor (requests.Arrive g tasks) answers.Apart s own = by ((actor == task) && (g == meeting))
  where
    by : (b : Bool) → (cond b (arrived answers.Apart s) s).passed ≡ s.passed + 0
    by true = omega arith
    by false = omega arith
passed_own task meeting actor (requests.Arrive g tasks) answer s own = by ((actor == task) && (g == meeting))
  where
    by : (b : Bool) → (cond b s s).passed ≡ s.passed + 0
    by true = omega arith
    by false = omega arith
passed_own task meeting actor request answer s own = omega arith

here_other : (task meeting actor : ℕ) (request : Request) → (actor ≡ task → ⊥) → here task meeting actor request ≡ false
here_other task meeting actor (requests.Arrive g tasks) other = ap (λ (b : Bool). b && (g == meeting)) (ne_eqb actor task other)
here_other task meeting actor _ other = refl

went_on : (cell : CellData) (task meeting : ℕ) → meeting < length cell.meetings → (h : List Event) (e : Event) → AllAnswered cell (h ++ e ∷ [])
    → (stand_at (stands_after cell h) task meeting).passed ≡ count_by (λ x. is_met_at meeting x.request x.answer) (part_of task h)
    → (stand_at (stands_after cell (h ++ e ∷ [])) task meeting).passed ≡ count_by (λ x. is_met_at meeting x.request x.answer) (part_of task (h ++ e ∷ []))
went_on cell task meeting few h e asked so_far = elim (cases_eq e.actor task) [
  | inl own ↦
      let mine : count_by (λ x. is_met_at meeting x.request x.answer) (part_of task (h ++ e ∷ [])) ≡ count_by (λ x. is_met_at meeting x.request x.answer) (part_of task h) + cond (is_met_at meeting e.request e.answer) 1 0 =
      ap (λ (xs : List Event). count_by (λ x. is_met_at meeting x.request x.answer) xs) (part_of-own task h e own) ∙ count_more (λ x. is_met_at meeting x.request x.answer) (part_of task h) e in
      let now : (stand_at (stands_after cell (h ++ e ∷ [])) task meeting).passed ≡ (stand_at (stands_after cell h) task meeting).passed + cond (is_met_at meeting e.request e.answer) 1 0 =
      ap (λ (s : Stand). s.passed) (stand_more cell h e task meeting few asked) ∙ passed_own task meeting e.actor e.request e.answer (stand_at (stands_after cell h) task meeting) own in
      omega (arith, mine, now, so_far)
  | inr other ↦
      let mine : count_by (λ x. is_met_at meeting x.request x.answer) (part_of task (h ++ e ∷ [])) ≡ count_by (λ x. is_met_at meeting x.request x.answer) (part_of task h) =
      ap (λ (xs : List Event). count_by (λ x. is_met_at meeting x.request x.answer) xs) (part_of-other task h e other) in
      let now : (stand_at (stands_after cell (h ++ e ∷ [])) task meeting).passed ≡ (stand_at (stands_after cell h) task meeting).passed =
      ap (λ (s : Stand). s.passed) (stand_more cell h e task meeting few asked)
      ∙ ap (λ (b : Bool). (cond b (arrived e.answer (stand_at (stands_after cell h) task meeting)) (stand_at (stands_after cell h) task meeting)).passed) (here_other task meeting e.actor e.request other) in
      now ∙ so_far ∙ sym mine
]

pub passed : (cell : CellData) (history : List Event) (task meeting : ℕ) → AllAnswered cell history → meeting < length cell.meetings
    → (stand_at (stands_after cell history) task meeting).passed ≡ count_by (λ e. is_met_at meeting e.request e.answer) (part_of task history)
passed cell history task meeting asked few =
    from_front (λ h. (stand_at (stands_after cell h) task meeting).passed ≡ count_by (λ e. is_met_at meeting e.request e.answer) (part_of task h)) history
    (ap (λ (s : Stand). s.passed) (fresh (length cell.tasks * length cell.meetings) (task * length cell.meetings + meeting)))
    (λ before after e is so_far.
    went_on cell task meeting few before e
    (answered_fronts cell (before ++ e ∷ []) after (subst (AllAnswered cell) (is ∙ sym (append_assoc before (e ∷ []) after)) asked)) so_far)

-- ---- whether it waits

here_is : (task meeting actor : ℕ) (request : Request) → here task meeting actor request ≡ true → (tasks : ℕ) × (request ≡ requests.Arrive meeting tasks) × (actor ≡ task)
here_is task meeting actor (requests.Arrive g tasks) is =
    let w = and_parts (actor == task) (g == meeting) is in
    (tasks, ap (λ (k : ℕ). requests.Arrive k tasks) (eqb-true g meeting w.1), eqb-true actor task w.0)
here_is task meeting actor _ is = absurd (false≢true is)

comes_here : (task meeting : ℕ) (h : List Event) (e : Event) → Comes task meeting h e → here task meeting e.actor e.request ≡ true
comes_here task meeting h e w =
    subst (λ (x : Event). here task meeting x.actor x.request ≡ true) (sym w.2) (and_from (task == task) (meeting == meeting) (eq-eqb task task refl) (eq-eqb meeting meeting refl))

met_or_apart : (cell : CellData) (h : List Event) (e : Event) (meeting tasks : ℕ) → IsAnswer cell h e.actor e.request e.answer → e.request ≡ requests.Arrive meeting tasks
    → (e.answer ≡ answers.Met) ⊎ (e.answer ≡ answers.Apart)
met_or_apart cell h e meeting tasks is asked = by (is_met cell h e.actor meeting tasks) (subst (λ (r : Request). IsAnswer cell h e.actor r e.answer) asked is)
  where
    by : (b : Bool) → e.answer ≡ (if b then answers.Met else answers.Apart) → (e.answer ≡ answers.Met) ⊎ (e.answer ≡ answers.Apart)
    by true same = inl same
    by false same = inr same

-- the state after an event, if it is an arrival here, and if it is not
after_here : (cell : CellData) (task meeting : ℕ) (h : List Event) (e : Event) (b : Bool) → meeting < length cell.meetings → AllAnswered cell (h ++ e ∷ [])
    → here task meeting e.actor e.request ≡ b → is_waiting cell (h ++ e ∷ []) task meeting ≡ (cond b (arrived e.answer (stand_at (stands_after cell h) task meeting)) (stand_at (stands_after cell h) task meeting)).waits
after_here cell task meeting h e b few asked is =
    ap (λ (s : Stand). s.waits) (stand_more cell h e task meeting few asked)
    ∙ ap (λ (c : Bool). (cond c (arrived e.answer (stand_at (stands_after cell h) task meeting)) (stand_at (stands_after cell h) task meeting)).waits) is

waits_told : (cell : CellData) (task meeting : ℕ) → meeting < length cell.meetings
    → Told (AllAnswered cell) (λ h. is_waiting cell h task meeting ≡ true) (ComesApart task meeting) (Comes task meeting)
waits_told cell task meeting few = record {
  nothing = λ waits. false≢true (sym (ap (λ (s : Stand). s.waits) (fresh (length cell.tasks * length cell.meetings) (task * length cell.meetings + meeting))) ∙ waits);
  was = λ h e asked waits. by h e asked waits (here task meeting e.actor e.request) refl;
}
  where
    arrives : (h : List Event) (e : Event) → AllAnswered cell (h ++ e ∷ []) → is_waiting cell (h ++ e ∷ []) task meeting ≡ true → here task meeting e.actor e.request ≡ true
        → (tasks : ℕ) → e.request ≡ requests.Arrive meeting tasks → e.actor ≡ task → (e.answer ≡ answers.Met) ⊎ (e.answer ≡ answers.Apart) → ComesApart task meeting h e
    arrives h e asked waits is tasks request actor (inl met) =
        absurd (false≢true (sym (after_here cell task meeting h e true few asked is ∙ ap (λ (a : Answer). (arrived a (stand_at (stands_after cell h) task meeting)).waits) met) ∙ waits))
    arrives h e asked waits is tasks request actor (inr apart) =
        (tasks, its_parts task (requests.Arrive meeting tasks) answers.Apart e actor request apart)

    by : (h : List Event) (e : Event) → AllAnswered cell (h ++ e ∷ []) → is_waiting cell (h ++ e ∷ []) task meeting ≡ true → (b : Bool) → here task meeting e.actor e.request ≡ b
        → ComesApart task meeting h e ⊎ ((is_waiting cell h task meeting ≡ true) × ¬ Comes task meeting h e)
    by h e asked waits true is =
        let w = here_is task meeting e.actor e.request is in
        inl (arrives h e asked waits is w.0 w.1 w.2 (met_or_apart cell h e meeting w.0 (asked.answered h [] e refl) w.1))
    by h e asked waits false is = inr (sym (after_here cell task meeting h e false few asked is) ∙ waits, λ comes. true≢false (sym (comes_here task meeting h e comes) ∙ is))

waits_tells : (cell : CellData) (task meeting : ℕ) → meeting < length cell.meetings
    → Tells (AllAnswered cell) (λ h. is_waiting cell h task meeting ≡ true) (ComesApart task meeting) (Comes task meeting)
waits_tells cell task meeting few = record {
  made = λ h e asked comes.
      after_here cell task meeting h e true few asked (comes_here task meeting h e (comes.0, answers.Apart, comes.1))
      ∙ ap (λ (a : Answer). (arrived a (stand_at (stands_after cell h) task meeting)).waits) (ap (λ (x : Event). x.answer) comes.1);
  keeps = λ h e asked waits none. by h e asked waits none (here task meeting e.actor e.request) refl;
}
  where
    by : (h : List Event) (e : Event) → AllAnswered cell (h ++ e ∷ []) → is_waiting cell h task meeting ≡ true → ¬ Comes task meeting h e → (b : Bool) → here task meeting e.actor e.request ≡ b
        → is_waiting cell (h ++ e ∷ []) task meeting ≡ true
    by h e asked waits none true is = let w = here_is task meeting e.actor e.request is in absurd (none (w.0, e.answer, its_parts task (requests.Arrive meeting w.0) e.answer e w.2 w.1 refl))
    by h e asked waits none false is = after_here cell task meeting h e false few asked is ∙ waits

pub waits : (cell : CellData) (history : List Event) (task meeting : ℕ) → AllAnswered cell history → meeting < length cell.meetings
    → IsTrue (is_waiting cell history task meeting) ↔ Since (ComesApart task meeting) (Comes task meeting) history
waits cell history task meeting asked few = (
  told (AllAnswered cell) (λ h. is_waiting cell h task meeting ≡ true) (ComesApart task meeting) (Comes task meeting) history (answered_fronts cell) asked (waits_told cell task meeting few),
  tells (AllAnswered cell) (λ h. is_waiting cell h task meeting ≡ true) (ComesApart task meeting) (Comes task meeting) history (answered_fronts cell) asked (waits_tells cell task meeting few),
)
