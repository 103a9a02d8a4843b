-- The definitions on the history of two tasks that take one bool in turn: each waits until it is FALSE and becomes TRUE,
-- and then makes it FALSE again.
use Rattle.std.proofs.Common.{◌≡◌, ◌<◌, ◌⊎◌, inl, inr, ℕ, zero, suc, true, false, List, [], ◌∷◌, ◌++◌, take, Option, Some, None, refl, sym, lit<, arith}
use Rattle.std.specs.Prelude.{codes, IsTrue, Ok, Err}
use Rattle.std.specs.List.{fold}
use Rattle.std.proofs.lemmas.Bool.{false≢true}
use Rattle.rapid_model.specs.CellData.{CellData}
use Rattle.rapid_model.specs.Own.{answers_of}
use Rattle.rapid_model.specs.declared.answer.Answer.{Answer}
use Rattle.rapid_model.specs.declared.answer.Answer.TheVariants as answers
use Rattle.rapid_model.specs.declared.event.Event.{Event}
use Rattle.rapid_model.specs.declared.fate.Fate.{Fate}
use Rattle.rapid_model.specs.declared.fate.Fate.TheVariants as fates
use Rattle.rapid_model.specs.declared.part_name.PartName.TheVariants as parts
use Rattle.rapid_model.specs.declared.path.Path.{Path}
use Rattle.rapid_model.specs.declared.request.Request.{Request}
use Rattle.rapid_model.specs.declared.request.Request.TheVariants as requests
use Rattle.rapid_model.specs.declared.sort.Sort.TheVariants as sorts
use Rattle.rapid_model.specs.declared.value.Value.TheVariants as values
use Rattle.cell_meaning.specs.Answers.{is_enabled, IsAnswer}
use Rattle.cell_meaning.specs.Asking.{Asking, with_inputs}
use Rattle.cell_meaning.specs.Counted.{can_be_served}
use Rattle.cell_meaning.specs.Fates.{fate_after}
use Rattle.cell_meaning.specs.Histories.{IsLegal, IsWhole, is_fit}
use Rattle.cell_meaning.proofs.ByTurns.{legal_none}
use Rattle.cell_meaning.proofs.MoreEvents.{event}
use Rattle.cell_crew.proofs.Served.{legal_answered}
use Rattle.history_audit.specs.Audits.{IsAudit, IsFirstWrong, IsWrongFate}
use Rattle.history_audit.specs.Wrongs.{IsCause}
use Rattle.history_audit.specs.declared.audit_fault.AuditFault.TheVariants as faults
use Rattle.history_audit.specs.declared.wrong.Wrong.TheVariants as wrongs
use Rattle.history_audit.proofs.Causes.{answers_wrong, asks_wrong}

abbrev cell : CellData
cell = record {
  steps = 100;
  tasks = record { name = codes "A"; arm = None; axes = 0 } ∷ record { name = codes "B"; arm = None; axes = 0 } ∷ [];
  signals = [];
  pers = record { name = codes "busy"; owner = None; sort = sorts.Bool; len = None; first = values.Bool false ∷ [] } ∷ [];
  meetings = [];
  zones = [];
  inputs = [];
}

abbrev busy : Path
busy = record { index = 0; part = parts.Whole }

-- what is due in each task
data Place : Type 0 where
  begins : Place
  tests : ℕ → Place
  waits : ℕ → Place
  rises : Place
  goes_on : Place
  clears : Place
  ends : Place
  over : Place

abbrev after_answer : Place → Answer → Place
after_answer begins (answers.Go seen) = tests seen
after_answer (tests seen) (answers.Yes true) = goes_on
after_answer (tests seen) (answers.Yes false) = waits seen
after_answer (waits seen) answers.Ok = rises
after_answer rises answers.Ok = begins
after_answer goes_on (answers.Go seen) = clears
after_answer clears answers.Ok = ends
after_answer ends answers.Ok = over
after_answer place _ = place

abbrev due : Place → Option Request
due begins = Some requests.Look
due (tests seen) = Some (requests.TestSet 0 busy)
due (waits seen) = Some (requests.Hold seen)
due rises = Some requests.Rise
due goes_on = Some requests.Look
due clears = Some (requests.WriteP 0 busy (values.Bool false))
due ends = Some (requests.End fates.Done)
due over = None

abbrev due_after : List Answer → Option Request
due_after got = due (fold after_answer begins got)

abbrev asks : Asking
asks = with_inputs (λ task got request. due_after got ≡ Some request) cell

-- with `round` the two tasks make this history
abbrev row : List Event
row =
    event 0 requests.Look (answers.Go 0)
    ∷ event 1 requests.Look (answers.Go 0)
    ∷ event 0 (requests.TestSet 0 busy) (answers.Yes true)
    ∷ event 1 (requests.TestSet 0 busy) (answers.Yes false)
    ∷ event 0 requests.Look (answers.Go 0)
    ∷ event 1 (requests.Hold 0) answers.Ok
    ∷ event 0 (requests.WriteP 0 busy (values.Bool false)) answers.Ok
    ∷ event 1 requests.Rise answers.Ok
    ∷ event 0 (requests.End fates.Done) answers.Ok
    ∷ event 1 requests.Look (answers.Go 2)
    ∷ event 1 (requests.TestSet 0 busy) (answers.Yes true)
    ∷ event 1 requests.Look (answers.Go 2)
    ∷ event 1 (requests.WriteP 0 busy (values.Bool false)) answers.Ok
    ∷ event 1 (requests.End fates.Done) answers.Ok
    ∷ []

-- one more event
more : (history : List Event) (e : Event) → IsLegal asks cell history → e.actor < 2 → due_after (answers_of e.actor history) ≡ Some e.request → can_be_served cell history e.request ≡ true
    → is_enabled cell history e.actor e.request ≡ true → IsAnswer cell history e.actor e.request e.answer → is_fit cell history e ≡ true → IsLegal asks cell (history ++ e ∷ [])
more history e legal task asked served enabled answered fit =
    legal_answered asks cell history (history ++ e ∷ []) e.actor e.request e.answer (inl (record { task = task; asked = asked })) legal (record { served = served; enabled = enabled; answered = answered }) fit refl

legal_1 : IsLegal asks cell (take 1 row)
legal_1 = more [] (event 0 requests.Look (answers.Go 0)) (legal_none asks cell) (lit< tt) refl refl refl refl refl

legal_2 : IsLegal asks cell (take 2 row)
legal_2 = more (take 1 row) (event 1 requests.Look (answers.Go 0)) legal_1 (lit< tt) refl refl refl refl refl

legal_3 : IsLegal asks cell (take 3 row)
legal_3 = more (take 2 row) (event 0 (requests.TestSet 0 busy) (answers.Yes true)) legal_2 (lit< tt) refl refl refl refl refl

legal_4 : IsLegal asks cell (take 4 row)
legal_4 = more (take 3 row) (event 1 (requests.TestSet 0 busy) (answers.Yes false)) legal_3 (lit< tt) refl refl refl refl refl

legal_5 : IsLegal asks cell (take 5 row)
legal_5 = more (take 4 row) (event 0 requests.Look (answers.Go 0)) legal_4 (lit< tt) refl refl refl refl refl

legal_6 : IsLegal asks cell (take 6 row)
legal_6 = more (take 5 row) (event 1 (requests.Hold 0) answers.Ok) legal_5 (lit< tt) refl refl refl refl refl

legal_7 : IsLegal asks cell (take 7 row)
legal_7 = more (take 6 row) (event 0 (requests.WriteP 0 busy (values.Bool false)) answers.Ok) legal_6 (lit< tt) refl refl refl refl refl

legal_8 : IsLegal asks cell (take 8 row)
legal_8 = more (take 7 row) (event 1 requests.Rise answers.Ok) legal_7 (lit< tt) refl refl refl refl refl

legal_9 : IsLegal asks cell (take 9 row)
legal_9 = more (take 8 row) (event 0 (requests.End fates.Done) answers.Ok) legal_8 (lit< tt) refl refl refl refl refl

legal_10 : IsLegal asks cell (take 10 row)
legal_10 = more (take 9 row) (event 1 requests.Look (answers.Go 2)) legal_9 (lit< tt) refl refl refl refl refl

legal_11 : IsLegal asks cell (take 11 row)
legal_11 = more (take 10 row) (event 1 (requests.TestSet 0 busy) (answers.Yes true)) legal_10 (lit< tt) refl refl refl refl refl

legal_12 : IsLegal asks cell (take 12 row)
legal_12 = more (take 11 row) (event 1 requests.Look (answers.Go 2)) legal_11 (lit< tt) refl refl refl refl refl

legal_13 : IsLegal asks cell (take 13 row)
legal_13 = more (take 12 row) (event 1 (requests.WriteP 0 busy (values.Bool false)) answers.Ok) legal_12 (lit< tt) refl refl refl refl refl

legal_row : IsLegal asks cell row
legal_row = more (take 13 row) (event 1 (requests.End fates.Done) answers.Ok) legal_13 (lit< tt) refl refl refl refl refl

-- nothing follows, since both tasks have ended
none_asked : (actor : ℕ) (request : Request) → asks actor (answers_of actor row) request → ⊥
none_asked zero request (inl it) = let no : None ≡ Some request = it.asked in cc
none_asked (suc zero) request (inl it) = let no : None ≡ Some request = it.asked in cc
none_asked (suc (suc actor)) request (inl it) = let within = it.task in absurd (omega (arith, within))
none_asked zero request (inr it) = let is = it.script in absurd (omega (arith, is))
none_asked (suc zero) request (inr it) = let is = it.script in absurd (omega (arith, is))
none_asked (suc (suc actor)) request (inr it) = let left = it.left in absurd (omega (arith, left))

whole_row : IsWhole asks cell row
whole_row = record { over = λ e follows. none_asked e.actor e.request follows.asked }

done_is : (fate : Fate) → Some fates.Done ≡ Some fate → fates.Done ≡ fate
done_is fate same = cc

-- the history with the fates of both tasks is legal and whole
passes : IsAudit asks cell row (fates.Done ∷ fates.Done ∷ []) (Ok true)
passes = record { legal = legal_row; whole_is = (λ yes_whole. whole_row, λ whole. refl); fates_are = right }
  where
    by : (task : ℕ) (fate : Fate) → fate ≡ fate_after cell row task → ((IsWhole asks cell row → ⊥) ⊎ (fate ≡ fate_after cell row task → ⊥)) → ⊥
    by task fate same (inl open_still) = open_still whole_row
    by task fate same (inr other) = other same

    right : (task : ℕ) → IsWrongFate asks cell row (fates.Done ∷ fates.Done ∷ []) task → ⊥
    right zero w = by 0 w.fate (sym (done_is w.fate w.given)) w.wrong
    right (suc zero) w = by 1 w.fate (sym (done_is w.fate w.given)) w.wrong
    right (suc (suc task)) w = let none = w.given in cc

-- its first five events are legal and open: B can be held
passes_open : IsAudit asks cell (take 5 row) [] (Ok false)
passes_open = record {
  legal = legal_5;
  whole_is = (λ not_whole. absurd (false≢true not_whole), λ whole. absurd (whole.over (event 1 (requests.Hold 0) answers.Ok) (legal_6.at (take 5 row) [] (event 1 (requests.Hold 0) answers.Ok) refl)));
  fates_are = λ task w. let none = w.given in cc;
}

-- B tests the bool before A does: the cell answers TRUE
abbrev exchanged : List Event
exchanged = take 2 row ++ event 1 (requests.TestSet 0 busy) (answers.Yes false) ∷ event 0 (requests.TestSet 0 busy) (answers.Yes true) ∷ []

answers_true : IsFirstWrong asks cell exchanged 2 (wrongs.Answers (answers.Yes true))
answers_true = record {
  before = take 2 row;
  event = event 1 (requests.TestSet 0 busy) (answers.Yes false);
  after = event 0 (requests.TestSet 0 busy) (answers.Yes true) ∷ [];
  cut = refl;
  number = refl;
  legal = legal_2;
  stops =
      answers_wrong asks cell (take 2 row) (event 1 (requests.TestSet 0 busy) (answers.Yes false)) (requests.TestSet 0 busy) (inl (record { task = lit< tt; asked = refl })) alone refl refl (answers.Yes true) refl refl
      (λ same. let no : answers.Yes false ≡ answers.Yes true = same in cc);
}
  where
    alone : (other : Request) → asks 1 (answers_of 1 (take 2 row)) other → other ≡ requests.TestSet 0 busy
    alone other (inl it) = let same : Some (requests.TestSet 0 busy) ≡ Some other = it.asked in cc
    alone other (inr it) = let is = it.script in absurd (omega (arith, is))

-- without A's first event: A asks for its Look
abbrev cut_off : List Event
cut_off = event 1 requests.Look (answers.Go 0) ∷ event 0 (requests.TestSet 0 busy) (answers.Yes true) ∷ []

asks_look : IsFirstWrong asks cell cut_off 1 (wrongs.Asks requests.Look)
asks_look = record {
  before = event 1 requests.Look (answers.Go 0) ∷ [];
  event = event 0 (requests.TestSet 0 busy) (answers.Yes true);
  after = [];
  cut = refl;
  number = refl;
  legal = more [] (event 1 requests.Look (answers.Go 0)) (legal_none asks cell) (lit< tt) refl refl refl refl refl;
  stops =
      asks_wrong asks cell (event 1 requests.Look (answers.Go 0) ∷ []) (event 0 (requests.TestSet 0 busy) (answers.Yes true)) requests.Look (inl (record { task = lit< tt; asked = refl })) alone
      (λ same. let no : requests.TestSet 0 busy ≡ requests.Look = same in cc);
}
  where
    alone : (other : Request) → asks 0 (answers_of 0 (event 1 requests.Look (answers.Go 0) ∷ [])) other → other ≡ requests.Look
    alone other (inl it) = let same : Some requests.Look ≡ Some other = it.asked in cc
    alone other (inr it) = let is = it.script in absurd (omega (arith, is))

-- the fate of B is wrong, that of A is right
fate_of_b : IsAudit asks cell row (fates.Done ∷ fates.Exit ∷ []) (Err (faults.Fate 1))
fate_of_b = record {
  legal = legal_row;
  wrong = record { fate = fates.Exit; given = refl; wrong = inr (λ same. let no : fates.Exit ≡ fates.Done = same in cc) };
  first = right;
}
  where
    by : (fate : Fate) → fates.Done ≡ fate → ((IsWhole asks cell row → ⊥) ⊎ (fate ≡ fate_after cell row 0 → ⊥)) → ⊥
    by fate same (inl open_still) = open_still whole_row
    by fate same (inr other) = other (sym same)

    right : (earlier : ℕ) → earlier < 1 → IsWrongFate asks cell row (fates.Done ∷ fates.Exit ∷ []) earlier → ⊥
    right zero lt w = by w.fate (done_is w.fate w.given) w.wrong
    right (suc earlier) lt w = absurd (omega (arith, lt))

-- B looks once A has taken the bool, and so waits for another change
abbrev held : List Event
held =
    event 0 requests.Look (answers.Go 0)
    ∷ event 0 (requests.TestSet 0 busy) (answers.Yes true)
    ∷ event 1 requests.Look (answers.Go 1)
    ∷ event 1 (requests.TestSet 0 busy) (answers.Yes false)
    ∷ event 1 (requests.Hold 1) answers.Ok
    ∷ []

-- an event of a task that has ended, one that waits, and one for which no steps are left
ended : IsCause asks cell (take 9 row) (event 0 requests.Look (answers.Go 0)) wrongs.Ended
ended = inl (lit< tt, refl)

waits_still : IsCause asks cell held (event 1 requests.Rise answers.Ok) wrongs.Waits
waits_still = (inl (record { task = lit< tt; asked = refl }), refl, refl)

spent : IsCause asks (record cell { steps = 4 }) (take 4 row) (event 0 requests.Look (answers.Go 0)) wrongs.Spent
spent = (inl (record { task = lit< tt; asked = refl }), refl)
