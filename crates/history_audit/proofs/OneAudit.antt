-- An audit has one outcome.
use Rattle.std.proofs.Common.{◌≡◌, ◌⊎◌, ◌<◌, ◌≤◌, inl, inr, ℕ, Bool, true, false, List, [], ◌++◌, refl, ap, sym, ◌∙◌, subst, arith}
use Rattle.std.specs.Prelude.{◌↔◌, IsTrue, Result, Ok, Err, Some, slice_get}
use Rattle.std.proofs.lemmas.Bool.{cases_lt, false≢true}
use Rattle.rapid_model.specs.CellData.{CellData}
use Rattle.rapid_model.specs.declared.event.Event.{Event}
use Rattle.rapid_model.specs.declared.fate.Fate.{Fate}
use Rattle.cell_meaning.specs.Asking.{Asking}
use Rattle.cell_meaning.specs.Fates.{fate_after}
use Rattle.cell_meaning.specs.Histories.{IsLegal, IsWhole}
use Rattle.cell_meaning.specs.Premises.{AsksOne, AsksWhatItMay}
use Rattle.history_audit.specs.Audits.{IsAudit, IsFirstWrong, IsFirstWrongFate, IsPassed, IsWrongFate}
use Rattle.history_audit.specs.Wrongs.{IsCause}
use Rattle.history_audit.specs.declared.audit_fault.AuditFault.{AuditFault}
use Rattle.history_audit.specs.declared.audit_fault.AuditFault.TheVariants as faults
use Rattle.history_audit.specs.declared.wrong.Wrong.{Wrong}
use Rattle.history_audit.proofs.Causes.{one_cause}
use Rattle.history_audit.proofs.Fronts.{earlier_wrong, legal_front, legal_has_none, same_split}

-- neither is less
by_order : (m n : ℕ) → (m < n → ⊥) → (n < m → ⊥) → m ≡ n
by_order m n first second = elim (cases_lt m n) [
  | inl lt ↦ absurd (first lt)
  | inr ge ↦ elim (cases_lt n m) [
    | inl lt ↦ absurd (second lt)
    | inr le ↦ omega (arith, ge, le)
  ]
]

pub one_first : (asks : Asking) (cell : CellData) (history : List Event) (at other : ℕ) (wrong cause : Wrong) → AsksOne asks → AsksWhatItMay asks cell → IsFirstWrong asks cell history at wrong
    → IsFirstWrong asks cell history other cause → (at ≡ other) × (wrong ≡ cause)
one_first asks cell history at other wrong cause one may first second =
    let same : at ≡ other = by_order at other (earlier_wrong asks cell history at other wrong cause first second) (earlier_wrong asks cell history other at cause wrong second first) in
    let here = same_split first.before second.before second.after first.after first.event second.event (sym first.cut ∙ second.cut) (sym first.number ∙ same ∙ second.number) in
    let its : IsCause asks cell first.before first.event cause =
    subst (λ (es : List Event). IsCause asks cell es first.event cause) (sym here.0) (subst (λ (e : Event). IsCause asks cell second.before e cause) (sym here.1) second.stops.cause) in
    (same, one_cause asks cell first.before first.event wrong cause one may first.legal first.stops.cause its)

one_fate : (asks : Asking) (cell : CellData) (history : List Event) (fates : List Fate) (task other : ℕ) → IsFirstWrongFate asks cell history fates task → IsFirstWrongFate asks cell history fates other → task ≡ other
one_fate asks cell history fates task other first second = by_order task other (λ lt. second.first task lt first.wrong) (λ lt. first.first other lt second.wrong)

-- a truth that says whether something holds is one
one_truth : {A : Type 0} (a b : Bool) → (IsTrue a ↔ A) → (IsTrue b ↔ A) → a ≡ b
one_truth true true p q = refl
one_truth true false p q = absurd (false≢true (q.1 (p.0 refl)))
one_truth false true p q = absurd (false≢true (p.1 (q.0 refl)))
one_truth false false p q = refl

pub one_audit : (asks : Asking) (cell : CellData) (history : List Event) (fates : List Fate) (found other : Result Bool AuditFault) → AsksOne asks → AsksWhatItMay asks cell → IsAudit asks cell history fates found
    → IsAudit asks cell history fates other → found ≡ other
one_audit asks cell history fates (Ok whole) (Ok complete) one may p q = ap (λ (b : Bool). Ok b) (one_truth whole complete p.whole_is q.whole_is)
one_audit asks cell history fates (Ok whole) (Err (faults.Event at wrong)) one may p q = absurd (legal_has_none asks cell history at wrong p.legal q)
one_audit asks cell history fates (Ok whole) (Err (faults.Fate task)) one may p q = absurd (p.fates_are task q.wrong)
one_audit asks cell history fates (Err (faults.Event at wrong)) (Ok whole) one may p q = absurd (legal_has_none asks cell history at wrong q.legal p)
one_audit asks cell history fates (Err (faults.Event at wrong)) (Err (faults.Event other cause)) one may p q =
    let same = one_first asks cell history at other wrong cause one may p q in
    ap (λ (n : ℕ). let r : Result Bool AuditFault = Err (faults.Event n wrong) in r) same.0 ∙ ap (λ (w : Wrong). let r : Result Bool AuditFault = Err (faults.Event other w) in r) same.1
one_audit asks cell history fates (Err (faults.Event at wrong)) (Err (faults.Fate task)) one may p q = absurd (legal_has_none asks cell history at wrong q.legal p)
one_audit asks cell history fates (Err (faults.Fate task)) (Ok whole) one may p q = absurd (q.fates_are task p.wrong)
one_audit asks cell history fates (Err (faults.Fate task)) (Err (faults.Event at wrong)) one may p q = absurd (legal_has_none asks cell history at wrong p.legal q)
one_audit asks cell history fates (Err (faults.Fate task)) (Err (faults.Fate other)) one may p q =
    ap (λ (n : ℕ). let r : Result Bool AuditFault = Err (faults.Fate n) in r) (one_fate asks cell history fates task other p q)

-- a legal and complete history passes, with the fates that follow from it
pub whole_passes : (asks : Asking) (cell : CellData) (history : List Event) (fates : List Fate) (found : Result Bool AuditFault) → IsLegal asks cell history → IsWhole asks cell history
    → ((task : ℕ) (fate : Fate) → slice_get fates task ≡ Some fate → fate ≡ fate_after cell history task) → IsAudit asks cell history fates found → found ≡ Ok true
whole_passes asks cell history fates (Ok true) legal whole right is = refl
whole_passes asks cell history fates (Ok false) legal whole right is = absurd (false≢true (is.whole_is.1 whole))
whole_passes asks cell history fates (Err (faults.Event at wrong)) legal whole right is = absurd (legal_has_none asks cell history at wrong legal is)
whole_passes asks cell history fates (Err (faults.Fate task)) legal whole right is = absurd (by is.wrong.wrong)
  where
    by : (IsWhole asks cell history → ⊥) ⊎ (is.wrong.fate ≡ fate_after cell history task → ⊥) → ⊥
    by (inl open_still) = open_still whole
    by (inr other) = other (right task is.wrong.fate is.wrong.given)

-- so do the first events of a legal one, without fates
pub front_passes : (asks : Asking) (cell : CellData) (history front back : List Event) (found : Result Bool AuditFault) → history ≡ front ++ back → IsLegal asks cell history → IsAudit asks cell front [] found
    → (whole : Bool) × (found ≡ Ok whole) × (IsTrue whole ↔ IsWhole asks cell front)
front_passes asks cell history front back (Ok whole) cut legal is = (whole, refl, is.whole_is)
front_passes asks cell history front back (Err (faults.Event at wrong)) cut legal is = absurd (legal_has_none asks cell front at wrong (legal_front asks cell history front back cut legal) is)
front_passes asks cell history front back (Err (faults.Fate task)) cut legal is = let none = is.wrong.given in cc
