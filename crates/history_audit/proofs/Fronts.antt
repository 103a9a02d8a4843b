-- Legal histories and the events with which they begin.
use Rattle.std.proofs.Common.{◌≡◌, ◌<◌, ℕ, List, [], ◌∷◌, ◌++◌, length, append_assoc, refl, ap, sym, ◌∙◌, subst, arith}
use Rattle.std.specs.Prelude.{IsTrue}
use Rattle.rapid_model.proofs.Cuts.{cut_before}
use Rattle.rapid_model.specs.CellData.{CellData}
use Rattle.rapid_model.specs.declared.event.Event.{Event}
use Rattle.cell_meaning.specs.Asking.{Asking}
use Rattle.cell_meaning.specs.Histories.{Follows, IsLegal, is_fit}
use Rattle.history_audit.specs.Audits.{IsFirstWrong}
use Rattle.history_audit.specs.declared.wrong.Wrong.{Wrong}

pub legal_front : (asks : Asking) (cell : CellData) (history front back : List Event) → history ≡ front ++ back → IsLegal asks cell history → IsLegal asks cell front
legal_front asks cell history front back cut legal = record {
  at = cut_before (λ before e. Follows asks cell before e) history front back cut legal.at;
  fits = cut_before (λ before e. IsTrue (is_fit cell before e)) history front back cut legal.fits;
}

-- the events up to an element are the first ones
up_to : (history before after : List Event) (e : Event) → history ≡ before ++ e ∷ after → history ≡ (before ++ e ∷ []) ++ after
up_to history before after e cut = cut ∙ sym (append_assoc before (e ∷ []) after)

-- no event of a legal history is wrong
pub legal_has_none : (asks : Asking) (cell : CellData) (history : List Event) (at : ℕ) (wrong : Wrong) → IsLegal asks cell history → IsFirstWrong asks cell history at wrong → ⊥
legal_has_none asks cell history at wrong legal first =
    first.stops.not_next (legal_front asks cell history (first.before ++ first.event ∷ []) first.after (up_to history first.before first.after first.event first.cut) legal)

-- of two splits of a list the longer one has the element of the shorter
pub longer_has : (first before after rest : List Event) (x y : Event) → first ++ x ∷ rest ≡ before ++ y ∷ after → length first < length before → (more : List Event) × (before ≡ first ++ x ∷ more)
longer_has [] [] after rest x y is lt = absurd (omega arith)
longer_has [] (b ∷ before) after rest x y is lt = let same : x ≡ b = cc in (before, ap (λ (z : Event). z ∷ before) (sym same))
longer_has (a ∷ first) [] after rest x y is lt = absurd (omega arith)
longer_has (a ∷ first) (b ∷ before) after rest x y is lt =
    let same : a ≡ b = cc in
    let tails : first ++ x ∷ rest ≡ before ++ y ∷ after = cc in
    let more = longer_has first before after rest x y tails (omega arith) in
    (more.0, ap (λ (z : Event). z ∷ before) (sym same) ∙ ap (λ (es : List Event). a ∷ es) more.1)

-- and two of one length are one
pub same_split : (first before after rest : List Event) (x y : Event) → first ++ x ∷ rest ≡ before ++ y ∷ after → length first ≡ length before → (first ≡ before) × (x ≡ y)
same_split [] [] after rest x y is same = let one : x ≡ y = cc in (refl, one)
same_split [] (b ∷ before) after rest x y is same = absurd (omega arith)
same_split (a ∷ first) [] after rest x y is same = absurd (omega arith)
same_split (a ∷ first) (b ∷ before) after rest x y is same =
    let heads : a ≡ b = cc in
    let tails : first ++ x ∷ rest ≡ before ++ y ∷ after = cc in
    let one = same_split first before after rest x y tails (omega arith) in
    (ap (λ (z : Event). z ∷ first) heads ∙ ap (λ (es : List Event). b ∷ es) one.0, one.1)

-- the events before a wrong one are not legal if an earlier one is wrong
pub earlier_wrong : (asks : Asking) (cell : CellData) (history : List Event) (at other : ℕ) (wrong cause : Wrong) → IsFirstWrong asks cell history at wrong → IsFirstWrong asks cell history other cause → at < other → ⊥
earlier_wrong asks cell history at other wrong cause first second lt =
    let here = first.number in
    let there = second.number in
    let longer = longer_has first.before second.before second.after first.after first.event second.event (sym first.cut ∙ second.cut) (omega (arith, here, there, lt)) in
    first.stops.not_next
    (legal_front asks cell second.before (first.before ++ first.event ∷ []) longer.0 (up_to second.before first.before longer.0 first.event longer.1) second.legal)
