-- Signals that are set in turn, each once: what changes is what differs afterwards.
use Rattle.std.proofs.Common.{◌≡◌, inl, inr, ◌<◌, ◌+◌, ℕ, zero, suc, Bool, true, false, not, List, [], ◌∷◌, ◌++◌, length, get_or, set, refl, sym, ◌∙◌, ap, subst, arith}
use Rattle.std.specs.Prelude.{◌&&◌, ◌||◌, ◌==◌, if◌then◌else◌}
use Rattle.std.specs.List.{list_any}
use Rattle.std.proofs.lemmas.Bool.{cases_eq, eq-eqb, ne_eqb}
use Rattle.std.proofs.lemmas.List.{get_or-set_same, get_or-set_other, length-set}
use Rattle.std.proofs.lemmas.List.Folds.{list_any-append}
use Rattle.rapid_model.specs.Truths.{same_truth}
use Rattle.rapid_model.specs.declared.watched.Watched.{Watched}
use Rattle.rapid_model.specs.declared.watched.Watched.TheVariants as watched
use Rattle.trap_dispatch.specs.Firing.{is_change}
use Rattle.cell_meaning.specs.Changes.{changed_signals}
use Rattle.cell_meaning.specs.Outputs.{with_outputs}
use Rattle.cell_meaning.proofs.MoreFirings.{SameChanges}
use Rattle.cell_meaning.proofs.OutputLists.{EachOnce, is_among, length-with_outputs}
use Rattle.cell_core.specs.Changes.{changed_outputs}

-- whether an order on a signal's value is on a change from one value to another
abbrev differs : Bool → Bool → Bool → Bool
differs value old new = not (same_truth old new) && same_truth value new

same_differs : (value now : Bool) → differs value now now ≡ false
same_differs value true = refl
same_differs value false = refl

-- one signal and the later ones
one_differs : (signal : ℕ) (value old new : Bool) → list_any (is_change (watched.Signal signal value)) (if same_truth old new then [] else watched.Signal signal new ∷ []) ≡ differs value old new
one_differs signal value old new = by (same_truth old new)
  where
    on : (signal == signal) ≡ true
    on = eq-eqb signal signal refl

    or_none : (b : Bool) → (b || false) ≡ b
    or_none true = refl
    or_none false = refl

    by : (b : Bool) → list_any (is_change (watched.Signal signal value)) (if b then [] else watched.Signal signal new ∷ []) ≡ (not b && same_truth value new)
    by true = refl
    by false = ap (λ (x : Bool). (x && same_truth value new) || false) on ∙ or_none (same_truth value new)

other_differs : (signal other : ℕ) (value old new : Bool) → (other ≡ signal → ⊥) → list_any (is_change (watched.Signal signal value)) (if same_truth old new then [] else watched.Signal other new ∷ []) ≡ false
other_differs signal other value old new apart = by (same_truth old new)
  where
    by : (b : Bool) → list_any (is_change (watched.Signal signal value)) (if b then [] else watched.Signal other new ∷ []) ≡ false
    by true = refl
    by false = ap (λ (x : Bool). (x && same_truth value new) || false) (ne_eqb signal other (λ same. apart (sym same)))

-- no change of a signal before the first
none_before : (first signal : ℕ) (value : Bool) (old new : List Bool) → signal < first → list_any (is_change (watched.Signal signal value)) (changed_signals first old new) ≡ false
none_before first signal value [] new before = refl
none_before first signal value (o ∷ old) [] before = refl
none_before first signal value (o ∷ old) (n ∷ new) before =
    list_any-append (is_change (watched.Signal signal value)) (if same_truth o n then [] else watched.Signal first n ∷ []) (changed_signals (first + 1) old new)
    ∙ ap (λ (b : Bool). b || list_any (is_change (watched.Signal signal value)) (changed_signals (first + 1) old new)) (other_differs signal first value o n (λ same. absurd (omega (arith, before, same))))
    ∙ none_before (first + 1) signal value old new (omega (arith, before))

-- a change of a signal is one of those that differ
one_of_changed : (first k : ℕ) (value : Bool) (old new : List Bool) → length old ≡ length new
    → list_any (is_change (watched.Signal (first + k) value)) (changed_signals first old new) ≡ differs value (get_or old k false) (get_or new k false)
one_of_changed first k value [] [] many = sym (same_differs value false)
one_of_changed first k value [] (n ∷ new) many = absurd (omega (arith, many))
one_of_changed first k value (o ∷ old) [] many = absurd (omega (arith, many))
one_of_changed first zero value (o ∷ old) (n ∷ new) many =
    let here : first + 0 ≡ first = omega arith in
    ap (λ (s : ℕ). list_any (is_change (watched.Signal s value)) (changed_signals first (o ∷ old) (n ∷ new))) here
    ∙ list_any-append (is_change (watched.Signal first value)) (if same_truth o n then [] else watched.Signal first n ∷ []) (changed_signals (first + 1) old new)
    ∙ ap (λ (b : Bool). list_any (is_change (watched.Signal first value)) (if same_truth o n then [] else watched.Signal first n ∷ []) || b) (none_before (first + 1) first value old new (omega arith))
    ∙ ap (λ (b : Bool). b || false) (one_differs first value o n) ∙ or_none (differs value o n)
  where
    or_none : (b : Bool) → (b || false) ≡ b
    or_none true = refl
    or_none false = refl
one_of_changed first (suc k) value (o ∷ old) (n ∷ new) many =
    let next : first + suc k ≡ (first + 1) + k = omega arith in
    list_any-append (is_change (watched.Signal (first + suc k) value)) (if same_truth o n then [] else watched.Signal first n ∷ []) (changed_signals (first + 1) old new)
    ∙ ap (λ (b : Bool). b || list_any (is_change (watched.Signal (first + suc k) value)) (changed_signals (first + 1) old new)) (other_differs (first + suc k) first value o n (λ same. absurd (omega (arith, same))))
    ∙ ap (λ (s : ℕ). list_any (is_change (watched.Signal s value)) (changed_signals (first + 1) old new)) next
    ∙ one_of_changed (first + 1) k value old new (omega (arith, many))

-- the same of signals that are set in turn
stays_out : (signals : List Bool) (os : List (ℕ × Bool)) (signal : ℕ) → is_among signal os ≡ false → get_or (with_outputs signals os) signal false ≡ get_or signals signal false
stays_out signals [] signal none = refl
stays_out signals (o ∷ os) signal none = by (o.0 == signal) refl none (λ later. stays_out (set signals o.0 o.1) os signal later)
  where
    by : (b : Bool) → (o.0 == signal) ≡ b → (b || is_among signal os) ≡ false
        → (is_among signal os ≡ false → get_or (with_outputs (set signals o.0 o.1) os) signal false ≡ get_or (set signals o.0 o.1) signal false)
        → get_or (with_outputs (set signals o.0 o.1) os) signal false ≡ get_or signals signal false
    by true is h stays = cc
    by false is h stays = stays h ∙ get_or-set_other signals o.0 signal o.1 false (λ same. let both = eq-eqb o.0 signal (sym same) in cc)

one_of_set : (signals : List Bool) (os : List (ℕ × Bool)) (signal : ℕ) (value : Bool) → EachOnce (length signals) os
    → list_any (is_change (watched.Signal signal value)) (changed_outputs signals os) ≡ differs value (get_or signals signal false) (get_or (with_outputs signals os) signal false)
one_of_set signals [] signal value once = sym (same_differs value (get_or signals signal false))
one_of_set signals (o ∷ os) signal value once =
    first ∙ by_signal (one_of_set (set signals o.0 o.1) os signal value (subst (λ (count : ℕ). EachOnce count os) (sym (length-set signals o.0 o.1)) once.2))
  where
    now : List Bool
    now = set signals o.0 o.1

    on : List Watched → Bool
    on changes = list_any (is_change (watched.Signal signal value)) changes

    head : List Watched
    head = if same_truth (get_or signals o.0 false) o.1 then [] else watched.Signal o.0 o.1 ∷ []

    first : on (changed_outputs signals (o ∷ os)) ≡ (on head || on (changed_outputs now os))
    first = by (same_truth (get_or signals o.0 false) o.1)
      where
        by : (b : Bool) → on (if b then changed_outputs now os else watched.Signal o.0 o.1 ∷ changed_outputs now os) ≡ (on (if b then [] else watched.Signal o.0 o.1 ∷ []) || on (changed_outputs now os))
        by true = refl
        by false = or_assoc (is_change (watched.Signal signal value) (watched.Signal o.0 o.1)) (on (changed_outputs now os))
          where
            or_assoc : (a b : Bool) → (a || b) ≡ ((a || false) || b)
            or_assoc true b = refl
            or_assoc false b = refl

    or_none : (b : Bool) → (b || false) ≡ b
    or_none true = refl
    or_none false = refl

    by_signal : on (changed_outputs now os) ≡ differs value (get_or now signal false) (get_or (with_outputs now os) signal false)
        → (on head || on (changed_outputs now os)) ≡ differs value (get_or signals signal false) (get_or (with_outputs now os) signal false)
    by_signal rest = elim (cases_eq signal o.0) [
      | inl same ↦
          let written : get_or now signal false ≡ o.1 = ap (λ (k : ℕ). get_or now k false) same ∙ get_or-set_same signals o.0 o.1 false once.0 in
          let after : get_or (with_outputs now os) signal false ≡ get_or now signal false = stays_out now os signal (ap (λ (k : ℕ). is_among k os) same ∙ once.1) in
          let none : on (changed_outputs now os) ≡ false = rest ∙ ap (λ (b : Bool). differs value (get_or now signal false) b) after ∙ same_differs value (get_or now signal false) in
          ap (λ (b : Bool). on head || b) none ∙ or_none (on head)
          ∙ ap (λ (k : ℕ). list_any (is_change (watched.Signal k value)) head) same ∙ one_differs o.0 value (get_or signals o.0 false) o.1
          ∙ ap (λ (k : ℕ). differs value (get_or signals k false) o.1) (sym same) ∙ ap (λ (b : Bool). differs value (get_or signals signal false) b) (sym (after ∙ written))
      | inr other ↦
          ap (λ (b : Bool). b || on (changed_outputs now os)) (other_differs signal o.0 value (get_or signals o.0 false) o.1 (λ same. other (sym same)))
          ∙ rest ∙ ap (λ (b : Bool). differs value b (get_or (with_outputs now os) signal false)) (get_or-set_other signals o.0 signal o.1 false other)
    ]

-- none is a persistent
no_pers_changed : (first pers : ℕ) (old new : List Bool) → list_any (is_change (watched.Pers pers)) (changed_signals first old new) ≡ false
no_pers_changed first pers [] new = refl
no_pers_changed first pers (o ∷ old) [] = refl
no_pers_changed first pers (o ∷ old) (n ∷ new) =
    list_any-append (is_change (watched.Pers pers)) (if same_truth o n then [] else watched.Signal first n ∷ []) (changed_signals (first + 1) old new)
    ∙ ap (λ (b : Bool). b || list_any (is_change (watched.Pers pers)) (changed_signals (first + 1) old new)) (head (same_truth o n)) ∙ no_pers_changed (first + 1) pers old new
  where
    head : (b : Bool) → list_any (is_change (watched.Pers pers)) (if b then [] else watched.Signal first n ∷ []) ≡ false
    head true = refl
    head false = refl

no_pers_set : (signals : List Bool) (os : List (ℕ × Bool)) (pers : ℕ) → list_any (is_change (watched.Pers pers)) (changed_outputs signals os) ≡ false
no_pers_set signals [] pers = refl
no_pers_set signals (o ∷ os) pers = by (same_truth (get_or signals o.0 false) o.1) (no_pers_set (set signals o.0 o.1) os pers)
  where
    by : (b : Bool) → list_any (is_change (watched.Pers pers)) (changed_outputs (set signals o.0 o.1) os) ≡ false
        → list_any (is_change (watched.Pers pers)) (if b then changed_outputs (set signals o.0 o.1) os else watched.Signal o.0 o.1 ∷ changed_outputs (set signals o.0 o.1) os) ≡ false
    by true later = later
    by false later = later

pub changed_same : (signals : List Bool) (os : List (ℕ × Bool)) → EachOnce (length signals) os → SameChanges (changed_outputs signals os) (changed_signals 0 signals (with_outputs signals os))
changed_same signals os once (watched.Signal signal value) =
    let here : 0 + signal ≡ signal = omega arith in
    one_of_set signals os signal value once
    ∙ sym (one_of_changed 0 signal value signals (with_outputs signals os) (sym (length-with_outputs signals os)))
    ∙ ap (λ (s : ℕ). list_any (is_change (watched.Signal s value)) (changed_signals 0 signals (with_outputs signals os))) here
changed_same signals os once (watched.Pers pers) = no_pers_set signals os pers ∙ sym (no_pers_changed 0 pers signals (with_outputs signals os))

-- more signals are set after these
pub changed-append : (signals : List Bool) (os ps : List (ℕ × Bool)) → changed_outputs signals (os ++ ps) ≡ changed_outputs signals os ++ changed_outputs (with_outputs signals os) ps
changed-append signals [] ps = refl
changed-append signals (o ∷ os) ps = by (same_truth (get_or signals o.0 false) o.1) (changed-append (set signals o.0 o.1) os ps)
  where
    now : List Bool
    now = set signals o.0 o.1

    by : (b : Bool) → changed_outputs now (os ++ ps) ≡ changed_outputs now os ++ changed_outputs (with_outputs now os) ps
        → (if b then changed_outputs now (os ++ ps) else watched.Signal o.0 o.1 ∷ changed_outputs now (os ++ ps))
        ≡ (if b then changed_outputs now os else watched.Signal o.0 o.1 ∷ changed_outputs now os) ++ changed_outputs (with_outputs now os) ps
    by true later = later
    by false later = ap (λ (changes : List Watched). watched.Signal o.0 o.1 ∷ changes) later
