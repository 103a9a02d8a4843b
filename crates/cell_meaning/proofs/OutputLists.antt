-- Signals that are set in turn.
use Rattle.std.proofs.Common.{◌≡◌, ◌⊎◌, inl, inr, ◌<◌, ◌+◌, ℕ, zero, suc, Bool, true, false, List, [], ◌∷◌, length, get_or, set, Option, None, Some, refl, sym, ◌∙◌, ap, arith, IfSome}
use Rattle.std.specs.Prelude.{◌||◌, ◌==◌, ⊤, filter_map, option_to_list}
use Rattle.std.specs.List.{cons_option, list_any, range_with_len}
use Rattle.std.proofs.lemmas.Bool.{cases_eq, eq-eqb, false≢true, ne_eqb, or_from, or_right}
use Rattle.std.proofs.lemmas.List.{get_or-set_same, get_or-set_other, length-set}
use Rattle.cell_meaning.specs.Outputs.{with_outputs}

pub length-with_outputs : (signals : List Bool) (outputs : List (ℕ × Bool)) → length (with_outputs signals outputs) ≡ length signals
length-with_outputs signals [] = refl
length-with_outputs signals (o ∷ os) = length-with_outputs (set signals o.0 o.1) os ∙ length-set signals o.0 o.1

-- all that set the signal give it this value
abbrev pub Agree : ℕ → Bool → List (ℕ × Bool) → Type 0
Agree signal value [] = ⊤
Agree signal value (o ∷ os) = (o.0 ≡ signal → o.1 ≡ value) × Agree signal value os

-- one of them sets the signal
abbrev pub is_among : ℕ → List (ℕ × Bool) → Bool
is_among signal outputs = list_any (λ o. o.0 == signal) outputs

-- so the signal gets the value, or keeps it
pub set_in_turn : (signals : List Bool) (outputs : List (ℕ × Bool)) (signal : ℕ) (value : Bool) → signal < length signals → Agree signal value outputs
    → (is_among signal outputs ≡ true) ⊎ (get_or signals signal false ≡ value) → get_or (with_outputs signals outputs) signal false ≡ value
set_in_turn signals [] signal value there agree (inl among) = absurd (false≢true among)
set_in_turn signals [] signal value there agree (inr is) = is
set_in_turn signals (o ∷ os) signal value there agree so = elim (cases_eq signal o.0) [
  | inl same ↦
      let now : get_or (set signals o.0 o.1) signal false ≡ value =
      ap (λ (k : ℕ). get_or (set signals o.0 o.1) k false) same ∙ get_or-set_same signals o.0 o.1 false (omega (arith, there, same)) ∙ agree.0 (sym same) in
      set_in_turn (set signals o.0 o.1) os signal value (omega (arith, there, length-set signals o.0 o.1)) agree.1 (inr now)
  | inr other ↦ set_in_turn (set signals o.0 o.1) os signal value (omega (arith, there, length-set signals o.0 o.1)) agree.1 (later other so)
]
  where
    later : (signal ≡ o.0 → ⊥) → (is_among signal (o ∷ os) ≡ true) ⊎ (get_or signals signal false ≡ value) → (is_among signal os ≡ true) ⊎ (get_or (set signals o.0 o.1) signal false ≡ value)
    later other (inl among) = inl (sym (ap (λ (b : Bool). b || is_among signal os) (ne_eqb o.0 signal (λ same. other (sym same)))) ∙ among)
    later other (inr is) = inr (get_or-set_other signals o.0 signal o.1 false other ∙ is)

-- a list of one or none
pub one_agrees : (signal : ℕ) (value : Bool) (o : Option (ℕ × Bool)) → IfSome o (λ x. x.0 ≡ signal → x.1 ≡ value) → Agree signal value (option_to_list o)
one_agrees signal value None each = tt
one_agrees signal value (Some x) each = (each, tt)

-- a list of many
agree_too : (signal : ℕ) (value : Bool) (o : Option (ℕ × Bool)) (os : List (ℕ × Bool)) → IfSome o (λ x. x.0 ≡ signal → x.1 ≡ value) → Agree signal value os → Agree signal value (cons_option o os)
agree_too signal value None os first rest = rest
agree_too signal value (Some x) os first rest = (first, rest)

pub all_agree : (f : ℕ → Option (ℕ × Bool)) (signal : ℕ) (value : Bool) → ((n : ℕ) → IfSome (f n) (λ x. x.0 ≡ signal → x.1 ≡ value)) → (ns : List ℕ) → Agree signal value (filter_map f ns)
all_agree f signal value each [] = tt
all_agree f signal value each (n ∷ ns) = agree_too signal value (f n) (filter_map f ns) (each n) (all_agree f signal value each ns)

first_is : (test : ℕ × Bool → Bool) (o : Option (ℕ × Bool)) (x : ℕ × Bool) (os : List (ℕ × Bool)) → o ≡ Some x → test x ≡ true → list_any test (cons_option o os) ≡ true
first_is test o x os is passes = ap (λ (y : Option (ℕ × Bool)). list_any test (cons_option y os)) is ∙ ap (λ (b : Bool). b || list_any test os) passes

later_is : (test : ℕ × Bool → Bool) (o : Option (ℕ × Bool)) (os : List (ℕ × Bool)) → list_any test os ≡ true → list_any test (cons_option o os) ≡ true
later_is test None os is = is
later_is test (Some x) os is = or_right (test x) (list_any test os) is

pub one_among : (f : ℕ → Option (ℕ × Bool)) (signal : ℕ) (x : ℕ × Bool) (first count k : ℕ) → k < count → f (first + k) ≡ Some x → x.0 ≡ signal → is_among signal (filter_map f (range_with_len first count)) ≡ true
one_among f signal x first zero k few is same = absurd (omega (arith, few))
one_among f signal x first (suc count) zero few is same =
    let here : first + 0 ≡ first = omega arith in
    first_is (λ o. o.0 == signal) (f first) x (filter_map f (range_with_len (first + 1) count)) (ap f (sym here) ∙ is) (eq-eqb x.0 signal same)
one_among f signal x first (suc count) (suc k) few is same =
    let next : first + suc k ≡ (first + 1) + k = omega arith in
    later_is (λ o. o.0 == signal) (f first) (filter_map f (range_with_len (first + 1) count)) (one_among f signal x (first + 1) count k (omega (arith, few)) (ap f (sym next) ∙ is) same)

-- each sets another signal, of which there are this many
abbrev pub EachOnce : ℕ → List (ℕ × Bool) → Type 0
EachOnce count [] = ⊤
EachOnce count (o ∷ os) = (o.0 < count) × (is_among o.0 os ≡ false) × EachOnce count os

pub one_once : (count : ℕ) (o : Option (ℕ × Bool)) → IfSome o (λ x. x.0 < count) → EachOnce count (option_to_list o)
one_once count None there = tt
one_once count (Some x) there = (there, refl, tt)

-- no two numbers set the same signal
abbrev pub OneToOne : (ℕ → Option (ℕ × Bool)) → Type 0
OneToOne f = (n k : ℕ) (x y : ℕ × Bool) → f n ≡ Some x → f k ≡ Some y → x.0 ≡ y.0 → n ≡ k

none_later : (f : ℕ → Option (ℕ × Bool)) (n : ℕ) (x : ℕ × Bool) (first count : ℕ) → OneToOne f → f n ≡ Some x → n < first → is_among x.0 (filter_map f (range_with_len first count)) ≡ false
none_later f n x first zero one is before = refl
none_later f n x first (suc count) one is before = by (f first) refl (none_later f n x (first + 1) count one is (omega (arith, before)))
  where
    rest : List (ℕ × Bool)
    rest = filter_map f (range_with_len (first + 1) count)

    by : (o : Option (ℕ × Bool)) → f first ≡ o → is_among x.0 rest ≡ false → is_among x.0 (cons_option o rest) ≡ false
    by None e later = later
    by (Some y) e later = or_from (y.0 == x.0) (is_among x.0 rest) (ne_eqb y.0 x.0 (λ same. let number : n ≡ first = one n first x y is e (sym same) in absurd (omega (arith, before, number)))) later

pub all_once : (f : ℕ → Option (ℕ × Bool)) (total first count : ℕ) → OneToOne f → ((n : ℕ) → IfSome (f n) (λ x. x.0 < total)) → EachOnce total (filter_map f (range_with_len first count))
all_once f total first zero one there = tt
all_once f total first (suc count) one there = by (f first) refl (there first) (all_once f total (first + 1) count one there)
  where
    rest : List (ℕ × Bool)
    rest = filter_map f (range_with_len (first + 1) count)

    by : (o : Option (ℕ × Bool)) → f first ≡ o → IfSome o (λ x. x.0 < total) → EachOnce total rest → EachOnce total (cons_option o rest)
    by None e here later = later
    by (Some x) e here later = (here, none_later f first x (first + 1) count one e (omega arith), later)
