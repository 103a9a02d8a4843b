-- Values that are popped one by one.
use Rattle.std.proofs.Common.{◌≡◌, refl, sym, ap, ◌∙◌, ℕ, zero, suc, ◌+◌, ◌<◌, Bool, true, false, List, [], ◌∷◌, ◌++◌, length, take, drop, reverse, nat_le, Option, None, Some, if◌then◌else◌, arith, append_assoc}
use Rattle.std.specs.Option.{option_and_then, option_map}
use Rattle.std.proofs.Math.Dec.{leb-suc-suc, leb-suc-zero, leb-zero}
use Rattle.std.proofs.Math.ListN.{set}
use Rattle.std.proofs.lemmas.List.{append-nil, drop-set, drop_all, reverse-append}
use Rattle.rapid_model.specs.declared.value.Value.{Value}
use Rattle.machine_stacks.specs.Forms.{as_value}
use Rattle.typed_trees.specs.declared.datum.Datum.{Datum}
use Rattle.typed_trees.specs.declared.datum.Datum.TheVariants as datums
use Rattle.rapid_meaning.specs.Doings.{Doing, Misfit, Raises, after, or_misfit}
use Rattle.stack_code.specs.Confs.{Conf}
use Rattle.stack_code.specs.Operands.{on_value, on_values, values_in}
use Rattle.task_steps.specs.Alike.{popped}

-- the values of data, if all are values
abbrev plains : List Datum → Option (List Value)
plains [] = Some []
plains (x ∷ xs) = option_and_then (λ v. option_map (λ vs. v ∷ vs) (plains xs)) (as_value x)

values_plain : (xs : List Datum) → values_in xs ≡ or_misfit (plains xs)
unfolding after
values_plain [] = refl
values_plain (datums.Plain v ∷ xs) = rw (values_plain xs) (by (plains xs))
  where
    by : (o : Option (List Value)) → after (or_misfit o) (λ vs. or_misfit (Some (v ∷ vs))) Raises ≡ or_misfit (option_map (λ vs. v ∷ vs) o)
    by None = refl
    by (Some vs) = refl
values_plain (datums.Mark n ∷ xs) = refl
values_plain (datums.Shape s ∷ xs) = refl
values_plain (datums.Place p ∷ xs) = refl

-- with one after them
abbrev behind : Option Value → List Value → Option (List Value)
behind o vs = option_map (λ v. vs ++ v ∷ []) o

plains_behind : (xs : List Datum) (x : Datum) → plains (xs ++ x ∷ []) ≡ option_and_then (behind (as_value x)) (plains xs)
plains_behind [] x = by (as_value x)
  where
    by : (o : Option Value) → option_and_then (λ v. option_map (λ vs. v ∷ vs) (Some [])) o ≡ option_map (λ v. [] ++ v ∷ []) o
    by None = refl
    by (Some v) = refl
plains_behind (y ∷ xs) x = rw (plains_behind xs x) (by (as_value y) (plains xs) (as_value x))
  where
    by : (first : Option Value) (more : Option (List Value)) (last : Option Value)
        → option_and_then (λ v. option_map (λ vs. v ∷ vs) (option_and_then (behind last) more)) first ≡ option_and_then (behind last) (option_and_then (λ v. option_map (λ vs. v ∷ vs) more) first)
    by None more last = refl
    by (Some v) None last = refl
    by (Some v) (Some vs) None = refl
    by (Some v) (Some vs) (Some w) = refl

-- none are popped
pub values_none : (stack : List Datum) (next : List Value → List Datum → Doing Conf) → on_values 0 stack next ≡ next [] stack
unfolding after
values_none [] next = refl
values_none (x ∷ stack) next = rw (leb-zero (suc (length stack))) refl

-- the one on top is the last
last_one : (count : ℕ) (v : Value) (rest : List Datum) (next : List Value → List Datum → Doing Conf)
    → on_values (suc count) (datums.Plain v ∷ rest) next ≡ on_values count rest (λ vs below. next (vs ++ v ∷ []) below)
unfolding after
last_one count v rest next =
    rw (leb-suc-suc count (length rest), reverse-append (datums.Plain v ∷ []) (take count rest), values_plain (reverse (take count rest) ++ datums.Plain v ∷ []), plains_behind (reverse (take count rest)) (datums.Plain v), values_plain (reverse (take count rest)))
    (by (nat_le count (length rest)) (plains (reverse (take count rest))) (drop count rest))
  where
    by : (b : Bool) (o : Option (List Value)) (below : List Datum)
        → (if b then after (or_misfit (option_and_then (behind (Some v)) o)) (λ vs. next vs below) Raises else Misfit) ≡ (if b then after (or_misfit o) (λ vs. next (vs ++ v ∷ []) below) Raises else Misfit)
    by true None below = refl
    by true (Some vs) below = refl
    by false o below = refl

-- which is a value
last_none : (count : ℕ) (x : Datum) (rest : List Datum) (next : List Value → List Datum → Doing Conf) → as_value x ≡ None → on_values (suc count) (x ∷ rest) next ≡ Misfit
unfolding after
last_none count x rest next none =
    rw (reverse-append (x ∷ []) (take count rest), values_plain (reverse (take count rest) ++ x ∷ []), plains_behind (reverse (take count rest)) x, none)
    (by (nat_le (suc count) (suc (length rest))) (plains (reverse (take count rest))) (drop count rest))
  where
    by : (b : Bool) (o : Option (List Value)) (below : List Datum) → (if b then after (or_misfit (option_and_then (behind None) o)) (λ vs. next vs below) Raises else Misfit) ≡ Misfit
    by true None below = refl
    by true (Some vs) below = refl
    by false o below = refl

one_more : (count : ℕ) (stack : List Datum) (next : List Value → List Datum → Doing Conf)
    → on_values (suc count) stack next ≡ on_value stack (λ v rest. on_values count rest (λ vs below. next (vs ++ v ∷ []) below))
one_more count [] next = rw (leb-suc-zero count) refl
one_more count (datums.Plain v ∷ rest) next = last_one count v rest next
one_more count (datums.Mark n ∷ rest) next = last_none count (datums.Mark n) rest next refl
one_more count (datums.Shape s ∷ rest) next = last_none count (datums.Shape s) rest next refl
one_more count (datums.Place p ∷ rest) next = last_none count (datums.Place p) rest next refl

-- the values of a list that are still to be popped, in front of those that are there
abbrev pub onto : List Value → (List Value → List Datum → Doing Conf) → List Value → List Datum → Doing Conf
onto there next vs rest = next (vs ++ there) rest

-- all are still to be popped
pub all_left : (values : List Value) (left : ℕ) (stack : List Datum) (next : List Value → List Datum → Doing Conf) → left ≡ length values
    → on_values (length values) stack next ≡ on_values left stack (onto (drop left values) next)
all_left values left stack next is = rw (is, drop_all (length values) values (omega arith)) (sym (simp append-nil))

-- one of them is
pub one_left : (values : List Value) (left fewer : ℕ) (stack rest : List Datum) (v : Value) (next : List Value → List Datum → Doing Conf) → left ≡ suc fewer → fewer < length values
    → ((go : Value → List Datum → Doing Conf) → on_value stack go ≡ popped (Some v) rest go)
    → on_values left stack (onto (drop left values) next) ≡ on_values fewer rest (onto (drop fewer (set values fewer v)) next)
one_left values left fewer stack rest v next is within on =
    let after_it : fewer + 1 ≡ suc fewer = omega arith in
    let stored : drop fewer (set values fewer v) ≡ v ∷ drop (suc fewer) values = drop-set values fewer v within ∙ ap (λ (n : ℕ). v ∷ drop n values) after_it in
    ap (λ (n : ℕ). on_values n stack (onto (drop n values) next)) is
    ∙ (one_more fewer stack (onto (drop (suc fewer) values) next)
    ∙ (on (λ w below. on_values fewer below (λ vs bottom. onto (drop (suc fewer) values) next (vs ++ w ∷ []) bottom))
    ∙ rw stored (simp append_assoc)))

-- it is not there
pub not_there : (left : ℕ) (stack rest : List Datum) (next : List Value → List Datum → Doing Conf) → zero < left
    → ((go : Value → List Datum → Doing Conf) → on_value stack go ≡ popped None rest go) → on_values left stack next ≡ Misfit
not_there zero stack rest next some on = absurd (omega (arith, some))
not_there (suc left) stack rest next some on = one_more left stack next ∙ on (λ v below. on_values left below (λ vs bottom. next (vs ++ v ∷ []) bottom))

-- all are there
pub none_left : (values : List Value) (left : ℕ) (stack : List Datum) (next : List Value → List Datum → Doing Conf) → left ≡ 0 → on_values left stack (onto (drop left values) next) ≡ next values stack
none_left values left stack next is = rw is (values_none stack (onto (drop 0 values) next))
