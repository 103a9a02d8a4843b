-- A move has as many setpoints as its cap needs.
use Rattle.std.proofs.Common.{◌≡◌, ◌⊎◌, inl, inr, ◌≤◌, ◌<◌, ℕ, zero, suc, ◌+◌, ◌-◌, ◌*◌, ◌/◌, ◌%◌, max, refl, sym, ap, ◌∙◌, subst, arith, List, [], ◌∷◌, ℤ, nat_abs, ◌-ℤ◌, Some, slice_get}
use Rattle.std.proofs.Math.Nat.{mod-lt, suc-mul}
use Rattle.std.proofs.lemmas.Nat.{div-add-mod'}
use Rattle.rapid_num.specs.declared.joints.Joints.{Joints}
use Rattle.joint_planner.specs.Caps.{Goes, Outruns}
use Rattle.joint_planner.specs.Setpoints.{greatest_change, setpoint_count}

within : (axes : ℕ) (ps qs : List ℤ) (axis : ℕ) (p q : ℤ) → axis < axes → slice_get ps axis ≡ Some p → slice_get qs axis ≡ Some q → nat_abs (q -ℤ p) ≤ greatest_change axes ps qs
unfolding greatest_change
within zero ps qs axis p q few from to = absurd (omega arith)
within (suc axes) [] qs axis p q few from to = absurd cc
within (suc axes) (x ∷ xs) [] axis p q few from to = absurd cc
within (suc axes) (x ∷ xs) (y ∷ ys) zero p q few from to =
    let same : nat_abs (y -ℤ x) ≡ nat_abs (q -ℤ p) = cc in omega (arith, same)
within (suc axes) (x ∷ xs) (y ∷ ys) (suc axis) p q few from to =
    let rest : nat_abs (q -ℤ p) ≤ greatest_change axes xs ys = within axes xs ys axis p q (omega arith) from to in omega (arith, rest)

-- an axis with the greatest change, where that is above zero
record Greatest (axes : ℕ) (ps qs : List ℤ) (change : ℕ) : Type 0 where
  axis : ℕ
  p : ℤ
  q : ℤ
  few : axis < axes
  from : slice_get ps axis ≡ Some p
  to : slice_get qs axis ≡ Some q
  is : nat_abs (q -ℤ p) ≡ change

first_or_later : (m n : ℕ) → (max m n ≡ m) ⊎ (max m n ≡ n)
first_or_later m n = either (split m n)
  where
    split : (a b : ℕ) → (b ≤ a) ⊎ (a ≤ b)
    split zero b = inr (omega arith)
    split (suc a) zero = inl (omega arith)
    split (suc a) (suc b) = elim (split a b) [ inl h ↦ inl (omega arith) | inr h ↦ inr (omega arith) ]

    either : (n ≤ m) ⊎ (m ≤ n) → (max m n ≡ m) ⊎ (max m n ≡ n)
    either (inl h) = inl (omega arith)
    either (inr h) = inr (omega arith)

greatest : (axes : ℕ) (ps qs : List ℤ) → 0 < greatest_change axes ps qs → Greatest axes ps qs (greatest_change axes ps qs)
unfolding greatest_change
greatest zero ps qs some = absurd (omega arith)
greatest (suc axes) [] qs some = absurd (omega arith)
greatest (suc axes) (x ∷ xs) [] some = absurd (omega arith)
greatest (suc axes) (x ∷ xs) (y ∷ ys) some = elim (first_or_later (nat_abs (y -ℤ x)) (greatest_change axes xs ys)) [
  | inl e ↦ record { axis = 0; p = x; q = y; few = omega arith; from = refl; to = refl; is = omega (arith, e) }
  | inr e ↦
      let rest : Greatest axes xs ys (greatest_change axes xs ys) = greatest axes xs ys (omega (arith, e, some)) in
      record { axis = suc rest.axis; p = rest.p; q = rest.q; few = omega (arith, rest.few); from = rest.from; to = rest.to; is = omega (arith, e, rest.is) }
]

-- q is change / cap, rounded up
enough_by : (change cap q r : ℕ) → 1 ≤ cap → q * cap + r ≡ change + (cap - 1) → r < cap → change ≤ max 1 q * cap
enough_by change cap zero r some is rest = omega (arith, is)
enough_by change cap (suc q) r some is rest =
    let same : max 1 (suc q) ≡ suc q = omega arith in
    subst (λ (n : ℕ). change ≤ n * cap) (sym same) (omega (arith, is, rest, suc-mul q cap))

needed_by : (change cap q r : ℕ) → 1 ≤ cap → q * cap + r ≡ change + (cap - 1) → r < cap → (max 1 q ≡ 1) ⊎ ((max 1 q - 1) * cap < change)
needed_by change cap zero r some is rest = inl refl
needed_by change cap (suc q) r some is rest =
    let same : q ≡ max 1 (suc q) - 1 = omega arith in
    let less : q * cap < change = omega (arith, is, rest, suc-mul q cap) in
    inr (subst (λ (n : ℕ). n * cap < change) same less)

enough_for : (change cap : ℕ) → 1 ≤ cap → change ≤ max 1 ((change + (cap - 1)) / cap) * cap
enough_for change cap some =
    enough_by change cap ((change + (cap - 1)) / cap) ((change + (cap - 1)) % cap) some (div-add-mod' (change + (cap - 1)) cap) (mod-lt (change + (cap - 1)) (omega arith))

needed_for : (change cap : ℕ) → 1 ≤ cap → (max 1 ((change + (cap - 1)) / cap) ≡ 1) ⊎ ((max 1 ((change + (cap - 1)) / cap) - 1) * cap < change)
needed_for change cap some =
    needed_by change cap ((change + (cap - 1)) / cap) ((change + (cap - 1)) % cap) some (div-add-mod' (change + (cap - 1)) cap) (mod-lt (change + (cap - 1)) (omega arith))

pub enough : (axes : ℕ) (start target : Joints) (cap axis : ℕ) (from to : ℤ) → 1 ≤ cap → Goes axes start target axis from to → nat_abs (to -ℤ from) ≤ setpoint_count axes start target cap * cap
enough axes start target cap axis from to some goes =
    let one : nat_abs (to -ℤ from) ≤ greatest_change axes start.axis target.axis = within axes start.axis target.axis axis from to goes.moved goes.starts goes.ends in
    let all : greatest_change axes start.axis target.axis ≤ setpoint_count axes start target cap * cap = enough_for (greatest_change axes start.axis target.axis) cap some in
    omega (arith, one, all)

outruns : (axes : ℕ) (start target : Joints) (most : ℕ) → most < greatest_change axes start.axis target.axis → Outruns axes start target most
outruns axes start target most more =
    let g : Greatest axes start.axis target.axis (greatest_change axes start.axis target.axis) = greatest axes start.axis target.axis (omega (arith, more)) in
    record { axis = g.axis; from = g.p; to = g.q; goes = record { moved = g.few; starts = g.from; ends = g.to }; more = omega (arith, more, g.is) }

pub needed : (axes : ℕ) (start target : Joints) (cap : ℕ) → 1 ≤ cap → (setpoint_count axes start target cap ≡ 1) ⊎ Outruns axes start target ((setpoint_count axes start target cap - 1) * cap)
needed axes start target cap some = elim (needed_for (greatest_change axes start.axis target.axis) cap some) [
  | inl one ↦ inl one
  | inr more ↦ inr (outruns axes start target ((setpoint_count axes start target cap - 1) * cap) more)
]
