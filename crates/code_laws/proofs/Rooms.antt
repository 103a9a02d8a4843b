-- Room for the operands of a form.
use Rattle.std.proofs.Common.{ℕ, suc, ◌+◌, ◌≤◌, max, arith}
use Rattle.std.proofs.Math.Nat.{le-max_left, le-max_right}

-- room for both is room for each
pub left_room : (n a b deepest : ℕ) → n + max a b ≤ deepest → n + a ≤ deepest
left_room n a b deepest room = omega (arith, le-max_left a b)

pub right_room : (n a b deepest : ℕ) → n + max a b ≤ deepest → n + b ≤ deepest
right_room n a b deepest room = omega (arith, le-max_right a b)

-- room above one more operand
pub above : (n a b deepest : ℕ) → n + max a (1 + b) ≤ deepest → suc n + b ≤ deepest
above n a b deepest room = omega (arith, le-max_right a (1 + b))

pub above_left : (n a b deepest : ℕ) → n + max (1 + a) b ≤ deepest → suc n + a ≤ deepest
above_left n a b deepest room = omega (arith, le-max_left (1 + a) b)

-- both operands
pub operand_room : (n a b deepest : ℕ) → 1 ≤ a → n + max (1 + a) b ≤ deepest → n + 2 ≤ deepest
operand_room n a b deepest one room = omega (arith, le-max_left (1 + a) b)

-- a copy of the left operand of AND and OR
pub decided_room : (n a b deepest : ℕ) → n + max (max 2 a) b ≤ deepest → n + 2 ≤ deepest
decided_room n a b deepest room = omega (arith, le-max_left 2 a, le-max_left (max 2 a) b)

-- their right operand
pub skipped_room : (n a b deepest : ℕ) → n + max (max 2 a) b ≤ deepest → n + a ≤ deepest
skipped_room n a b deepest room = omega (arith, le-max_right 2 a, le-max_left (max 2 a) b)

-- room for needs one after another

pub first_room : (a b deepest : ℕ) → max a b ≤ deepest → a ≤ deepest
first_room a b deepest room = omega (arith, le-max_left a b)

pub second_room : (a b deepest : ℕ) → max a b ≤ deepest → b ≤ deepest
second_room a b deepest room = omega (arith, le-max_right a b)
