-- Room for operands.
use Rattle.std.proofs.Common.{◌≡◌, arith, ℕ, zero, suc, ◌+◌, ◌*◌, ◌<◌, ◌≤◌, List, [], ◌∷◌, length, slice_index_or}
use Rattle.std.specs.List.{sum_by}
use Rattle.std.proofs.Math.Nat.{mul-le-mul_right}
use Rattle.std.proofs.lemmas.List.Sums.{sum_by-le}
use Rattle.typed_trees.specs.declared.datum.Datum.{Datum}
use Rattle.rapid_meaning.specs.Data.{Frame, below_first}
use Rattle.task_steps.specs.Tasks.{Within}

all_within : (room : ℕ) (xs : List (List Datum)) → Within room xs → (k : ℕ) (d : List Datum) → k < length xs → length (slice_index_or xs k d) ≤ room
all_within room [] w k d below = absurd (omega arith)
all_within room (x ∷ xs) w zero d below = w.0
all_within room (x ∷ xs) w (suc k) d below = all_within room xs w.1 k d (omega arith)

within_sum : (room : ℕ) (xs : List (List Datum)) → Within room xs → sum_by length xs ≤ length xs * room
within_sum room xs w = sum_by-le length room xs (all_within room xs w)

-- one more operand
pub room_for : (room all : ℕ) (top : List Datum) (below : List (List Datum)) → Within room below → length top < room → length below ≤ 32 → 33 * room ≤ all → length top + sum_by length below < all
room_for room all top below within some few enough =
    let sum = within_sum room below within in
    let most : length below * room ≤ 32 * room = mul-le-mul_right room few in
    omega arith

-- one frame less
pub one_fewer : (xs : List Frame) (n : ℕ) → length xs ≡ suc n → length (below_first xs) ≡ n
one_fewer [] n e = absurd (omega arith)
one_fewer (x ∷ xs) n e = omega arith
