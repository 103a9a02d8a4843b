-- Numbers are queued while there is room.
use Rattle.std.proofs.Common.{◌≡◌, ℕ, ◌+◌, ◌-◌, ◌≤◌, min, List, ◌++◌, length, take, ap, sym, ◌∙◌, arith}
use Rattle.std.proofs.lemmas.List.{take_min}
use Rattle.std.proofs.Math.Seq.{take-append-add}
use Rattle.circular_buffer.specs.Buffer.{Buffer, buffer}

fits : (room : ℕ) (xs ys : List ℕ) → length xs ≤ room → xs ++ take (min (length ys) (room - length xs)) ys ≡ take room (xs ++ ys)
fits room xs ys h =
    let whole : length xs + (room - length xs) ≡ room = omega arith in
    let other : min (length ys) (room - length xs) ≡ min (room - length xs) (length ys) = omega arith in
    let all = take-append-add xs ys (room - length xs) in
    let of_all : take room (xs ++ ys) ≡ xs ++ take (room - length xs) ys = rw whole at all in
    rw (other, take_min (room - length xs) ys) (sym of_all)

pub buffer_of_room : (old new : Buffer ℕ) (fired : List ℕ) (count : ℕ) → length old.items ≤ old.capacity → count ≡ min (length fired) (old.capacity - length old.items)
    → new ≡ buffer (old.items ++ take count fired) old.capacity → new ≡ buffer (take old.capacity (old.items ++ fired)) old.capacity
buffer_of_room old new fired count h is_count is_new =
    is_new ∙ ap (λ (xs : List ℕ). buffer xs old.capacity) (rw is_count (fits old.capacity old.items fired h))
