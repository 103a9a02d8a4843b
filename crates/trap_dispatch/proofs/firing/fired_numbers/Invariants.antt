use Rattle.std.proofs.Common.{◌≡◌, ◌≤◌, length}
use Rattle.std.specs.List.{filter, range_with_len}
use Rattle.trap_dispatch.specs.Firing.{connected_at, fires}
use Rattle.trap_dispatch.proofs.firing.fired_numbers.Given as goal

-- the numbers so far that fire, at most one for each index
abbrev pub invariant-loop-index : goal.invariant-loop-index
invariant-loop-index l =
    (l.fired.items ≡ filter (λ number. fires l.changes (connected_at l.numbers number)) (range_with_len 1 l.index)) × (length l.fired.items ≤ l.index)
