use Rattle.std.proofs.Common.{◌≡◌, ◌≤◌, length, take}
use Rattle.std.specs.Vec.{vec_capacity}
use Rattle.history_pages.proofs.pages.Pages.copy_to.Given as goal

abbrev pub invariant-loop-k : goal.invariant-loop-k
invariant-loop-k l =
    record { copied : l.events.items ≡ take l.k l.self.events; count : length l.events.items ≡ l.k; room : length l.self.events ≤ vec_capacity l.events }
