use Rattle.std.proofs.Common.{◌≡◌, ◌≤◌}
use Rattle.std.specs.List.{All}
use Rattle.std.specs.Vec.{vec_capacity, vec_len}
use Rattle.history_pages.specs.Paged.{IsFresh}
use Rattle.history_pages.proofs.paged.fresh_pages.Given as goal

-- the pages so far
abbrev pub invariant-loop-page : goal.invariant-loop-page
invariant-loop-page g l = record {
  count : vec_len l.pages ≡ l._page;
  room : l.count ≤ vec_capacity l.pages;
  fresh : All (IsFresh l.room) l.pages.items;
}
