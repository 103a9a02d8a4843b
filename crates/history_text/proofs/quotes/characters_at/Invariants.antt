use Rattle.std.proofs.Common.{◌≡◌, ◌-◌, []}
use Rattle.history_text.specs.Reading.{characters_at}
use Rattle.history_text.proofs.quotes.characters_at.Given as goal

abbrev pub invariant-loop : goal.invariant-loop
invariant-loop l = characters_at l.steps [] l.text ≡ characters_at (l.steps - l.counter) l.so_far l.rest
