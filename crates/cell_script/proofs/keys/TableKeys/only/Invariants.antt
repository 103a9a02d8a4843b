use Rattle.std.proofs.Common.{◌≡◌, map, string_bytes}
use Rattle.toml.specs.View.{table_view}
use Rattle.cell_script.specs.Keys.{first_unknown, keys_of}
use Rattle.cell_script.proofs.keys.TableKeys.only.Given as goal

abbrev pub invariant-loop-key : goal.invariant-loop-key
invariant-loop-key g l =
    (goal.iterator-loop-key g).can_next l.key-iterator × (goal.iterator-loop-key g).is_finite l.key-iterator
    × (first_unknown (map (λ key. key.now) l.known) (map string_bytes l.key-iterator) ≡ first_unknown (map (λ key. key.now) l.known) (keys_of (table_view l.self.table.now)))
