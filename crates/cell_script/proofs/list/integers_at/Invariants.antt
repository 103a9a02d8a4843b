use Rattle.std.proofs.Common.{◌≡◌, drop}
use Rattle.toml.specs.Data.{as_integer}
use Rattle.cell_script.proofs.Items.{with_front, left}
use Rattle.cell_script.proofs.list.integers_at.Given as goal

abbrev pub invariant-loop-item : goal.invariant-loop-item
invariant-loop-item l = with_front l.integers.items (left as_integer (drop l.item-index l.items)) ≡ left as_integer l.items
