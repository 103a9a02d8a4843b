use Rattle.std.proofs.Common.{◌≡◌, drop}
use Rattle.toml.specs.Data.{as_str}
use Rattle.cell_script.proofs.Items.{with_front, left}
use Rattle.cell_script.proofs.list.texts_at.Given as goal

abbrev pub invariant-loop-item : goal.invariant-loop-item
invariant-loop-item l = with_front l.texts.items (left as_str (drop l.item-index l.items)) ≡ left as_str l.items
