use Rattle.std.proofs.Common.{◌≡◌, drop}
use Rattle.rapid_values.specs.Components.{component_of}
use Rattle.rapid_values.proofs.Rows.{plain}
use Rattle.rapid_values.proofs.components.row_of.Given as goal

abbrev pub invariant-loop-spelling : goal.invariant-loop-spelling
invariant-loop-spelling l = component_of l.name (plain (drop l.spelling-index l.rows)) ≡ component_of l.name (plain l.rows)
