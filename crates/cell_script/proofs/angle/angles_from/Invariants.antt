use Rattle.std.proofs.Common.{◌≡◌, true, take}
use Rattle.std.specs.List.{list_all}
use Rattle.cell_script.specs.Parts.{is_angle}
use Rattle.cell_script.proofs.angle.angles_from.Given as goal

abbrev pub invariant-loop-integer : goal.invariant-loop-integer
invariant-loop-integer l = (l.angles.items ≡ take l.integer-index l.integers) × (list_all is_angle (take l.integer-index l.integers) ≡ true)
