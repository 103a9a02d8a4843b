use Rattle.std.proofs.Common.{◌≡◌, map, drop}
use Rattle.raw_trees.specs.Views.{view_name}
use Rattle.named_data.specs.Data.{part_at, whole_of}
use Rattle.named_data.specs.Views.{view_site}
use Rattle.named_data.proofs.component.part_at.Given as goal

abbrev pub invariant-loop-name : goal.invariant-loop-name
invariant-loop-name l =
    part_at (view_site l.site) l.found (map view_name (drop l.name-index l.components))
    ≡ part_at (view_site l.site) (whole_of l.fn.sort) (map view_name l.components)
