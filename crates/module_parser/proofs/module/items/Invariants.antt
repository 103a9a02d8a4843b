use Rattle.std.proofs.Common.{◌≡◌, ◌-◌, map, length}
use Rattle.rapid_limits.specs.declared.TheConstants.{MOST_LEVELS}
use Rattle.raw_trees.specs.Views.{view_item}
use Rattle.rapid_forms.specs.Reading.{many_read, rest_from}
use Rattle.rapid_forms.proofs.Loops.{with_front}
use Rattle.module_parser.specs.Reads.{item_signs, item_read}
use Rattle.module_parser.proofs.module.items.Given as goal

abbrev pub invariant-loop-list : goal.invariant-loop-list
invariant-loop-list l = with_front (map view_item l.list.items) (many_read item_signs (item_read MOST_LEVELS) (rest_from l.p.tokens l.next)) ≡ many_read item_signs (item_read MOST_LEVELS) (rest_from l.p.tokens l.at)

abbrev pub decreases-loop-list : goal.decreases-loop-list
decreases-loop-list l = length l.p.tokens.list.now - l.next
