use Rattle.std.proofs.Common.{◌≡◌, ◌-◌, [], ◌∷◌, length, map}
use Rattle.raw_trees.specs.Views.{view_name}
use Rattle.rapid_forms.specs.declared.sign.Sign.TheVariants as signs
use Rattle.rapid_forms.specs.Reading.{many_read, rest_from}
use Rattle.rapid_forms.proofs.Loops.{with_front}
use Rattle.expr_parser.specs.Reads.{part_read}
use Rattle.expr_parser.proofs.primary.parts.Given as goal

abbrev pub invariant-loop-list : goal.invariant-loop-list
invariant-loop-list l =
    with_front (map view_name l.list.items) (many_read (signs.Dot ∷ []) part_read (rest_from l.p.tokens l.next)) ≡ many_read (signs.Dot ∷ []) part_read (rest_from l.p.tokens l.at)

abbrev pub decreases-loop-list : goal.decreases-loop-list
decreases-loop-list l = length l.p.tokens.list.now - l.next
