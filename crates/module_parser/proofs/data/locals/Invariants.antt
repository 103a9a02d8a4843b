use Rattle.std.proofs.Common.{◌≡◌, ◌-◌, [], ◌∷◌, map, length}
use Rattle.rapid_limits.specs.declared.TheConstants.{MOST_LEVELS}
use Rattle.raw_trees.specs.Views.{view_datum}
use Rattle.rapid_forms.specs.declared.sign.Sign.TheVariants as signs
use Rattle.rapid_forms.specs.Reading.{many_read, rest_from}
use Rattle.rapid_forms.proofs.Loops.{with_front}
use Rattle.module_parser.specs.Reads.{datum_read, locals_read}
use Rattle.module_parser.proofs.data.locals.Given as goal

abbrev pub invariant-loop-list : goal.invariant-loop-list
invariant-loop-list l = with_front (map view_datum l.list.items) (many_read (signs.Const ∷ signs.Var ∷ []) (datum_read (signs.Const ∷ signs.Var ∷ []) MOST_LEVELS) (rest_from l.p.tokens l.next)) ≡ locals_read MOST_LEVELS (rest_from l.p.tokens l.at)

abbrev pub decreases-loop-list : goal.decreases-loop-list
decreases-loop-list l = length l.p.tokens.list.now - l.next
