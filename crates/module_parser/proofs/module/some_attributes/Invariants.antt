use Rattle.std.proofs.Common.{◌≡◌, ◌-◌, [], ◌∷◌, length}
use Rattle.rapid_forms.specs.declared.sign.Sign.TheVariants as signs
use Rattle.rapid_forms.specs.Reading.{many_read, made_read, seq_read, rest_from}
use Rattle.rapid_forms.proofs.Loops.{with_front}
use Rattle.expr_parser.specs.Grammar.{first_and_more}
use Rattle.module_parser.specs.Reads.{attribute_read, more_attribute_read}
use Rattle.module_parser.proofs.module.some_attributes.Given as goal

abbrev pub invariant-loop-list : goal.invariant-loop-list
invariant-loop-list l = with_front l.list.items (many_read (signs.Comma ∷ []) more_attribute_read (rest_from l.p.tokens l.next)) ≡ made_read first_and_more (seq_read attribute_read (many_read (signs.Comma ∷ []) more_attribute_read)) (rest_from l.p.tokens l.at)

abbrev pub decreases-loop-list : goal.decreases-loop-list
decreases-loop-list l = length l.p.tokens.list.now - l.next
