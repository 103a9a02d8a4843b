use Rattle.std.proofs.Common.{◌≡◌, ◌++◌, replicate}
use Rattle.typed_trees.specs.declared.datum.Datum.TheVariants.{Mark}
use Rattle.machine_stacks.specs.Words.{datum_in}
use Rattle.machine_stacks.proofs.words.Words.push_words.Given as goal

abbrev pub invariant-loop-copy : goal.invariant-loop-copy
invariant-loop-copy l = l.self ≡ record l.initial.self { items = l.initial.self.items ++ replicate l._copy (datum_in l.word (Mark 0)) }
