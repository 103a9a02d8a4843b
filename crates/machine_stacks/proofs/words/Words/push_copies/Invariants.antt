use Rattle.std.proofs.Common.{◌≡◌, ◌++◌, replicate}
use Rattle.machine_stacks.proofs.words.Words.push_copies.Given as goal

abbrev pub invariant-loop-copy : goal.invariant-loop-copy
invariant-loop-copy l = l.self ≡ record l.initial.self { items = l.initial.self.items ++ replicate l._copy l.datum }
