use Rattle.std.proofs.Common.{◌≡◌, ◌++◌, take}
use Rattle.stack_code.specs.Firsts.{in_full}
use Rattle.code_compiler.proofs.firsts.add_each.Given as goal

abbrev pub invariant-loop-datum : goal.invariant-loop-datum
invariant-loop-datum l = in_full l.firsts.items ≡ in_full l.initial.firsts.items ++ take l.datum-index l.each
