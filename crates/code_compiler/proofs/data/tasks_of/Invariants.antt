use Rattle.std.proofs.Common.{◌≡◌, take}
use Rattle.code_compiler.proofs.data.tasks_of.Given as goal

abbrev pub invariant-loop-name : goal.invariant-loop-name
invariant-loop-name l = l.tasks.items ≡ take l.name-index l.name-items
