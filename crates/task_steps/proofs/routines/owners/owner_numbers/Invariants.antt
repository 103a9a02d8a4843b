use Rattle.std.proofs.Common.{◌≡◌, ◌-◌, ◌<◌, length}
use Rattle.task_code.specs.Owners.{IsNumberAt}
use Rattle.task_steps.specs.Loading.{NamesOwners}
use Rattle.task_steps.proofs.routines.owners.owner_numbers.Given as goal

abbrev pub invariant-loop-pc : goal.invariant-loop-pc
invariant-loop-pc l = record {
  long : length l.numbers.items ≡ l.pc;
  named : NamesOwners l.owners l.pc l.numbers.items;
  near : l.pc < l.count → IsNumberAt l.owners (l.pc - 1) l.number;
}
