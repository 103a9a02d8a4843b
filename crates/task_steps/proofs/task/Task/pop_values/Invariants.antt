use Rattle.std.proofs.Common.{◌≡◌, ◌≤◌, List, length, drop}
use Rattle.rapid_model.specs.declared.value.Value.{Value}
use Rattle.typed_trees.specs.declared.datum.Datum.{Datum}
use Rattle.rapid_meaning.specs.Doings.{Doing}
use Rattle.stack_code.specs.Confs.{Conf}
use Rattle.stack_code.specs.Operands.{on_values}
use Rattle.task_steps.specs.Alike.{with_stack}
use Rattle.task_steps.proofs.Packs.{onto}
use Rattle.task_steps.proofs.task.Task.pop_values.Given as goal

abbrev pub invariant-loop-left : goal.invariant-loop-left
invariant-loop-left l = record {
  within : l.left ≤ length l.values;
  long : length l.values ≡ length l.fn.values;
  on : (next : List Value → List Datum → Doing Conf) → on_values (length l.fn.values) l.fn.self.conf.stack next ≡ on_values l.left l.self.conf.stack (onto (drop l.left l.values) next);
  rest : l.self ≡ with_stack l.self.conf.stack l.fn.self;
}

abbrev pub decreases-loop-left : goal.decreases-loop-left
decreases-loop-left l = l.left
