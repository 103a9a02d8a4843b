use Rattle.std.proofs.Common.{List, sym, subst}
use Rattle.std.specs.List.{AllByRecursion}
use Rattle.task_machine.specs.MachineData.{MachineData}
use Rattle.cell_runs.proofs.Compiling.{all_new, code_in, compiled_all, is_new, machine_more, tree_checked}
use Rattle.cell_runs.proofs.crew.crew_of.Goals as goal

pub machine_of-requires : goal.machine_of-requires
machine_of-requires c = tree_checked c.args.trees.now c.loop-tree.tree-index c.tree-item.result c.loop-tree-test.true c.tree-item.is c.requires

pub loop-tree-preserved : goal.loop-tree-preserved
loop-tree-preserved c = record {
  programs =
      machine_more c.args.trees.now c.loop-tree.tree-index c.tree-item.result c.loop-tree.machines.items c.push.new.self.items c.in_ok-machine.machine c.loop-tree-test.true c.tree-item.is
      c.loop-tree.invariant.programs c.in_ok-machine.ensures.program c.in_ok-push.ensures.items;
  fresh =
      subst (λ (ms : List MachineData). AllByRecursion is_new ms) (sym c.in_ok-push.ensures.items)
      (all_new c.loop-tree.machines.items c.in_ok-machine.machine c.loop-tree.invariant.fresh c.in_ok-machine.ensures.fresh);
}

pub returns-clause-programs : goal.returns-clause-programs
returns-clause-programs c = compiled_all c.args.trees.now c.loop-tree.tree-index (code_in c.loop-tree.machines.items) c.loop-tree-test.false c.loop-tree.invariant.programs
