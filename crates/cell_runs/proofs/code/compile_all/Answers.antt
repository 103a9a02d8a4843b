use Rattle.cell_runs.proofs.Compiling.{compiled_all, compiled_more, tree_checked}
use Rattle.cell_runs.proofs.code.compile_all.Goals as goal

pub compile_one-requires : goal.compile_one-requires
compile_one-requires c = tree_checked c.args.trees.now c.loop-tree.tree-index c.tree-item.result c.loop-tree-test.true c.tree-item.is c.requires

pub loop-tree-preserved : goal.loop-tree-preserved
loop-tree-preserved c =
    compiled_more c.args.trees.now c.loop-tree.tree-index c.tree-item.result c.loop-tree.each.items c.push.new.self.items c.in_ok-code.code c.loop-tree-test.true c.tree-item.is
    c.loop-tree.invariant c.in_ok-code.ensures c.in_ok-push.ensures.items

pub returns : goal.returns
returns c = compiled_all c.args.trees.now c.loop-tree.tree-index c.loop-tree.each.items c.loop-tree-test.false c.loop-tree.invariant
