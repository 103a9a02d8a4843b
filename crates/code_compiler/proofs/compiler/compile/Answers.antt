use Rattle.std.proofs.Common.{◌≡◌, sym, ◌∙◌, subst, length, IsTrue}
use Rattle.rapid_model.specs.Limits.{is_axes}
use Rattle.typed_trees.specs.Plain.{TypedTree}
use Rattle.typed_trees.specs.Views.{view_tree}
use Rattle.stack_code.specs.CodeData.{CodeData}
use Rattle.stack_code.specs.Compiled.{compiled}
use Rattle.task_code.specs.Armless.{is_armless}
use Rattle.task_code.specs.Owners.{Tiles}
use Rattle.task_code.proofs.Rows.{tiled}
use Rattle.task_code.specs.Live.{IsLive}
use Rattle.code_laws.specs.Asking.{AsksAs}
use Rattle.code_laws.proofs.Armless.{armless}
use Rattle.code_laws.proofs.Lives.{asks_as, live}
use Rattle.code_compiler.proofs.compiler.compile.Goals as goal

pub kept-requires : goal.kept-requires
kept-requires c = record {
  live = subst (λ (code : CodeData). IsLive code) (sym c.in_ok-linked.ensures) (live (view_tree c.args.tree.now) c.requires);
  tiled = subst (λ (code : CodeData). Tiles 0 (length code.ops) code.owners) (sym c.in_ok-linked.ensures) (tiled (view_tree c.args.tree.now));
  few_ops = c.is_counted.ensures.ops c.if-is_counted.true;
  few_slots = c.is_counted.ensures.slots c.if-is_counted.true;
  axes = subst (λ (code : CodeData). IsTrue (is_axes code.axes)) (sym c.in_ok-linked.ensures) c.requires.typed.axes;
  armless = subst (λ (code : CodeData). code.axes ≡ 0 → IsTrue (is_armless code.ops)) (sym c.in_ok-linked.ensures) (armless c.requires.signals (view_tree c.args.tree.now) c.requires.typed);
}

pub returns-then-is_counted-clause-asks : goal.returns-then-is_counted-clause-asks
returns-then-is_counted-clause-asks c =
    subst (λ (code : CodeData). AsksAs (view_tree c.args.tree.now) code) (sym (c.kept.ensures ∙ c.in_ok-linked.ensures)) (asks_as (view_tree c.args.tree.now) c.requires)
