use Rattle.std.proofs.Common.{ap, ◌∙◌, ◌+◌, arith, slice_get}
use Rattle.std.specs.Prelude.{is_some}
use Rattle.std.specs.Option.{option_and_then}
use Rattle.rapid_meaning.specs.Data.{frame_at}
use Rattle.task_steps.specs.Seen.{Seen}
use Rattle.task_steps.proofs.Found.{few_there, there_is, there_is-not}
use Rattle.task_steps.proofs.task.Task.own_behind.Goals as goal

pub overflow_cast-result : goal.overflow_cast-result
overflow_cast-result c =
    let few = few_there c.self.inside.frames.frames c.args.frame (c.args.at + c.args.count) c.has.result c.has.ensures c.if-has.true in
    omega (arith, few)

pub returns-then-has : goal.returns-then-has
returns-then-has c =
    let there = c.has.ensures ∙ ap (λ (s : Seen). is_some (option_and_then (λ f. slice_get f.values (c.args.at + c.args.count)) (frame_at s.data'.frames c.args.frame))) c.self.view_is in
    there_is (option_and_then (λ f. slice_get f.values (c.args.at + c.args.count)) (frame_at c.args.self.now.data'.frames c.args.frame)) (c.args.at + c.args.count) c.has.result there c.if-has.true

pub returns-else-has : goal.returns-else-has
returns-else-has c =
    let there = c.has.ensures ∙ ap (λ (s : Seen). is_some (option_and_then (λ f. slice_get f.values (c.args.at + c.args.count)) (frame_at s.data'.frames c.args.frame))) c.self.view_is in
    there_is-not (option_and_then (λ f. slice_get f.values (c.args.at + c.args.count)) (frame_at c.args.self.now.data'.frames c.args.frame)) (c.args.at + c.args.count) c.has.result there c.if-has.false
