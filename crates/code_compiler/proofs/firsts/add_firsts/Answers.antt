use Rattle.std.proofs.Common.{◌≡◌, ◌+◌, ◌++◌, length, replicate, ap, ◌∙◌, arith}
use Rattle.std.specs.Prelude.{flat_map}
use Rattle.std.proofs.lemmas.List.{append_assoc, length-append, length-replicate}
use Rattle.std.proofs.lemmas.Result.{IfOk-weaker}
use Rattle.rapid_meaning.specs.Frames.{first_values}
use Rattle.rapid_model.specs.declared.value.Value.TheVariants.{Num}
use Rattle.stack_code.specs.Firsts.{in_full}
use Rattle.typed_trees.specs.Views.{view_routine}
use Rattle.typed_trees.specs.declared.datum.Datum.TheVariants.{Plain}
use Rattle.typed_trees.specs.declared.routine.LocalRow.{LocalRow}
use Rattle.code_compiler.proofs.Lists.{firsts_as}
use Rattle.code_compiler.proofs.firsts.add_firsts.Goals as goal

pub returns : goal.returns
returns c =
    let routine = c.args.routine.now in
    let count = c.in_ok-count.count in
    let counters = c.in_ok-counters.counters in
    let own = flat_map (λ (row : LocalRow). row.first) routine.locals.items in
    let loops = replicate counters (Plain (Num c.zero.result)) in
    let there = ap (flat_map (λ (row : LocalRow). row.first)) c.deref.ensures.value in
    let all : own ++ loops ≡ first_values (view_routine routine) = firsts_as routine counters c.zero.result c.in_ok-counters.ensures c.zero.ensures in
    let laid = c.in_ok-add_run.ensures ∙ (ap (λ front. front ++ loops) (c.in_ok-count.ensures.firsts ∙ ap (λ more. in_full c.args.firsts.now.items ++ more) there)
    ∙ (append_assoc (in_full c.args.firsts.now.items) own loops ∙ ap (λ more. in_full c.args.firsts.now.items ++ more) all)) in
    let size : count + counters ≡ length (first_values (view_routine routine)) = omega (arith, c.in_ok-count.ensures.count, ap length there, ap length all, length-append own loops, length-replicate counters (Plain (Num c.zero.result))) in
    record {
      firsts = IfOk-weaker c.sum.result (λ n. n ≡ count + counters) (λ n. in_full c.add_run.new.firsts.items ≡ in_full c.args.firsts.now.items ++ first_values (view_routine routine)) (λ n is. laid) c.sum.ensures;
      count = IfOk-weaker c.sum.result (λ n. n ≡ count + counters) (λ n. n ≡ length (first_values (view_routine routine))) (λ n is. is ∙ size) c.sum.ensures;
    }
