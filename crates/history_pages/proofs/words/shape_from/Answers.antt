use Rattle.std.proofs.Common.{◌≡◌, ◌<◌, ◌≤◌, length, drop, to_z, of_z, ap, ◌∙◌, arith}
use Rattle.std.proofs.lemmas.Int.{to_z-of_z}
use Rattle.std.proofs.lemmas.List.{length-set}
use Rattle.std.specs.Int.{w64}
use Rattle.history_pages.specs.Words.{bound_at, bound_of}
use Rattle.history_pages.proofs.Reading.{bound_there, bounds_more, shape_read}
use Rattle.history_pages.proofs.words.shape_from.Goals as goal

pub loop-axis-preserved : goal.loop-axis-preserved
loop-axis-preserved c =
    let long : length c.loop-axis.bounds ≡ 12 = c.loop-axis.invariant.long in
    let within : c.loop-axis.axis < length c.loop-axis.bounds = omega arith in
    let low : to_z w64 (of_z w64 c.at-low.result) ≡ c.at-low.result = to_z-of_z w64 c.at-low.result (record { sfits = c.at-low.type_inv }) in
    let high : to_z w64 (of_z w64 c.at-high.result) ≡ c.at-high.result = to_z-of_z w64 c.at-high.result (record { sfits = c.at-high.type_inv }) in
    record {
      long = length-set c.loop-axis.bounds c.loop-axis.axis c.bound_of.result ∙ long;
      read = bounds_more c.loop-axis.bounds c.loop-axis.axis c.bound_of.result (bound_at (drop c.args.from c.args.words.now.items)) within c.loop-axis.invariant.read
          (c.bound_of.ensures ∙ ap (λ n. bound_of n (to_z w64 (of_z w64 c.at-high.result))) low ∙ ap (bound_of c.at-low.result) high ∙ bound_there c.args.words.now.items c.args.from c.loop-axis.axis c.at-low.result c.at-high.result c.at-low.ensures c.at-high.ensures);
    }

pub returns : goal.returns
returns c =
    let enough : 24 ≤ length (drop c.args.from c.args.words.now.items) = omega arith in
    shape_read c.args.inside (drop c.args.from c.args.words.now.items) c.loop-axis.bounds enough c.loop-axis.invariant.long (λ k below. c.loop-axis.invariant.read k (omega arith))
