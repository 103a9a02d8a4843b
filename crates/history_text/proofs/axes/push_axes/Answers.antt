use Rattle.std.proofs.Common.{◌<◌, ◌∷◌, length, take, arith, append_assoc}
use Rattle.rapid_num.specs.NumText.{fixed_text}
use Rattle.history_text.specs.Lines.{number_words}
use Rattle.history_text.proofs.NumberWords.{number_words_more}
use Rattle.history_text.proofs.axes.push_axes.Goals as goal

pub loop-axis-preserved : goal.loop-axis-preserved
loop-axis-preserved c =
    let axes = c.first_axes-axis-items.result.now in
    let at = c.loop-axis.axis-index in
    let within : at < length axes = omega arith in
    let more = number_words_more axes at c.axis-item.result within in
    let regroup = append_assoc c.args.line.now.bytes (number_words (take at axes)) (32 ∷ fixed_text c.axis-item.result) in
    record {
      text = cc c.axis-item.is;
      short = omega arith;
    }
