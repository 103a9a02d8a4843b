use Rattle.std.proofs.Common.{◌≡◌, arith}
use Rattle.std.proofs.lemmas.Grind.{common_steps}
use Rattle.rapid_num.specs.NumText.{shortest_text}
use Rattle.rapid_num.proofs.ReadBack.{read_from_shortest}
use Rattle.rapid_num.proofs.write.write_num.Goals as goal

pub returns-clause-reads_back : goal.returns-clause-reads_back
returns-clause-reads_back c n e =
    let text : c.push_fraction.new.text.bytes ≡ shortest_text c.args.value = grind (arith, common_steps) in
    read_from_shortest _ c.args.value n text c.push_whole-rest.ensures.range e
