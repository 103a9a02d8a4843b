use Rattle.std.proofs.Common.{arith}
use Rattle.machine_stacks.proofs.Rows.{length-data_in}
use Rattle.machine_stacks.proofs.words.Words.len.Goals as goal

pub returns : goal.returns
returns c =
    let w = c.self.inside in
    rw (← c.self.view_is) (omega (arith, length-data_in w.words.items w.apart.items))
