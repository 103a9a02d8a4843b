-- The list of machines is that of the slice, which has the same length.
use Rattle.std.proofs.Common.{◌≡◌, length, drop, arith}
use Rattle.std.proofs.Math.Seq.{take-append_seam}
use Rattle.free_crew.proofs.beginning.all_asked.Goals as goal

pub returns-clause-under_way : goal.returns-clause-under_way
returns-clause-under_way g c =
    let asked = c.ask_first.new.machines in
    let count : length asked ≡ c.args.machines.len = omega arith in
    rw (← count, take-append_seam asked (drop (length asked) c.args.machines.items)) c.ask_first.ensures.under_way
