use Rattle.std.proofs.Common.{◌≡◌}
use Rattle.rapid_num.specs.Absent.{absent}
use Rattle.cell_script.proofs.Arms.{start_is}
use Rattle.cell_script.proofs.arm.start_at.Goals as goal

pub returns : goal.returns
returns c =
    let absent_is : c.unwrap-axis.result ≡ absent = cc (c.new.ensures, c.unwrap-axis.ensures) in
    start_is c.args.angles.now c.copy_from_slice.new.self c.unwrap-axis.result c.copy_from_slice.ensures.after absent_is
