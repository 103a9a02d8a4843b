use Rattle.std.proofs.Common.{arith}
use Rattle.free_crew.proofs.Rows.{crew_length, last_at}
use Rattle.free_crew.proofs.Running.{may_less, may_more, ran_more}
use Rattle.free_crew.proofs.free.+run_crew.Goals as goal

pub start-requires-after_bounds : goal.start-requires-after_bounds
start-requires-after_bounds g t c κs within =
    c.requires.amid.each _ _ (last_at _ _ _ _ c.in-Some.ensures.some (let n = crew_length c.pop.new.self c.pop.ensures.even in omega (arith, n)))

pub go_round-requires-in-Err : goal.go_round-requires-in-Err
go_round-requires-in-Err g t c =
    may_more _ _ _ _ _ _ c.pop.new.self _ _ _ _ c.push.ensures.jobs (omega arith) c.pop.ensures.even c.push.ensures.even c.push.ensures.script
    (may_less _ _ _ _ _ _ _ _ _ c.in-Some.ensures.some c.pop.ensures.even c.pop.ensures.script c.requires) c.in-Err.ensures.err

pub run_crew-crew-requires-after_bounds : goal.run_crew-crew-requires-after_bounds
run_crew-crew-requires-after_bounds g t c κs within = may_less _ _ _ _ _ _ _ _ _ c.in-Some.ensures.some c.pop.ensures.even c.pop.ensures.script c.requires

pub returns-in-Ok : goal.returns-in-Ok
returns-in-Ok g t c =
    let put = c.push-in-Ok.ensures in
    ran_more _ _ _ _ _ _ c.args.crew c.pop.new.self c.run_crew-crew.result _ _ _ _ _ c.in-Some.ensures.some c.in-Some.ensures.fewer c.pop.ensures.same_room (omega arith) c.run_crew-crew.ensures
    c.in-Ok.ensures.ok.job_is c.finish-job.ensures.came c.finish-job.ensures.stopped put.jobs put.even put.len put.same_room put.script
