use Rattle.std.proofs.Common.{arith, refl, rules, sym, ◌∙◌}
use Rattle.free_crew.proofs.Rows.{crew_length, each_less, each_more, last_at}
use Rattle.free_crew.proofs.round.+step_each.Goals as goal

pub step_each-crew-requires : goal.step_each-crew-requires
step_each-crew-requires g t c κs within =
    let fewer = c.in-Some.ensures.fewer in
    (omega (arith, fewer), (search rules, (search rules, (search rules, (c.pop.ensures.even, each_less _ _ _ _ c.in-Some.ensures.some c.requires.amid)))))

pub step_one-moved-requires : goal.step_one-moved-requires
step_one-moved-requires g t c = c.requires.amid.each _ _ (last_at _ _ _ _ c.in-Some.ensures.some (let n = crew_length c.pop.new.self c.pop.ensures.even in omega (arith, n)))

pub returns-clause-amid : goal.returns-clause-amid
returns-clause-amid g t c =
    let n = crew_length c.pop.new.self c.pop.ensures.even in
    let size = c.step_each-crew.ensures.size in
    let m = crew_length c.step_each-crew.result.0 size.even in
    let len = size.len in
    each_more _ _ _ _ _ c.push.ensures.jobs (omega (arith, n, m, len)) c.step_each-crew.ensures.amid c.step_one-moved.ensures.amid

pub returns-clause-over : goal.returns-clause-over
returns-clause-over g t c = λ over.
    let w = c.both-over.ensures over in
    each_more _ _ _ _ _ c.push.ensures.jobs refl (c.step_each-crew.ensures.over w.0) (sym c.is_stopped-stopped.ensures ∙ w.1)
