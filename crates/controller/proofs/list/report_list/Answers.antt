use Rattle.std.proofs.Common.{inl, inr, refl}
use Rattle.sink_lines.proofs.Gains.{gained_none}
use Rattle.controller.proofs.list.report_list.Goals as goal

pub returns-in-Ok : goal.returns-in-Ok
returns-in-Ok g c = λ trees are. (
  c.args.each.now,
  are,
  record { history = c.new.ensures.items; fates = c.new-in-Ok.ensures.items },
  inl (record { refused_is = refl; status_is = refl; printed = c.in-Ok.ensures.bytes; calls = c.in-Ok.ensures.calls; told = gained_none _ }),
)

pub returns-in-Err : goal.returns-in-Err
returns-in-Err g c = λ trees are. (
  c.args.each.now,
  are,
  record { history = c.refuse.ensures.history; fates = c.refuse.ensures.fates },
  inr (
    record {
      refused_is = c.refuse.ensures.refused;
      status_is = c.refuse.ensures.status;
      printed = c.in-Err.ensures.bytes;
      calls = c.in-Err.ensures.calls;
      told = c.refuse.ensures.told;
    },
    c.in-Err.ensures.rose,
  ),
)
