use Rattle.std.proofs.Common.{◌≤◌, ◌∙◌, length, sym, ap, arith}
use Rattle.data_scopes.specs.Meetings.{meetings_before}
use Rattle.data_scopes.proofs.Counted.{count_past}
use Rattle.data_scopes.proofs.slots.Slots.meetings_before.Goals as goal

pub returns-in-None : goal.returns-in-None
returns-in-None c =
    let rows = c.self.inside.rows.items in
    let past : length rows ≤ c.args.number = omega (arith, c.self.invariant.as_many, (c.in-None.ensures.lookup).3, c.deref.ensures.len) in
    c.self.invariant.all ∙ sym (count_past rows c.args.number past) ∙ ap (meetings_before c.args.number) c.self.view_is
