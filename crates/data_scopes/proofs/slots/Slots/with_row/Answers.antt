use Rattle.data_scopes.proofs.Counted.{one_more_counted}
use Rattle.data_scopes.proofs.slots.Slots.with_row.Goals as goal

pub invariant_of-result : goal.invariant_of-result
invariant_of-result c =
    let inside = c.self.inside in
    one_more_counted inside.rows.items c.push-2.new.self.items inside.before.items c.push.new.self.items c.args.row inside.meetings c.in_ok-more.more
    c.in_ok-push-2.ensures.items c.in_ok-push.ensures.items c.in_ok-more.ensures.ok c.self.invariant
