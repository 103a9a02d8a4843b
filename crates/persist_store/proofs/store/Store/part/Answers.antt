use Rattle.std.proofs.Common.{sym}
use Rattle.persist_store.proofs.Stored.{IsSeen, seen_at}
use Rattle.persist_store.proofs.store.Store.part.Goals as goal

seen : (c : goal.In_ok-spot) → IsSeen c.args.self.now c.args.pers c.args.path.now c.self.inside.rows c.in_ok-spot.spot
seen c =
    seen_at c.self.inside.rows c.self.inside.places.items c.args.pers c.index.result.now c.args.path.now c.args.self.now c.in_ok-spot.spot
    c.self.view_is c.self.invariant c.requires.there c.index.ensures c.in_ok-spot.ensures.spot (sym c.in_ok-spot.ensures.range) c.requires.part

pub returns-clause-part : goal.returns-clause-part
returns-clause-part c = (seen c).part

pub returns-clause-fits : goal.returns-clause-fits
returns-clause-fits c = (seen c).fits
