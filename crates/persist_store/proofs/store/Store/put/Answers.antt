use Rattle.std.proofs.Common.{map, sym, subst}
use Rattle.persist_store.specs.Rows.{IsLaid, RowsData, row_of}
use Rattle.persist_store.specs.Stores.{IsStored}
use Rattle.persist_store.proofs.Stored.{IsWritten, written_at}
use Rattle.persist_store.proofs.store.Store.put.Goals as goal

before : (c : goal.After-put-arg-1) → IsWritten c.args.self.now c.args.pers c.args.path.now c.self.inside.rows c.self.inside.places.items c.in-Ok.spot c.args.value.now
before c =
    written_at c.self.inside.rows c.self.inside.places.items c.args.pers c.index.result.now c.args.path.now c.args.self.now c.in-Ok.spot c.args.value.now
    c.self.view_is c.self.invariant c.requires.there c.index.ensures c.in-Ok.ensures.spot (sym c.in-Ok.ensures.range) c.requires.fits

after : (c : goal.After-put) → IsWritten c.args.self.now c.args.pers c.args.path.now c.self.inside.rows c.self.inside.places.items c.in-Ok.spot c.args.value.now
after c =
    written_at c.self.inside.rows c.self.inside.places.items c.args.pers c.index.result.now c.args.path.now c.args.self.now c.in-Ok.spot c.args.value.now
    c.self.view_is c.self.invariant c.requires.there c.index.ensures c.in-Ok.ensures.spot (sym c.in-Ok.ensures.range) c.requires.fits

pub put-requires-clause-within : goal.put-requires-clause-within
put-requires-clause-within c = (before c).within

pub put-requires-clause-sort : goal.put-requires-clause-sort
put-requires-clause-sort c = (before c).sort

pub invariant_of-self : goal.invariant_of-self
invariant_of-self c = subst (λ (rows : RowsData). IsLaid rows c.self.inside.places.items) (sym c.put.ensures) (after c).laid

pub returns-in-Ok : goal.returns-in-Ok
returns-in-Ok c =
    subst (λ (rows : RowsData). IsStored c.args.self.now (map (row_of rows) c.self.inside.places.items) c.args.pers c.args.path.now c.args.value.now) (sym c.put.ensures) (after c).stored
