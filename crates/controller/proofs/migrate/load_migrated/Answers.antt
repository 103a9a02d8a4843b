use Rattle.std.proofs.lemmas.Result.{err_from_is_err_and}
use Rattle.controller.proofs.Migrating.{migrated_gave, migrated_read, migration_stops}
use Rattle.controller.proofs.migrate.load_migrated.Goals as goal

pub returns-in_err-text-clause-read : goal.returns-in_err-text-clause-read
returns-in_err-text-clause-read g c =
    let p = err_from_is_err_and c.from_residual.result c.from_residual.ensures.1 in
    rw (p.1, p.2) (migration_stops _ c.in_err-text.ensures.unread)

pub returns-clause-told : goal.returns-clause-told
returns-clause-told g c =
    migrated_read (g.S.Shelf.told c.args.shelf.now) c.args.name.now c.in_ok-text.text.items c.as_slice.result.now c.migrated_of.result c.in_ok-text.ensures.gives c.as_slice.ensures.value c.migrated_of.ensures.script

pub returns-clause-read : goal.returns-clause-read
returns-clause-read g c =
    migrated_gave c.in_ok-text.text.items c.as_slice.result.now c.migrated_of.result c.in_ok-text.ensures.within c.as_slice.ensures.value c.migrated_of.ensures.script
