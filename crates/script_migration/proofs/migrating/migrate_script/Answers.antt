use Rattle.script_migration.proofs.Written.{migrates}
use Rattle.script_migration.proofs.migrating.migrate_script.Goals as goal

pub returns-in-Some-clause-migrated : goal.returns-in-Some-clause-migrated
returns-in-Some-clause-migrated c =
    let spelled = c.in_ok-_script.ensures.spelled in
    migrates c.args.text.now _ spelled.0 _ c.in-Some.ensures spelled.1 spelled.2
