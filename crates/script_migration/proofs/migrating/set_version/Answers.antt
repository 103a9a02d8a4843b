use Rattle.std.proofs.Common.{◌≡◌, codes, string_bytes, ap, refl, ◌∙◌}
use Rattle.std.specs.Prelude.{pos}
use Rattle.toml.specs.View.{members_view}
use Rattle.toml.specs.declared.value.Value.{Integer}
use Rattle.toml.proofs.Views.{view-Integer}
use Rattle.script_migration.proofs.Put.{inserted}
use Rattle.script_migration.proofs.migrating.set_version.Goals as goal

pub returns-in-Ok : goal.returns-in-Ok
returns-in-Ok c =
    let key : string_bytes c.in_ok-key.key ≡ codes "version" = c.in_ok-key.ensures.ok in
    ap members_view c.in-Ok.ensures.entries ∙ inserted c.in_ok-key.key (Integer (pos 2)) c.args.table.now.entries ∙ rw (key, view-Integer (pos 2)) refl
