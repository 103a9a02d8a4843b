-- A script in version 2.
use Rattle.std.specs.Prelude.{◌≡◌, ℕ, pos, List, codes, Ok}
use Rattle.std.specs.Ordering.{nat_cmp, match_ordering}
use Rattle.std.specs.Cmp.Lexicographic.{slice_cmp}
use Rattle.toml.specs.Data.{Data, integer, Members, no_members, member}
use Rattle.rapid_model.specs.ScriptData.{ScriptData}
use Rattle.cell_script.specs.ScriptOf.{IsTable, script_of}

-- the members, whose keys ascend, with this value at a key
abbrev pub put_member : List ℕ → Data → Members → Members
put_member k d no_members = member k d no_members
put_member k d (member l e ms) = match_ordering (slice_cmp nat_cmp k l) (member k d (member l e ms)) (member l d ms) (member l e (put_member k d ms))

-- the table of a script with its version set to 2
abbrev pub with_version_2 : Members → Members
with_version_2 members = put_member (codes "version") (integer (pos 2)) members

-- the new text is the table of the old one with its version set to 2
pub record IsWritten (old new : List ℕ) : Type 0 where
  pub members : Members
  pub read : IsTable old members
  pub written : IsTable new (with_version_2 members)

-- the old text spells a script, and the new one is its table with its version set to 2, which spells the same script but for
-- the version
pub record Migrates (old new : List ℕ) : Type 0 where
  pub text : IsWritten old new
  pub script : ScriptData
  pub before : script_of text.members ≡ Ok script
  pub after : script_of (with_version_2 text.members) ≡ Ok (record script { version = 2 })
