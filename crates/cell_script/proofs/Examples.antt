-- The definitions on small scripts, worked out by hand.
use Rattle.std.proofs.Common.{◌≡◌, ℕ, zero, suc, [], ◌∷◌, codes, None, Some, Ok, Err, refl}
use Rattle.std.specs.Fmt.{digits}
use Rattle.std.specs.Prelude.{pos}
use Rattle.toml.specs.Data.{Data, Items, string, integer, array, table, no_items, item, Members, no_members, member}
use Rattle.rapid_num.specs.Absent.{absent}
use Rattle.rapid_model.specs.declared.script_rule.ScriptRule.TheVariants.{NoKey, Range, UnknownKey}
use Rattle.cell_script.specs.Rows.{task_of}
use Rattle.cell_script.specs.ScriptOf.{script_of_keys, script_of}

-- a task with these further keys, each of which is checked before `modules`
abbrev task : (Members → Members) → Data
task more = table (more (member (codes "modules") (array (item (string (codes "a.mod")) no_items)) (member (codes "name") (string (codes "A")) no_members)))

abbrev script_in : ℕ → Data → (Members → Members) → Members
script_in version row more = member (codes "task") (array (item row no_items)) (member (codes "version") (integer (pos version)) (more no_members))

abbrev script : Data → (Members → Members) → Members
script row more = script_in 1 row more

abbrev nothing_more : Members → Members
nothing_more members = members

one_task : script_of (script (task nothing_more) nothing_more)
    ≡ Ok (record { version = 1; steps = 100_000; signals = []; tasks = record { name = codes "A"; modules = codes "a.mod" ∷ []; arm = None; axes = 0 } ∷ []; pers = []; zones = []; inputs = [] })
unfolding script_of_keys task_of
one_task = refl

an_arm_of_one : script_of (script (task (member (codes "arm") (array (item (integer (pos 0)) no_items)))) nothing_more) ≡ Err (record { key = codes "task[0].arm"; rule = Range })
unfolding digits script_of_keys task_of
an_arm_of_one = refl

-- this many angles, each 0, before others
abbrev before : ℕ → Items → Items
before zero more = more
before (suc count) more = item (integer (pos 0)) (before count more)

-- a track: the seventh axis starts at 2000, where no axis of a robot reaches
abbrev on_a_track : Data
on_a_track =
    task (member (codes "arm") (array (before 6 (item (integer (pos 2_000_000)) no_items))))

seven_axes : script_of (script_in 2 on_a_track nothing_more)
    ≡ Ok (record {
      version = 2;
      steps = 100_000;
      signals = [];
      tasks = record {
        name = codes "A";
        modules = codes "a.mod" ∷ [];
        arm = Some (record { axis = pos 0 ∷ pos 0 ∷ pos 0 ∷ pos 0 ∷ pos 0 ∷ pos 0 ∷ pos 2_000_000 ∷ absent ∷ absent ∷ absent ∷ absent ∷ absent ∷ [] });
        axes = 7;
      } ∷ [];
      pers = [];
      zones = [];
      inputs = [];
    })
unfolding script_of_keys task_of
seven_axes = refl

no_track_in_version_1 : script_of (script on_a_track nothing_more) ≡ Err (record { key = codes "task[0].arm"; rule = Range })
unfolding digits script_of_keys task_of
no_track_in_version_1 = refl

thirteen_axes : script_of (script_in 2 (task (member (codes "arm") (array (before 13 no_items)))) nothing_more) ≡ Err (record { key = codes "task[0].arm"; rule = Range })
unfolding digits script_of_keys task_of
thirteen_axes = refl

an_unknown_key : script_of (script (task nothing_more) (member (codes "zones") (integer (pos 1)))) ≡ Err (record { key = codes "zones"; rule = UnknownKey })
unfolding script_of_keys task_of
an_unknown_key = refl

-- an element's key is reported before the script's own unknown keys
an_unknown_key_of_a_task : script_of (script (task (member (codes "base") (integer (pos 1)))) (member (codes "zones") (integer (pos 1)))) ≡ Err (record { key = codes "task[0].base"; rule = UnknownKey })
unfolding digits script_of_keys task_of
an_unknown_key_of_a_task = refl

no_version : script_of no_members ≡ Err (record { key = codes "version"; rule = NoKey })
unfolding script_of_keys
no_version = refl
