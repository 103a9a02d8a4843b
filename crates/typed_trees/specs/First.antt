-- The list of a datum's first data.
use Rattle.std.specs.Prelude.{List, replicate}
use Rattle.typed_trees.specs.declared.datum.Datum.{Datum}
use Rattle.typed_trees.specs.declared.first_data.Kept.{Kept}
use Rattle.typed_trees.specs.declared.first_data.Kept.TheVariants.{Given, Alike}
use Rattle.typed_trees.specs.declared.first_runs.FirstRuns.{FirstRuns}
use Rattle.typed_trees.specs.declared.first_runs.FirstRuns.TheVariants as runs

abbrev pub all_of : Kept → List Datum
all_of (Given first) = first.items
all_of (Alike datum count) = replicate count datum

-- the data in runs
abbrev pub data_in : FirstRuns → List Datum
data_in (runs.Each each) = each.now
data_in (runs.Alike datum count) = replicate count datum.now
