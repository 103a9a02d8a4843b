-- Initial values, run by run and in full.
use Rattle.std.specs.Prelude.{List, flat_map, replicate}
use Rattle.typed_trees.specs.declared.datum.Datum.{Datum}
use Rattle.stack_code.specs.declared.first_run.FirstRun.{FirstRun}

abbrev pub in_full : List FirstRun → List Datum
in_full runs = flat_map (λ run. replicate run.count run.datum) runs
