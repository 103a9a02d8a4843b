-- The task is a later one.
use Rattle.std.proofs.Common.{◌≡◌, ◌-◌, ◌≤◌, drop}
use Rattle.std.specs.Prelude.{All, slice_index_or}
use Rattle.state_text.specs.TraceLines.{no_sources}
use Rattle.state_lines.specs.Sources.{sources_in}
use Rattle.cell_loading.specs.Loaded.{IsWithin, bytes_of}
use Rattle.state_lines.proofs.trace.sources_at.Given as goal

abbrev pub invariant-loop-k : goal.invariant-loop-k
invariant-loop-k l = record {
  later : l.k ≤ l.number;
  within : All IsWithin l.rest;
  same : slice_index_or (sources_in l.tasks (bytes_of l.texts)) l.number no_sources ≡ slice_index_or (sources_in (drop l.k l.tasks) (bytes_of l.rest)) (l.number - l.k) no_sources;
}
