-- Indexes of first values that are kept in runs, and the frames that begin with these values.
use Rattle.std.specs.Prelude.{ℕ, ◌+◌, nat_lt, Bool, true, List, ◌++◌, length, take, drop, slice_get}
use Rattle.std.specs.Option.{option_map_or}
use Rattle.typed_trees.specs.declared.datum.Datum.{Datum}
use Rattle.rapid_meaning.specs.Data.{Frame}
use Rattle.stack_code.specs.Firsts.{in_full}
use Rattle.stack_code.specs.declared.first_run.FirstRun.{FirstRun}
use Rattle.machine_stacks.specs.declared.run_start.RunStart.{RunStart}

-- its index among all first values
abbrev pub index_of : List FirstRun → RunStart → ℕ
index_of firsts start = length (in_full (take start.run firsts)) + start.skip

-- its run has a value there, or it lies after all runs
abbrev pub lies_within : List FirstRun → RunStart → Bool
lies_within firsts start = option_map_or (λ run. nat_lt start.skip run.count) (slice_get firsts start.run) true

-- `count` first values from there on
abbrev pub values_from : List FirstRun → RunStart → ℕ → List Datum
values_from firsts start count = take count (drop (index_of firsts start) (in_full firsts))

-- the frame of a routine that begins, with its arguments and its first values
abbrev pub frame_from : List FirstRun → RunStart → List Datum → ℕ → Frame
frame_from firsts start args own = record { values = args ++ values_from firsts start own; seen = 0 }
