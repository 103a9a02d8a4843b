-- The names of a task's modules, or the first broken rule at a declared name or at the name of its type.
use Rattle.std.specs.Prelude.{ℕ, List, [], length, replicate, None, Ok}
use Rattle.raw_trees.specs.Plain.{PlainModule}
use Rattle.rapid_model.specs.declared.signal_row.SignalRow.{SignalRow}
use Rattle.rule_checks.specs.Checks.{◌>>=◌}
use Rattle.rule_checks.specs.TypeChecks.{Checked}
use Rattle.data_scopes.specs.Declarations.{modules_rules}
use Rattle.data_scopes.specs.Numbers.{no_counts, tables_of}
use Rattle.data_scopes.specs.Rows.{modules_rows, no_rows, outputs_of}
use Rattle.data_scopes.specs.Scopes.{Names}

-- for a task with these signals, and an arm with this many axes, 0 without an arm
abbrev pub names_of : List PlainModule → List SignalRow → ℕ → Checked Names
names_of modules signals axes =
    let tables = tables_of modules signals in
    modules_rules tables 0 [] no_counts modules >>= (λ _.
    modules_rows tables 0 modules no_rows >>= (λ rows.
    Ok (record {
      tables = tables;
      kept = replicate (length rows.consts) None;
      rows = rows;
      outputs = outputs_of signals;
      axes = axes;
    })))
