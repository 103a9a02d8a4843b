use Rattle.std.proofs.Common.{[], codes}
use Rattle.toml.specs.View.{table_view}
use Rattle.cell_script.specs.Keys.{Keys, at, value_of}
use Rattle.cell_script.proofs.LimitsScript.{IsScript-from, few_tasks, signals_are}
use Rattle.cell_script.proofs.script.read_table.Goals as goal

pub zones_in-requires-clause-few_signals : goal.zones_in-requires-clause-few_signals
zones_in-requires-clause-few_signals c =
    let keys : Keys = record { path = []; members = table_view c.args.table.now } in
    rw c.deref.ensures.value ((signals_are (at keys (codes "signal")) (value_of keys (codes "signal")) c.in_ok-signals.signals.items c.in_ok-signals.ensures).at_most)

pub zones_in-requires-clause-few_tasks : goal.zones_in-requires-clause-few_tasks
zones_in-requires-clause-few_tasks c =
    let keys : Keys = record { path = []; members = table_view c.args.table.now } in
    rw c.deref-2.ensures.value (few_tasks c.in_ok-version.version keys c.in_ok-tasks.tasks.items c.in_ok-tasks.ensures)

pub inputs_in-requires-clause-few_signals : goal.inputs_in-requires-clause-few_signals
inputs_in-requires-clause-few_signals c =
    let keys : Keys = record { path = []; members = table_view c.args.table.now } in
    rw c.deref-3.ensures.value ((signals_are (at keys (codes "signal")) (value_of keys (codes "signal")) c.in_ok-signals.signals.items c.in_ok-signals.ensures).at_most)

pub inputs_in-requires-clause-few_tasks : goal.inputs_in-requires-clause-few_tasks
inputs_in-requires-clause-few_tasks c =
    let keys : Keys = record { path = []; members = table_view c.args.table.now } in
    rw c.deref-4.ensures.value (few_tasks c.in_ok-version.version keys c.in_ok-tasks.tasks.items c.in_ok-tasks.ensures)

pub invariant_of-script : goal.invariant_of-script
invariant_of-script c =
    let keys : Keys = record { path = []; members = table_view c.args.table.now } in
    let zones = rw (c.deref.ensures.value, c.deref-2.ensures.value) at c.in_ok-zones.ensures in
    let inputs = rw (c.deref-3.ensures.value, c.deref-4.ensures.value) at c.in_ok-inputs.ensures in
    rw (c.from_vec.ensures, c.from_vec-2.ensures, c.from_vec-3.ensures, c.from_vec-4.ensures, c.from_vec-5.ensures)
    (IsScript-from keys c.in_ok-version.version c.in_ok-steps.steps c.in_ok-signals.signals.items c.in_ok-tasks.tasks.items c.in_ok-pers.pers.items c.in_ok-zones.zones.items c.in_ok-inputs.inputs.items
    c.in_ok-version.ensures c.in_ok-steps.ensures c.in_ok-signals.ensures c.in_ok-tasks.ensures c.in_ok-pers.ensures zones inputs)
