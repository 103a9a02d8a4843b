use Rattle.std.proofs.Common.{◌≤◌, arith, length, min}
use Rattle.std.proofs.lemmas.Result.{err_from_is_err_and}
use Rattle.state_text.specs.StateLines.{tasks_lines}
use Rattle.state_lines.specs.Sources.{sources_in}
use Rattle.cell_loading.specs.Loaded.{bytes_of}
use Rattle.run_lines.proofs.PrintingList.{printing_begins}
use Rattle.state_lines.proofs.PrintingState.{files_short, tasks_failed, tasks_more, tasks_printed, trees_in, within_first, within_later}
use Rattle.state_lines.proofs.state.print_each.Goals as goal

pub loop-k-init : goal.loop-k-init
loop-k-init g c = record {
  printing = printing_begins (tasks_lines c.args.names.now.tasks.now (trees_in c.args.trees.now) (sources_in c.args.tasks.now (bytes_of c.args.texts.now)) c.args.states.now) _;
  within = c.requires.texts;
}

pub loop-k-preserved : goal.loop-k-preserved
loop-k-preserved g c = record {
  printing =
      tasks_more c.args.names.now.tasks.now c.args.trees.now c.args.tasks.now c.loop-k.rest.now c.first_of.result.now c.after_first-rest.result.now c.args.states.now c.loop-k.k c.index-rows-k.result c.index-trees-k.result c.index-tasks-k.result c.index-states-k.result c.len-own.result
      c.as_slice-in-loop-k.result.now c.as_slice.result.now _ _ _ _
      (record {
        in_rows = omega (arith, c.min.ensures, c.min-2.ensures, c.min-count.ensures);
        in_trees = omega (arith, c.min.ensures, c.min-2.ensures, c.min-count.ensures);
        in_tasks = omega (arith, c.min.ensures, c.min-2.ensures, c.min-count.ensures);
        in_states = omega (arith, c.min.ensures, c.min-2.ensures, c.min-count.ensures);
        row_is = c.index-rows-k.is;
        tree_is = c.index-trees-k.is;
        task_is = c.index-tasks-k.is;
        state_is = c.index-states-k.is;
      })
      (record {
        slots_are = c.as_slice-in-loop-k.ensures.value;
        files_are = c.as_slice.ensures;
        own_is = c.len-own.ensures;
        here_are = c.first_of.ensures;
      })
      c.after_first-rest.ensures c.in_ok-print_task.ensures c.loop-k.invariant.printing;
  within = within_later c.loop-k.rest.now c.after_first-rest.result.now c.len-own.result c.after_first-rest.ensures c.loop-k.invariant.within;
}

pub print_task-requires-clause-files : goal.print_task-requires-clause-files
print_task-requires-clause-files g c = files_short c.args.tasks.now c.loop-k.k c.index-tasks-k.result c.as_slice.result.now (omega (arith, c.min.ensures, c.min-2.ensures, c.min-count.ensures)) c.index-tasks-k.is c.as_slice.ensures c.requires.files

pub print_task-requires-clause-texts : goal.print_task-requires-clause-texts
print_task-requires-clause-texts g c = within_first c.loop-k.rest.now c.first_of.result.now c.len-own.result c.first_of.ensures c.loop-k.invariant.within

pub returns-in_err-print_task : goal.returns-in_err-print_task
returns-in_err-print_task g c =
    let p = err_from_is_err_and c.from_residual.result c.from_residual.ensures.1 in
    rw (p.1) (tasks_failed c.args.names.now.tasks.now c.args.trees.now c.args.tasks.now c.loop-k.rest.now c.first_of.result.now c.args.states.now c.loop-k.k c.index-rows-k.result c.index-trees-k.result c.index-tasks-k.result c.index-states-k.result c.len-own.result
    c.as_slice-in-loop-k.result.now c.as_slice.result.now _ _ _ _
    (record {
      in_rows = omega (arith, c.min.ensures, c.min-2.ensures, c.min-count.ensures);
      in_trees = omega (arith, c.min.ensures, c.min-2.ensures, c.min-count.ensures);
      in_tasks = omega (arith, c.min.ensures, c.min-2.ensures, c.min-count.ensures);
      in_states = omega (arith, c.min.ensures, c.min-2.ensures, c.min-count.ensures);
      row_is = c.index-rows-k.is;
      tree_is = c.index-trees-k.is;
      task_is = c.index-tasks-k.is;
      state_is = c.index-states-k.is;
    })
    (record {
      slots_are = c.as_slice-in-loop-k.ensures.value;
      files_are = c.as_slice.ensures;
      own_is = c.len-own.ensures;
      here_are = c.first_of.ensures;
    })
    c.in_err-print_task.ensures c.loop-k.invariant.printing)

pub returns : goal.returns
returns g c =
    let past : min (min (min (length c.args.names.now.tasks.now) (length c.args.trees.now)) (length c.args.tasks.now)) (length c.args.states.now) ≤ c.loop-k.k = omega (arith, c.min.ensures, c.min-2.ensures, c.min-count.ensures) in
    tasks_printed c.args.names.now.tasks.now c.args.trees.now c.args.tasks.now c.loop-k.rest.now c.args.states.now c.loop-k.k _ _ past c.loop-k.invariant.printing
