use Rattle.std.proofs.Common.{Bool, ap, sym, ◌∙◌}
use Rattle.std.specs.Prelude.{map}
use Rattle.command_words.specs.Words.{has_history}
use Rattle.command_words.specs.declared.command.Action.TheVariants as actions
use Rattle.controller.specs.Done.{IsDoneFault}
use Rattle.cell_loading.specs.Loaded.{made_of}
use Rattle.state_lines.specs.Sources.{view_modules}
use Rattle.typed_trees.specs.Views.{view_tree}
use Rattle.sink_lines.specs.Printed.{sunk}
use Rattle.controller.specs.Runs.{IsRun}
use Rattle.run_lines.specs.declared.shown.Shown.TheVariants as shows
use Rattle.controller.proofs.Causes.{no_read, no_words, run_told, write_counted}
use Rattle.command_words.proofs.Choosing.{is_run_action, run_is_no_migrate}
use Rattle.controller.proofs.Complete.{done}
use Rattle.controller.proofs.Exits.{asked_answered, tasks_run_free}
use Rattle.controller.proofs.free_run.free.Goals as goal

pub accepted_cell-requires : goal.accepted_cell-requires
accepted_cell-requires g c = λ action is. run_is_no_migrate (map g.W.AsSlice.items c.args.words.now) action is c.requires

pub returns-in-Ok-clause-answers : goal.returns-in-Ok-clause-answers
returns-in-Ok-clause-answers g c =
    let run = is_run_action (map g.W.AsSlice.items c.args.words.now) c.in-Ok.action c.in-Ok.ensures.action c.requires in
    let full = c.is_full-full.ensures (has_history (map g.W.AsSlice.items c.args.words.now)) run in
    asked_answered (map g.W.AsSlice.items c.args.words.now) (g.S.Shelf.told c.args.shelf.now) c.in-Ok.action (made_of c.in-Ok.prepared.accepted) (view_modules c.in-Ok.prepared.modules) _ _ _ _ _ c.in-Ok.ensures.asked
    (ap (λ (e : g.row.E.Denot). sunk g.E.Sink.told g.E.Sink.calls g.E.Sink.faults e c.free_cell.new.err) c.in-Ok.ensures.untold) (λ last names.
    tasks_run_free last _ names (view_modules c.in-Ok.prepared.modules) c.in-Ok.action c.is_full-full.result (made_of c.in-Ok.prepared.accepted) _ _ _ (run ∙ ap (λ (b : Bool). actions.Run b) (sym full)) c.free_cell.ensures)

pub returns-in-Ok-clause-words : goal.returns-in-Ok-clause-words
returns-in-Ok-clause-words g c =
    no_words (IsDoneFault (g.O.Sink.faults c.args.out.now) (g.O.Sink.faults c.free_cell.new.out)) (map g.W.AsSlice.items c.args.words.now) _ (λ place never. never) c.in-Ok.ensures.taken (run_told (IsRun c.in-Ok.prepared.accepted.cell (map view_tree c.in-Ok.prepared.accepted.trees.items)) (shows.Events c.is_full-full.result) c.in-Ok.prepared.accepted.cell _ _ _ c.free_cell.ensures)

pub returns-in-Ok-clause-read : goal.returns-in-Ok-clause-read
returns-in-Ok-clause-read g c = no_read (g.O.Sink.faults c.args.out.now) (g.O.Sink.faults c.free_cell.new.out) _ (run_told (IsRun c.in-Ok.prepared.accepted.cell (map view_tree c.in-Ok.prepared.accepted.trees.items)) (shows.Events c.is_full-full.result) c.in-Ok.prepared.accepted.cell _ _ _ c.free_cell.ensures)

pub returns-in-Ok-clause-write : goal.returns-in-Ok-clause-write
returns-in-Ok-clause-write g c = write_counted (g.O.Sink.faults c.args.out.now) (g.O.Sink.faults c.free_cell.new.out) _ (run_told (IsRun c.in-Ok.prepared.accepted.cell (map view_tree c.in-Ok.prepared.accepted.trees.items)) (shows.Events c.is_full-full.result) c.in-Ok.prepared.accepted.cell _ _ _ c.free_cell.ensures)

pub returns-in-Err-clause-answers : goal.returns-in-Err-clause-answers
returns-in-Err-clause-answers g c =
    c.in-Err.ensures.refused (record { bytes = g.O.Sink.told c.args.out.now; calls = g.O.Sink.calls c.args.out.now; faults = g.O.Sink.faults c.args.out.now })

pub returns-in-Err-clause-write : goal.returns-in-Err-clause-write
returns-in-Err-clause-write g c = λ same. absurd (c.in-Err.ensures.write same)

pub returns-in-Ok-clause-done : goal.returns-in-Ok-clause-done
returns-in-Ok-clause-done g c =
    done (map g.W.AsSlice.items c.args.words.now) (g.S.Shelf.told c.args.shelf.now) _ _ _ (returns-in-Ok-clause-answers g c) (returns-in-Ok-clause-write g c)

pub returns-in-Err-clause-done : goal.returns-in-Err-clause-done
returns-in-Err-clause-done g c =
    done (map g.W.AsSlice.items c.args.words.now) (g.S.Shelf.told c.args.shelf.now) _ _ _ (returns-in-Err-clause-answers g c) (returns-in-Err-clause-write g c)
