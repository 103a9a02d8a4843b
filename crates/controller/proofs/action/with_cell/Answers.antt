use Rattle.std.proofs.Common.{ap}
use Rattle.std.specs.Prelude.{map}
use Rattle.controller.specs.Done.{IsDoneFault}
use Rattle.cell_loading.specs.Loaded.{made_of}
use Rattle.state_lines.specs.Sources.{view_modules}
use Rattle.sink_lines.specs.Printed.{sunk}
use Rattle.controller.proofs.Causes.{no_read, no_words, write_counted}
use Rattle.command_words.proofs.Choosing.{not_migrate, not_run}
use Rattle.controller.proofs.Complete.{done}
use Rattle.controller.proofs.Exits.{asked_answered}
use Rattle.controller.proofs.action.with_cell.Goals as goal

pub accepted_cell-requires : goal.accepted_cell-requires
accepted_cell-requires g c = λ action is. not_migrate (map g.W.AsSlice.items c.args.words.now) action is c.requires.migrate

pub do_prepared-requires-clause-other : goal.do_prepared-requires-clause-other
do_prepared-requires-clause-other g c = not_run (map g.W.AsSlice.items c.args.words.now) c.in-Ok.action c.in-Ok.ensures.action c.requires.run

pub do_prepared-requires-clause-cell : goal.do_prepared-requires-clause-cell
do_prepared-requires-clause-cell g c = not_migrate (map g.W.AsSlice.items c.args.words.now) c.in-Ok.action c.in-Ok.ensures.action c.requires.migrate

pub returns-in-Ok-clause-answers : goal.returns-in-Ok-clause-answers
returns-in-Ok-clause-answers g c =
    asked_answered (map g.W.AsSlice.items c.args.words.now) (g.S.Shelf.told c.args.shelf.now) c.in-Ok.action (made_of c.in-Ok.prepared.accepted) (view_modules c.in-Ok.prepared.modules) c.in-Ok.prepared.text.items _ _ _ _
    c.in-Ok.ensures.asked (ap (λ (e : g.row.E.Denot). sunk g.E.Sink.told g.E.Sink.calls g.E.Sink.faults e c.do_prepared.new.err) c.in-Ok.ensures.untold) c.do_prepared.ensures.answers

pub returns-in-Ok-clause-words : goal.returns-in-Ok-clause-words
returns-in-Ok-clause-words g c =
    no_words (IsDoneFault (g.O.Sink.faults c.args.out.now) (g.O.Sink.faults c.do_prepared.new.out)) (map g.W.AsSlice.items c.args.words.now) _ (λ place never. never) c.in-Ok.ensures.taken c.do_prepared.ensures.causes

pub returns-in-Ok-clause-read : goal.returns-in-Ok-clause-read
returns-in-Ok-clause-read g c = no_read (g.O.Sink.faults c.args.out.now) (g.O.Sink.faults c.do_prepared.new.out) _ c.do_prepared.ensures.causes

pub returns-in-Ok-clause-write : goal.returns-in-Ok-clause-write
returns-in-Ok-clause-write g c = write_counted (g.O.Sink.faults c.args.out.now) (g.O.Sink.faults c.do_prepared.new.out) _ c.do_prepared.ensures.causes

pub returns-in-Err-clause-answers : goal.returns-in-Err-clause-answers
returns-in-Err-clause-answers g c =
    c.in-Err.ensures.refused (record { bytes = g.O.Sink.told c.args.out.now; calls = g.O.Sink.calls c.args.out.now; faults = g.O.Sink.faults c.args.out.now })

pub returns-in-Err-clause-write : goal.returns-in-Err-clause-write
returns-in-Err-clause-write g c = λ same. absurd (c.in-Err.ensures.write same)

pub returns-in-Ok-clause-done : goal.returns-in-Ok-clause-done
returns-in-Ok-clause-done g c =
    done (map g.W.AsSlice.items c.args.words.now) (g.S.Shelf.told c.args.shelf.now) _ _ _ (returns-in-Ok-clause-answers g c) (returns-in-Ok-clause-write g c)

pub returns-in-Err-clause-done : goal.returns-in-Err-clause-done
returns-in-Err-clause-done g c =
    done (map g.W.AsSlice.items c.args.words.now) (g.S.Shelf.told c.args.shelf.now) _ _ _ (returns-in-Err-clause-answers g c) (returns-in-Err-clause-write g c)
