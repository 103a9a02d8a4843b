use Rattle.std.proofs.Common.{◌≡◌, refl, [], ◌∷◌, length, Some, None, slice_get}
use Rattle.std.proofs.lemmas.Option.{slice_get_past, slice_get_read}
use Rattle.task_steps.specs.Points.{saved_in}
use Rattle.task_steps.specs.Savings.{saved_row}
use Rattle.task_steps.proofs.Along.{alike_is, alike_then}
use Rattle.task_steps.proofs.Calls.{enter_by, enter_none, rows_of}
use Rattle.task_steps.proofs.task.Task.enter_alone.Goals as goal

pub returns-in-Some-clause-turns : goal.returns-in-Some-clause-turns
returns-in-Some-clause-turns c =
    let code = c.args.loaded.now in
    let s = c.args.self.now in
    let rows = c.routines.result.now in
    let there : slice_get code.routines c.args.routine ≡ Some c.in-Some.row.now =
    rows_of code c.code.result.now rows c.code.ensures c.routines.ensures c.args.routine (Some c.in-Some.row.now)
    (slice_get_read rows (length rows) c.args.routine c.in-Some.row.now refl c.in-Some.ensures.lookup.3.0 c.in-Some.ensures.lookup.1) in
    alike_then code _ _ _ _ _ _ (alike_is code _ _ s.data' (enter_by code c.args.routine c.in-Some.row.now [] (saved_in code (saved_row c.args.below s.conf.stack ∷ s.conf.saved)) there)) c.enter.ensures.turns

pub returns-in-None-clause-turns : goal.returns-in-None-clause-turns
returns-in-None-clause-turns c =
    let code = c.args.loaded.now in
    let s = c.args.self.now in
    let rows = c.routines.result.now in
    let none : slice_get code.routines c.args.routine ≡ None =
    rows_of code c.code.result.now rows c.code.ensures c.routines.ensures c.args.routine None (slice_get_past rows c.args.routine c.in-None.ensures.lookup.3) in
    alike_is code _ _ s.data' (enter_none code c.args.routine [] (saved_in code (saved_row c.args.below s.conf.stack ∷ s.conf.saved)) none)
