use Rattle.std.proofs.Common.{◌≡◌, refl, sym, ap, ◌∙◌, arith, ◌<◌, ◌≤◌, List, ◌∷◌, length, reverse, take, drop, Some, None, slice_get}
use Rattle.std.proofs.lemmas.Option.{slice_get_past, slice_get_read}
use Rattle.typed_trees.specs.declared.datum.Datum.{Datum}
use Rattle.stack_code.specs.Entering.{entered}
use Rattle.task_steps.specs.Doing.{here_of}
use Rattle.task_steps.specs.Points.{Called, Waiting, saved_in}
use Rattle.task_steps.specs.Savings.{saved_row}
use Rattle.task_steps.specs.Seen.{Seen}
use Rattle.task_steps.proofs.Along.{alike_is, alike_then}
use Rattle.task_steps.proofs.Calls.{call_by, call_lacks, call_none, rows_of}
use Rattle.task_steps.proofs.task.Task.call.Goals as goal

pub returns-in_err-row-clause-turns : goal.returns-in_err-row-clause-turns
returns-in_err-row-clause-turns c =
    let code = c.args.loaded.now in
    let s = c.args.self.now in
    let rows = c.routines.result.now in
    let none : slice_get code.routines c.args.routine ≡ None =
    rows_of code c.code.result.now rows c.code.ensures c.routines.ensures c.args.routine None (slice_get_past rows c.args.routine c.in_err-row.ensures.lookup.3) in
    rw c.from_residual.ensures (alike_is code _ _ s.data' (call_none (here_of code s.conf) c.args.routine none))

pub returns-then-len-from-clause-turns : goal.returns-then-len-from-clause-turns
returns-then-len-from-clause-turns c =
    let code = c.args.loaded.now in
    let s = c.args.self.now in
    let rows = c.routines.result.now in
    let row = c.in_ok-row.field-0.now in
    let there : slice_get code.routines c.args.routine ≡ Some row =
    rows_of code c.code.result.now rows c.code.ensures c.routines.ensures c.args.routine (Some row) (slice_get_read rows (length rows) c.args.routine row refl c.in_ok-row.ensures.lookup.3.0 c.in_ok-row.ensures.lookup.1) in
    let same = ap (λ (t : Seen). length t.conf.stack) c.self.view_is in
    let few : length s.conf.stack < row.args = omega (arith, same) in
    alike_is code _ _ s.data' (call_lacks (here_of code s.conf) c.args.routine row there few)

pub enter-requires-clause-row : goal.enter-requires-clause-row
enter-requires-clause-row c =
    let rows = c.routines.result.now in
    let row = c.in_ok-row.field-0.now in
    rows_of c.args.loaded.now c.code.result.now rows c.code.ensures c.routines.ensures c.args.routine (Some row) (slice_get_read rows (length rows) c.args.routine row refl c.in_ok-row.ensures.lookup.3.0 c.in_ok-row.ensures.lookup.1)

pub returns-clause-turns : goal.returns-clause-turns
unfolding saved_in
returns-clause-turns c =
    let code = c.args.loaded.now in
    let s = c.args.self.now in
    let rows = c.routines.result.now in
    let row = c.in_ok-row.field-0.now in
    let there : slice_get code.routines c.args.routine ≡ Some row =
    rows_of code c.code.result.now rows c.code.ensures c.routines.ensures c.args.routine (Some row) (slice_get_read rows (length rows) c.args.routine row refl c.in_ok-row.ensures.lookup.3.0 c.in_ok-row.ensures.lookup.1) in
    let same = ap (λ (t : Seen). length t.conf.stack) c.self.view_is in
    let enough : row.args ≤ length s.conf.stack = omega (arith, same) in
    let args : List Datum = reverse (take row.args s.conf.stack) in
    let rest : List Datum = drop row.args s.conf.stack in
    let below : saved_row c.caller-below.result rest ≡ Called s.conf.pc rest s.conf.frame = c.caller-below.ensures rest in
    alike_then code _ _ _ _ _ _
    (alike_is code _ _ s.data' (call_by (here_of code s.conf) c.args.routine row there enough ∙ ap (λ (x : Waiting). entered code c.args.routine row args (saved_in code (x ∷ s.conf.saved))) (sym below)))
    c.enter.ensures.turns
