-- The lines of a run and of an audit, worked by hand.
use Rattle.std.proofs.Common.{◌≡◌, List, [], ◌∷◌, refl}
use Rattle.std.specs.Prelude.{codes, pos, true, false, Some, None, Ok, Err}
use Rattle.std.specs.Fmt.{digits}
use Rattle.rapid_model.specs.CellData.{CellData}
use Rattle.rapid_model.specs.declared.answer.Answer.TheVariants as answers
use Rattle.rapid_model.specs.declared.event.Event.{Event}
use Rattle.rapid_model.specs.declared.fate.Fate.TheVariants as fates
use Rattle.rapid_model.specs.declared.request.Request.TheVariants as requests
use Rattle.rapid_model.specs.declared.sort.Sort.TheVariants as sorts
use Rattle.rapid_model.specs.declared.value.Value.TheVariants as values
use Rattle.rapid_model.specs.declared.task_row.TaskRow.{TaskRow}
use Rattle.rapid_model.specs.declared.zone_name.ZoneName.TheVariants.{Own}
use Rattle.cell_meaning.proofs.ExampleCell.{joints_at}
use Rattle.history_audit.specs.declared.audit_fault.AuditFault.TheVariants as faults
use Rattle.history_audit.specs.declared.wrong.Wrong.TheVariants as wrongs
use Rattle.run_lines.specs.declared.shown.Shown.TheVariants as shows
use Rattle.run_lines.specs.Output.{output_of, whole_path}
use Rattle.run_lines.specs.Audits.{audit_line, audit_status}

-- a task with an arm, and a num that is kept
small_cell : CellData
small_cell = record {
  steps = 4;
  tasks = record { name = codes "A"; arm = Some (joints_at (pos 0)); axes = 6 } ∷ [];
  signals = [];
  pers = record { name = codes "total"; owner = None; sort = sorts.Num; len = None; first = values.Num (pos 0) ∷ [] } ∷ [];
  meetings = [];
  zones = [];
  inputs = [];
}

-- one setpoint is given and one is not, and the num is written twice
small_history : List Event
small_history =
    record { actor = 0; request = requests.Setpoint (joints_at (pos 1_000)); answer = answers.Given }
    ∷ record { actor = 0; request = requests.WriteP 0 whole_path (values.Num (pos 1_500)); answer = answers.Ok }
    ∷ record { actor = 0; request = requests.WriteP 0 whole_path (values.Num (pos 2_500)); answer = answers.Ok }
    ∷ record { actor = 0; request = requests.Setpoint (joints_at (pos 2_000)); answer = answers.Stopped (Own 1) }
    ∷ []

in_short : output_of (shows.Events false) small_cell small_history (fates.Done ∷ []) ≡ codes "S A 1.000 0.000 0.000 0.000 0.000 0.000\nE A Done\n"
unfolding digits small_cell small_history
in_short = refl

in_full : output_of (shows.Events true) small_cell small_history (fates.Done ∷ [])
    ≡ codes "H A Setpoint 1 0 0 0 0 0 > Given\nH A WriteP P0 1.5 > Ok\nH A WriteP P0 2.5 > Ok\nH A Setpoint 2 0 0 0 0 0 > Stopped Own 1\nE A Done\n"
unfolding digits small_cell small_history
in_full = refl

in_sum : output_of shows.Summary small_cell small_history (fates.Done ∷ []) ≡ codes "L events 4\nL setpoints 1\nL total 2.5\nE A Done\n"
unfolding digits small_cell small_history
in_sum = refl

-- if nothing is kept, there is no total
nothing_kept : output_of shows.Summary (record small_cell { pers = [] }) [] (fates.Cut ∷ []) ≡ codes "L events 0\nL setpoints 0\nL total \nE A Cut\n"
unfolding digits small_cell
nothing_kept = refl

-- what is printed of a history of the tasks A and B
two_rows : List TaskRow
two_rows = record { name = codes "A"; arm = None; axes = 0 } ∷ record { name = codes "B"; arm = None; axes = 0 } ∷ []

legal_whole : audit_line two_rows 14 (Ok true) ≡ codes "A legal 14 whole\n"
unfolding digits two_rows
legal_whole = refl

legal_open : audit_line two_rows 5 (Ok false) ≡ codes "A legal 5 open\n"
unfolding digits two_rows
legal_open = refl

answers_true : audit_line two_rows 14 (Err (faults.Event 2 (wrongs.Answers (answers.Yes true)))) ≡ codes "A event 2 answers TRUE\n"
unfolding digits two_rows
answers_true = refl

asks_look : audit_line two_rows 14 (Err (faults.Event 1 (wrongs.Asks requests.Look))) ≡ codes "A event 1 asks Look\n"
unfolding digits two_rows
asks_look = refl

has_ended : audit_line two_rows 15 (Err (faults.Event 14 wrongs.Ended)) ≡ codes "A event 14 ended\n"
unfolding digits two_rows
has_ended = refl

fate_of_b : audit_line two_rows 14 (Err (faults.Fate 1)) ≡ codes "A fate B\n"
unfolding digits two_rows
fate_of_b = refl

-- only a history that passes has status 0
fate_status : audit_status (Err (faults.Fate 1)) ≡ 12
fate_status = refl

open_status : audit_status (Ok false) ≡ 0
open_status = refl
