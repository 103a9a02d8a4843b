-- The names of a cell, and which events fit them.
use Rattle.std.specs.Prelude.{ℕ, Bool, true, false, ◌&&◌, nat_le, nat_lt, List, length, Option, slice_get}
use Rattle.std.specs.Option.{option_map}
use Rattle.rapid_limits.specs.declared.TheConstants.{MOST_AXES}
use Rattle.rapid_num.specs.Reach.{is_position}
use Rattle.rapid_model.specs.Fits.{Fitting, fits_pers, fits_request}
use Rattle.rapid_model.specs.Requests.{may_tell}
use Rattle.rapid_model.specs.declared.answer.Answer.{Answer}
use Rattle.rapid_model.specs.declared.answer.Answer.TheVariants as answers
use Rattle.rapid_model.specs.declared.event.Event.{Event}
use Rattle.rapid_model.specs.declared.part_name.PartName.{PartName}
use Rattle.rapid_model.specs.declared.part_name.PartName.TheVariants as parts
use Rattle.rapid_model.specs.declared.pers_cell.PersCell.{PersCell}
use Rattle.rapid_model.specs.declared.request.Request.{Request}
use Rattle.rapid_model.specs.declared.request.Request.TheVariants as requests
use Rattle.rapid_model.specs.declared.signal_row.SignalRow.{SignalRow}
use Rattle.rapid_model.specs.declared.sort.Sort.{Sort}
use Rattle.rapid_model.specs.declared.task_row.TaskRow.{TaskRow}
use Rattle.rapid_model.specs.declared.watched.Watched.{Watched}
use Rattle.rapid_model.specs.declared.watched.Watched.TheVariants as watched
use Rattle.history_text.specs.Lines.{task_axes}
use Rattle.history_text.specs.declared.names.Names.{Names}

-- names without their addresses in memory
pub record NamesData : Type 0 where
  pub tasks : List TaskRow
  pub signals : List SignalRow
  pub pers : List PersCell

abbrev pub view_names : Names → NamesData
view_names names = record { tasks = names.tasks.now; signals = names.signals.now; pers = names.pers.now }

-- a task, or the input script, whose number follows those of the tasks
abbrev pub has_actor : NamesData → ℕ → Bool
has_actor names actor = nat_le actor (length names.tasks)

-- the number of axes of an actor's arm, 0 without an arm; only tasks have arms
abbrev pub axes_of : NamesData → ℕ → ℕ
axes_of names actor = task_axes names.tasks actor

abbrev pub has_arm : NamesData → ℕ → Bool
has_arm names actor = nat_lt 0 (axes_of names actor)

abbrev pub has_signal : NamesData → ℕ → Bool
has_signal names signal = nat_lt signal (length names.signals)

abbrev pub has_pers : NamesData → ℕ → Bool
has_pers names pers = nat_lt pers (length names.pers)

abbrev pub has_watched : NamesData → Watched → Bool
has_watched names (watched.Signal signal value) = has_signal names signal
has_watched names (watched.Pers pers) = has_pers names pers

-- a part that some value has
abbrev pub is_part : PartName → Bool
is_part (parts.Axis number) = nat_lt number MOST_AXES
is_part (parts.SpeedPart number) = nat_lt number 4
is_part _ = true

-- the persistent exists, and some value has the part
abbrev pub has_part : NamesData → ℕ → PartName → Bool
has_part names pers part = has_pers names pers && is_part part

-- the type of a persistent
abbrev pub pers_sort : NamesData → ℕ → Option Sort
pers_sort names pers = option_map (λ row. row.sort) (slice_get names.pers pers)

-- What a request names exists, a value has the type of its path, and only an arm has positions, one for each of its axes.
-- The element of a path and the numbers of interrupts, routines, zones, meetings and inputs may be any.
abbrev pub request_fits : NamesData → ℕ → Request → Bool
request_fits names actor (requests.ReadP pers path) = has_part names pers path.part
request_fits names actor (requests.WriteP pers path value) = has_part names pers path.part && fits_pers (pers_sort names pers) path.part value
request_fits names actor (requests.TestSet pers path) = has_part names pers path.part
request_fits names actor (requests.ReadS signal) = has_signal names signal
request_fits names actor (requests.WriteS signal value) = has_signal names signal
request_fits names actor requests.Position = has_arm names actor
request_fits names actor (requests.Setpoint to) = has_arm names actor && is_position (axes_of names actor) to
request_fits names actor (requests.Order number on single) = has_watched names on
request_fits names actor (requests.ZoneTie old temporary shape signal value) = has_signal names signal
request_fits names actor (requests.End fate) = may_tell fate
request_fits names actor _ = true

-- what answers to an actor must fit: the types of the persistents, and the axes of its arm; any routine may be a trap, and
-- no trap need be over
abbrev pub fitting_by : NamesData → ℕ → Fitting
fitting_by names actor = record { sorts = pers_sort names; traps = λ trap. true; trapped = false; axes = axes_of names actor }

-- an answer with a number may have any number
abbrev pub with_some_number : Answer → Answer
with_some_number (answers.Number number) = answers.Number 1
with_some_number answer = answer

-- an answer of a form that the request has
abbrev pub answer_fits : NamesData → ℕ → Request → Answer → Bool
answer_fits names actor request answer = fits_request (fitting_by names actor) request (with_some_number answer)

-- the actor exists, asks only about what these names have, and gets an answer of a form that its request has
abbrev pub event_fits : NamesData → Event → Bool
event_fits names e = has_actor names e.actor && (request_fits names e.actor e.request && answer_fits names e.actor e.request e.answer)
