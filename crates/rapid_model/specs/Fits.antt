-- Which answers fit a request.
use Rattle.std.specs.Prelude.{ℕ, Bool, true, false, not, ◌&&◌, List, Option, Some, None, slice_get, unwrap_or}
use Rattle.std.specs.Option.{option_map}
use Rattle.rapid_limits.specs.declared.TheConstants.{MOST_INTERRUPTS, MOST_ZONES}
use Rattle.rapid_num.specs.Reach.{is_position}
use Rattle.rapid_model.specs.CellData.{CellData}
use Rattle.rapid_model.specs.Limits.{is_within}
use Rattle.rapid_model.specs.Own.{is_trapped, has_connected}
use Rattle.rapid_model.specs.Paths.{fits_part}
use Rattle.rapid_model.specs.declared.answer.Answer.{Answer}
use Rattle.rapid_model.specs.declared.answer.Answer.TheVariants as answers
use Rattle.rapid_model.specs.declared.event.Event.{Event}
use Rattle.rapid_model.specs.declared.part_name.PartName.{PartName}
use Rattle.rapid_model.specs.declared.request.Request.{Request}
use Rattle.rapid_model.specs.declared.request.Request.TheVariants as requests
use Rattle.rapid_model.specs.declared.sort.Sort.{Sort}
use Rattle.rapid_model.specs.declared.value.Value.{Value}

-- What the answers depend on besides the request: the type of each persistent, by its number in the cell; which
-- routines are traps that an interrupt may start; whether a trap is running; and the number of axes of the arm, 0 if
-- there is none.
pub record Fitting : Type 0 where
  pub sorts : ℕ → Option Sort
  pub traps : ℕ → Bool
  pub trapped : Bool
  pub axes : ℕ

-- a value for this part of a persistent of this type, if the persistent exists
abbrev pub fits_pers : Option Sort → PartName → Value → Bool
fits_pers None part value = false
fits_pers (Some sort) part value = fits_part sort part value

-- the answer is one of those for this request, and is within its limits
abbrev pub fits_request : Fitting → Request → Answer → Bool
fits_request by requests.Look (answers.Go seen) = true
fits_request by requests.Look (answers.Trap number trap) = by.traps trap && not by.trapped
fits_request by requests.Look answers.Flood = true
fits_request by (requests.ReadP pers path) (answers.Val value) = fits_pers (by.sorts pers) path.part value
fits_request by (requests.WriteP pers path value) answers.Ok = true
fits_request by (requests.TestSet pers path) (answers.Yes met) = true
fits_request by (requests.ReadS signal) (answers.Bit bit) = true
fits_request by (requests.WriteS signal value) answers.Ok = true
fits_request by (requests.WriteS signal value) answers.Tied = true
fits_request by requests.Position (answers.At position) = is_position by.axes position
fits_request by (requests.Setpoint to) answers.Given = true
fits_request by (requests.Setpoint to) (answers.Stopped zone) = true
fits_request by (requests.Connect old trap) answers.Already = true
fits_request by (requests.Connect old trap) answers.NoMore = true
fits_request by (requests.Connect old trap) (answers.Number number) = is_within 1 MOST_INTERRUPTS number
fits_request by (requests.Order number on single) answers.Unknown = true
fits_request by (requests.Order number on single) answers.Already = true
fits_request by (requests.Order number on single) answers.Ok = true
fits_request by (requests.Sleep number) answers.Unknown = true
fits_request by (requests.Sleep number) answers.Ok = true
fits_request by (requests.Watch number) answers.Unknown = true
fits_request by (requests.Watch number) answers.Ok = true
fits_request by (requests.Delete number) answers.Unknown = true
fits_request by (requests.Delete number) answers.Ok = true
fits_request by requests.Disable answers.Ok = true
fits_request by requests.Enable answers.Ok = true
fits_request by requests.Leave answers.Ok = true
fits_request by (requests.ZoneSet old temporary shape) answers.ZoneUsed = true
fits_request by (requests.ZoneSet old temporary shape) answers.ZoneFull = true
fits_request by (requests.ZoneSet old temporary shape) (answers.Number number) = is_within 1 MOST_ZONES number
fits_request by (requests.ZoneTie old temporary shape signal value) answers.ZoneUsed = true
fits_request by (requests.ZoneTie old temporary shape signal value) answers.ZoneFull = true
fits_request by (requests.ZoneTie old temporary shape signal value) answers.Tied = true
fits_request by (requests.ZoneTie old temporary shape signal value) (answers.Number number) = is_within 1 MOST_ZONES number
fits_request by (requests.ZoneOn zone) answers.NoZone = true
fits_request by (requests.ZoneOn zone) answers.Ok = true
fits_request by (requests.ZoneOff zone) answers.NoZone = true
fits_request by (requests.ZoneOff zone) answers.Ok = true
fits_request by (requests.ZoneFree zone) answers.NoZone = true
fits_request by (requests.ZoneFree zone) answers.Ok = true
fits_request by (requests.Arrive meeting tasks) answers.Met = true
fits_request by (requests.Arrive meeting tasks) answers.Apart = true
fits_request by (requests.Hold seen) answers.Ok = true
fits_request by requests.Rise answers.Ok = true
fits_request by (requests.Input index) answers.Ok = true
fits_request by (requests.Say text tail) answers.Ok = true
fits_request by (requests.End fate) answers.Ok = true
fits_request _ _ _ = false

-- the number of axes of an actor's arm, by the actor's number in the cell; 0 if it has no arm
abbrev pub axes_of : CellData → ℕ → ℕ
axes_of cell actor = unwrap_or (option_map (λ row. row.axes) (slice_get cell.tasks actor)) 0

-- what the answers in a cell depend on, given an actor and its own events so far; a trap that starts is one that the
-- actor asked to connect to an interrupt
abbrev pub fitting_in : CellData → ℕ → List Event → Fitting
fitting_in cell actor mine = record {
  sorts = λ pers. option_map (λ row. row.sort) (slice_get cell.pers pers);
  traps = has_connected mine;
  trapped = is_trapped mine;
  axes = axes_of cell actor;
}
