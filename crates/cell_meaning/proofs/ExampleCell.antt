-- The cell of the worked examples: two tasks whose arms are at 0, an input and an output, a persistent num, a meeting,
-- and an input script of one step.
use Rattle.std.proofs.Common.{true, false, [], ◌∷◌, ◌++◌, Some, None, replicate}
use Rattle.std.specs.Prelude.{ℤ, pos, codes}
use Rattle.rapid_num.specs.Reach.{absent_axes}
use Rattle.rapid_num.specs.declared.joints.Joints.{Joints}
use Rattle.rapid_model.specs.CellData.{CellData}
use Rattle.rapid_model.specs.declared.answer.Answer.TheVariants as answers
use Rattle.rapid_model.specs.declared.event.Event.{Event}
use Rattle.rapid_model.specs.declared.part_name.PartName.TheVariants as parts
use Rattle.rapid_model.specs.declared.path.Path.{Path}
use Rattle.rapid_model.specs.declared.request.Request.TheVariants as requests
use Rattle.rapid_model.specs.declared.sort.Sort.TheVariants as sorts
use Rattle.rapid_model.specs.declared.value.Value.TheVariants as values
use Rattle.cell_meaning.proofs.MoreEvents.{event}

-- axis 1 at this angle, the other axes at 0
abbrev pub joints_at : ℤ → Joints
joints_at angle = record { axis = angle ∷ replicate 5 (pos 0) ++ absent_axes 6 }

abbrev pub cell : CellData
cell = record {
  steps = 4;
  tasks = record { name = codes "A"; arm = Some (joints_at (pos 0)); axes = 6 } ∷ record { name = codes "B"; arm = Some (joints_at (pos 0)); axes = 6 } ∷ [];
  signals = record { name = codes "di1"; output = false; start = false } ∷ record { name = codes "do1"; output = true; start = true } ∷ [];
  pers = record { name = codes "list"; owner = None; sort = sorts.Num; len = Some 2; first = values.Num (pos 1000) ∷ values.Num (pos 2000) ∷ [] } ∷ [];
  meetings = codes "s1" ∷ [];
  zones = [];
  inputs = record { signal = 0; value = true; when = None; given = None; after = None } ∷ [];
}

abbrev pub second : Path
second = record { index = 2; part = parts.Whole }

-- task B clears the output
abbrev pub cleared : Event
cleared = event 1 (requests.WriteS 1 false) answers.Ok

-- task B writes the second num
abbrev pub written : Event
written = event 1 (requests.WriteP 0 second (values.Num (pos 3000))) answers.Ok

-- task A goes to 1 degree
abbrev pub went : Event
went = event 0 (requests.Setpoint (joints_at (pos 1000))) answers.Given
