-- The zones of a task's arm, from the events of a history alone (RAPID Instructions: WZLimSup, WZDOSet, WZDisable,
-- WZEnable, WZFree).
use Rattle.std.specs.Prelude.{◌⊎◌, ℕ, Bool, List, Option, None, Some}
use Rattle.rapid_num.specs.declared.shape.Shape.{Shape}
use Rattle.rapid_model.specs.declared.answer.Answer.TheVariants as answers
use Rattle.rapid_model.specs.declared.event.Event.{Event}
use Rattle.rapid_model.specs.declared.request.Request.TheVariants.{ZoneSet, ZoneTie, ZoneOn, ZoneOff, ZoneFree}
use Rattle.world_zones.specs.declared.output.Output.{Output}
use Rattle.cell_meaning.specs.Since.{Since, IsEvent}

-- the task gives a zone with this shape, which stops its arm or sets this output, and the answer is its number
abbrev pub GivesZone : ℕ → ℕ → Shape → Option Output → List Event → Event → Type 0
GivesZone task number shape None before e = (old : ℕ) × (temporary : Bool) × IsEvent task (ZoneSet old temporary shape) (answers.Number number) e
GivesZone task number shape (Some output) before e =
    (old : ℕ) × (temporary : Bool) × IsEvent task (ZoneTie old temporary shape output.signal output.value) (answers.Number number) e

-- the same with any shape, of either kind
abbrev pub GivesAny : ℕ → ℕ → List Event → Event → Type 0
GivesAny task number before e = (shape : Shape) × (output : Option Output) × GivesZone task number shape output before e

abbrev pub FreesZone : ℕ → ℕ → List Event → Event → Type 0
FreesZone task number before e = IsEvent task (ZoneFree number) answers.Ok e

abbrev pub SwitchesOff : ℕ → ℕ → List Event → Event → Type 0
SwitchesOff task number before e = IsEvent task (ZoneOff number) answers.Ok e

-- it is on after WZEnable, and once it is given
abbrev pub SwitchesOn : ℕ → ℕ → List Event → Event → Type 0
SwitchesOn task number before e = IsEvent task (ZoneOn number) answers.Ok e ⊎ GivesAny task number before e

-- the zone was given, no ZoneFree has freed it since, and its last switch is not ZoneOff
pub record IsOn (task number : ℕ) (shape : Shape) (output : Option Output) (history : List Event) : Type 0 where
  pub given : Since (GivesZone task number shape output) (FreesZone task number) history
  pub on : ¬ Since (SwitchesOff task number) (SwitchesOn task number) history

-- such a zone stops the arm if a ZoneSet gave it
abbrev pub Watches : ℕ → ℕ → Shape → List Event → Type 0
Watches task number shape history = IsOn task number shape None history

-- and sets its output if a ZoneTie did
abbrev pub Sets : ℕ → ℕ → Shape → Output → List Event → Type 0
Sets task number shape output history = IsOn task number shape (Some output) history
