-- Paths and the lines of gaps, worked by hand.
use Rattle.std.proofs.Common.{◌≡◌, List, [], ◌∷◌, pos, refl}
use Rattle.std.specs.Prelude.{codes, Option, Some, None}
use Rattle.std.specs.Fmt.{digits}
use Rattle.rapid_model.specs.declared.answer.Answer.TheVariants as answers
use Rattle.rapid_model.specs.declared.event.Event.{Event}
use Rattle.rapid_model.specs.declared.request.Request.TheVariants as requests
use Rattle.rapid_model.specs.declared.zone_name.ZoneName.TheVariants.{Own}
use Rattle.cell_meaning.proofs.ExampleCell.{joints_at}
use Rattle.zone_clearance.specs.declared.gap.Gap.{Gap}
use Rattle.zone_clearance.specs.declared.side.Side.TheVariants.{Zero, Low, High}
use Rattle.clearance_lines.specs.ArmPaths.{path_from}
use Rattle.clearance_lines.specs.Clearances.{gap_line, nearest_line}

-- two setpoints of the first arm, one of the second arm between them, and one that is not given
history : List Event
history =
    record { actor = 0; request = requests.Setpoint (joints_at (pos 1_000)); answer = answers.Given }
    ∷ record { actor = 1; request = requests.Setpoint (joints_at (pos 9_000)); answer = answers.Given }
    ∷ record { actor = 0; request = requests.Setpoint (joints_at (pos 3_000)); answer = answers.Given }
    ∷ record { actor = 0; request = requests.Setpoint (joints_at (pos 4_000)); answer = answers.Stopped (Own 1) }
    ∷ []

first_arm : path_from (Some (joints_at (pos 0))) 0 history
    ≡ record { event = Some 0; start = joints_at (pos 0); end = joints_at (pos 1_000) }
    ∷ record { event = Some 2; start = joints_at (pos 1_000); end = joints_at (pos 3_000) }
    ∷ []
unfolding history
first_arm = refl

-- an arm that is given nothing stays
third_arm : path_from (Some (joints_at (pos 0))) 2 history ≡ record { event = None; start = joints_at (pos 0); end = joints_at (pos 0) } ∷ []
unfolding history
third_arm = refl

no_arm : path_from None 0 history ≡ []
no_arm = refl

crossing : Gap
crossing = record { top = pos 80_000; bottom = pos 11; at_top = pos 6; at_bottom = pos 11; first = Low 1; second = Some (Low 2) }

crossing_line : gap_line (codes "guard") (Some 2) crossing ≡ codes "G guard 2 80000/11 6/11 1low 2low\n"
unfolding digits crossing
crossing_line = refl

crossing_nearest : nearest_line (codes "guard") (Some 2) crossing ≡ codes "C guard 2 80000/11\n"
unfolding digits crossing
crossing_nearest = refl

-- the start of an arm in a zone, and of one outside a zone whose high bound it has reached
inside : gap_line (codes "guard") None (record { top = pos 0; bottom = pos 1; at_top = pos 0; at_bottom = pos 1; first = Zero; second = Some Zero }) ≡ codes "G guard start 0/1 0/1 zero zero\n"
unfolding digits
inside = refl

outside : gap_line (codes "guard") None (record { top = pos 0; bottom = pos 1; at_top = pos 0; at_bottom = pos 1; first = High 12; second = None }) ≡ codes "G guard start 0/1 0/1 12high -\n"
unfolding digits
outside = refl
