-- The lines on examples worked by hand.
use Rattle.std.proofs.Common.{◌≡◌, refl, List, [], ◌∷◌, None}
use Rattle.std.specs.Prelude.{codes, pos, negsuc, true}
use Rattle.std.specs.Fmt.{digits}
use Rattle.rapid_num.specs.declared.joints.Joints.{Joints}
use Rattle.rapid_model.specs.CellData.{CellData}
use Rattle.rapid_model.specs.declared.answer.Answer.TheVariants as answers
use Rattle.rapid_model.specs.declared.event.Event.{Event}
use Rattle.rapid_model.specs.declared.fate.Fate.TheVariants as fates
use Rattle.rapid_model.specs.declared.fate.Fault.TheVariants.{JointRange, Unhandled}
use Rattle.rapid_model.specs.declared.request.Request.{Request}
use Rattle.rapid_model.specs.declared.request.Request.TheVariants.{Look, Position, Setpoint, Say}
use Rattle.rapid_model.specs.declared.tail.Tail.TheVariants as tails
use Rattle.rapid_model.specs.declared.answer.Answer.{Answer}
use Rattle.rapid_model.specs.declared.task_row.TaskRow.{TaskRow}
use Rattle.history_text.specs.Lines.{line_of, fate_line, lines_of, output_of}

-- axis 1 is at 0.833 degrees, and the others at 0
turned : Joints
turned = record { axis = pos 833 ∷ pos 0 ∷ pos 0 ∷ pos 0 ∷ pos 0 ∷ pos 0 ∷ pos 0 ∷ pos 0 ∷ pos 0 ∷ pos 0 ∷ pos 0 ∷ pos 0 ∷ [] }

tasks : List TaskRow
tasks = record { name = codes "A"; arm = None; axes = 6 } ∷ []

-- the same arm on a track
longer : List TaskRow
longer = record { name = codes "A"; arm = None; axes = 7 } ∷ []

asked : Request → Answer → Event
asked request answer = record { actor = 0; request = request; answer = answer }

setpoint : line_of tasks (asked (Setpoint turned) answers.Given) ≡ codes "S A 0.833 0.000 0.000 0.000 0.000 0.000\n"
unfolding digits turned tasks asked
setpoint = refl

seventh : line_of longer (asked (Setpoint turned) answers.Given) ≡ codes "S A 0.833 0.000 0.000 0.000 0.000 0.000 0.000\n"
unfolding digits turned longer asked
seventh = refl

text : line_of tasks (asked (Say (codes "ready") tails.None) answers.Ok) ≡ codes "T A ready\n"
unfolding digits tasks asked
text = refl

-- -1.5 after a text
text_and_num : line_of tasks (asked (Say (codes "k=") (tails.Num (negsuc 1_499))) answers.Ok) ≡ codes "T A k=-1.5\n"
unfolding digits tasks asked
text_and_num = refl

text_and_truth : line_of tasks (asked (Say (codes "on ") (tails.Bool true)) answers.Ok) ≡ codes "T A on TRUE\n"
unfolding digits tasks asked
text_and_truth = refl

look : line_of tasks (asked Look (answers.Go 3)) ≡ []
unfolding tasks asked
look = refl

position : line_of tasks (asked Position (answers.At turned)) ≡ []
unfolding tasks asked
position = refl

done : fate_line (codes "A") fates.Done ≡ codes "E A Done\n"
done = refl

cut : fate_line (codes "A") fates.Cut ≡ codes "E A Cut\n"
cut = refl

held : fate_line (codes "A") fates.Held ≡ codes "E A Held\n"
held = refl

fault : fate_line (codes "A") (fates.Fault JointRange) ≡ codes "E A Fault JointRange\n"
fault = refl

exit : fate_line (codes "A") fates.Exit ≡ codes "E A Exit\n"
exit = refl

unhandled : fate_line (codes "A") (fates.Fault (Unhandled 41)) ≡ codes "E A Fault Unhandled 41\n"
unfolding digits
unhandled = refl

cell : CellData
cell = record { steps = 10; tasks = tasks; signals = []; pers = []; meetings = []; zones = []; inputs = [] }

-- the lines of the events, and then that of the task
lines : lines_of cell (asked Look (answers.Go 3) ∷ asked (Setpoint turned) answers.Given ∷ []) (fates.Done ∷ []) ≡ [] ∷ codes "S A 0.833 0.000 0.000 0.000 0.000 0.000\n" ∷ codes "E A Done\n" ∷ []
unfolding digits turned tasks asked cell
lines = refl

output : output_of cell (asked Look (answers.Go 3) ∷ asked (Setpoint turned) answers.Given ∷ []) (fates.Done ∷ []) ≡ codes "S A 0.833 0.000 0.000 0.000 0.000 0.000\nE A Done\n"
unfolding digits turned tasks asked cell
output = refl
