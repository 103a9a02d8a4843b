-- What a task asks, answer by answer, for the examples.
use Rattle.std.proofs.Common.{ℤ, pos, List, [], ◌∷◌, ◌++◌}
use Rattle.std.specs.Prelude.{map, replicate}
use Rattle.rapid_num.specs.Reach.{absent_axes}
use Rattle.rapid_num.specs.declared.joints.Joints.{Joints}
use Rattle.joint_planner.specs.Setpoints.{greatest_change, step_of}
use Rattle.rapid_model.specs.declared.answer.Answer.{Answer}
use Rattle.rapid_model.specs.declared.answer.Answer.TheVariants.{Go}
use Rattle.rapid_model.specs.declared.fate.Fate.TheVariants as fates
use Rattle.rapid_model.specs.declared.fate.Fault.{Fault}
use Rattle.rapid_model.specs.declared.request.Request.{Request}
use Rattle.rapid_model.specs.declared.request.Request.TheVariants.{End}
use Rattle.typed_trees.specs.Plain.{TypedTree}
use Rattle.rapid_meaning.specs.Answering.{performed, sort_of_pers}
use Rattle.rapid_meaning.specs.Data.{frame_at, with_frame}
use Rattle.rapid_meaning.specs.Doings.{after}
use Rattle.rapid_meaning.specs.Functions.{last_digits}
use Rattle.rapid_meaning.specs.Instructions.{has}
use Rattle.rapid_meaning.specs.Meetings.{with_tasks}
use Rattle.rapid_meaning.specs.Zones.{on_axes}
use Rattle.rapid_meaning.specs.Runs.{Next, asks, ended, asked_after, data_after, deep, state_after}

-- what a task asks before the first answer, before the second and so on, and after the last
unfoldable pub asked_along : TypedTree → List Answer → List Answer → List Next
unfolding asked_after data_after state_after deep performed after frame_at with_frame sort_of_pers last_digits on_axes has with_tasks greatest_change step_of
asked_along tree before [] = asked_after tree before ∷ []
asked_along tree before (a ∷ more) = asked_after tree before ∷ asked_along tree (before ++ a ∷ []) more

-- these requests, and then it has ended
abbrev pub all_of : List Request → List Next
all_of requests = map asks requests ++ ended ∷ []

abbrev pub done : Request
done = End fates.Done

abbrev pub fault : Fault → Request
fault f = End (fates.Fault f)

-- axis 1 at this angle, the other robot axes at 0
abbrev pub joints : ℤ → Joints
joints angle = record { axis = angle ∷ replicate 5 (pos 0) ++ absent_axes 6 }

abbrev pub go : Answer
go = Go 0
