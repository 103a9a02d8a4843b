use Rattle.std.proofs.Common.{Bool, ◌∙◌, ap}
use Rattle.std.specs.Prelude.{if◌then◌else◌}
use Rattle.rapid_model.specs.declared.answer.Answer.TheVariants as answers
use Rattle.cell_meaning.proofs.BoardsTell.{meets_decides}
use Rattle.cell_meaning.proofs.PartChanges.{same_tests}
use Rattle.cell_core.proofs.meetings.arrive.Goals as goal

pub returns-clause-answer : goal.returns-clause-answer
returns-clause-answer c =
    let told = meets_decides c.args.meetings.now c.args.actor c.args.meeting c.args.tasks in
    let met = c.arrive-arrived.ensures.met in
    c.of_arrival-answer.ensures
    ∙ ap (λ (b : Bool). if b then answers.Met else answers.Apart) (same_tests _ _ (λ h. told.1 (met.0 h)) (λ h. met.1 (told.0 h)))
