use Rattle.std.proofs.Common.{ap, true, ◌≡◌, ◌⊎◌, inl, inr, refl}
use Rattle.std.proofs.lemmas.Result.{IfErr-weaker}
use Rattle.command_words.specs.declared.command.Action.{Action}
use Rattle.command_words.specs.declared.command.Action.TheVariants as actions
use Rattle.controller.specs.Accepted.{reads_history}
use Rattle.controller.proofs.last_text.load_last.Goals as goal

either_reads : (action : Action) → (action ≡ actions.Audit) ⊎ (action ≡ actions.State) → reads_history action ≡ true
either_reads action (inl audits) = ap reads_history audits
either_reads action (inr states) = ap reads_history states

pub returns-in-Audit-clause-unread : goal.returns-in-Audit-clause-unread
returns-in-Audit-clause-unread g c =
    IfErr-weaker c.read_file.result _ _ (λ refused unread. (either_reads c.args.command.now.action c.in-Audit.is, unread)) c.read_file.ensures.unread

pub returns-in-Audit-clause-gives : goal.returns-in-Audit-clause-gives
returns-in-Audit-clause-gives g c = λ reads. c.read_file.ensures.gives
