use Rattle.module_parser.proofs.OneModule.{one_module}
use Rattle.controller.proofs.Complete.{complete, statuses as run_statuses}
use Rattle.controller.proofs.laws.what_is_asked_is_done.Goals as goal

pub returns-clause-done : goal.returns-clause-done
returns-clause-done c = λ words files verdict report out err answers rose quiet accepted.
    complete one_module words files verdict report out err answers (λ cut. quiet (rose cut)) accepted

pub returns-clause-statuses : goal.returns-clause-statuses
returns-clause-statuses c = λ cell history. run_statuses cell history
