use Rattle.controller.proofs.run.report_of.Goals as goal

pub returns-clause-tells : goal.returns-clause-tells
returns-clause-tells c = record { history_is = c.into_report-history.ensures.history; fates_is = c.into_report-history.ensures.fates }
