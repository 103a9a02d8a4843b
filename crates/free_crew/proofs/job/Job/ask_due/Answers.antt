use Rattle.std.proofs.Common.{Option, sym, ◌∙◌, ap}
use Rattle.std.specs.Option.{unwrap_or}
use Rattle.rapid_model.specs.Own.{is_rise}
use Rattle.rapid_model.specs.declared.request.Request.{Request}
use Rattle.free_crew.proofs.job.Job.ask_due.Goals as goal

pub ask-requires-clause-plain : goal.ask-requires-clause-plain
ask-requires-clause-plain g c = λ request is.
    ap (λ (due : Option Request). is_rise (unwrap_or due request)) (sym is ∙ c.last.ensures) ∙ (sym c.is_rise.ensures ∙ c.if-is_rise.false)
