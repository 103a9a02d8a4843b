use Rattle.std.proofs.Common.{Some, ap, sym, ◌∙◌}
use Rattle.rapid_model.specs.declared.request.Request.{Request}
use Rattle.cell_state.proofs.tasks.next_request.Goals as goal

pub returns-then-ended : goal.returns-then-ended
returns-then-ended c = sym c.ended.ensures ∙ c.if-ended.true

pub returns-else-ended : goal.returns-else-ended
returns-else-ended c = (sym c.ended.ensures ∙ c.if-ended.false, c.last.ensures ∙ ap (λ (r : Request). Some r) (sym c.copy.ensures))
