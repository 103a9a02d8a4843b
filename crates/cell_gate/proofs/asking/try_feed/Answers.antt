use Rattle.std.proofs.Common.{ℕ, sym, ◌∙◌, subst₂}
use Rattle.std.specs.Prelude.{IsTrue}
use Rattle.rapid_model.specs.Own.{part_of}
use Rattle.rapid_model.specs.declared.request.Request.TheVariants as requests
use Rattle.cell_meaning.specs.MayAsk.{may_ask}
use Rattle.cell_gate.proofs.Asked.{next_may}
use Rattle.cell_gate.proofs.asking.try_feed.Goals as goal

pub serve-requires : goal.serve-requires
serve-requires c =
    let core = c.args.core.now in
    subst₂ (λ (script index : ℕ). IsTrue (may_ask core.cell script (part_of script core.history) (requests.Input index))) (sym c.task_count-script.ensures.same) (sym c.inputs_done-index.ensures)
    (next_may core.cell core.history (sym c.is_over.ensures ∙ c.if-is_over.false))
