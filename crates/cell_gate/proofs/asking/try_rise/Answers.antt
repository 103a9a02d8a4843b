use Rattle.std.proofs.Common.{◌∙◌}
use Rattle.rapid_model.specs.declared.request.Request.TheVariants as requests
use Rattle.cell_meaning.proofs.Ending.{spent_so}
use Rattle.cell_gate.proofs.Asked.{rise_may, same_core}
use Rattle.cell_gate.proofs.asking.try_rise.Goals as goal

pub serve-requires : goal.serve-requires
serve-requires c =
    let core = c.args.core.now in
    let going = c.held-held.ensures.going (c.held-held.ensures.same ∙ c.requires.held) in
    rise_may core.cell core.history c.args.task c.requires.task going c.requires.held

pub returns-in-Spent : goal.returns-in-Spent
returns-in-Spent c =
    let core = c.args.core.now in
    let going = c.held-held.ensures.going (c.held-held.ensures.same ∙ c.requires.held) in
    (same_core core c.serve.new.self c.in-Spent.ensures.cell c.in-Spent.ensures.history, spent_so core.cell core.history c.args.task requests.Rise c.requires.task going c.in-Spent.ensures.served)
