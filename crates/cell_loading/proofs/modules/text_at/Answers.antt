use Rattle.std.proofs.Common.{◌∙◌, sym}
use Rattle.cell_loading.proofs.ReadModules.{text_at, no_text_at}
use Rattle.cell_loading.proofs.modules.text_at.Goals as goal

pub returns-in-Some-clause-text : goal.returns-in-Some-clause-text
returns-in-Some-clause-text c =
    let h = c.in-Some.ensures.lookup in
    c.as_slice.ensures.value ∙ sym (text_at c.args.modules.now.first c.args.modules.now.texts.now c.args.modules.now.trees.now c.args.number c.in-Some.text.now c.requires.same h.3.0 h.1)

pub returns-in-None-clause-text : goal.returns-in-None-clause-text
returns-in-None-clause-text c =
    let h = c.in-None.ensures.lookup in sym (no_text_at c.args.modules.now.first c.args.modules.now.texts.now c.args.modules.now.trees.now c.args.number h.3)
