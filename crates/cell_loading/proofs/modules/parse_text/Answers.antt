use Rattle.cell_loading.proofs.Parsing.{text_parsed, text_refused}
use Rattle.cell_loading.proofs.modules.parse_text.Goals as goal

pub returns-in-Ok-clause-parsed : goal.returns-in-Ok-clause-parsed
returns-in-Ok-clause-parsed c = text_parsed c.args.text.now c.in-Ok.tree c.in-Ok.ensures.answer

pub returns-in-Err-clause-parsed : goal.returns-in-Err-clause-parsed
returns-in-Err-clause-parsed c = text_refused c.args.file c.args.text.now c.in-Err.fault c.refusal.result c.in-Err.ensures.answer c.refusal.ensures
