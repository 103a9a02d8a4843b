use Rattle.std.proofs.Common.{refl}
use Rattle.cell_loading.proofs.Loads.{script_breaks}
use Rattle.cell_loading.proofs.texts.script_of.Goals as goal

pub returns-in-Ok-clause-script : goal.returns-in-Ok-clause-script
returns-in-Ok-clause-script c = (c.args.text.now, refl, c.in-Ok.ensures.spelled)

pub returns-in-Err-Rule-clause-script : goal.returns-in-Err-Rule-clause-script
returns-in-Err-Rule-clause-script c =
    script_breaks c.args.text.now c.in-Err-Rule.field-0 c.in-Err-Rule.key c.in-Err-Rule.rule c.in-Err-Rule.ensures.refused c.in-Err-Rule.field-0-is
