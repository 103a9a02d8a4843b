use Rattle.std.proofs.Common.{◌≡◌, ◌+◌, ◌-◌, sym, arith}
use Rattle.controller.proofs.FileNames.{module_named, none_named}
use Rattle.controller.proofs.report.file_name.Goals as goal

pub returns-in-Some : goal.returns-in-Some
returns-in-Some c =
    let h = c.in-Some.ensures.lookup in
    let is : (c.args.file - 1) + 1 ≡ c.args.file = omega (arith, c.if-file-eq0.false) in
    module_named c.args.script.now c.args.modules.now c.args.file (c.args.file - 1) c.in-Some.name.now is h.3.0 h.1

pub returns-in-None : goal.returns-in-None
returns-in-None c =
    let h = c.in-None.ensures.lookup in
    let is : (c.args.file - 1) + 1 ≡ c.args.file = omega (arith, c.if-file-eq0.false) in
    sym (none_named c.args.script.now c.args.modules.now c.args.file (c.args.file - 1) is h.3)
