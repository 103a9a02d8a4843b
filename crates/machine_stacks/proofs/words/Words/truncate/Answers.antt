use Rattle.std.proofs.Common.{ap, ◌∙◌, List, take}
use Rattle.machine_stacks.specs.Words.{DataRow, data_in}
use Rattle.machine_stacks.specs.declared.word.Word.{Word}
use Rattle.machine_stacks.proofs.Rows.{cut, same_row}
use Rattle.machine_stacks.proofs.words.Words.truncate.Goals as goal

pub returns : goal.returns
returns c =
    let w = c.self.inside in
    same_row _ _ _ _ (ap (λ (ws : List Word). data_in ws w.apart.items) c.truncate.ensures.items ∙ cut w.words.items w.apart.items c.args.len) c.truncate.ensures.capacity
    ∙ ap (λ (row : DataRow). record row { items = take c.args.len row.items }) c.self.view_is
