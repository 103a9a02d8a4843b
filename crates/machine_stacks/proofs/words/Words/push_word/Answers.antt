use Rattle.std.proofs.Common.{◌<◌, ap, ◌∙◌, List, [], ◌∷◌, ◌++◌, length, sym, subst, arith}
use Rattle.typed_trees.specs.declared.datum.Datum.TheVariants.{Mark}
use Rattle.machine_stacks.specs.Words.{DataRow, data_in, datum_in}
use Rattle.machine_stacks.specs.declared.word.Word.{Word}
use Rattle.machine_stacks.proofs.Rows.{length-data_in, pushed, same_row}
use Rattle.machine_stacks.proofs.words.Words.push_word.Goals as goal

pub push_reserved-requires : goal.push_reserved-requires
push_reserved-requires c =
    let w = c.self.inside in
    omega (arith, length-data_in w.words.items w.apart.items, subst (λ (row : DataRow). length row.items < row.room) (sym c.self.view_is) c.requires.room)

pub returns : goal.returns
returns c =
    let w = c.self.inside in
    same_row _ _ _ _ (ap (λ (ws : List Word). data_in ws w.apart.items) c.push_reserved.ensures.items ∙ pushed w.words.items w.apart.items c.args.word c.requires.here) c.push_reserved.ensures.capacity
    ∙ ap (λ (row : DataRow). record row { items = row.items ++ datum_in c.args.word (Mark 0) ∷ [] }) c.self.view_is
