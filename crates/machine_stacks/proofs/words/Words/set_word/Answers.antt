use Rattle.std.proofs.Common.{◌<◌, ap, ◌∙◌, length, slice_set, sym, subst, refl, arith}
use Rattle.typed_trees.specs.declared.datum.Datum.TheVariants.{Mark}
use Rattle.machine_stacks.specs.Words.{DataRow, datum_in}
use Rattle.machine_stacks.proofs.Rows.{length-data_in, replaced, same_row}
use Rattle.machine_stacks.proofs.words.Words.set_word.Goals as goal

pub index_mut-requires : goal.index_mut-requires
index_mut-requires c =
    let w = c.self.inside in
    omega (arith, length-data_in w.words.items w.apart.items, subst (λ (row : DataRow). c.args.index < length row.items) (sym c.self.view_is) c.requires.there)

pub returns : goal.returns
returns c =
    let w = c.self.inside in
    same_row _ _ _ _ (replaced w.words.items w.apart.items c.args.index c.args.word c.requires.here) refl
    ∙ ap (λ (row : DataRow). record row { items = slice_set row.items c.args.index (datum_in c.args.word (Mark 0)) }) c.self.view_is
