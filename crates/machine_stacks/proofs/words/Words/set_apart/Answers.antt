use Rattle.std.proofs.Common.{◌<◌, ap, ◌∙◌, length, slice_set, sym, subst, refl, arith}
use Rattle.machine_stacks.specs.Words.{DataRow}
use Rattle.machine_stacks.proofs.Rows.{length-data_in, same_row}
use Rattle.machine_stacks.proofs.words.Words.set_apart.Goals as goal

pub put_apart-requires-clause-there : goal.put_apart-requires-clause-there
put_apart-requires-clause-there c =
    let w = c.self.inside in
    omega (arith, length-data_in w.words.items w.apart.items, subst (λ (row : DataRow). c.args.index < length row.items) (sym c.self.view_is) c.requires, c.self.invariant.few, c.self.invariant.enough)

pub index_mut-requires : goal.index_mut-requires
index_mut-requires c =
    let w = c.self.inside in
    omega (arith, length-data_in w.words.items w.apart.items, subst (λ (row : DataRow). c.args.index < length row.items) (sym c.self.view_is) c.requires)

pub returns : goal.returns
returns c =
    let w = c.self.inside in
    let within : c.args.index < length w.words.items =
    omega (arith, length-data_in w.words.items w.apart.items, subst (λ (row : DataRow). c.args.index < length row.items) (sym c.self.view_is) c.requires) in
    same_row _ _ _ _ (c.put_apart.ensures.put w.words.items within) refl
    ∙ ap (λ (row : DataRow). record row { items = slice_set row.items c.args.index c.args.datum }) c.self.view_is
