use Rattle.std.proofs.Common.{◌≡◌, ◌+◌, ap, ◌∙◌, [], ◌∷◌, length, slice_set, arith}
use Rattle.std.proofs.lemmas.List.{length-append}
use Rattle.typed_trees.specs.declared.datum.Datum.TheVariants.{Mark}
use Rattle.machine_stacks.specs.Words.{DataRow}
use Rattle.machine_stacks.proofs.Rows.{length-data_in, set_last}
use Rattle.machine_stacks.proofs.words.Words.push_apart.Goals as goal

pub set_apart-requires : goal.set_apart-requires
set_apart-requires c =
    let w = c.self.inside in
    let old = c.args.self.now in
    let here : length old.items ≡ c.len-index.result = rw (← c.self.view_is) (omega (arith, length-data_in w.words.items w.apart.items)) in
    let more : length c.push_word.new.self.items ≡ length old.items + 1 = ap (λ (row : DataRow). length row.items) c.push_word.ensures ∙ length-append old.items (Mark 0 ∷ []) in
    omega (arith, here, more)

pub returns : goal.returns
returns c =
    let w = c.self.inside in
    let old = c.args.self.now in
    let here : c.len-index.result ≡ length old.items = rw (← c.self.view_is) (omega (arith, length-data_in w.words.items w.apart.items)) in
    c.set_apart.ensures
    ∙ ap (λ (row : DataRow). record row { items = slice_set row.items c.len-index.result c.args.datum }) c.push_word.ensures
    ∙ ap (λ xs. record old { items = xs }) (set_last old.items (Mark 0) c.args.datum c.len-index.result here)
