use Rattle.std.proofs.Common.{ap, sym, ◌∙◌, List, ◌++◌}
use Rattle.typed_trees.specs.declared.datum.Datum.{Datum}
use Rattle.machine_stacks.proofs.Rows.{first_of_rest}
use Rattle.machine_stacks.proofs.words.Words.push_from.Goals as goal

pub returns : goal.returns
returns c =
    let old = c.args.self.now in
    c.push.ensures ∙ ap (λ (xs : List Datum). record old { items = old.items ++ xs }) (sym (first_of_rest c.args.row.now.items c.args.index c.in-Some.datum (sym c.in-Some.ensures)))
