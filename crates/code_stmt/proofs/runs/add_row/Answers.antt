use Rattle.std.proofs.Common.{◌-◌, [], ◌∷◌, ◌++◌, sym, ap, arith, ◌∙◌}
use Rattle.std.proofs.lemmas.List.{get_or_read}
use Rattle.stack_code.specs.Compiled.{same_own}
use Rattle.stack_code.specs.Placed.{own_of}
use Rattle.code_stmt.specs.Views.{view_own}
use Rattle.code_stmt.proofs.OwnerRows.{first_row, last_grows, new_begins}
use Rattle.code_stmt.proofs.runs.add_row.Goals as goal
use Rattle.code_stmt.proofs.runs.add_row.Goals.{else-count-ne0-via-then-count-ne0+else-is_own, else-count-ne0-via-else-count-ne0}

pub returns-then-is_own : goal.returns-then-is_own
returns-then-is_own c =
    let owners = c.args.owners.now in
    let n = c.len-count.result - 1 in
    let own = view_own c.args.own.now in
    let read = c.index_mut.ensures.value in
    let same = get_or_read owners.items n c.index_mut.result.now (omega (arith, c.len-count.ensures, owners.ok.0, c.if-count-ne0.true)) read c.index.result.now ∙ sym c.index.ensures in
    last_grows owners.items n c.index_mut.result.now c.args.first c.args.past own (omega (arith, c.len-count.ensures, owners.ok.0)) (λ none. omega (arith, none, c.len-count.ensures, owners.ok.0, c.if-count-ne0.true)) read
    (ap (λ row. same_own own (own_of row)) same ∙ sym c.if-is_own.ensures)

pub returns : goal.returns
returns c =
    let owners = c.args.owners.now in
    let n = c.len-count.result - 1 in
    let own = view_own c.args.own.now in
    c.in_ok-push.ensures.items
    ∙ (ap (λ row. owners.items ++ row ∷ []) c.row_of.ensures
    ∙ elim c.else-count-ne0.branch [
      | else-count-ne0-via-then-count-ne0+else-is_own w ↦ new_begins owners.items n w.index.result.now c.args.first c.args.past own (omega (arith, c.len-count.ensures, owners.ok.0)) (λ none. omega (arith, none, c.len-count.ensures, owners.ok.0, w.if-count-ne0.true)) w.index.ensures (sym w.if-is_own.ensures)
      | else-count-ne0-via-else-count-ne0 w ↦ first_row owners.items c.args.first c.args.past own (omega (arith, c.len-count.ensures, owners.ok.0, w.if-count-ne0.false))
    ])
