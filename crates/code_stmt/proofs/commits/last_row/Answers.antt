use Rattle.std.specs.Prelude.{option_to_list}
use Rattle.std.specs.Option.{option_copied}
use Rattle.std.specs.declared.alloc.Global.{Global}
use Rattle.std.specs.declared.vec.Vec.{Vec}
use Rattle.std.proofs.Common.{[], ◌∷◌, ◌++◌, sym, ap, ◌∙◌}
use Rattle.stack_code.specs.declared.owner.Owner.{Owner}
use Rattle.code_stmt.proofs.MarkedCode.{last_at}
use Rattle.code_stmt.proofs.commits.last_row.Goals as goal
use Rattle.code_stmt.proofs.commits.last_row.Goals.{in-Some+in_ok-push-in-Some, in-None}

pub returns : goal.returns
returns c =
    let rows = c.args.owners.now in
    elim c.match-last.branch [
      | in-Some+in_ok-push-in-Some w ↦
          ap (λ (v : Vec Owner Global). v.items) w.last-is
          ∙ (w.in_ok-push-in-Some.ensures.items
          ∙ (ap (λ xs. xs ++ w.in-Some.row.now ∷ []) c.new-last.ensures.items
          ∙ (ap option_to_list (sym (ap option_copied w.in-Some.is) ∙ c.last.ensures.value) ∙ last_at rows)))
      | in-None w ↦
          ap (λ (v : Vec Owner Global). v.items) w.last-is
          ∙ (c.new-last.ensures.items ∙ (ap option_to_list (sym (ap option_copied w.in-None.is) ∙ c.last.ensures.value) ∙ last_at rows))
    ]
