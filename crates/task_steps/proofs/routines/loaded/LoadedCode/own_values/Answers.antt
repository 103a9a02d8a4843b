use Rattle.std.proofs.Common.{List, length, ap, subst, ◌∙◌}
use Rattle.typed_trees.specs.declared.datum.Datum.{Datum}
use Rattle.stack_code.specs.CodeData.{CodeData}
use Rattle.task_steps.specs.Loading.{IsLoaded}
use Rattle.task_steps.proofs.Loads.{loaded_values}
use Rattle.task_steps.proofs.routines.loaded.LoadedCode.own_values.Goals as goal

pub returns-clause-count : goal.returns-clause-count
returns-clause-count c =
    let code = c.args.self.now in
    let l = c.self.inside in
    let loaded : IsLoaded code l.runs.items l.starts.items l.owners.items = subst (λ (x : CodeData). IsLoaded x l.runs.items l.starts.items l.owners.items) c.self.view_is c.self.invariant in
    c.count_from.ensures.count
    ∙ ap (λ (xs : List Datum). length xs)
    (loaded_values code l.runs.items c.deref.result.now l.starts.items l.owners.items c.args.routine c.args.row c.index-start.result.now c.saturating_sub-most.result loaded c.requires c.index-start.ensures c.deref.ensures.value c.saturating_sub-most.ensures)
