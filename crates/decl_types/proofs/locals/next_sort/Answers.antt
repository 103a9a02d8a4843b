use Rattle.std.proofs.Common.{◌≡◌, ◌∙◌, length, Some, ap, arith}
use Rattle.std.proofs.lemmas.Grind.{common_steps}
use Rattle.data_scopes.specs.Called.{local_of}
use Rattle.decl_types.specs.Data.{sort_in}
use Rattle.decl_types.specs.Parts.{view_inner}
use Rattle.decl_types.proofs.locals.next_sort.Goals as goal

pub returns : goal.returns
returns c =
    let place : c.in_ok-place.place ≡ length (view_inner c.args.inner.now).known = grind (arith, common_steps) in
    record {
      ok = c.sort_in.ensures ∙ ap sort_in (c.local.ensures ∙ ap (local_of (view_inner c.args.inner.now).names.rows (Some c.args.routine)) place);
      err = tt;
    }
