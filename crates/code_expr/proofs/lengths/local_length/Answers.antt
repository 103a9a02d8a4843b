use Rattle.std.proofs.Common.{None, map, replicate, ◌++◌, sym, ap, ◌∙◌}
use Rattle.std.proofs.lemmas.List.{length-map}
use Rattle.std.specs.List.{slice_get}
use Rattle.std.specs.Option.{option_and_then}
use Rattle.typed_trees.specs.Views.{view_local, view_param}
use Rattle.code_expr.proofs.Widths.{local_len}
use Rattle.code_expr.proofs.lengths.local_length.Goals as goal

pub returns : goal.returns
returns c = λ tree.
    let routine = c.args.routine.now in
    let local = c.in_ok-get.field-0.now in
    let read = c.in_ok-get.ensures.lookup in
    let params = c.len.ensures ∙ (routine.params.ok.0 ∙ sym (length-map routine.params.items view_param)) in
    let behind = local_len c.len.result c.deref.result.now c.args.row c.in_ok-number.number local c.in_ok-number.ensures.0 c.in_ok-number.ensures.1 read.3.0 read.1 in
    behind
    ∙ (ap (λ locals. option_and_then (λ len. len) (slice_get (replicate c.len.result None ++ map (λ r. r.len) (map view_local locals)) c.args.row)) c.deref.ensures.value
    ∙ ap (λ n. option_and_then (λ len. len) (slice_get (replicate n None ++ map (λ r. r.len) (map view_local routine.locals.items)) c.args.row)) params)
