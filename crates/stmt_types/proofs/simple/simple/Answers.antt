use Rattle.std.proofs.Common.{◌∙◌, Ok, ap, map, option_map, sym}
use Rattle.raw_trees.specs.Plain.{args_of as raw_args_of}
use Rattle.raw_trees.specs.Views.{view_arg as view_raw_arg, view_expr as view_raw, view_name, view_place as view_raw_place, view_stmt_form as view_raw_form}
use Rattle.typed_trees.specs.Plain.{Retry, TryNext}
use Rattle.typed_trees.specs.Views.{view_stmt}
use Rattle.named_data.specs.Views.{view_site}
use Rattle.stmt_types.specs.Bodies.{assigned, called, connected, in_handler, jumped, labelled, raised, returned, stmt, then_next, with_next}
use Rattle.stmt_types.specs.Views.{view_around, view_body}
use Rattle.expr_types.proofs.Shapes.{along}
use Rattle.stmt_types.proofs.Forms.{gives_next}
use Rattle.stmt_types.proofs.simple.simple.Goals as goal

pub returns-in-Assign : goal.returns-in-Assign
unfolding stmt
returns-in-Assign c = λ next.
    let body = view_body c.args.body.now in
    let around = view_around c.args.around.now in
    let at = c.args.raw.now.at in
    along (λ tree. with_next next (view_stmt tree)) c.assigned.result _ _ (ap (λ form. stmt body (view_raw_form at form) around next) c.in-Assign.is ∙ ap (λ there. then_next next (assigned there at (view_raw_place c.in-Assign.place) (view_raw c.in-Assign.value))) (sym c.site_at-site.ensures))
    (gives_next next c.assigned.result _ c.assigned.ensures)

pub returns-in-Call : goal.returns-in-Call
unfolding stmt
returns-in-Call c = λ next.
    let body = view_body c.args.body.now in
    let around = view_around c.args.around.now in
    let at = c.args.raw.now.at in
    along (λ tree. with_next next (view_stmt tree)) c.called.result _ _ (ap (λ form. stmt body (view_raw_form at form) around next) c.in-Call.is ∙ ap (λ there. then_next next (called there at (view_name c.in-Call.name) (raw_args_of (map view_raw_arg c.in-Call.args.items)))) (sym c.site_at-site.ensures))
    (gives_next next c.called.result _ c.called.ensures)

pub returns-in-Label : goal.returns-in-Label
unfolding stmt
returns-in-Label c = λ next.
    let body = view_body c.args.body.now in
    let around = view_around c.args.around.now in
    let at = c.args.raw.now.at in
    along (λ tree. with_next next (view_stmt tree)) c.labelled.result _ _ (ap (λ form. stmt body (view_raw_form at form) around next) c.in-Label.is ∙ ap (λ there. then_next next (labelled body there at (view_name c.in-Label.name))) (sym c.site_at-site.ensures))
    (gives_next next c.labelled.result _ c.labelled.ensures)

pub returns-in-Goto : goal.returns-in-Goto
unfolding stmt
returns-in-Goto c = λ next.
    let body = view_body c.args.body.now in
    let around = view_around c.args.around.now in
    let at = c.args.raw.now.at in
    along (λ tree. with_next next (view_stmt tree)) c.jumped.result _ _ (ap (λ form. stmt body (view_raw_form at form) around next) c.in-Goto.is ∙ ap (λ there. then_next next (jumped body around there at (view_name c.in-Goto.name))) (sym c.site_at-site.ensures))
    (gives_next next c.jumped.result _ c.jumped.ensures)

pub returns-in-Return : goal.returns-in-Return
unfolding stmt
returns-in-Return c = λ next.
    let body = view_body c.args.body.now in
    let around = view_around c.args.around.now in
    let at = c.args.raw.now.at in
    along (λ tree. with_next next (view_stmt tree)) c.returned.result _ _ (ap (λ form. stmt body (view_raw_form at form) around next) c.in-Return.is ∙ ap (λ there. then_next next (returned body there at (option_map view_raw c.in-Return.value))) (sym c.site_at-site.ensures))
    (gives_next next c.returned.result _ c.returned.ensures)

pub returns-in-Raise : goal.returns-in-Raise
unfolding stmt
returns-in-Raise c = λ next.
    let body = view_body c.args.body.now in
    let around = view_around c.args.around.now in
    let at = c.args.raw.now.at in
    along (λ tree. with_next next (view_stmt tree)) c.raised.result _ _ (ap (λ form. stmt body (view_raw_form at form) around next) c.in-Raise.is ∙ ap (λ there. then_next next (raised around there at (option_map view_raw c.in-Raise.number))) (sym c.site_at-site.ensures))
    (gives_next next c.raised.result _ c.raised.ensures)

pub returns-in-Retry : goal.returns-in-Retry
unfolding stmt
returns-in-Retry c = λ next.
    let body = view_body c.args.body.now in
    let around = view_around c.args.around.now in
    let at = c.args.raw.now.at in
    along (λ tree. with_next next (view_stmt tree)) c.in_handler.result _ _ (ap (λ form. stmt body (view_raw_form at form) around next) c.in-Retry.is ∙ ap (λ there. then_next next (in_handler around there at (Retry at))) (sym c.site_at-site.ensures) ∙ ap (λ tree. then_next next (in_handler around (view_site c.site_at-site.result) at tree)) (sym c.retry.ensures))
    (gives_next next c.in_handler.result _ c.in_handler.ensures)

pub returns-in-TryNext : goal.returns-in-TryNext
unfolding stmt
returns-in-TryNext c = λ next.
    let body = view_body c.args.body.now in
    let around = view_around c.args.around.now in
    let at = c.args.raw.now.at in
    along (λ tree. with_next next (view_stmt tree)) c.in_handler-in-TryNext.result _ _ (ap (λ form. stmt body (view_raw_form at form) around next) c.in-TryNext.is ∙ ap (λ there. then_next next (in_handler around there at (TryNext at))) (sym c.site_at-site.ensures) ∙ ap (λ tree. then_next next (in_handler around (view_site c.site_at-site.result) at tree)) (sym c.try_next.ensures))
    (gives_next next c.in_handler-in-TryNext.result _ c.in_handler-in-TryNext.ensures)

pub returns-in-Connect : goal.returns-in-Connect
unfolding stmt
returns-in-Connect c = λ next.
    let body = view_body c.args.body.now in
    let around = view_around c.args.around.now in
    let at = c.args.raw.now.at in
    along (λ tree. with_next next (view_stmt tree)) c.connected.result _ _ (ap (λ form. stmt body (view_raw_form at form) around next) c.in-Connect.is ∙ ap (λ there. then_next next (connected there at (view_raw_place c.in-Connect.place) (view_name c.in-Connect.trap))) (sym c.site_at-site.ensures))
    (gives_next next c.connected.result _ c.connected.ensures)

pub returns-in-Exit : goal.returns-in-Exit
unfolding stmt
returns-in-Exit c = λ next.
    ap (λ form. stmt (view_body c.args.body.now) (view_raw_form c.args.raw.now.at form) (view_around c.args.around.now) next) c.in-Exit.is ∙ ap (λ tree. Ok (with_next next tree)) (sym c.exit.ensures)
