use Rattle.std.proofs.Common.{◌<◌, ◌≤◌, ◌/◌, length, slice_get, sym, ap, subst, ◌∙◌, arith}
use Rattle.std.specs.Vec.{vec_len}
use Rattle.history_pages.specs.Paged.{data_of}
use Rattle.history_pages.proofs.Paging.{at_full, at_last, last_within}
use Rattle.history_pages.proofs.paged.Paged.at.Goals as goal

pub index-requires-else-page-pages : goal.index-requires-else-page-pages
index-requires-else-page-pages g c =
    let full = c.self.inside.full in
    let last = c.self.inside.last in
    let spare = c.self.inside.spare in
    let within : c.args.index < length (data_of g.row.PAGE full last spare).items = subst (λ p. c.args.index < length p.items) (sym c.self.view_is) c.requires in
    let past : vec_len full ≤ c.args.index / g.row.PAGE = omega arith in
    last_within g.row.PAGE full last spare c.args.index c.self.invariant within past

pub returns-then-page-pages : goal.returns-then-page-pages
returns-then-page-pages g c =
    let full = c.self.inside.full in
    let last = c.self.inside.last in
    let spare = c.self.inside.spare in
    let within : c.args.index < length (data_of g.row.PAGE full last spare).items = subst (λ p. c.args.index < length p.items) (sym c.self.view_is) c.requires in
    let below : c.args.index / g.row.PAGE < vec_len full = omega arith in
    ap (λ p. slice_get p.items c.args.index) (sym c.self.view_is)
    ∙ at_full g.row.PAGE full last spare c.args.index c.index-full.result.now c.index.result.now c.self.invariant within below c.index-full.ensures c.index.ensures

pub returns-else-page-pages : goal.returns-else-page-pages
returns-else-page-pages g c =
    let full = c.self.inside.full in
    let last = c.self.inside.last in
    let spare = c.self.inside.spare in
    let within : c.args.index < length (data_of g.row.PAGE full last spare).items = subst (λ p. c.args.index < length p.items) (sym c.self.view_is) c.requires in
    let past : vec_len full ≤ c.args.index / g.row.PAGE = omega arith in
    ap (λ p. slice_get p.items c.args.index) (sym c.self.view_is)
    ∙ at_last g.row.PAGE full last spare c.args.index c.index-else-page-pages.result.now c.self.invariant within past c.index-else-page-pages.ensures
