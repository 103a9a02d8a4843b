use Rattle.std.proofs.Common.{◌≡◌, ◌+◌, ◌*◌, length, sym, ap, arith}
use Rattle.std.specs.Vec.{vec_len}
use Rattle.history_pages.specs.Paged.{data_of}
use Rattle.history_pages.proofs.Paging.{length-data}
use Rattle.history_pages.proofs.paged.Paged.len.Goals as goal

pub returns : goal.returns
returns g c =
    let full = c.self.inside.full in
    let last = c.self.inside.last in
    let spare = c.self.inside.spare in
    let long : length (data_of g.row.PAGE full last spare).items ≡ vec_len full * g.row.PAGE + vec_len last = length-data g.row.PAGE full last spare c.self.invariant in
    let all : length c.args.self.now.items ≡ length (data_of g.row.PAGE full last spare).items = ap (λ p. length p.items) (sym c.self.view_is) in
    let pages : c.len.result * g.row.PAGE ≡ vec_len full * g.row.PAGE = ap (λ n. n * g.row.PAGE) c.len.ensures in
    omega arith
