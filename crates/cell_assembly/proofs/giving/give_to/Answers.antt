use Rattle.std.proofs.Common.{slice_get, ap, ◌∙◌, sym, arith}
use Rattle.cell_assembly.specs.Cells.{element, is_given, with_given}
use Rattle.cell_assembly.specs.Views.{view_info}
use Rattle.cell_assembly.proofs.Joined.{given_there}
use Rattle.cell_assembly.proofs.giving.give_to.Goals as goal

pub returns : goal.returns
returns c =
    let info = c.index_mut-info.result.now in
    let row = c.args.row.now in
    let index = c.element-index.ensures in
    given_there c.args.infos.items c.args.number c.args.k row info c.with_given.new.info (omega arith) c.index_mut-info.ensures.value (sym c.suits.ensures ∙ c.if-not-suits.false) (omega arith)
    (ap (λ k. is_given (slice_get info.given.items k)) (sym index) ∙ ap (λ given. is_given (slice_get given c.element-index.result)) (sym c.deref.ensures.value) ∙ sym c.is_given.ensures ∙ c.if-is_given.false)
    (c.with_given.ensures ∙ ap (λ k. with_given (view_info info) k c.copy.result) index ∙ ap (with_given (view_info info) (element row.index)) c.copy.ensures)
