use Rattle.std.proofs.Common.{◌≡◌, length, ap, sym, ◌∙◌}
use Rattle.name_tables.specs.Names.{entered}
use Rattle.cell_assembly.specs.Cells
use Rattle.cell_assembly.proofs.NameTables.{meeting_entered}
use Rattle.cell_assembly.proofs.meeting_names.MeetingNames.with_name.Goals as goal

pub invariant_of-result : goal.invariant_of-result
invariant_of-result c name =
    let inside = c.self.inside in
    let last : c.in_ok-number.number ≡ length inside.names.items = cc (c.in_ok-number.ensures, c.len.ensures) in
    let new = c.in_ok-enter.ensures.ok ∙ ap (λ called. entered called c.in_ok-number.number inside.numbers) c.bytes.ensures.same in
    meeting_entered inside.numbers c.enter.new.self inside.names.items c.args.name c.in_ok-number.number c.self.invariant new last name
    ∙ ap (Cells.meeting_number name) (sym c.in_ok-push.ensures.items)
