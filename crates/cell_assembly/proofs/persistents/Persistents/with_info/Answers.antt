use Rattle.std.proofs.Common.{◌≡◌, [], ◌∷◌, length, map, ap, sym, ◌∙◌}
use Rattle.std.proofs.lemmas.List.{length-map, map-append}
use Rattle.cell_assembly.specs.Cells
use Rattle.cell_assembly.specs.Views.{view_info}
use Rattle.cell_assembly.proofs.NameTables.{pers_entered}
use Rattle.cell_assembly.proofs.persistents.Persistents.with_info.Goals as goal

pub invariant_of-result : goal.invariant_of-result
invariant_of-result c name =
    let inside = c.self.inside in
    let last : c.in_ok-number.number ≡ length inside.infos.items = cc (c.in_ok-number.ensures, c.len.ensures) in
    pers_entered inside.globals c.enter_global.new.table (map view_info inside.infos.items) (view_info c.args.info) c.in_ok-number.number c.self.invariant c.in_ok-enter_global.ensures.ok
    (last ∙ sym (length-map inside.infos.items view_info)) name
    ∙ ap (Cells.global_number name) (sym (ap (map view_info) c.in_ok-push.ensures.items ∙ map-append view_info inside.infos.items (c.args.info ∷ [])))
