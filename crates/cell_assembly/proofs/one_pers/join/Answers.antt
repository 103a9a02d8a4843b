use Rattle.std.proofs.Common.{Ok, set, map, ap, ◌∙◌, sym, arith}
use Rattle.typed_trees.specs.Views.{view_pers}
use Rattle.cell_assembly.specs.Cells
use Rattle.cell_assembly.specs.Cells.{Making}
use Rattle.cell_assembly.specs.Views.{view_info}
use Rattle.cell_assembly.proofs.Joined.{within_seen, joined_there, clash_there, table_joined}
use Rattle.cell_assembly.proofs.one_pers.join.Goals as goal

pub returns-then-not-is_alike : goal.returns-then-not-is_alike
returns-then-not-is_alike c =
    let before = c.args.before in
    let infos = c.pers.inside.infos.items in
    clash_there infos before.pers before.numbers.items c.args.task c.args.number (view_pers c.args.row.now) c.index_mut-info.result.now c.pers.view_is
    (within_seen infos before.pers c.args.number c.pers.view_is (omega arith)) c.index_mut-info.ensures.value (sym c.is_alike.ensures ∙ c.if-not-is_alike.true)

pub invariant_of-pers : goal.invariant_of-pers
invariant_of-pers c =
    let infos = c.pers.inside.infos.items in
    table_joined c.pers.inside.globals infos c.args.number (view_pers c.args.row.now) c.index_mut-info.result.now c.with_declared.new.info
    (within_seen infos c.args.before.pers c.args.number c.pers.view_is (omega arith)) c.index_mut-info.ensures.value c.in_ok-with_declared.ensures.ok c.pers.invariant

pub returns : goal.returns
returns c =
    let before = c.args.before in
    let infos = c.pers.inside.infos.items in
    joined_there infos before.pers before.numbers.items c.args.task c.args.number (view_pers c.args.row.now) c.index_mut-info.result.now c.with_declared.new.info c.pers.view_is
    (within_seen infos before.pers c.args.number c.pers.view_is (omega arith)) c.index_mut-info.ensures.value (sym c.is_alike.ensures ∙ c.if-not-is_alike.false) c.in_ok-with_declared.ensures.ok
    ∙ ap (λ ks. let made : Making Cells.Numbered = Ok (record { pers = map view_info (set infos c.args.number c.with_declared.new.info); numbers = ks }) in made) (sym c.in_ok-push.ensures.items)
