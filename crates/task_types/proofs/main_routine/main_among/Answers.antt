use Rattle.std.proofs.Common.{◌+◌, Ok, length, map, drop, sym, ◌∙◌, ap}
use Rattle.raw_trees.specs.Views.{view_item, view_module}
use Rattle.rule_checks.proofs.Steps.{ok_same}
use Rattle.task_types.specs.Task.{main_among, routines_in, routines_of}
use Rattle.task_types.proofs.Mains.{from, found_here, looked_on, next_module}
use Rattle.task_types.proofs.main_routine.main_among.Goals as goal

pub returns-then-is_some : goal.returns-then-is_some
returns-then-is_some c =
    let next = next_module c.args.modules.now c.loop-unit.unit-index c.unit-item.result c.deref.result.now c.loop-unit-test.true c.unit-item.is c.deref.ensures.value in
    let found =
    found_here c.loop-unit.number c.in_ok-found.found (routines_in (map view_item c.deref.result.now)) (routines_of (map view_module (drop (c.loop-unit.unit-index + 1) c.args.modules.now)))
    (ok_same _ _ c.in_ok-found.ensures) c.if-is_some.ensures in
    ap Ok (sym c.loop-unit.invariant ∙ ap (λ rs. from c.loop-unit.number (main_among rs)) next ∙ found)

pub loop-unit-preserved : goal.loop-unit-preserved
loop-unit-preserved c =
    let next = next_module c.args.modules.now c.loop-unit.unit-index c.unit-item.result c.deref.result.now c.loop-unit-test.true c.unit-item.is c.deref.ensures.value in
    let same = c.deref.ensures.value ∙ sym c.deref-in-loop-unit.ensures.value in
    let behind = ap (λ is. c.loop-unit.number + length (routines_in (map view_item is))) same ∙ ok_same _ _ c.in_ok-number.ensures in
    let on =
    looked_on c.loop-unit.number c.in_ok-number.number c.in_ok-found.found (routines_in (map view_item c.deref.result.now)) (routines_of (map view_module (drop (c.loop-unit.unit-index + 1) c.args.modules.now)))
    (ok_same _ _ c.in_ok-found.ensures) c.if-is_some.ensures behind in
    on ∙ ap (λ rs. from c.loop-unit.number (main_among rs)) (sym next) ∙ c.loop-unit.invariant
