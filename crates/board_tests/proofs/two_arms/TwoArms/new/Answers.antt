use Rattle.std.proofs.Common.{◌≡◌, List, Bool, map, sym, subst, rules}
use Rattle.world_zones.specs.Zones.{ZonesData, before_all}
use Rattle.board_tests.specs.Boards.{IsTwoArms}
use Rattle.board_tests.proofs.Watched.{two_arms}
use Rattle.board_tests.proofs.two_arms.TwoArms.new.Goals as goal

pub invariant_of-result : goal.invariant_of-result
invariant_of-result c =
    let cell = c.in_ok-cell.cell in
    let zones : c.in_ok-zones.zones ≡ before_all cell = search rules in
    let signals : c.in_ok-signals.signals ≡ map (λ row. row.start) cell.signals = search rules in
    subst (λ (z : ZonesData). IsTwoArms z c.in_ok-signals.signals) (sym zones)
    (subst (λ (s : List Bool). IsTwoArms (before_all cell) s) (sym signals)
    (two_arms cell c.in_ok-cell.ensures.tasks c.in_ok-cell.ensures.signals c.in_ok-cell.ensures.zones))
