-- The boards of the test cell with two arms.
use Rattle.std.proofs.Common.{◌≡◌, ◌<◌, ◌∙◌, length, map, sym, subst, arith}
use Rattle.std.specs.List.{All}
use Rattle.std.proofs.lemmas.List.{length-map, length-replicate}
use Rattle.std.proofs.lemmas.List.Elements.{All-map}
use Rattle.rapid_model.specs.CellData.{CellData}
use Rattle.world_zones.specs.Zones.{before_all, no_zones, zone_of}
use Rattle.board_tests.specs.Boards.{IsTwoArms}

pub two_arms : (cell : CellData) → length cell.tasks ≡ 2 → length cell.signals ≡ 2 → All (λ row. row.signal < 2) cell.zones → IsTwoArms (before_all cell) (map (λ row. row.start) cell.signals)
two_arms cell tasks signals named =
    let two : length (map (λ row. row.start) cell.signals) ≡ 2 = length-map cell.signals (λ row. row.start) ∙ signals in
    record {
      arms = length-replicate (length cell.tasks) no_zones ∙ tasks;
      some = omega (arith, two);
      named = All-map (λ zone. zone.signal < length (map (λ row. row.start) cell.signals)) zone_of cell.zones (subst (λ n. All (λ row. row.signal < n) cell.zones) (sym two) named);
    }
