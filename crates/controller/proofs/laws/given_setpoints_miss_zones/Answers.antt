use Rattle.cell_runs.proofs.ZonesMissed.{zones_missed}
use Rattle.controller.proofs.laws.given_setpoints_miss_zones.Goals as goal

pub returns : goal.returns
returns g c = λ cell history legal. zones_missed g.A.Askers.asks cell history legal
