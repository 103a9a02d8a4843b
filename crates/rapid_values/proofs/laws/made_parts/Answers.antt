use Rattle.rapid_values.proofs.Made.{parts_made, arm_axes, external_axes}
use Rattle.rapid_values.proofs.laws.made_parts.Goals as goal

pub returns : goal.returns
returns c = record { made = parts_made; arm = arm_axes; external = external_axes }
