use Rattle.rapid_values.proofs.Changed.{put_there, put_full, other_axes, other_half, other_speeds}
use Rattle.rapid_values.proofs.laws.put_parts.Goals as goal

pub returns : goal.returns
returns c = record { there = put_there; full = put_full; other_axes = other_axes; other_half = other_half; other_speeds = other_speeds }
