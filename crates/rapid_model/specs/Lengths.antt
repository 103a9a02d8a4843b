-- How many nums the lists of a value contain.
use Rattle.std.specs.Prelude.{Bool, true, length, ◌==◌}
use Rattle.rapid_limits.specs.declared.TheConstants.{MOST_AXES}
use Rattle.rapid_model.specs.declared.value.Value.{Value}
use Rattle.rapid_model.specs.declared.value.Value.TheVariants as values

-- each list has the length that the type gives it, as every value of a program does
abbrev pub is_full : Value → Bool
is_full (values.Rob axes) = length axes == 6
is_full (values.Ext axes) = length axes == 6
is_full (values.Target joints) = length joints.axis == MOST_AXES
is_full (values.Speed nums) = length nums == 4
is_full _ = true
