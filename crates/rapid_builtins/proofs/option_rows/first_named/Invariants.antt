use Rattle.std.proofs.Common.{◌≡◌, drop, map}
use Rattle.rapid_builtins.specs.Calls.{row_of, option_named}
use Rattle.rapid_builtins.proofs.option_rows.first_named.Given as goal

abbrev pub invariant-loop-option : goal.invariant-loop-option
invariant-loop-option l = option_named l.name (map row_of (drop l.option-index l.rows)) ≡ option_named l.name (map row_of l.rows)
