use Rattle.std.proofs.Common.{◌≡◌, ◌-◌, length}
use Rattle.std.specs.Str.{str_to_ascii_lowercase}
use Rattle.data_scopes.specs.Scopes.{loop_named}
use Rattle.data_scopes.proofs.loops.loop_named.Given as goal

abbrev pub invariant-loop-step : goal.invariant-loop-step
invariant-loop-step l =
    loop_named (length l.loops - l._step) (str_to_ascii_lowercase l.name) l.loops l.at ≡ loop_named (length l.loops) (str_to_ascii_lowercase l.name) l.loops l.initial.at
