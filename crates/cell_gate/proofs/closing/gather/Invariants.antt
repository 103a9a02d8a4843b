-- The view states the parts of the passes that were taken.
use Rattle.std.proofs.Common.{vec_len}
use Rattle.cell_gate.specs.Hands.{IsSamePlace, IsIdle}
use Rattle.cell_gate.proofs.Gathering.{Gathered}
use Rattle.cell_gate.proofs.closing.gather.Given as goal

abbrev pub invariant-loop-pass : goal.invariant-loop-pass
invariant-loop-pass l = IsSamePlace l.initial.place l.place × IsIdle l.place.me × Gathered l.initial.passes.items l.initial.place.me.0 l.passes.items l.place.me.0

abbrev pub decreases-loop-pass : goal.decreases-loop-pass
decreases-loop-pass l = vec_len l.passes
