use Rattle.std.proofs.Common.{◌∙◌, sym, arith}
use Rattle.rapid_lexer.proofs.Scan.{IsScanned-more, newer_some, newer_none, scanned_all, scanned_dead, scanned_first}
use Rattle.rapid_lexer.proofs.scanner.scanned_token.Goals as goal
use Rattle.rapid_lexer.proofs.scanner.scanned_token.Goals.{in-Some, in_default}

pub loop-i-init : goal.loop-i-init
loop-i-init c = scanned_first c.args.bytes.now

pub returns-then-is_dead : goal.returns-then-is_dead
returns-then-is_dead c =
    scanned_dead c.args.bytes.now c.loop-i.last c.loop-i.i c.loop-i.state c.loop-i-test.true (sym c.step-state.ensures ∙ c.is_dead.ensures.0 c.if-is_dead.true) c.loop-i.invariant

pub loop-i-preserved : goal.loop-i-preserved
loop-i-preserved c =
    let more = IsScanned-more c.args.bytes.now c.loop-i.last c.match-kind.last c.loop-i.i c.loop-i.state c.loop-i-test.true c.loop-i.invariant in
    rw c.step-state.ensures (more (elim c.match-kind.branch [
      | in-Some w ↦ rw (w.last-is, ← c.step-state.ensures) (newer_some c.loop-i.last c.loop-i.i w.in-Some.kind _ w.in-Some.ensures)
      | in_default w ↦ rw (w.last-is, ← c.step-state.ensures) (newer_none c.loop-i.last c.loop-i.i _ w.in_default.ensures)
    ]))

pub returns : goal.returns
returns c = scanned_all c.args.bytes.now c.loop-i.last c.loop-i.i c.loop-i.state (omega arith) c.loop-i.invariant
