use Rattle.cell_script.proofs.Shown.{shown_next}
use Rattle.cell_script.proofs.path.show.Goals as goal

pub loop-byte-preserved : goal.loop-byte-preserved
loop-byte-preserved c = λ front same.
    shown_next front c.args.bytes.now c.loop-byte.text c.loop-byte.byte-index 0 c.push.result c.push.new.self c.loop-byte-test.true (c.loop-byte.invariant front same)
    (rw c.shown_byte.ensures at c.push.ensures.taken) (rw c.shown_byte.ensures at c.push.ensures.pushed)
