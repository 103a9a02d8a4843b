use Rattle.std.proofs.Common.{◌≡◌, ◌+◌, ◌<◌, ◌-◌, length, get_or, arith, ◌∙◌, sym}
use Rattle.rapid_num.specs.Literal.{digit_value}
use Rattle.rapid_num.proofs.NumberSteps.{number_onto_at, room_next, fits_next}
use Rattle.rapid_num.proofs.digits.read_onto.Goals as goal

pub overflow_mul-number : goal.overflow_mul-number
overflow_mul-number c =
    let ds = c.args.digits.now in
    let i = c.loop-byte.byte-index in
    omega (arith, fits_next c.args.base c.loop-byte.number c.from-digit.result (length ds - i) (length ds - (i + 1)) _ (omega arith) (omega arith) c.loop-byte.invariant.room)

pub overflow_add-number : goal.overflow_add-number
overflow_add-number c =
    let ds = c.args.digits.now in
    let i = c.loop-byte.byte-index in
    omega (arith, fits_next c.args.base c.loop-byte.number c.from-digit.result (length ds - i) (length ds - (i + 1)) _ (omega arith) (omega arith) c.loop-byte.invariant.room)

pub loop-byte-preserved : goal.loop-byte-preserved
loop-byte-preserved c =
    let ds = c.args.digits.now in
    let i = c.loop-byte.byte-index in
    let digit : c.from-digit.result ≡ digit_value (get_or ds i 0) = c.from-digit.ensures ∙ c.digit_value.ensures.value in
    let below : digit_value (get_or ds i 0) < c.args.base = omega arith in
    record {
      kept = rw digit (sym (number_onto_at c.args.base c.loop-byte.number i ds c.loop-byte-test.true below)) ∙ c.loop-byte.invariant.kept;
      room = room_next c.args.base c.loop-byte.number c.from-digit.result (length ds - i) (length ds - (i + 1)) _ (omega arith) (omega arith) c.loop-byte.invariant.room;
    }
