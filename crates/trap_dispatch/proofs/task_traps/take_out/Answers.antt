use Rattle.std.proofs.Common.{ℕ, List, ap, sym, ◌∙◌, arith}
use Rattle.std.proofs.lemmas.List.{append-nil}
use Rattle.circular_buffer.specs.Buffer.{buffer}
use Rattle.trap_dispatch.proofs.Turned.{length-after_turns, turned-after_turns, after_turns-all}
use Rattle.trap_dispatch.proofs.task_traps.take_out.Goals as goal

pub loop-turn-init : goal.loop-turn-init
loop-turn-init c = ap (λ (xs : List ℕ). buffer xs c.args.queue.now.capacity) (sym (append-nil c.args.queue.now.items))

pub turn-requires : goal.turn-requires
turn-requires c = rw c.loop-turn.invariant (omega (arith, length-after_turns c.args.number c.args.queue.now.items c.loop-turn._turn))

pub loop-turn-preserved : goal.loop-turn-preserved
loop-turn-preserved c =
    c.turn.ensures ∙ rw c.loop-turn.invariant (ap (λ (xs : List ℕ). buffer xs c.args.queue.now.capacity) (turned-after_turns c.args.number c.args.queue.now.items c.loop-turn._turn (omega arith)))

pub returns : goal.returns
returns c =
    c.loop-turn.invariant ∙ ap (λ (xs : List ℕ). buffer xs c.args.queue.now.capacity) (after_turns-all c.args.number c.args.queue.now.items c.loop-turn._turn (omega arith))
