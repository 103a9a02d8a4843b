use Rattle.std.proofs.Common.{◌≡◌, ◌+◌, ◌-◌, List, ◌++◌, length, take, drop, sym, ap, ◌∙◌, append_assoc, arith}
use Rattle.std.proofs.lemmas.List.{drop-drop, length-append, length-drop, length-take-le, take-append-drop}
use Rattle.typed_trees.specs.declared.datum.Datum.{Datum}
use Rattle.machine_stacks.specs.Words.{DataRow}
use Rattle.machine_stacks.proofs.moving.move_tail.Goals as goal

pub loop-index-preserved : goal.loop-index-preserved
loop-index-preserved c =
    let l = c.loop-index in
    let from = c.args.from.now.items in
    let one : List Datum = take 1 (drop l.index from) in
    let more : c.push_from.new.self.items ≡ l.to.items ++ one = ap (λ (row : DataRow). row.items) c.push_from.ensures in
    let rest : one ++ drop (l.index + 1) from ≡ drop l.index from = ap (λ xs. one ++ xs) (sym (drop-drop 1 l.index from)) ∙ take-append-drop 1 (drop l.index from) in
    let left : length (drop l.index from) ≡ length from - l.index = length-drop l.index from in
    let count : length one ≡ 1 = length-take-le 1 (drop l.index from) (omega arith) in
    let size : length c.push_from.new.self.items ≡ length l.to.items + length one = ap length more ∙ length-append l.to.items one in
    let room = l.invariant.room in
    record {
      moved = ap (λ xs. xs ++ drop (l.index + 1) from) more ∙ append_assoc l.to.items one (drop (l.index + 1) from) ∙ ap (λ xs. l.to.items ++ xs) rest ∙ l.invariant.moved;
      room = omega arith;
      to_room = ap (λ (row : DataRow). row.room) c.push_from.ensures ∙ l.invariant.to_room;
    }
