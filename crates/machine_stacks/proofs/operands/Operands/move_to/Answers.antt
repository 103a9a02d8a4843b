use Rattle.std.proofs.Common.{◌≡◌, ℕ, ◌+◌, ◌-◌, ◌≤◌, List, ◌++◌, length, reverse, take, drop, sym, ap, subst, ◌∙◌, arith}
use Rattle.std.proofs.lemmas.List.{length-take-le, length-drop, length-reverse}
use Rattle.typed_trees.specs.declared.datum.Datum.{Datum}
use Rattle.machine_stacks.specs.OperandStack.{OperandStack, stacked}
use Rattle.machine_stacks.proofs.Stacking.{below_kept, moved_away, same_stack, top_left}
use Rattle.machine_stacks.proofs.operands.Operands.move_to.Goals as goal

-- the index from which operands are moved is not below the base
within : (items : List Datum) (base count : ℕ) → base ≤ length items → count ≤ length (reverse (drop base items)) → (base ≤ length items - count) × ((length items - count) + count ≡ length items)
within items base count h k =
    let long : length (reverse (drop base items)) ≡ length items - base = length-reverse (drop base items) ∙ length-drop base items in
    (omega arith, omega arith)

pub invariant_of-self : goal.invariant_of-self
invariant_of-self c =
    let s = c.self.inside in
    let P : OperandStack → Type 0 = λ o. c.args.count ≤ length o.top in
    let in_range = within s.items.items s.base c.args.count c.self.invariant.0 (subst P (sym c.self.view_is) c.requires.some) in
    let size : length c.move_tail.new.from.items ≡ c.len.result - c.args.count =
    ap length c.move_tail.ensures.rest ∙ length-take-le (c.len.result - c.args.count) s.items.items (omega arith) in
    (omega (arith, in_range.0), c.self.invariant.1)

pub returns-clause-rest : goal.returns-clause-rest
returns-clause-rest c =
    let s = c.self.inside in
    let P : OperandStack → Type 0 = λ o. c.args.count ≤ length o.top in
    let in_range = within s.items.items s.base c.args.count c.self.invariant.0 (subst P (sym c.self.view_is) c.requires.some) in
    let n : c.len.result ≡ length s.items.items = omega arith in
    let top : reverse (drop s.base c.move_tail.new.from.items) ≡ drop c.args.count (reverse (drop s.base s.items.items)) =
    ap (λ xs. reverse (drop s.base xs)) c.move_tail.ensures.rest ∙ rw n (sym (top_left s.items.items s.base (length s.items.items - c.args.count) c.args.count in_range.0 in_range.1)) in
    let below : take s.base c.move_tail.new.from.items ≡ take s.base s.items.items =
    ap (take s.base) c.move_tail.ensures.rest ∙ rw n (below_kept s.items.items s.base (length s.items.items - c.args.count) in_range.0 (omega arith)) in
    same_stack _ _ _ _ _ _ _ top (ap (λ xs. stacked xs (reverse s.bases.items)) below) c.move_tail.ensures.from_room
    ∙ ap (λ (o : OperandStack). record o { top = drop c.args.count o.top }) c.self.view_is

pub returns-clause-moved : goal.returns-clause-moved
returns-clause-moved c =
    let s = c.self.inside in
    let P : OperandStack → Type 0 = λ o. c.args.count ≤ length o.top in
    let in_range = within s.items.items s.base c.args.count c.self.invariant.0 (subst P (sym c.self.view_is) c.requires.some) in
    let n : c.len.result ≡ length s.items.items = omega arith in
    c.move_tail.ensures.moved
    ∙ ap (λ (xs : List Datum). c.args.list.now.items ++ xs) (rw n (moved_away s.items.items s.base (length s.items.items - c.args.count) c.args.count in_range.0 in_range.1))
    ∙ ap (λ (o : OperandStack). c.args.list.now.items ++ reverse (take c.args.count o.top)) c.self.view_is
