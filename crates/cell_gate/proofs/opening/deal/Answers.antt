use Rattle.std.proofs.Common.{◌≡◌, ◌+◌, ◌≤◌, [], ◌∷◌, ◌++◌, List, length, sym, ◌∙◌, ap, subst, arith, rules}
use Rattle.rapid_model.specs.CellData.{CellData}
use Rattle.cell_gate.specs.Calls.{fresh_pass, fresh_passes}
use Rattle.cell_gate.specs.Hands.{gate_of}
use Rattle.cell_gate.specs.PassData.{PassData}
use Rattle.cell_gate.specs.Steps.{Hand}
use Rattle.cell_gate.specs.Views.{after_deal, dealt}
use Rattle.cell_gate.proofs.Dealing.{deal_allowed, fresh_more, new_is}
use Rattle.cell_gate.proofs.opening.deal.Goals as goal

pub split_seat-seat-requires : goal.split_seat-seat-requires
split_seat-seat-requires c =
    let so = c.loop-before.invariant.me in
    let made : c.loop-before.place.me.0.made ≡ c.loop-before.before + 1 = ap (λ (h : Hand). h.0.made) so in
    let cell = ap (λ (h : Hand). h.0.cell) so in
    let tasks = c.requires.tasks in
    let left = subst (λ (x : CellData). c.loop-before.place.me.0.made ≤ length x.tasks) (sym cell) (omega (arith, made, tasks)) in
    (search rules, search rules, deal_allowed _ _ _ (ap (λ (h : Hand). h.0.spent) so) (λ none. omega (arith, made, none)) left)

pub new_pass-requires : goal.new_pass-requires
new_pass-requires c =
    new_is (c.loop-before.before + 1) 0 c.args.place.now.me.0.cell c.split_seat-seat.result.me (c.split_seat-seat.ensures.4 ∙ ap (λ (h : Hand). (dealt h.0, [])) c.loop-before.invariant.me)

pub loop-before-preserved : goal.loop-before-preserved
loop-before-preserved c =
    let so = c.loop-before.invariant in
    let gate = gate_of c.args.place.now in
    let number : 1 + c.loop-before.before ≡ c.loop-before.before + 1 = omega arith in
    let split = c.split_seat-seat.ensures in
    let hand = split.4 ∙ ap (λ (h : Hand). (dealt h.0, [])) so.me in
    let next = c.new_pass.ensures ∙ (λ i. fresh_pass (record { cell = ap (λ (h : Hand). h.0.cell) hand i; table = (split.3 ∙ so.same.table_is) i }) (c.loop-before.before + 1)) in
    record {
      same = record { table_is = split.0 ∙ so.same.table_is; id_is = split.1 ∙ so.same.id_is };
      me = split.2 ∙ ap (λ (h : Hand). (after_deal h.0, h.1)) so.me;
      passes = c.push_reserved.ensures.items ∙ ap (λ (ps : List PassData). ps ++ c.new_pass.result ∷ []) so.passes ∙ ap (λ (p : PassData). fresh_passes gate 1 c.loop-before.before ++ p ∷ []) next
          ∙ sym (fresh_more gate 1 c.loop-before.before ∙ ap (λ k. fresh_passes gate 1 c.loop-before.before ++ fresh_pass gate k ∷ []) number);
      len = c.push_reserved.ensures.len ∙ ap (λ n. n + 1) so.len;
      room = c.push_reserved.ensures.capacity ∙ so.room;
    }
