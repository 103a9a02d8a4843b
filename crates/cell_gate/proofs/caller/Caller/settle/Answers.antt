use Rattle.std.proofs.Common.{◌≡◌, [], ◌∷◌, refl, sym, ◌∙◌, ap, subst, Some, arith, rules}
use Rattle.atomic_table.specs.Table.{rest}
use Rattle.cell_gate.specs.Hands.{InTurn}
use Rattle.cell_gate.specs.Steps.{Hand, counted_in}
use Rattle.cell_gate.specs.Turn.{GainedIf}
use Rattle.cell_gate.specs.Views.{after_count, after_give}
use Rattle.cell_gate.proofs.Keeps.{give_allowed}
use Rattle.cell_gate.proofs.Turning.{between_again}
use Rattle.cell_gate.proofs.caller.Caller.settle.Goals as goal

pub count-requires-clause-may : goal.count-requires-clause-may
count-requires-clause-may c =
    let so = c.requires.may in
    record {
      core = c.args.core;
      slot = ap (λ (h : Hand). h.1) c.put.ensures.me;
      turn = subst (λ (h : Hand). InTurn h.0) (sym c.put.ensures.me) so.turn;
      grows = subst (λ (h : Hand). GainedIf h.0.actor h.0.seen c.args.core.history c.args.grew) (sym c.put.ensures.me) so.grows;
      few = omega (arith, c.len-self.ensures);
    }

pub swap-requires : goal.swap-requires
swap-requires c =
    let so = c.requires.may in
    let is : c.count.new.place.me ≡ (after_count c.args.self.now.place.me.0 c.args.core.history, (0, Some c.args.core) ∷ []) = c.count.ensures.me ∙ ap counted_in c.put.ensures.me in (
      search rules,
      search rules,
      give_allowed _ _ _ _ c.args.core (ap (λ (h : Hand). h.1) is) (ap (λ (h : Hand). h.0.holds) is ∙ so.turn.holds) (ap (λ (h : Hand). h.0.spent) is ∙ so.turn.live) (so.cell ∙ sym (ap (λ (h : Hand). h.0.cell) is))
          (sym (ap (λ (h : Hand). h.0.seen) is)),
    )

pub returns-clause-between : goal.returns-clause-between
returns-clause-between c =
    let is : c.count.new.place.me ≡ (after_count c.args.self.now.place.me.0 c.args.core.history, (0, Some c.args.core) ∷ []) = c.count.ensures.me ∙ ap counted_in c.put.ensures.me in
    let me = c.swap.ensures.2 ∙ ap (λ (h : Hand). (after_give h.0, rest h.1)) is in
    between_again c.args.self.now _ c.args.core c.args.grew c.requires.may me refl c.len-self.ensures
