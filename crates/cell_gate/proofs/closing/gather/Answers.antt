use Rattle.std.proofs.Common.{◌≡◌, List, sym, ◌∙◌, ap, subst, rules}
use Rattle.std.specs.Prelude.{Contains}
use Rattle.std.proofs.lemmas.List.Elements.{All-contains, Contains-push}
use Rattle.cell_gate.specs.PassData.{PassData}
use Rattle.cell_gate.specs.Steps.{Hand}
use Rattle.cell_gate.proofs.Gathering.{Gathered, gather_allowed, gathered_more, gathered_all, gathered_kept, told_by}
use Rattle.cell_gate.proofs.closing.gather.Goals as goal

pub join_seat-requires : goal.join_seat-requires
join_seat-requires c =
    let idle = c.loop-pass.invariant.1 in
    let theirs = c.pass.invariant.idle in
    let left : Contains c.loop-pass.passes.items c.in-Some.pass = subst (λ (ps : List PassData). Contains ps c.in-Some.pass) (sym c.in-Some.ensures.items) (Contains-push c.pop.new.self.items c.in-Some.pass) in
    let among = c.loop-pass.invariant.2.among c.in-Some.pass left in
    let table = ap (λ (p : PassData). p.gate.table) c.pass.view_is ∙ All-contains (λ p. p.gate.table ≡ c.args.top.now.table_id) c.args.passes.items c.in-Some.pass c.requires.table among in
    (search rules, table, theirs.no_slot, search rules, gather_allowed _ _ _ _ _ idle.live idle.no_turn theirs.live theirs.no_turn)

pub loop-pass-preserved : goal.loop-pass-preserved
loop-pass-preserved c =
    let so = c.loop-pass.invariant in
    let joined = c.join_seat.ensures in
    let told = told_by c.pass.inside.caller c.in-Some.pass c.pass.invariant c.pass.view_is in (
      record { table_is = joined.0 ∙ so.0.table_is; id_is = joined.1 ∙ so.0.id_is },
      record {
        no_turn = ap (λ (h : Hand). h.0.holds) joined.2 ∙ so.1.no_turn;
        live = ap (λ (h : Hand). h.0.spent) joined.2 ∙ so.1.live;
        no_slot = ap (λ (h : Hand). h.1) joined.2 ∙ so.1.no_slot;
      },
      subst (λ (h : Hand). Gathered c.args.passes.items c.args.place.now.me.0 c.pop.new.self.items h.0) (sym joined.2)
          (gathered_more c.args.passes.items c.args.place.now.me.0 c.loop-pass.passes.items c.pop.new.self.items c.loop-pass.place.me.0 c.pass.inside.caller.place.me.0 c.in-Some.pass so.2 c.in-Some.ensures.items told),
    )

pub returns-clause-all : goal.returns-clause-all
returns-clause-all c = gathered_all _ _ _ _ c.loop-pass.invariant.2 (search rules)

pub returns-clause-kept : goal.returns-clause-kept
returns-clause-kept c = gathered_kept _ _ _ _ c.loop-pass.invariant.2
