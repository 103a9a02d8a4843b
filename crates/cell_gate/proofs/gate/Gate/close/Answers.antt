use Rattle.std.proofs.Common.{◌≡◌, List, Option, Some, IsSome, refl, sym, ◌∙◌, ap, subst}
use Rattle.std.specs.Prelude.{All, Contains}
use Rattle.std.proofs.lemmas.List.Elements.{All-pop, All-weaker}
use Rattle.std.proofs.lemmas.Option.{same_Some}
use Rattle.rapid_model.specs.declared.event.Event.{Event}
use Rattle.cell_core.specs.CoreData.{CoreData}
use Rattle.cell_gate.specs.Calls.{AreAllPasses, AreOfHistory}
use Rattle.cell_gate.specs.GateData.{GateData}
use Rattle.cell_gate.specs.Hands.{part_told}
use Rattle.cell_gate.specs.Rule.{core_of}
use Rattle.cell_gate.specs.Views.{parts}
use Rattle.cell_gate.proofs.Gathering.{Ends, all_spoken, all_tell, all_known, ends, found_home, told_by}
use Rattle.cell_gate.proofs.gate.Gate.close.Goals.{After-take}
use Rattle.cell_gate.proofs.gate.Gate.close.Goals as goal

pub gather-requires-clause-table : goal.gather-requires-clause-table
gather-requires-clause-table c =
    let gates = All-pop (λ p. p.gate ≡ c.args.self) c.args.passes.items c.pop.new.self.items (Some c.in-Some.first) c.in-Some.ensures.items c.requires.of_gate in
    All-weaker (λ p. p.gate ≡ c.args.self) (λ p. p.gate.table ≡ c.self.inside.table.shared.table_id) (λ p is. ap (λ (gate : GateData). gate.table) (is ∙ sym c.self.view_is)) c.pop.new.self.items gates.0

-- the last view states the parts of all passes
told : (c : After-take) → All (λ p. Contains (parts c.gather.new.place.me.0) (part_told p)) c.args.passes.items
told c =
    let first = c.first.inside in
    all_known c.args.passes.items c.pop.new.self.items c.in-Some.first c.gather.new.place.me.0 first.caller.place.me.0 c.in-Some.ensures.items
    (told_by first.caller c.in-Some.first c.first.invariant c.first.view_is) c.gather.ensures.all c.gather.ensures.kept

-- so it speaks for all actors
at_end : (c : After-take) → Ends c.self.inside.table.shared.key c.close_with-closed.ensures.values.2.0.homes c.gather.new.place.me.0
at_end c =
    let last = c.close_with-closed.ensures.values.2 in
    let gate : GateData = record { cell = c.self.inside.table.shared.key; table = c.self.inside.table.shared.table_id } in
    let are = subst (λ (g : GateData). AreAllPasses g c.args.passes.items) (sym c.self.view_is) c.requires in
    ends gate.cell c.gather.new.place.id c.gather.new.place.me.0 last.0 last.1.0 last.1.1 c.gather.ensures.idle.live c.gather.ensures.idle.no_turn
    (all_spoken gate c.args.passes.items (parts c.gather.new.place.me.0) are (told c))

found : (c : After-take) → c.take.result ≡ Some (core_of c.self.inside.table.shared.key (at_end c).history)
found c =
    let last = c.close_with-closed.ensures.values.2 in
    found_home _ last.0.homes _ c.gather.new.place.me.0 c.take.result (at_end c) last.4 c.take.ensures.value

pub unwrap-core-requires : goal.unwrap-core-requires
unwrap-core-requires c = subst (λ (o : Option CoreData). IsSome o) (sym (found c)) refl

pub returns-clause-cell : goal.returns-clause-cell
returns-clause-cell c =
    let home = (goal.at.returns-clause-cell c).After-take in
    let is = c.into_core-core.ensures ∙ same_Some c.unwrap-core.result (core_of c.self.inside.table.shared.key (at_end home).history) (sym c.unwrap-core.ensures ∙ found home) in
    ap (λ (core : CoreData). core.cell) is ∙ ap (λ (gate : GateData). gate.cell) c.self.view_is

pub returns-clause-tell : goal.returns-clause-tell
returns-clause-tell c =
    let home = (goal.at.returns-clause-tell c).After-take in
    let ended = at_end home in
    let is = c.into_core-core.ensures ∙ same_Some c.unwrap-core.result (core_of c.self.inside.table.shared.key ended.history) (sym c.unwrap-core.ensures ∙ found home) in
    subst (λ (h : List Event). AreOfHistory c.args.passes.items h) (sym (ap (λ (core : CoreData). core.history) is)) (all_tell ended.history ended.made c.args.passes.items (parts c.gather.new.place.me.0) ended.tell (told home))
