use Rattle.std.proofs.Common.{◌≡◌, ◌<◌, length, ap, refl, ◌∙◌, arith, rules}
use Rattle.std.proofs.lemmas.List.{get_or_read}
use Rattle.world_zones.specs.Zones.{ZonesData, arm_at, no_zones}
use Rattle.world_zones.proofs.Named.{first-own, first-cell, none-touched}
use Rattle.world_zones.proofs.zones.Zones.blocks.Goals as goal

pub returns-in-Some-clause-some : goal.returns-in-Some-clause-some
returns-in-Some-clause-some g c =
    let there : c.args.task < length c.self.inside.arms.items = omega (arith, ap (λ (z : ZonesData). length z.arms) c.self.view_is) in
    let is_arm : c.index.result.now ≡ arm_at c.args.self.now c.args.task =
    get_or_read c.self.inside.arms.items c.args.task c.index.result.now there c.index.ensures no_zones ∙ ap (λ (z : ZonesData). arm_at z c.args.task) c.self.view_is in
    first-own c.index.result.now c.args.self.now.cell c.args.self.now c.args.task (g.V.SignalValues.values c.args.signals.now) c.args.p.now c.args.q.now is_arm refl c.in-Some.index c.in-Some.ensures.first

pub returns-in-Some-first_of_cell-clause-some : goal.returns-in-Some-first_of_cell-clause-some
returns-in-Some-first_of_cell-clause-some g c =
    let there : c.args.task < length c.self.inside.arms.items = omega (arith, ap (λ (z : ZonesData). length z.arms) c.self.view_is) in
    let is_arm : c.index.result.now ≡ arm_at c.args.self.now c.args.task =
    get_or_read c.self.inside.arms.items c.args.task c.index.result.now there c.index.ensures no_zones ∙ ap (λ (z : ZonesData). arm_at z c.args.task) c.self.view_is in
    let is_slice : c.as_slice.result.now ≡ c.self.inside.cell.items = search rules in
    let is_cell : c.as_slice.result.now ≡ c.args.self.now.cell = is_slice ∙ ap (λ (z : ZonesData). z.cell) c.self.view_is in
    first-cell c.index.result.now c.as_slice.result.now c.args.self.now c.args.task (g.V.SignalValues.values c.args.signals.now) c.args.p.now c.args.q.now is_arm is_cell c.in-None.ensures.first c.in-Some-first_of_cell.index c.in-Some-first_of_cell.ensures.first

pub returns-in-None-first_of_cell-clause-none : goal.returns-in-None-first_of_cell-clause-none
returns-in-None-first_of_cell-clause-none g c =
    let there : c.args.task < length c.self.inside.arms.items = omega (arith, ap (λ (z : ZonesData). length z.arms) c.self.view_is) in
    let is_arm : c.index.result.now ≡ arm_at c.args.self.now c.args.task =
    get_or_read c.self.inside.arms.items c.args.task c.index.result.now there c.index.ensures no_zones ∙ ap (λ (z : ZonesData). arm_at z c.args.task) c.self.view_is in
    let is_slice : c.as_slice.result.now ≡ c.self.inside.cell.items = search rules in
    let is_cell : c.as_slice.result.now ≡ c.args.self.now.cell = is_slice ∙ ap (λ (z : ZonesData). z.cell) c.self.view_is in
    none-touched c.index.result.now c.as_slice.result.now c.args.self.now c.args.task (g.V.SignalValues.values c.args.signals.now) c.args.p.now c.args.q.now is_arm is_cell c.in-None.ensures.first c.in-None-first_of_cell.ensures.first
