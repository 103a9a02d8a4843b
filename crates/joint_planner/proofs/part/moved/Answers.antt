use Rattle.std.proofs.Common.{◌≡◌, arith, pos, ◌-ℤ◌, ◌*ℤ◌}
use Rattle.rapid_num.specs.Arithmetic.{rounded_ratio}
use Rattle.joint_planner.proofs.Rounding.{nat_abs-on_way, rounded_ratio-on_way}
use Rattle.joint_planner.proofs.Casts.{moved_is, moved_fits, narrowed_is, way_fits}
use Rattle.joint_planner.proofs.part.moved.Goals as goal

moved : (c : goal.After-round_ratio) → c.round_ratio.result ≡ rounded_ratio ((c.args.target -ℤ c.args.start) *ℤ pos c.args.j) c.args.count
moved c =
    moved_is c.args.start c.args.target c.args.j c.args.count c.requires.start c.requires.target (omega arith) (omega arith) c.thousandths.ensures.same c.thousandths-2.ensures.same c.from.ensures c.from-3.ensures c.from-2.ensures c.round_ratio.ensures

pub overflow_mul-way : goal.overflow_mul-way
overflow_mul-way c =
    way_fits c.args.start c.args.target c.args.j c.requires.start c.requires.target (omega arith) c.thousandths.ensures.same c.thousandths-2.ensures.same c.from.ensures

pub overflow_cast-result : goal.overflow_cast-result
overflow_cast-result c =
    moved_fits c.args.start c.args.target c.args.j c.args.count c.requires.start c.requires.target c.requires.some c.requires.last (moved c)

pub returns-clause-moved : goal.returns-clause-moved
returns-clause-moved c =
    narrowed_is c.args.start c.args.target c.args.j c.args.count c.requires.start c.requires.target c.requires.some c.requires.last (moved c)

pub returns-clause-in_reach : goal.returns-clause-in_reach
returns-clause-in_reach c =
    rw (returns-clause-moved c) (nat_abs-on_way c.args.start c.args.target _ 100_000_000 c.requires.start c.requires.target (rounded_ratio-on_way (c.args.target -ℤ c.args.start) c.args.j c.args.count c.requires.some c.requires.last))
