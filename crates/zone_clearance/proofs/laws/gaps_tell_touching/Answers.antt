use Rattle.zone_clearance.proofs.Touching as touching
use Rattle.zone_clearance.proofs.laws.gaps_tell_touching.Goals as goal

pub returns-clause-touched : goal.returns-clause-touched
returns-clause-touched c = λ p q shape gap is touches. touching.touched_zero p q shape gap is touches

pub returns-clause-inside : goal.returns-clause-inside
returns-clause-inside c = λ p q shape gap kind is. touching.inside_gap_tells p q shape gap kind is

pub returns-clause-outside : goal.returns-clause-outside
returns-clause-outside c = λ p q shape gap kind named is. touching.outside_gap_tells p q shape gap kind named is
