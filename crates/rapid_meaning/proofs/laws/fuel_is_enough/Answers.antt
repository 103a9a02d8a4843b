use Rattle.rapid_meaning.proofs.Fuel as fuel
use Rattle.rapid_meaning.proofs.laws.fuel_is_enough.Goals as goal

pub returns-clause-enough : goal.returns-clause-enough
returns-clause-enough c = λ tree answers. fuel.enough tree answers

pub returns-clause-more : goal.returns-clause-more
returns-clause-more c = λ tree answers n few. fuel.more_fuel tree answers n few
