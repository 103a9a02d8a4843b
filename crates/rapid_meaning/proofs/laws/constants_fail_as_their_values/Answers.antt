use Rattle.rapid_meaning.proofs.ConstantsFail as fail
use Rattle.rapid_meaning.proofs.laws.constants_fail_as_their_values.Goals as goal

pub returns-clause-raises : goal.returns-clause-raises
returns-clause-raises c = λ tree routine known d held e n is by run left fits. fail.raises tree routine known d held e n is by run left fits

pub returns-clause-range : goal.returns-clause-range
returns-clause-range c = λ tree routine known d held e is by run fits. fail.out_of_range tree routine known d held e is by run fits

pub returns-clause-array : goal.returns-clause-array
returns-clause-array c = λ tree routine known d held e is by run fits. fail.out_of_array tree routine known d held e is by run fits
