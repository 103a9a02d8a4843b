use Rattle.std.proofs.Common.{refl, sym}
use Rattle.clearance_tests.proofs.case.Case.new.Goals as goal

pub invariant_of-result : goal.invariant_of-result
invariant_of-result c = record { named = sym c.if-names_an_axis.ensures; in_reach = c.if-are_in_reach.ensures refl }
