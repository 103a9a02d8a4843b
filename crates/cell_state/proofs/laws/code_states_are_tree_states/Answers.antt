use Rattle.cell_state.proofs.TreeStates.{trees_there}
use Rattle.cell_state.proofs.laws.code_states_are_tree_states.Goals as goal

pub returns : goal.returns
returns g c = λ cell trees history state one_each checked ask suit legal by.
    trees_there g.A.Askers.asks cell trees history state one_each checked ask suit legal c.compiled_code_is_live.ensures.fits c.compiled_code_is_live.ensures.stands by
