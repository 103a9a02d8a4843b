use Rattle.cell_state.proofs.TreePlaces.{place_there}
use Rattle.cell_state.proofs.laws.code_places_are_tree_places.Goals as goal

pub returns : goal.returns
returns g c = λ cell trees before e place one_each checked ask suit legal is.
    place_there g.A.Askers.asks cell trees before e place one_each checked ask suit legal c.compiled_code_is_live.ensures.fits c.compiled_code_is_live.ensures.stands is
