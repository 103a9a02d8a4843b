use Rattle.cell_meaning.proofs.InputScript.{only_actors, one_asked, inputs_asked, asks_what_it_may, asks_until_its_end, ask_the_same}
use Rattle.cell_meaning.proofs.laws.input_script_is_an_actor.Goals as goal

pub returns-clause-only : goal.returns-clause-only
returns-clause-only g c = λ cell. only_actors g.A.Askers.asks cell

pub returns-clause-one : goal.returns-clause-one
returns-clause-one g c = λ cell ones. one_asked g.A.Askers.asks cell ones

pub returns-clause-inputs : goal.returns-clause-inputs
returns-clause-inputs g c = λ cell. inputs_asked g.A.Askers.asks cell

pub returns-clause-may : goal.returns-clause-may
returns-clause-may g c = λ cell well. asks_what_it_may g.A.Askers.asks cell well

pub returns-clause-goes_on : goal.returns-clause-goes_on
returns-clause-goes_on g c = λ cell well. asks_until_its_end g.A.Askers.asks cell well

pub returns-clause-same : goal.returns-clause-same
returns-clause-same g c = λ cell same. ask_the_same g.A.Askers.asks g.B.Askers.asks cell same
