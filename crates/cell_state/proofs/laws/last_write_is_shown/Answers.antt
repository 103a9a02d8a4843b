use Rattle.std.proofs.Common.{List, [], ap, get_or, ◌∙◌}
use Rattle.std.specs.Prelude.{slice_get}
use Rattle.rapid_model.specs.declared.value.Value.{Value}
use Rattle.cell_meaning.specs.Stored.{value_at}
use Rattle.cell_state.proofs.LastWrites.{last_written, unwritten}
use Rattle.cell_state.proofs.laws.last_write_is_shown.Goals as goal

pub returns-clause-written : goal.returns-clause-written
returns-clause-written g c = λ cell trees before after e state pers path value limits full may legal is asked none.
    ap (λ (rows : List (List Value)). value_at (get_or rows pers []) path) is.pers ∙ last_written g.A.Askers.asks cell before after e pers path value limits full may legal asked none

pub returns-clause-unwritten : goal.returns-clause-unwritten
returns-clause-unwritten g c = λ cell trees history state pers is none. ap (λ (rows : List (List Value)). slice_get rows pers) is.pers ∙ unwritten cell history pers none
