-- A move whose setpoints are given, and whose Looks find no trap.
use Rattle.std.specs.Prelude.{ℕ, List, [], ◌∷◌}
use Rattle.rapid_model.specs.declared.answer.Answer.{Answer}
use Rattle.rapid_model.specs.declared.answer.Answer.TheVariants.{Given, Go}
use Rattle.rapid_meaning.specs.Data.{Data, with_seen}
use Rattle.rapid_meaning.specs.Flows.{Where}
use Rattle.rapid_meaning.specs.Looks.{place_of}

-- the answers to setpoints and to the Look after each, which finds one of these counts
unfoldable pub let_on : List ℕ → List Answer
let_on [] = []
let_on (seen ∷ more) = Given ∷ Go seen ∷ let_on more

-- the data after those Looks of a statement at this byte
unfoldable pub looked_along : Where → ℕ → List ℕ → Data → Data
looked_along w byte [] d = d
looked_along w byte (seen ∷ more) d = looked_along w byte more (record d { frames = with_seen seen d.frames; place = place_of w byte })
