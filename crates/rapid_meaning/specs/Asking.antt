-- Which task of a cell asks which request.
use Rattle.std.specs.Prelude.{◌≡◌, ℕ, List, IsSomeAnd, slice_get}
use Rattle.rapid_model.specs.declared.answer.Answer.{Answer}
use Rattle.rapid_model.specs.declared.request.Request.{Request}
use Rattle.typed_trees.specs.Plain.{TypedTree}
use Rattle.rapid_meaning.specs.Runs.{asks, asked_after}

-- task `actor` of these trees asks this request after these answers
abbrev pub tree_asks : List TypedTree → ℕ → List Answer → Request → Type 0
tree_asks trees actor answers request = IsSomeAnd (slice_get trees actor) (λ tree. asked_after tree answers ≡ asks request)
