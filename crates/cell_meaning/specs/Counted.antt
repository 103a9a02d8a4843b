-- Which events count as steps, and whether a step is left for one more.
use Rattle.std.specs.Prelude.{ℕ, Bool, true, false, not, ◌||◌, nat_lt, List, count_by}
use Rattle.rapid_model.specs.CellData.{CellData}
use Rattle.rapid_model.specs.declared.event.Event.{Event}
use Rattle.rapid_model.specs.declared.request.Request.{Request}
use Rattle.rapid_model.specs.declared.request.Request.TheVariants.{Input, End}

-- every event counts except an input and an End
abbrev pub is_counted : Request → Bool
is_counted (Input index) = false
is_counted (End fate) = false
is_counted _ = true

abbrev pub counted : List Event → ℕ
counted history = count_by (λ e. is_counted e.request) history

-- a counted request is served only if a step is left
abbrev pub can_be_served : CellData → List Event → Request → Bool
can_be_served cell history request = not (is_counted request) || nat_lt (counted history) cell.steps
