-- Which persistent an event writes.
use Rattle.std.specs.Prelude.{ℕ, ◌==◌, Bool, true, false, List}
use Rattle.std.specs.List.{list_any}
use Rattle.rapid_model.specs.declared.answer.Answer.{Answer}
use Rattle.rapid_model.specs.declared.answer.Answer.TheVariants.{Ok, Yes}
use Rattle.rapid_model.specs.declared.event.Event.{Event}
use Rattle.rapid_model.specs.declared.request.Request.{Request}
use Rattle.rapid_model.specs.declared.request.Request.TheVariants.{TestSet, WriteP}

-- a WriteP writes its persistent, and a TestSet does if it found FALSE
abbrev pub writes_with : ℕ → Request → Answer → Bool
writes_with pers (WriteP number path value) Ok = number == pers
writes_with pers (TestSet number path) (Yes true) = number == pers
writes_with pers _ _ = false

-- an event of a history writes it
abbrev pub is_written : ℕ → List Event → Bool
is_written pers history = list_any (λ e. writes_with pers e.request e.answer) history
