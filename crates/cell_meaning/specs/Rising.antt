-- When a held task can go on.
use Rattle.std.specs.Prelude.{ℕ, Bool, ◌||◌, nat_lt, List}
use Rattle.std.specs.List.{fold}
use Rattle.rapid_model.specs.CellData.{CellData}
use Rattle.rapid_model.specs.Own.{part_of}
use Rattle.rapid_model.specs.declared.event.Event.{Event}
use Rattle.rapid_model.specs.declared.request.Request.{Request}
use Rattle.rapid_model.specs.declared.request.Request.TheVariants.{Hold}
use Rattle.trap_dispatch.specs.Tasks.{is_due}
use Rattle.cell_meaning.specs.Changes.{changes_by_others}
use Rattle.cell_meaning.specs.Interrupts.{due_after}

abbrev pub seen_with : ℕ → Request → ℕ
seen_with seen (Hold number) = number
seen_with seen _ = seen

-- how many changes the task had seen when it was last held
abbrev pub seen_after : List Event → ℕ → ℕ
seen_after history task = fold (λ seen e. seen_with seen e.request) 0 (part_of task history)

-- others have made changes since then, or a trap is due
abbrev pub can_rise : CellData → List Event → ℕ → Bool
can_rise cell history task = nat_lt (seen_after history task) (changes_by_others cell history task) || is_due (due_after cell history task)
