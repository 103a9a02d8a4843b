use Rattle.std.proofs.Common.{◌≡◌, ℕ, List, length, map, replicate, ◌∙◌, ap}
use Rattle.rapid_model.specs.declared.task_row.TaskRow.{TaskRow}
use Rattle.persist_store.specs.Stores.{first_row}
use Rattle.sync_tasks.specs.Meetings.{before_all as no_stands}
use Rattle.trap_dispatch.specs.Tasks.{before_all as no_interrupts}
use Rattle.world_zones.specs.Zones.{before_all as no_own_zones}
use Rattle.cell_core.specs.Boards.{actors_of}
use Rattle.cell_core.proofs.AtStart.{begun, converted, gave}
use Rattle.cell_core.proofs.boards.Boards.new.Goals as goal

pub returns : goal.returns
returns c =
    let cell = c.args.cell.now in
    let tasks : c.len-tasks.result ≡ length cell.tasks = c.len-tasks.ensures ∙ ap (λ (rows : List TaskRow). length rows) c.tasks.ensures in
    let meetings : c.in_ok-meetings.meetings ≡ length cell.meetings =
    converted c.try_from.result c.in_ok-meetings.meetings _ _ c.in_ok-meetings.ensures.value c.try_from.ensures
    ∙ (c.len.ensures ∙ ap (λ (rows : List (List ℕ)). length rows) c.meetings.ensures)
    in
    begun cell _ _ _ _ _ _
    (gave c.new.result _ (λ s. s ≡ map first_row cell.pers) c.in_ok-ok.ensures.value c.new.ensures)
    (gave c.new-2.result _ (λ s. s ≡ map (λ row. row.start) cell.signals) c.in_ok-ok-2.ensures.value c.new-2.ensures)
    (gave c.new-3.result _ (λ m. m ≡ no_stands c.len-tasks.result c.in_ok-meetings.meetings) c.in_ok-ok-3.ensures.value c.new-3.ensures
    ∙ ap (λ (n : ℕ). no_stands n c.in_ok-meetings.meetings) tasks ∙ ap (λ (n : ℕ). no_stands (length cell.tasks) n) meetings)
    (gave c.new-4.result _ (λ t. t ≡ replicate c.len-tasks.result no_interrupts) c.in_ok-ok-4.ensures.value c.new-4.ensures
    ∙ ap (λ (n : ℕ). replicate n no_interrupts) tasks)
    (gave c.new-5.result _ (λ z. z ≡ no_own_zones cell) c.in_ok-ok-5.ensures.value c.new-5.ensures)
    (gave c.actors_of.result _ (λ v. v.items ≡ actors_of cell.tasks) c.in_ok-ok-6.ensures.value (rw (c.as_slice.ensures ∙ c.tasks-2.ensures) at c.actors_of.ensures))
