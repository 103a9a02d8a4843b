use Rattle.std.proofs.Common.{◌≡◌, length, map, drop, ◌∙◌, arith}
use Rattle.std.proofs.lemmas.List.{length-map}
use Rattle.std.proofs.Math.Seq.{take-append_seam}
use Rattle.cell_meaning.specs.Asking.{with_inputs}
use Rattle.cell_meaning.proofs.Orders.{by_turns_whole}
use Rattle.cell_meaning.proofs.InputScript.{only_actors}
use Rattle.cell_crew.proofs.Courses.{crew_asks_what_it_may}
use Rattle.cell_crew.proofs.round.run_round.Goals as goal

pub run-requires-clause-may : goal.run-requires-clause-may
run-requires-clause-may g c =
    let machines = c.args.machines.items in
    crew_asks_what_it_may g.M.TaskMachine.fits g.M.TaskMachine.asks g.A.Askers.asks c.args.core.cell (map g.M.TaskMachine.program machines)
    (length-map machines g.M.TaskMachine.program ∙ c.requires.crew.one_each) c.requires.programs c.requires.suit

pub returns-clause-whole : goal.returns-clause-whole
returns-clause-whole g c =
    let cell = c.args.core.cell in
    by_turns_whole (with_inputs g.A.Askers.asks cell) cell c.run.new.core.history (only_actors g.A.Askers.asks cell) c.run.ensures.by_turns

-- The list of machines is that of the slice, which has the same length.
pub returns-clause-stand : goal.returns-clause-stand
returns-clause-stand g c =
    let ran = c.run.new.machines in
    let count : length ran ≡ c.args.machines.len = omega arith in
    rw (← count, take-append_seam ran (drop (length ran) c.args.machines.items)) c.run.ensures.stand
