use Rattle.std.proofs.Common.{◌≡◌, List, map, sym, ◌∙◌, ap, subst, arith}
use Rattle.std.proofs.lemmas.List.{length-map}
use Rattle.cell_crew.specs.Crew.{AskAsPrograms}
use Rattle.cell_crew.proofs.Courses.{crew_asks_what_it_may}
use Rattle.free_crew.proofs.Rows.{ran_programs, same_count}
use Rattle.free_crew.proofs.free.run_free.Given as given
use Rattle.free_crew.proofs.free.run_free.Goals.{After-run_all-crew}
use Rattle.free_crew.proofs.free.run_free.Goals as goal

-- the machines run the same programs
programs : (g : given.Over) (c : After-run_all-crew g) → map g.M.TaskMachine.program c.run_all-crew.result.machines.items ≡ map g.M.TaskMachine.program c.args.machines.items
programs g c =
    ran_programs g.M.TaskMachine.program c.begin-crew.result c.run_all-crew.result c.args.machines.items c.begin-crew.ensures.may.even c.run_all-crew.ensures.size.even c.run_all-crew.ensures.programs
    c.begin-crew.ensures.programs

pub close-requires-clause-one_each : goal.close-requires-clause-one_each
close-requires-clause-one_each g c =
    same_count g.M.TaskMachine.program c.run_all-crew.result.machines.items c.args.machines.items (programs g (goal.at.close-requires-clause-one_each g c).After-run_all-crew) ∙ c.requires.crew.one_each

pub close-requires-clause-programs : goal.close-requires-clause-programs
close-requires-clause-programs g c =
    subst (λ (ps : List g.M.TaskMachine.Program). AskAsPrograms g.M.TaskMachine.fits g.M.TaskMachine.asks g.A.Askers.asks ps)
    (sym (programs g (goal.at.close-requires-clause-programs g c).After-run_all-crew)) c.requires.programs

pub close-requires-clause-may : goal.close-requires-clause-may
close-requires-clause-may g c =
    let machines = c.args.machines.items in
    crew_asks_what_it_may g.M.TaskMachine.fits g.M.TaskMachine.asks g.A.Askers.asks c.args.gate.cell (map g.M.TaskMachine.program machines)
    (length-map machines g.M.TaskMachine.program ∙ c.requires.crew.one_each) c.requires.programs c.requires.suit

pub close-requires-clause-room : goal.close-requires-clause-room
close-requires-clause-room g c =
    let room = c.begin-crew.ensures.room in
    let even = c.begin-crew.ensures.may.even.passes in
    let size = c.run_all-crew.ensures.size in
    let len = size.len in
    let passes = size.even.passes in
    let same = size.room.passes in
    omega (arith, room, even, len, passes, same)

pub returns-clause-programs : goal.returns-clause-programs
returns-clause-programs g c = ap (λ (ms : List g.row.M.Denot). map g.M.TaskMachine.program ms) c.close.ensures.machines ∙ programs g (goal.at.returns-clause-programs g c).After-run_all-crew

pub returns-clause-room : goal.returns-clause-room
returns-clause-room g c = c.close.ensures.room ∙ c.run_all-crew.ensures.size.room.machines ∙ c.begin-crew.ensures.machines_room
