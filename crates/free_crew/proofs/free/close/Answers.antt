use Rattle.std.proofs.Common.{◌<◌, ℕ, List, ◌∷◌, [], ◌++◌, length, sym, subst}
use Rattle.rapid_model.specs.CellData.{CellData}
use Rattle.cell_core.specs.Soundness.{IsSound}
use Rattle.cell_gate.specs.Calls.{AreAllPasses, AreOfHistory}
use Rattle.cell_gate.specs.PassData.{PassData}
use Rattle.free_crew.proofs.Closing.{all_passes, all_stand, each_stops, script_begins}
use Rattle.free_crew.proofs.Ending.{Stops, legal, whole}
use Rattle.free_crew.proofs.free.close.Given as given
use Rattle.free_crew.proofs.free.close.Goals.{After-close-core}
use Rattle.free_crew.proofs.free.close.Goals as goal

pub close-core-requires : goal.close-core-requires
close-core-requires g c =
    let crew = c.args.crew in
    subst (λ (ps : List PassData). AreAllPasses c.args.gate ps) (sym c.push_reserved.ensures.items)
    (all_passes _ _ _ _ _ c.args.gate crew.machines.items crew.passes.items crew.standings.items crew.script c.requires.even.passes c.requires.even.standings c.requires.one_each c.requires.amid c.requires.fed.script)

told : (g : given.Over) (c : After-close-core g) → AreOfHistory (c.args.crew.passes.items ++ c.args.crew.script ∷ []) c.close-core.result.history
told g c = subst (λ (ps : List PassData). AreOfHistory ps c.close-core.result.history) c.push_reserved.ensures.items c.close-core.ensures.tell

sound : (g : given.Over) (c : After-close-core g) → IsSound c.args.gate.cell c.close-core.result.history
sound g c = subst (λ (cell : CellData). IsSound cell c.close-core.result.history) c.close-core.ensures.cell c.close-core.ensures.sound

stops : (g : given.Over) (c : After-close-core g) (task : ℕ) → task < length c.args.gate.cell.tasks
    → Stops g.M.TaskMachine.program g.M.TaskMachine.fits g.M.TaskMachine.asks g.M.TaskMachine.stands_for g.M.TaskMachine.due g.A.Askers.asks c.args.gate.cell c.close-core.result.history task
stops g c task within =
    let crew = c.args.crew in
    each_stops _ _ _ _ _ c.args.gate crew.machines.items crew.passes.items crew.standings.items crew.script c.requires.even.passes c.requires.even.standings c.requires.one_each c.requires.amid
    c.close-core.result.history (told g c) g.A.Askers.asks c.requires.stopped c.requires.programs task within

pub returns-clause-legal : goal.returns-clause-legal
returns-clause-legal g c =
    let end = (goal.at.returns-clause-legal g c).After-close-core in
    legal _ _ _ _ _ g.met.M.TaskMachine.asks_due g.A.Askers.asks c.args.gate.cell c.close-core.result.history (stops g end) (sound g end)

pub returns-clause-whole : goal.returns-clause-whole
returns-clause-whole g c =
    let end = (goal.at.returns-clause-whole g c).After-close-core in
    let crew = c.args.crew in
    whole _ _ _ _ _ g.met.M.TaskMachine.asks_due g.A.Askers.asks c.args.gate.cell c.close-core.result.history (stops g end) (sound g end) c.requires.may crew.script.seen
    (script_begins _ _ _ _ _ c.args.gate crew.machines.items crew.passes.items crew.standings.items crew.script c.requires.even.passes c.requires.even.standings c.requires.one_each c.requires.amid
    c.close-core.result.history (told g end)) c.requires.fed.over

pub returns-clause-stand : goal.returns-clause-stand
returns-clause-stand g c =
    let end = (goal.at.returns-clause-stand g c).After-close-core in
    let crew = c.args.crew in
    all_stand _ _ _ _ _ c.args.gate crew.machines.items crew.passes.items crew.standings.items crew.script c.requires.even.passes c.requires.even.standings c.requires.one_each c.requires.amid
    c.close-core.result.history (told g end)
