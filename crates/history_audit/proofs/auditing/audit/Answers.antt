use Rattle.std.proofs.Common.{map, refl, subst, sym, ◌∙◌}
use Rattle.std.proofs.lemmas.List.{length-map}
use Rattle.rapid_model.specs.CellData.{CellData}
use Rattle.cell_meaning.specs.Asking.{with_inputs}
use Rattle.cell_meaning.specs.Premises.{AsksWhatItMay}
use Rattle.cell_crew.proofs.Courses.{crew_asks_what_it_may}
use Rattle.history_audit.proofs.Outcome.{fate_there, legal_there, passed_there}
use Rattle.history_audit.proofs.Same.{asks_still, still_one_each, suits_still}
use Rattle.history_audit.proofs.auditing.audit.Given as given
use Rattle.history_audit.proofs.auditing.audit.Goals.{After-ask_first}
use Rattle.history_audit.proofs.auditing.audit.Goals as goal

-- the actors ask only what they may
asks_well : (g : given.Over) (c : After-ask_first g) → AsksWhatItMay (with_inputs g.A.Askers.asks c.args.core.now.cell) c.args.core.now.cell
asks_well g c =
    let machines = c.args.machines.now in
    crew_asks_what_it_may g.M.TaskMachine.fits g.M.TaskMachine.asks g.A.Askers.asks c.args.core.now.cell (map g.M.TaskMachine.program machines)
    (length-map machines g.M.TaskMachine.program ∙ c.requires.crew.one_each) c.requires.programs c.requires.suit

pub first_wrong-requires-clause-one_each : goal.first_wrong-requires-clause-one_each
first_wrong-requires-clause-one_each g c =
    still_one_each g.M.TaskMachine.program c.args.machines.now c.ask_first.new.machines c.args.core.now.cell c.args.core.now.cell refl c.ask_first.ensures.programs c.requires.crew.one_each

pub first_wrong-requires-clause-programs : goal.first_wrong-requires-clause-programs
first_wrong-requires-clause-programs g c =
    asks_still g.M.TaskMachine.program g.M.TaskMachine.fits g.M.TaskMachine.asks g.A.Askers.asks c.args.machines.now c.ask_first.new.machines c.ask_first.ensures.programs c.requires.programs

pub first_wrong-requires-clause-suit : goal.first_wrong-requires-clause-suit
first_wrong-requires-clause-suit g c =
    suits_still g.M.TaskMachine.program g.M.TaskMachine.fits g.M.TaskMachine.asks c.args.machines.now c.ask_first.new.machines c.args.core.now.cell c.args.core.now.cell refl c.ask_first.ensures.programs c.requires.suit

pub first_wrong-requires-clause-may : goal.first_wrong-requires-clause-may
first_wrong-requires-clause-may g c = asks_well g (goal.at.first_wrong-requires-clause-may g c).After-ask_first

-- none is wrong

pub is_whole-whole-requires-clause-one_each : goal.is_whole-whole-requires-clause-one_each
is_whole-whole-requires-clause-one_each g c =
    still_one_each g.M.TaskMachine.program c.args.machines.now c.first_wrong.new.machines c.args.core.now.cell c.first_wrong.new.core.cell c.in_default.ensures.cell
    (c.in_default.ensures.programs ∙ c.ask_first.ensures.programs) c.requires.crew.one_each

pub is_whole-whole-requires-clause-programs : goal.is_whole-whole-requires-clause-programs
is_whole-whole-requires-clause-programs g c =
    asks_still g.M.TaskMachine.program g.M.TaskMachine.fits g.M.TaskMachine.asks g.A.Askers.asks c.args.machines.now c.first_wrong.new.machines (c.in_default.ensures.programs ∙ c.ask_first.ensures.programs)
    c.requires.programs

pub is_whole-whole-requires-clause-suit : goal.is_whole-whole-requires-clause-suit
is_whole-whole-requires-clause-suit g c =
    suits_still g.M.TaskMachine.program g.M.TaskMachine.fits g.M.TaskMachine.asks c.args.machines.now c.first_wrong.new.machines c.args.core.now.cell c.first_wrong.new.core.cell c.in_default.ensures.cell
    (c.in_default.ensures.programs ∙ c.ask_first.ensures.programs) c.requires.suit

pub is_whole-whole-requires-clause-may : goal.is_whole-whole-requires-clause-may
is_whole-whole-requires-clause-may g c =
    subst (λ (cell : CellData). AsksWhatItMay (with_inputs g.A.Askers.asks cell) cell) (sym c.in_default.ensures.cell) (asks_well g (goal.at.is_whole-whole-requires-clause-may g c).After-ask_first)

pub is_whole-whole-requires-clause-legal : goal.is_whole-whole-requires-clause-legal
is_whole-whole-requires-clause-legal g c =
    legal_there g.A.Askers.asks c.args.core.now.cell c.first_wrong.new.core.cell c.args.events.now c.first_wrong.new.core.history c.args.fates.now c.in_default.ensures.cell (c.in_default.ensures.history refl)
    (c.in_default.ensures.legal refl)

pub is_whole-whole-requires-clause-under_way : goal.is_whole-whole-requires-clause-under_way
is_whole-whole-requires-clause-under_way g c = c.in_default.ensures.under_way refl

pub wrong_fate-requires-clause-few : goal.wrong_fate-requires-clause-few
wrong_fate-requires-clause-few g c = rw c.in_default.ensures.cell c.requires.few

pub wrong_fate-requires-clause-legal : goal.wrong_fate-requires-clause-legal
wrong_fate-requires-clause-legal g c =
    legal_there g.A.Askers.asks c.args.core.now.cell c.first_wrong.new.core.cell c.args.events.now c.first_wrong.new.core.history c.args.fates.now c.in_default.ensures.cell (c.in_default.ensures.history refl)
    (c.in_default.ensures.legal refl)

pub returns-in-Some-wrong_fate-clause-audited : goal.returns-in-Some-wrong_fate-clause-audited
returns-in-Some-wrong_fate-clause-audited g c =
    fate_there g.A.Askers.asks c.args.core.now.cell c.first_wrong.new.core.cell c.args.events.now c.first_wrong.new.core.history c.args.fates.now c.in_default.ensures.cell (c.in_default.ensures.history refl)
    c.in-Some-wrong_fate.task c.in-Some-wrong_fate.ensures.wrong

pub returns-in-None-clause-audited : goal.returns-in-None-clause-audited
returns-in-None-clause-audited g c =
    passed_there g.A.Askers.asks c.args.core.now.cell c.first_wrong.new.core.cell c.args.events.now c.first_wrong.new.core.history c.args.fates.now c.in_default.ensures.cell (c.in_default.ensures.history refl)
    c.is_whole-whole.result (c.in_default.ensures.legal refl) c.is_whole-whole.ensures (c.in-None.ensures.right refl)
