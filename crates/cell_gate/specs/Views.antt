-- Views, and what each step makes of one.
use Rattle.std.specs.Prelude.{ℕ, ◌+◌, true, false, List, [], ◌∷◌, ◌++◌}
use Rattle.rapid_model.specs.CellData.{CellData}
use Rattle.rapid_model.specs.Own.{part_of}
use Rattle.rapid_model.specs.declared.event.Event.{Event}
use Rattle.cell_gate.specs.declared.part.Part.{Part}
use Rattle.cell_gate.specs.declared.view.View.{View}

abbrev pub own_part : View → Part
own_part v = record { actor = v.actor; seen = v.seen; mine = v.mine }

-- a view's own part, then those of the views merged into it
abbrev pub parts : View → List Part
parts v = own_part v ∷ v.joined

-- the view of an actor that has seen and done nothing
abbrev pub new_view : CellData → ℕ → View
new_view cell actor = record { cell = cell; actor = actor; seen = []; mine = []; looks = 0; holds = false; fresh = false; spent = false; made = 0; joined = [] }

-- the first view, when this many are made
abbrev pub dealer : CellData → ℕ → View
dealer cell made = record (new_view cell 0) { made = made }

-- the first view before the gate is open, when it has the turn
abbrev pub first_view : CellData → View
first_view cell = record (dealer cell 1) { holds = true; fresh = true }

abbrev pub no_cell : CellData
no_cell = record { steps = 0; tasks = []; signals = []; pers = []; meetings = []; zones = []; inputs = [] }

-- a view that was merged into another: it says nothing more
abbrev pub spent_view : View
spent_view = record (new_view no_cell 0) { spent = true }

-- the view took the turn, and has seen the whole history
abbrev pub after_take : View → List Event → View
after_take v history = record v { seen = history; looks = v.looks + 1; holds = true; fresh = false }

-- the core reached this history in the view's turn
abbrev pub after_count : View → List Event → View
after_count v history = record v { seen = history; mine = part_of v.actor history }

-- the view gave the turn on
abbrev pub after_give : View → View
after_give v = record v { holds = false }

-- the first view took the slot out, before the core is in it
abbrev pub after_open : View → View
after_open v = record v { fresh = false }

-- the first view made one more, which is `dealt`
abbrev pub after_deal : View → View
after_deal v = record v { made = v.made + 1 }

abbrev pub dealt : View → View
dealt v = new_view v.cell v.made

-- another view was merged in, with its parts
abbrev pub after_gather : View → View → View
after_gather v w = record v { joined = v.joined ++ parts w }
