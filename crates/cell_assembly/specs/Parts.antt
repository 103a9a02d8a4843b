-- How contracts see what leads up to the persistents and meetings of a cell.
use Rattle.std.specs.Prelude.{ℕ, List, Option, map, option_map}
use Rattle.std.specs.declared.alloc.Global.{Global}
use Rattle.std.specs.declared.vec.Vec.{Vec}
use Rattle.rapid_model.specs.declared.value.Value.{Value}
use Rattle.cell_assembly.specs.declared.meeting_tables.MeetingTables.{MeetingTables}
use Rattle.cell_assembly.specs.declared.met.Met.{Met}
use Rattle.cell_assembly.specs.declared.numbered.Numbered.{Numbered}
use Rattle.cell_assembly.specs.declared.pers_info.PersInfo.{PersInfo}
use Rattle.cell_assembly.specs.declared.pers_tables.PersTables.{PersTables}
use Rattle.cell_assembly.specs.Cells
use Rattle.cell_assembly.specs.Views.{view_info}

abbrev pub view_values : Option (Vec Value Global) → Option (List Value)
view_values first = option_map (λ v. v.items) first

abbrev pub view_infos : Vec PersInfo Global → List Cells.PersInfo
view_infos v = map view_info v.items

abbrev pub view_lists : Vec (Vec ℕ Global) Global → List (List ℕ)
view_lists lists = map (λ v. v.items) lists.items

abbrev pub view_numbered : Numbered → Cells.Numbered
view_numbered n = record { pers = n.pers; numbers = n.numbers.items }

abbrev pub view_pers_tables : PersTables → Cells.PersTables
view_pers_tables t = record { pers = t.pers; lists = view_lists t.lists }

abbrev pub view_meetings : Met → Cells.Meetings
view_meetings m = record { names = m.names; numbers = m.numbers.items }

abbrev pub view_meeting_tables : MeetingTables → Cells.MeetingTables
view_meeting_tables t = record { names = t.names; lists = view_lists t.lists }
