-- How contracts see the persistents and meetings of a cell.
use Rattle.std.specs.Prelude.{List, map, option_map, Option, Some, None, Result}
use Rattle.rapid_model.specs.CellData.{CellData}
use Rattle.typed_trees.specs.Plain.{TypedTree}
use Rattle.rule_checks.specs.Gives as words
use Rattle.cell_assembly.specs.declared.cell_fault.CellFault.{CellFault}
use Rattle.cell_assembly.specs.declared.cell_fault.CellFault.TheVariants as faults
use Rattle.cell_assembly.specs.declared.tables.CellTables.{CellTables}
use Rattle.cell_assembly.specs.declared.pers_info.PersInfo.{PersInfo}
use Rattle.cell_assembly.specs.Cells
use Rattle.cell_assembly.specs.Cells.{CellBreak, Making, Clash, InScript}
use Rattle.cell_assembly.specs.Made.{MadeCell}

abbrev pub view_info : PersInfo → Cells.PersInfo
view_info p = record { name = p.name; owner = p.owner; sort = p.sort; len = p.len; declared = option_map (λ v. v.items) p.declared; given = p.given.items }

abbrev pub view_tables : CellTables → Cells.CellTables
view_tables t = record {
  pers = map view_info t.pers.items;
  pers_of = map (λ v. v.items) t.pers_of.items;
  meetings = t.meetings.items;
  meeting_of = map (λ v. v.items) t.meeting_of.items;
}

-- a cell, with the trees that have its numbers
abbrev pub view_made : List TypedTree → CellData → MadeCell
view_made trees cell = record { cell = cell; trees = trees }

-- why no cell is made, as a fault says; out of memory says nothing
abbrev pub broken_rule : CellFault → Option CellBreak
broken_rule (faults.Clash task «module» at) = Some (Clash task «module» at)
broken_rule (faults.Script key rule) = Some (InScript key rule)
broken_rule faults.Memory = None

abbrev pub Fails : {A : Type 0} → CellFault → Making A → Type 0
Fails fault making = words.Fails (broken_rule fault) making

abbrev pub Gives : {X A : Type 0} → (X → A) → Result X CellFault → Making A → Type 0
Gives view result making = words.Gives broken_rule view result making
