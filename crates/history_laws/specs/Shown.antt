-- The names that the lines of a history use.
use Rattle.rapid_model.specs.CellData.{CellData}
use Rattle.history_text.specs.Named.{NamesData}

-- the names of a cell
abbrev pub names_in : CellData → NamesData
names_in cell = record { tasks = cell.tasks; signals = cell.signals; pers = cell.pers }
