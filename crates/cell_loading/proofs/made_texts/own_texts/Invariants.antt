use Rattle.std.proofs.Common.{◌≡◌, map, take}
use Rattle.cell_load.specs.Views.{view_modules}
use Rattle.cell_loading.specs.LoadFiles.{module_named}
use Rattle.cell_loading.specs.Loaded.{bytes_of, names_in_turn}
use Rattle.cell_loading.proofs.made_texts.own_texts.Given as goal

abbrev pub invariant-loop-name : goal.invariant-loop-name
invariant-loop-name l = bytes_of l.texts.items ≡ map (module_named (view_modules l.modules)) (names_in_turn (take l.name-index l.names))
