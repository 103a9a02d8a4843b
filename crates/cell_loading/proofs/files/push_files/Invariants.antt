use Rattle.std.proofs.Common.{◌≡◌, ◌++◌, take}
use Rattle.cell_loading.specs.Loaded.{names_in_turn}
use Rattle.cell_loading.proofs.files.push_files.Given as goal

abbrev pub invariant-loop-file : goal.invariant-loop-file
invariant-loop-file l = names_in_turn l.found.items ≡ names_in_turn l.initial.found.items ++ take l.file-index l.files
