use Rattle.std.proofs.Common.{◌≡◌, drop}
use Rattle.std.specs.Prelude.{bytes_eq}
use Rattle.std.specs.Map.{lookup}
use Rattle.cell_load.specs.Views.{view_modules}
use Rattle.cell_loading.proofs.made_texts.module_named.Given as goal

-- the module is sought among the rest
abbrev pub invariant-loop-key : goal.invariant-loop-key
invariant-loop-key l = lookup (bytes_eq l.name) (view_modules l.modules) ≡ lookup (bytes_eq l.name) (view_modules (drop l.key-index l.modules))
