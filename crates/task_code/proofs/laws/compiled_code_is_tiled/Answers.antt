use Rattle.std.proofs.Common.{sym, subst}
use Rattle.std.proofs.lemmas.List.{length-map}
use Rattle.stack_code.specs.Compiled.{compiled, placed_in}
use Rattle.stack_code.specs.Placed.{Placed}
use Rattle.task_code.specs.Owners.{Tiles}
use Rattle.task_code.proofs.Rows.{all_tile, placed_there}
use Rattle.task_code.proofs.laws.compiled_code_is_tiled.Goals as goal

pub returns-clause-tiles : goal.returns-clause-tiles
returns-clause-tiles c tree = subst (λ n. Tiles 0 n (compiled tree).owners) (sym (length-map (placed_in tree) (λ (p : Placed). p.op))) (all_tile (placed_in tree))

pub returns-clause-owned : goal.returns-clause-owned
returns-clause-owned c tree pc = placed_there (placed_in tree) pc
