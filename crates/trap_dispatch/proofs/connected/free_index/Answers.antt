use Rattle.std.proofs.Common.{◌<◌, Option, IfSome, is_none, sym, subst, ◌∙◌, ℕ, arith, rules, tests}
use Rattle.std.proofs.lemmas.Iterator.{YieldsList-from_slice}
use Rattle.std.proofs.lemmas.Iterator.Adapters.{position_from-zero}
use Rattle.std.proofs.lemmas.Iterator.Search.{position_from_yields_List}
use Rattle.trap_dispatch.proofs.Positions.{position_from-below}
use Rattle.trap_dispatch.proofs.connected.free_index.Goals as goal

pub returns-clause-there : goal.returns-clause-there
returns-clause-there c =
    let numbers = c.args.numbers.now in
    let found = position_from_yields_List is_none _ _ c.position.result c.position.ensures.ran (YieldsList-from_slice numbers c.iter.ensures.rest) (λ x b q k. search (rules, tests)) in
    subst (λ (o : Option ℕ). IfSome o (λ index. index < 64)) (sym (found ∙ position_from-zero is_none numbers)) (position_from-below is_none 0 64 numbers (omega arith))
