use Rattle.std.proofs.Common.{ℕ, List, length, replicate, ◌∙◌, ap, arith}
use Rattle.std.proofs.lemmas.List.{length-replicate}
use Rattle.free_crew.specs.declared.standing.Standing.{Standing}
use Rattle.free_crew.specs.declared.standing.Standing.TheVariants as standings
use Rattle.free_crew.proofs.beginning.new_crew.Goals as goal

pub returns-clause-even : goal.returns-clause-even
returns-clause-even g c =
    let less = c.in-Some.ensures.cases in
    let passes = c.requires.passes in
    let few = c.requires.few in
    let asked = c.all_asked-machines.ensures.len in
    let going = ap (λ (ss : List Standing). length ss) c.all_going-standings.ensures in
    record { passes = omega (arith, less, passes, asked); standings = omega (arith, going, asked, length-replicate {A = Standing}); few = omega (arith, few, asked) }

pub returns-clause-going : goal.returns-clause-going
returns-clause-going g c = c.all_going-standings.ensures ∙ ap (λ (n : ℕ). replicate n standings.Going) (omega arith)
