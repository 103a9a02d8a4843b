use Rattle.std.proofs.Common.{◌≡◌, ◌+◌, ◌-◌, ◌++◌, List, [], ◌∷◌, ℕ, length, sym, ap, subst, arith}
use Rattle.std.proofs.lemmas.List.{length-append}
use Rattle.task_code.specs.Owners.{IsNumberAt}
use Rattle.task_steps.specs.Loading.{NamesOwners}
use Rattle.task_steps.proofs.Owning.{names_more, number_first}
use Rattle.task_steps.proofs.routines.owners.owner_numbers.Goals as goal

pub loop-pc-init : goal.loop-pc-init
loop-pc-init c = record {
  long = ap length c.in_ok-numbers.ensures.items;
  named = λ pc below. absurd (omega (arith, below));
  near = λ some. number_first c.args.count c.args.owners.now c.requires some;
}

pub number_from-number-requires-clause-stands : goal.number_from-number-requires-clause-stands
number_from-number-requires-clause-stands c = record { count = c.args.count; tiles = c.requires; below = omega arith }

pub number_from-number-requires-clause-before : goal.number_from-number-requires-clause-before
number_from-number-requires-clause-before c = c.loop-pc.invariant.near (omega arith)

pub loop-pc-preserved : goal.loop-pc-preserved
loop-pc-preserved c =
    let owners = c.args.owners.now in
    let pc : ℕ = c.loop-pc.pc in
    let numbers : List ℕ = c.loop-pc.numbers.items in
    let number : ℕ = c.number_from-number.result in
    let here : IsNumberAt owners pc number = c.number_from-number.ensures in
    let more : c.push.new.self.items ≡ numbers ++ number ∷ [] = c.in_ok-push.ensures.items in
    let place : pc ≡ pc + 1 - 1 = omega arith in
    record {
      long = omega (arith, ap length more, length-append numbers (number ∷ []), c.loop-pc.invariant.long);
      named = subst (λ (ns : List ℕ). NamesOwners owners (pc + 1) ns) (sym more) (names_more owners pc number numbers c.loop-pc.invariant.long c.loop-pc.invariant.named here);
      near = λ some. subst (λ (k : ℕ). IsNumberAt owners k number) place here;
    }
