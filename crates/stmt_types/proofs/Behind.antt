-- A loop over a list that is checked one element after the other.
use Rattle.std.proofs.Common.{◌≡◌, List, [], ◌∷◌, ◌++◌, refl, sym, ap, ◌∙◌}
use Rattle.rule_checks.specs.declared.fault.TypeFault.{TypeFault}
use Rattle.rule_checks.specs.Checks.{◌>>=◌}
use Rattle.rule_checks.specs.TypeChecks.{Checked, Fails}
use Rattle.expr_types.proofs.Loops.{behind, goes_on, stops, then_more}

-- one element further
pub further : {X R : Type 0} (more : X → R → R) (front : List X) (x : X) (here rest whole : Checked R) → behind more front here ≡ whole → here ≡ then_more more x rest → behind more (front ++ x ∷ []) rest ≡ whole
further more front x here rest whole inv is = sym (goes_on more front x rest) ∙ ap (behind more front) (sym is) ∙ inv

-- a stop at an element
pub stops_at : {X Y R : Type 0} (more : X → R → R) (front : List X) (here : Checked R) (one : Checked Y) (f : Y → Checked R) (whole : Checked R) (fault : TypeFault) →
    behind more front here ≡ whole → here ≡ (one >>= f) → Fails fault one → Fails fault whole
stops_at more front here one f whole fault inv is h =
    stops (λ (r : Checked _). behind more front (r >>= f)) (λ b. refl) fault one whole (sym inv ∙ ap (behind more front) is) h
