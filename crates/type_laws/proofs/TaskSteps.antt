-- Rules in a row, and steps in groups.
use Rattle.std.proofs.Common.{◌≡◌, ◌↔◌, Bool, false, not, Ok, Err}
use Rattle.std.proofs.lemmas.Bool.{not-true, not_from_false}
use Rattle.rule_checks.specs.Checks.{◌>>=◌, must}
use Rattle.rule_checks.specs.TypeChecks.{TypeBreak, Checked}
use Rattle.type_laws.proofs.Steps.{in_words, it_holds, then}

-- steps in a group, and what follows it
pub regrouped : {A B C P : Type 0} (m : Checked A) (f : A → Checked B) (g : B → Checked C) (t : C) → ((m >>= (λ x. f x >>= g)) ≡ Ok t) ↔ P → (((m >>= f) >>= g) ≡ Ok t) ↔ P
regrouped (Ok x) f g t law = law
regrouped (Err b) f g t law = law

-- rules, and what follows if they hold
pub where_they_hold : {B P Q : Type 0} (rules : Checked (Unit {0})) (rest : Checked B) (t : B) → ((u : Unit {0}) → (rules ≡ Ok u) ↔ P) → ((rest ≡ Ok t) ↔ Q)
    → ((rules >>= (λ _. rest)) ≡ Ok t) ↔ (P × Q)
where_they_hold rules rest t law next = in_words (then rules _ t law (λ _. next)) (λ (_, hold, is). (hold, is)) (λ (hold, is). (tt, hold, is))

-- a rule that something does not hold
pub it_fails : (fails : Bool) (broken : TypeBreak) (t : Unit {0}) → (must (not fails) broken ≡ Ok t) ↔ (fails ≡ false)
it_fails fails broken t = in_words (it_holds (not fails) broken t) (not-true fails) (not_from_false fails)
