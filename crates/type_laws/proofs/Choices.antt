-- One of several steps, chosen by tests.
use Rattle.std.proofs.Common.{◌≡◌, ◌↔◌, Bool, true, false, Ok, refl, if◌then◌else◌}
use Rattle.rule_checks.specs.TypeChecks.{Checked}
use Rattle.type_laws.proofs.Steps.{in_words}

-- one of two, if the other never gives a value
pub chosen : {B P : Type 0} (holds : Bool) (m other : Checked B) (t : B) → ((m ≡ Ok t) ↔ P) → ((other ≡ Ok t) ↔ ⊥) → ((if holds then m else other) ≡ Ok t) ↔ ((holds ≡ true) × P)
chosen true m other t law none = in_words law (λ is. (refl, is)) (λ (holds, is). is)
chosen false m other t law none = in_words none (λ never. absurd never) (λ (holds, is). absurd (cc))

-- one of three
pub one_of_three : {B : Type 0} (P : Bool → Bool → Type 0) (first second : Bool) (m n other : Checked B) (t : B)
    → ((second : Bool) → (m ≡ Ok t) ↔ P true second) → ((n ≡ Ok t) ↔ P false true) → ((other ≡ Ok t) ↔ P false false)
    → ((if first then m else if second then n else other) ≡ Ok t) ↔ P first second
one_of_three P true second m n other t m_law n_law other_law = m_law second
one_of_three P false true m n other t m_law n_law other_law = n_law
one_of_three P false false m n other t m_law n_law other_law = other_law
