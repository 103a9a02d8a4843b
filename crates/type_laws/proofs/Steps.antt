-- When checking in steps gives a value: exactly if each step does. Each law, here and in the other files, is an
-- equivalence.
use Rattle.std.proofs.Common.{◌≡◌, ◌↔◌, ℕ, Bool, true, false, Option, Some, None, Ok, Err, refl, sym, ap, ◌∙◌}
use Rattle.rule_checks.specs.declared.rule.TypeRule.{TypeRule}
use Rattle.rule_checks.specs.Checks.{◌>>=◌, must, found_or}
use Rattle.rule_checks.specs.TypeChecks.{TypeBreak, Checked}
use Rattle.named_data.specs.Rules.{Site, at_byte}

-- a law, restated
pub in_words : {A B C : Type 0} → (A ↔ B) → (B → C) → (C → B) → A ↔ C
in_words law there back = (λ a. there (law.0 a), λ c. law.1 (back c))

-- a law of what never holds, restated
pub neither : {A C : Type 0} → (A ↔ ⊥) → (C → ⊥) → A ↔ C
neither law none = (λ a. absurd (law.0 a), λ c. absurd (none c))

-- a value, and another one
pub done : {A : Type 0} (x t : A) → (◌≡◌ {A = Checked A} (Ok x) (Ok t)) ↔ (t ≡ x)
done x t = (λ e. sym (cc), λ e. ap Ok (sym e))

pub never : {A : Type 0} (b : TypeBreak) (t : A) → (◌≡◌ {A = Checked A} (Err b) (Ok t)) ↔ ⊥
never b t = (λ e. absurd (cc), λ none. absurd none)

-- a step, and what follows it
pub then : {A B : Type 0} {P Q : A → Type 0} (m : Checked A) (f : A → Checked B) (t : B) → ((x : A) → (m ≡ Ok x) ↔ P x) → ((x : A) → (f x ≡ Ok t) ↔ Q x)
    → ((m >>= f) ≡ Ok t) ↔ ((x : A) × P x × Q x)
then (Ok x) f t first next =
    (λ e. (x, (first x).0 refl, (next x).0 e), λ (y, is, more). ap (λ m. m >>= f) ((first y).1 is) ∙ (next y).1 more)
then (Err b) f t first next = (λ e. absurd (cc), λ (y, is, more). ap (λ m. m >>= f) ((first y).1 is) ∙ (next y).1 more)

-- two steps, and what is made of their values
pub both : {A B C : Type 0} {P : A → Type 0} {Q : B → Type 0} (m : Checked A) (n : Checked B) (made : A → B → C) (t : C) → ((x : A) → (m ≡ Ok x) ↔ P x) → ((y : B) → (n ≡ Ok y) ↔ Q y)
    → ((m >>= (λ x. n >>= (λ y. Ok (made x y)))) ≡ Ok t) ↔ ((x : A) × (y : B) × P x × Q y × (t ≡ made x y))
both m n made t first next =
    in_words
    (then m _ t first (λ x. then n _ t next (λ y. done (made x y) t)))
    (λ (x, p, (y, q, is)). (x, y, p, q, is))
    (λ (x, y, p, q, is). (x, p, (y, q, is)))

-- what is there
pub found_law : {A : Type 0} (found : Option A) (b : TypeBreak) (x : A) → (found_or found b ≡ Ok x) ↔ (found ≡ Some x)
found_law None b x = (λ e. absurd (cc), λ e. absurd (cc))
found_law (Some y) b x = (λ e. ap Some (cc), λ e. ap Ok (cc))

-- a step after which there is never a value
pub never_after : {A B : Type 0} (m : Checked A) (f : A → Checked B) (t : B) → ((x : A) → (f x ≡ Ok t) ↔ ⊥) → ((m >>= f) ≡ Ok t) ↔ ⊥
never_after (Ok x) f t none = none x
never_after (Err b) f t none = never b t

-- a rule, and what follows if it holds
pub where_it_holds : {B P : Type 0} (s : Site) (holds : Bool) (at : ℕ) (rule : TypeRule) (rest : Checked B) (t : B) → ((rest ≡ Ok t) ↔ P)
    → ((must holds (at_byte s at rule) >>= (λ _. rest)) ≡ Ok t) ↔ ((holds ≡ true) × P)
where_it_holds s true at rule rest t next = (λ e. (refl, next.0 e), λ (holds, is). next.1 is)
where_it_holds s false at rule rest t next = (λ e. absurd (cc), λ (holds, is). absurd (cc))

-- a rule alone
pub it_holds : (holds : Bool) (broken : TypeBreak) (t : Unit {0}) → (must holds broken ≡ Ok t) ↔ (holds ≡ true)
it_holds true broken t = (λ e. refl, λ e. refl)
it_holds false broken t = (λ e. absurd (cc), λ e. absurd (cc))
