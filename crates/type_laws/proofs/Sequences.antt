-- Typed forms with the number of the next FOR: alone, and one part after the other.
use Rattle.std.proofs.Common.{◌≡◌, ◌↔◌, ℕ, Bool, false, not, Ok, refl, sym, ap, subst}
use Rattle.std.proofs.lemmas.Bool.{not-true, not_from_false}
use Rattle.typed_trees.specs.Plain.{TypedStmt}
use Rattle.rule_checks.specs.declared.rule.TypeRule.{TypeRule}
use Rattle.rule_checks.specs.Checks.{◌>>=◌, must}
use Rattle.rule_checks.specs.TypeChecks.{Checked}
use Rattle.named_data.specs.Rules.{Site, at_byte}
use Rattle.stmt_types.specs.Bodies.{Typed, then_next}
use Rattle.type_laws.proofs.Steps.{in_words, done, then, where_it_holds}

-- a rule that something does not hold, and what follows if it does not
pub where_it_fails : {B P : Type 0} (s : Site) (fails : Bool) (at : ℕ) (rule : TypeRule) (rest : Checked B) (t : B) → ((rest ≡ Ok t) ↔ P)
    → ((must (not fails) (at_byte s at rule) >>= (λ _. rest)) ≡ Ok t) ↔ ((fails ≡ false) × P)
where_it_fails s fails at rule rest t next =
    in_words (where_it_holds s (not fails) at rule rest t next) (λ (fails_not, is). (not-true fails fails_not, is)) (λ (fails_not, is). (not_from_false fails fails_not, is))

-- a tree, and the next number
pub typed_is : {A : Type 0} (tree : A) (next : ℕ) (r : Typed A)
    → (◌≡◌ {A = Checked (Typed A)} (Ok (record { tree = tree; next = next })) (Ok r)) ↔ ((r.tree ≡ tree) × (r.next ≡ next))
typed_is tree next r =
    in_words (done (record { tree = tree; next = next }) r) (λ e. (ap (λ r. r.tree) e, ap (λ r. r.next) e)) (λ h. λ i. record { tree = h.0 i; next = h.1 i })

-- a statement with no other one in it
pub alone : {IsTree : TypedStmt → Type 0} (next : ℕ) (checked : Checked TypedStmt) (r : Typed TypedStmt) → ((t : TypedStmt) → (checked ≡ Ok t) ↔ IsTree t)
    → (then_next next checked ≡ Ok r) ↔ (IsTree r.tree × (r.next ≡ next))
alone {IsTree} next checked r law =
    in_words
    (then checked _ r law (λ t. typed_is t next r))
    (λ (t, is, (same, past)). (subst IsTree (sym same) is, past))
    (λ (is, past). (r.tree, is, (refl, past)))

-- a last part, and what is made of it
pub with_last : {A B : Type 0} {IsPart : Typed A → Type 0} (part : Checked (Typed A)) (made : A → B) (r : Typed B) → ((x : Typed A) → (part ≡ Ok x) ↔ IsPart x)
    → ((part >>= (λ x. Ok (record { tree = made x.tree; next = x.next }))) ≡ Ok r) ↔ ((x : A) × IsPart (record { tree = x; next = r.next }) × (r.tree ≡ made x))
with_last {IsPart} part made r law =
    in_words
    (then part _ r law (λ x. typed_is (made x.tree) x.next r))
    (λ (x, is, (same, past)). (x.tree, subst (λ n. IsPart (record { tree = x.tree; next = n })) (sym past) is, same))
    (λ (x, is, same). (record { tree = x; next = r.next }, is, (same, refl)))

-- a part without FORs, and a last one
pub headed : {A B C : Type 0} {IsHead : A → Type 0} {IsLast : Typed B → Type 0} (head : Checked A) (last : Checked (Typed B)) (made : A → B → C) (r : Typed C)
    → ((a : A) → (head ≡ Ok a) ↔ IsHead a) → ((x : Typed B) → (last ≡ Ok x) ↔ IsLast x)
    → ((head >>= (λ a. last >>= (λ x. Ok (record { tree = made a x.tree; next = x.next })))) ≡ Ok r) ↔ ((a : A) × (b : B) × IsHead a × IsLast (record { tree = b; next = r.next }) × (r.tree ≡ made a b))
headed head last made r head_law last_law =
    in_words
    (then head _ r head_law (λ a. with_last last (made a) r last_law))
    (λ (a, is_head, (b, is_last, same)). (a, b, is_head, is_last, same))
    (λ (a, b, is_head, is_last, same). (a, is_head, (b, is_last, same)))

-- two parts, the numbers of the second one after those of the first
pub in_sequence : {A B C : Type 0} {IsFirst : Typed A → Type 0} {IsLast : ℕ → Typed B → Type 0} (first : Checked (Typed A)) (last : ℕ → Checked (Typed B)) (made : A → B → C) (r : Typed C)
    → ((x : Typed A) → (first ≡ Ok x) ↔ IsFirst x) → ((middle : ℕ) (y : Typed B) → (last middle ≡ Ok y) ↔ IsLast middle y)
    → ((first >>= (λ x. last x.next >>= (λ y. Ok (record { tree = made x.tree y.tree; next = y.next })))) ≡ Ok r)
    ↔ ((a : A) × (b : B) × (middle : ℕ) × IsFirst (record { tree = a; next = middle }) × IsLast middle (record { tree = b; next = r.next }) × (r.tree ≡ made a b))
in_sequence first last made r first_law last_law =
    in_words
    (then first _ r first_law (λ x. with_last (last x.next) (made x.tree) r (last_law x.next)))
    (λ (x, is_first, (b, is_last, same)). (x.tree, b, x.next, is_first, is_last, same))
    (λ (a, b, middle, is_first, is_last, same). (record { tree = a; next = middle }, is_first, (b, is_last, same)))

-- a part without FORs, and two others after it
pub headed_sequence : {A B C D : Type 0} {IsHead : A → Type 0} {IsFirst : A → Typed B → Type 0} {IsLast : ℕ → Typed C → Type 0} (head : Checked A) (first : A → Checked (Typed B)) (last : ℕ → Checked (Typed C)) (made : A → B → C → D) (r : Typed D)
    → ((a : A) → (head ≡ Ok a) ↔ IsHead a) → ((a : A) (x : Typed B) → (first a ≡ Ok x) ↔ IsFirst a x) → ((middle : ℕ) (y : Typed C) → (last middle ≡ Ok y) ↔ IsLast middle y)
    → ((head >>= (λ a. first a >>= (λ x. last x.next >>= (λ y. Ok (record { tree = made a x.tree y.tree; next = y.next }))))) ≡ Ok r)
    ↔ ((a : A) × (b : B) × (c : C) × (middle : ℕ) × IsHead a × IsFirst a (record { tree = b; next = middle }) × IsLast middle (record { tree = c; next = r.next }) × (r.tree ≡ made a b c))
headed_sequence head first last made r head_law first_law last_law =
    in_words
    (then head _ r head_law (λ a. in_sequence (first a) last (made a) r (first_law a) last_law))
    (λ (a, is_head, (b, c, middle, is_first, is_last, same)). (a, b, c, middle, is_head, is_first, is_last, same))
    (λ (a, b, c, middle, is_head, is_first, is_last, same). (a, is_head, (b, c, middle, is_first, is_last, same)))
