-- The longest token that the scanner finds is a token, and no longer one is.
use Rattle.std.proofs.Common.{◌≡◌, ℕ, suc, ◌+◌, ◌≤◌, ◌<◌, List, [], ◌∷◌, ◌++◌, length, get_or, take, drop, Option, Some, None, refl, sym, ap, subst, ◌∙◌, arith}
use Rattle.std.specs.Prelude.{IfSome}
use Rattle.std.proofs.lemmas.List.{drop_more, drop_all}
use Rattle.rapid_lexer.specs.declared.kind.Kind.{Kind}
use Rattle.rapid_lexer.specs.declared.state.State.{State}
use Rattle.rapid_lexer.specs.declared.state.State.TheVariants.{Start, Dead}
use Rattle.rapid_lexer.specs.Scanning.{step, kind_at, accepted, with_length, behind, longest}

pub dead_none : (bs : List ℕ) → longest Dead bs ≡ None
unfolding longest
dead_none [] = refl
dead_none (b ∷ bs) = rw (dead_none bs) refl

pub dead_accepted : (bs : List ℕ) → accepted Dead bs ≡ None
unfolding accepted
dead_accepted [] = refl
dead_accepted (b ∷ bs) = dead_accepted bs

with_some : (n : ℕ) (o : Option Kind) (x : Kind × ℕ) → with_length n o ≡ Some x → (o ≡ Some x.0) × (x.1 ≡ n)
with_some n None x e = absurd cc
with_some n (Some k) x e = subst (λ (y : Kind × ℕ). (Some k ≡ Some y.0) × (y.1 ≡ n)) (some_is (k, n) x e) (refl, refl)
  where
    some_is : (a b : Kind × ℕ) → Some a ≡ Some b → a ≡ b
    some_is a b h = cc

behind_none : (last : Option (Kind × ℕ)) (n : ℕ) (o : Option (Kind × ℕ)) → behind last n o ≡ None → (last ≡ None) × (o ≡ None)
behind_none last n None e = (e, refl)
behind_none last n (Some x) e = absurd cc

with_none : (n : ℕ) (o : Option Kind) → with_length n o ≡ None → o ≡ None
with_none n None e = refl
with_none n (Some k) e = absurd cc

pub none_kind : (s : State) (bs : List ℕ) → longest s bs ≡ None → kind_at s ≡ None
unfolding longest
none_kind s [] e = with_none 0 (kind_at s) e
none_kind s (b ∷ bs) e = with_none 0 (kind_at s) (behind_none (with_length 0 (kind_at s)) 1 (longest (step s b) bs) e).0

-- one step of the loop over the bytes
goes_on_at : (last newer front : Option (Kind × ℕ)) (i : ℕ) (found : Option (Kind × ℕ)) → behind last i front ≡ last → (found ≡ None → newer ≡ last)
    → behind last i (behind front 1 found) ≡ behind newer (i + 1) found
goes_on_at last newer front i None h same = h ∙ sym (same refl)
goes_on_at last newer front i (Some x) h same = ap (λ (n : ℕ). Some (x.0, n)) (let e : i + (1 + x.1) ≡ i + 1 + x.1 = omega arith in e)

pub goes_on : (last newer : Option (Kind × ℕ)) (i : ℕ) (s : State) (b : ℕ) (rest : List ℕ) → behind last i (with_length 0 (kind_at s)) ≡ last
    → newer ≡ behind last (i + 1) (with_length 0 (kind_at (step s b))) → behind last i (longest s (b ∷ rest)) ≡ behind newer (i + 1) (longest (step s b) rest)
unfolding longest
goes_on last newer i s b rest h e =
    goes_on_at last newer (with_length 0 (kind_at s)) i (longest (step s b) rest) h (λ none. e ∙ ap (λ (o : Option Kind). behind last (i + 1) (with_length 0 o)) (none_kind (step s b) rest none))

abbrev IsFound : State → List ℕ → Kind × ℕ → Type 0
IsFound s bs x = (accepted s (take x.1 bs) ≡ Some x.0) × (x.1 ≤ length bs)

found_here : (s : State) (bs : List ℕ) (x : Kind × ℕ) → with_length 0 (kind_at s) ≡ Some x → IsFound s bs x
unfolding accepted
found_here s bs x e =
    let w = with_some 0 (kind_at s) x e in
    (rw w.1 w.0, omega (arith, w.1))

found_behind : (s : State) (b : ℕ) (bs : List ℕ) (inner : Option (Kind × ℕ)) (x : Kind × ℕ) → ((y : Kind × ℕ) → inner ≡ Some y → IsFound (step s b) bs y)
    → behind (with_length 0 (kind_at s)) 1 inner ≡ Some x → IsFound s (b ∷ bs) x
unfolding accepted
found_behind s b bs None x each e = found_here s (b ∷ bs) x e
found_behind s b bs (Some y) x each e =
    let h = each y refl in
    let n : 1 + y.1 ≡ suc y.1 = omega arith in
    let same : (y.0, suc y.1) ≡ x = some_is (y.0, suc y.1) x (rw (← n) e) in
    subst (λ (z : Kind × ℕ). IsFound s (b ∷ bs) z) same (h.0, omega (arith, h.1))
  where
    some_is : (a c : Kind × ℕ) → Some a ≡ Some c → a ≡ c
    some_is a c h = cc

pub found : (s : State) (bs : List ℕ) (x : Kind × ℕ) → longest s bs ≡ Some x → IsFound s bs x
unfolding longest
found s [] x e = found_here s [] x e
found s (b ∷ bs) x e = found_behind s b bs (longest (step s b) bs) x (found (step s b) bs) e

kind_found : (s : State) (bs : List ℕ) (k : Kind) → kind_at s ≡ Some k → (x : Kind × ℕ) × (longest s bs ≡ Some x)
unfolding longest
kind_found s [] k e = ((k, 0), rw e refl)
kind_found s (b ∷ bs) k e = some_behind k (longest (step s b) bs) (with_length 0 (kind_at s)) (rw e refl)
  where
    some_behind : (j : Kind) (inner front : Option (Kind × ℕ)) → front ≡ Some (j, 0) → (x : Kind × ℕ) × (behind front 1 inner ≡ Some x)
    some_behind j None front h = ((j, 0), h)
    some_behind j (Some y) front h = ((y.0, 1 + y.1), refl)

pub at_most : (s : State) (u rest : List ℕ) (k : Kind) → accepted s u ≡ Some k → (x : Kind × ℕ) × (longest s (u ++ rest) ≡ Some x) × (length u ≤ x.1)
unfolding accepted longest
at_most s [] rest k e =
    let f = kind_found s rest k e in
    (f.0, f.1, omega arith)
at_most s (b ∷ u) rest k e =
    let f = at_most (step s b) u rest k e in
    ((f.0.0, 1 + f.0.1), rw f.1 refl, omega (arith, f.2))

-- the longest token is at most as long as the list
pub longest_within : (bs : List ℕ) (s : State) → IfSome (longest s bs) (λ x. x.1 ≤ length bs)
longest_within bs s = within (longest s bs) (λ x e. (found s bs x e).1)
  where
    within : (o : Option (Kind × ℕ)) → ((x : Kind × ℕ) → o ≡ Some x → x.1 ≤ length bs) → IfSome o (λ x. x.1 ≤ length bs)
    within None h = tt
    within (Some x) h = h x refl

-- a token has at least one byte
pub longest_some_bytes : (bs : List ℕ) → IfSome (longest Start bs) (λ x. 0 < x.1)
unfolding longest
longest_some_bytes [] = tt
longest_some_bytes (b ∷ bs) = some_bytes (longest (step Start b) bs)
  where
    some_bytes : (o : Option (Kind × ℕ)) → IfSome (behind None 1 o) (λ x. 0 < x.1)
    some_bytes None = tt
    some_bytes (Some x) = omega arith

-- the invariant of the loop over the bytes
pub record IsScanned (bs : List ℕ) (last : Option (Kind × ℕ)) (i : ℕ) (s : State) : Type 0 where
  pub same : behind last i (longest s (drop i bs)) ≡ longest Start bs
  pub includes : behind last i (with_length 0 (kind_at s)) ≡ last

behind_twice : (last : Option (Kind × ℕ)) (n : ℕ) (o : Option (Kind × ℕ)) → behind (behind last n o) n o ≡ behind last n o
behind_twice last n None = refl
behind_twice last n (Some x) = refl

pub IsScanned-more : (bs : List ℕ) (last newer : Option (Kind × ℕ)) (i : ℕ) (s : State) → i < length bs → IsScanned bs last i s
    → newer ≡ behind last (i + 1) (with_length 0 (kind_at (step s (get_or bs i 0)))) → IsScanned bs newer (i + 1) (step s (get_or bs i 0))
IsScanned-more bs last newer i s lt h e = record {
  same = sym (goes_on last newer i s (get_or bs i 0) (drop (i + 1) bs) h.includes e) ∙ ap (λ (r : List ℕ). behind last i (longest s r)) (sym (drop_more bs i 0 lt)) ∙ h.same;
  includes = rw e (behind_twice last (i + 1) (with_length 0 (kind_at (step s (get_or bs i 0)))));
}

pub newer_some : (last : Option (Kind × ℕ)) (i : ℕ) (k : Kind) (o : Option Kind) → Some k ≡ o → Some (k, i + 1) ≡ behind last (i + 1) (with_length 0 o)
newer_some last i k o e = rw (← e) (let n : i + 1 ≡ i + 1 + 0 = omega arith in ap (λ (m : ℕ). Some (k, m)) n)

pub newer_none : (last : Option (Kind × ℕ)) (i : ℕ) (o : Option Kind) → None ≡ o → last ≡ behind last (i + 1) (with_length 0 o)
newer_none last i o e = rw (← e) refl

pub scanned_all : (bs : List ℕ) (last : Option (Kind × ℕ)) (i : ℕ) (s : State) → length bs ≤ i → IsScanned bs last i s → last ≡ longest Start bs
unfolding longest
scanned_all bs last i s le h = sym h.includes ∙ ap (λ (r : List ℕ). behind last i (longest s r)) (sym (drop_all i bs le)) ∙ h.same

pub scanned_dead : (bs : List ℕ) (last : Option (Kind × ℕ)) (i : ℕ) (s : State) → i < length bs → step s (get_or bs i 0) ≡ Dead → IsScanned bs last i s → last ≡ longest Start bs
unfolding longest
scanned_dead bs last i s lt e h =
    let inner : longest (step s (get_or bs i 0)) (drop (i + 1) bs) ≡ None = rw e (dead_none (drop (i + 1) bs)) in
    let whole : longest s (drop i bs) ≡ with_length 0 (kind_at s) = rw (drop_more bs i 0 lt, inner) refl in
    sym h.includes ∙ ap (λ (o : Option (Kind × ℕ)). behind last i o) (sym whole) ∙ h.same

pub scanned_first : (bs : List ℕ) → IsScanned bs None 0 Start
scanned_first bs = record { same = at_none (longest Start bs); includes = refl }
  where
    at_none : (o : Option (Kind × ℕ)) → behind None 0 o ≡ o
    at_none None = refl
    at_none (Some x) = ap (λ (n : ℕ). Some (x.0, n)) (let e : 0 + x.1 ≡ x.1 = omega arith in e)

pub found_within : (bs : List ℕ) (o : Option (Kind × ℕ)) → o ≡ longest Start bs → IfSome o (λ x. x.1 ≤ length bs)
found_within bs o e = rw e (longest_within bs Start)

pub found_some_bytes : (bs : List ℕ) (o : Option (Kind × ℕ)) → o ≡ longest Start bs → IfSome o (λ x. 0 < x.1)
found_some_bytes bs o e = rw e (longest_some_bytes bs)
