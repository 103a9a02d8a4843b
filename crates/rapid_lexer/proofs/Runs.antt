-- Runs of bytes that pass a test: the states that loop.
use Rattle.std.proofs.Common.{◌≡◌, ℕ, suc, Bool, true, false, not, ◌&&◌, cond, eqb, List, [], ◌∷◌, length, Option, Some, None, refl, ap, ◌∙◌, arith}
use Rattle.std.proofs.lemmas.Bool.{ne_eqb}
use Rattle.std.specs.List.{list_all}
use Rattle.rapid_lexer.specs.declared.kind.Kind.{Kind}
use Rattle.rapid_lexer.specs.declared.state.State.{State}
use Rattle.rapid_lexer.specs.declared.state.State.TheVariants.{Dead}
use Rattle.rapid_lexer.specs.Scanning.{step, kind_at, accepted}
use Rattle.rapid_lexer.proofs.Scan.{dead_accepted}

-- the kind if the test holds
abbrev pub kind_if : Kind → Bool → Option Kind
kind_if k t = cond t (Some k) None

goes_if : (s : State) (k : Kind) (bs : List ℕ) (rest t : Bool) → accepted s bs ≡ kind_if k rest → accepted (cond t s Dead) bs ≡ kind_if k (t && rest)
goes_if s k bs rest true e = e
goes_if s k bs rest false e = dead_accepted bs

pub run : (s : State) (p : ℕ → Bool) (k : Kind) → ((b : ℕ) → step s b ≡ cond (p b) s Dead) → kind_at s ≡ Some k → (bs : List ℕ) → accepted s bs ≡ kind_if k (list_all p bs)
unfolding accepted
run s p k goes is [] = is
run s p k goes is (b ∷ bs) = ap (λ (n : State). accepted n bs) (goes b) ∙ goes_if s k bs (list_all p bs) (p b) (run s p k goes is bs)

pub suc_not_zero : (n : ℕ) → eqb (suc n) 0 ≡ false
suc_not_zero n = ne_eqb (suc n) 0 (λ e. omega arith)

-- at least one byte, each of which passes
pub some_run : (m s : State) (p : ℕ → Bool) (k : Kind) → ((b : ℕ) → step m b ≡ cond (p b) s Dead) → kind_at m ≡ None → ((b : ℕ) → step s b ≡ cond (p b) s Dead) → kind_at s ≡ Some k
    → (bs : List ℕ) → accepted m bs ≡ kind_if k (not (eqb (length bs) 0) && list_all p bs)
unfolding accepted
some_run m s p k first empty goes is [] = empty
some_run m s p k first empty goes is (b ∷ bs) = rw (suc_not_zero (length bs), first b) (goes_if s k bs (list_all p bs) (p b) (run s p k goes is bs))

pub kind_from : (j k : Kind) (t : Bool) → kind_if j t ≡ Some k → (t ≡ true) × (j ≡ k)
kind_from j k true e = (refl, some_is j k e)
  where
    some_is : (a b : Kind) → Some a ≡ Some b → a ≡ b
    some_is a b h = cc
kind_from j k false e = absurd cc
