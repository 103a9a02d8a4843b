-- Code appended to code.
use Rattle.std.proofs.Common.{◌≡◌, ℕ, ◌+◌, refl, sym, ap, ◌∙◌, arith}
use Rattle.code_expr.specs.Follows.{Follows}

-- nothing
pub none_follows : {X Y : Type 0} (is : Y → X) (at : ℕ) → Follows is is at at 0 (λ pc ps. ps)
none_follows is at = record { grown = omega arith; laid = λ ps. refl }

-- one after the other
pub follows_then : {X Y : Type 0} {a b d : Y → X} {i j k n m : ℕ} {code more : ℕ → Y → Y} → Follows a b i j n code → Follows b d j k m more → Follows a d i k (n + m) (λ pc ps. code pc (more (pc + n) ps))
follows_then {a = a} {i = i} {code = code} {more = more} h next = record {
  grown = omega (arith, h.grown, next.grown);
  laid = λ ps. next.laid ps ∙ (h.laid (more _ ps) ∙ ap (λ pc. a (code i (more pc ps))) h.grown);
}

-- the same operations, counted or laid out in another way
pub follows_as : {X Y : Type 0} {a b : Y → X} {i j n : ℕ} {code : ℕ → Y → Y} (m : ℕ) (other : ℕ → Y → Y) → Follows a b i j n code → n ≡ m → ((ps : Y) → code i ps ≡ other i ps) → Follows a b i j m other
follows_as {a = a} {i = i} m other h count same = record {
  grown = h.grown ∙ ap (λ k. i + k) count;
  laid = λ ps. h.laid ps ∙ ap a (same ps);
}

pub follows_sized : {X Y : Type 0} {a b : Y → X} {i j n : ℕ} {code : ℕ → Y → Y} (m : ℕ) → Follows a b i j n code → n ≡ m → Follows a b i j m code
follows_sized {code = code} m h count = follows_as m code h count (λ ps. refl)

-- Some code is appended except for a rest, which is to come.
pub record Left {X Y : Type 0} (a b : Y → X) (i j n : ℕ) (code : ℕ → Y → Y) (k : ℕ) (left : ℕ → Y → Y) : Type 0 where
  pub grown : j + k ≡ i + n
  pub laid : (ps : Y) → b (left j ps) ≡ a (code i ps)

-- the first of the rest is appended
pub left_step : {X Y : Type 0} {a b d : Y → X} {i j k n m h : ℕ} {code one before : ℕ → Y → Y} (rest : ℕ) (left : ℕ → Y → Y) → Left a b i j n code h before → Follows b d j k m one → h ≡ m + rest →
    ((ps : Y) → before j ps ≡ one j (left (j + m) ps)) → Left a d i k n code rest left
left_step {b = b} {j = j} {k = k} {one = one} rest left was added count same = record {
  grown = omega (arith, was.grown, added.grown, count);
  laid = λ ps. added.laid (left k ps) ∙ (ap (λ pc. b (one j (left pc ps))) added.grown ∙ (ap b (sym (same ps)) ∙ was.laid ps));
}

pub left_then : {X Y : Type 0} {a b d : Y → X} {i j k n m rest : ℕ} {code one left : ℕ → Y → Y} → Left a b i j n code (m + rest) (λ pc ps. one pc (left (pc + m) ps)) → Follows b d j k m one → Left a d i k n code rest left
left_then {rest = rest} {left = left} was added = left_step rest left was added refl (λ ps. refl)

-- nothing is left
pub left_done : {X Y : Type 0} {a b : Y → X} {i j n : ℕ} {code : ℕ → Y → Y} → Left a b i j n code 0 (λ pc ps. ps) → Follows a b i j n code
left_done was = record { grown = omega (arith, was.grown); laid = was.laid }
