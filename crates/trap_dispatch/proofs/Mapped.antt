-- The list so far, in a loop that maps a list's elements in order.
use Rattle.std.proofs.Common.{◌≡◌, ℕ, zero, suc, ◌+◌, ◌<◌, List, [], ◌∷◌, ◌++◌, length, get_or, set, map, take, drop, refl, ap, arith}
use Rattle.std.proofs.lemmas.List.{get_or_read}
use Rattle.std.proofs.Math.Numerals.{add-one}

module _ {X : Type 0} (f : X → X) where
  -- the first i elements are mapped
  abbrev pub mapped_to : List X → ℕ → List X
  mapped_to xs i = map f (take i xs) ++ drop i xs

  length-mapped_to : (xs : List X) (i : ℕ) → length (mapped_to xs i) ≡ length xs
  length-mapped_to [] zero = refl
  length-mapped_to [] (suc i) = refl
  length-mapped_to (x ∷ xs) zero = refl
  length-mapped_to (x ∷ xs) (suc i) = ap suc (length-mapped_to xs i)

  get_or-mapped_to : (xs : List X) (i : ℕ) (d : X) → i < length xs → get_or (mapped_to xs i) i d ≡ get_or xs i d
  get_or-mapped_to [] i d h = absurd (omega arith)
  get_or-mapped_to (x ∷ xs) zero d h = refl
  get_or-mapped_to (x ∷ xs) (suc i) d h = get_or-mapped_to xs i d (omega arith)

  set-mapped_to : (xs : List X) (i : ℕ) (d : X) → i < length xs → set (mapped_to xs i) i (f (get_or xs i d)) ≡ mapped_to xs (suc i)
  set-mapped_to [] i d h = absurd (omega arith)
  set-mapped_to (x ∷ xs) zero d h = refl
  set-mapped_to (x ∷ xs) (suc i) d h = ap (λ (ys : List X). f x ∷ ys) (set-mapped_to xs i d (omega arith))

  pub mapped_to-next : (xs : List X) (i : ℕ) (d : X) → i < length xs → set (mapped_to xs i) i (f (get_or (mapped_to xs i) i d)) ≡ mapped_to xs (i + 1)
  mapped_to-next xs i d h = rw (add-one, get_or-mapped_to xs i d h) (set-mapped_to xs i d h)

  pub mapped_to-step : (xs ys : List X) (i : ℕ) (x y d : X) → i < length xs → ys ≡ mapped_to xs i → x ≡ get_or ys i x → y ≡ f x → set ys i y ≡ mapped_to xs (i + 1)
  mapped_to-step xs ys i x y d h is_ys is_x is_y =
      let there : i < length ys = rw (is_ys, length-mapped_to xs i) h in
      let is_here = get_or_read ys i x there is_x d in
      rw (is_y, is_here, is_ys) (mapped_to-next xs i d h)
