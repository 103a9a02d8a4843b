-- The queue while each number in it gets its turn.
use Rattle.std.proofs.Common.{◌≡◌, ℕ, suc, ◌+◌, ◌<◌, ◌≤◌, Bool, true, false, not, cond, eqb, List, [], ◌∷◌, ◌++◌, length, get_or, take, drop, append_assoc, refl, arith}
use Rattle.std.specs.List.{filter}
use Rattle.std.proofs.lemmas.List.{append-nil, drop_all, take_all, length-take, length-drop, length-append}
use Rattle.std.proofs.lemmas.List.Elements.{filter_more}
use Rattle.std.proofs.Math.Numerals.{add-one}
use Rattle.std.proofs.Math.Seq.{drop-cons}
use Rattle.rapid_model.proofs.Lists.{filter_short}
use Rattle.trap_dispatch.specs.Queues.{turned}

-- after k turns: the numbers that are still to come, and then those that are kept
abbrev pub after_turns : ℕ → List ℕ → ℕ → List ℕ
after_turns number xs k = drop k xs ++ filter (λ n. not (eqb n number)) (take k xs)

pub length-after_turns : (number : ℕ) (xs : List ℕ) (k : ℕ) → length (after_turns number xs k) ≤ length xs
length-after_turns number xs k =
    let kept = filter_short (λ n. not (eqb n number)) (take k xs) in
    omega (arith, length-append (drop k xs) (filter (λ n. not (eqb n number)) (take k xs)), length-drop k xs, length-take k xs)

pub turned-after_turns : (number : ℕ) (xs : List ℕ) (k : ℕ) → k < length xs → turned number (after_turns number xs k) ≡ after_turns number xs (k + 1)
turned-after_turns number xs k h =
    rw (filter_more (λ n. not (eqb n number)) xs k 0 h, drop-cons xs k 0 h, add-one) (here (eqb (get_or xs k 0) number) (drop (suc k) xs) (filter (λ n. not (eqb n number)) (take k xs)) (get_or xs k 0))
  where
    here : (b : Bool) (rest kept : List ℕ) (x : ℕ) → cond b (rest ++ kept) ((rest ++ kept) ++ (x ∷ [])) ≡ rest ++ (kept ++ cond (not b) (x ∷ []) [])
    here true rest kept x = simp append-nil
    here false rest kept x = append_assoc rest kept (x ∷ [])

pub after_turns-all : (number : ℕ) (xs : List ℕ) (k : ℕ) → length xs ≤ k → after_turns number xs k ≡ filter (λ n. not (eqb n number)) xs
after_turns-all number xs k h = rw (drop_all k xs h, take_all k xs h) refl
