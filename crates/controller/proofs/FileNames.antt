-- The name of a file by its number.
use Rattle.std.proofs.Common.{◌≡◌, ℕ, zero, suc, ◌+◌, ◌<◌, ◌≤◌, List, [], ◌∷◌, length, get_or, map, refl, ap, sym, ◌∙◌, arith}
use Rattle.std.specs.Borrow.{Bor}
use Rattle.std.specs.Prelude.{Some, None, slice_get}
use Rattle.std.specs.Option.{unwrap_or}
use Rattle.controller.specs.RefusalLines.{name_at}
use Rattle.cell_loading.specs.Loaded.{file_names}

-- the name of an element
slice_get-seen : (ms : List (Bor (List ℕ))) (k : ℕ) (m : Bor (List ℕ)) → k < length ms → m ≡ get_or ms k m → slice_get (map (λ x. x.now) ms) k ≡ Some m.now
slice_get-seen [] k m lt is = absurd (omega arith)
slice_get-seen (x ∷ ms) zero m lt is = ap (λ (y : Bor (List ℕ)). Some y.now) (sym is)
slice_get-seen (x ∷ ms) (suc k) m lt is = slice_get-seen ms k m (omega arith) is

slice_get-unseen : (ms : List (Bor (List ℕ))) (k : ℕ) → length ms ≤ k → slice_get (map (λ x. x.now) ms) k ≡ None
slice_get-unseen [] k past = refl
slice_get-unseen (x ∷ ms) zero past = absurd (omega arith)
slice_get-unseen (x ∷ ms) (suc k) past = slice_get-unseen ms k (omega arith)

behind_script : (script : List ℕ) (names : List (List ℕ)) (file k : ℕ) → k + 1 ≡ file → slice_get (script ∷ names) file ≡ slice_get names k
behind_script script names zero k is = absurd (omega arith)
behind_script script names (suc n) k is = let e : n ≡ k = omega arith in ap (slice_get names) e

pub module_named : (script : List ℕ) (ms : List (Bor (List ℕ))) (file k : ℕ) (m : Bor (List ℕ)) → k + 1 ≡ file → k < length ms → m ≡ get_or ms k m → m.now ≡ name_at (file_names script ms) file
module_named script ms file k m is lt at =
    sym (ap (λ o. unwrap_or o []) (behind_script script (map (λ x. x.now) ms) file k is ∙ slice_get-seen ms k m lt at))

pub none_named : (script : List ℕ) (ms : List (Bor (List ℕ))) (file k : ℕ) → k + 1 ≡ file → length ms ≤ k → name_at (file_names script ms) file ≡ []
none_named script ms file k is at =
    (ap (λ o. unwrap_or o []) (behind_script script (map (λ x. x.now) ms) file k is ∙ slice_get-unseen ms k at))
