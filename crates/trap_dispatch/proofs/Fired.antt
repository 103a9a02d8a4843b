-- The numbers that fire, as far as they are collected.
use Rattle.std.proofs.Common.{◌≡◌, ℕ, zero, suc, ◌+◌, ◌-◌, Bool, cond, List, [], ◌∷◌, ◌++◌, Option, None, slice_index_or, refl, ap, ◌∙◌, arith}
use Rattle.std.specs.List.{filter, range_with_len}
use Rattle.std.proofs.lemmas.List.Elements.{filter-append}
use Rattle.std.proofs.Math.Dec.{eqb-suc-zero}
use Rattle.std.proofs.Math.Numerals.{add-one}
use Rattle.trap_dispatch.specs.declared.connected.Connected.{Connected}
use Rattle.rapid_model.specs.declared.watched.Watched.{Watched}
use Rattle.trap_dispatch.specs.Firing.{connected_at, fires}

range_with_len_more : (a n e : ℕ) → a + n ≡ e → range_with_len a (suc n) ≡ range_with_len a n ++ (e ∷ [])
range_with_len_more a zero e last = ap (λ (k : ℕ). k ∷ []) (omega arith)
range_with_len_more a (suc n) e last = ap (λ (ks : List ℕ). a ∷ ks) (range_with_len_more (a + 1) n e (omega arith))

-- the number at an index
pub connected_at-next : (numbers : List (Option Connected)) (index : ℕ) → connected_at numbers (suc index) ≡ slice_index_or numbers index None
connected_at-next numbers index =
    let same : suc index - 1 ≡ index = omega arith in
    rw (eqb-suc-zero index, same) refl

-- one more entry, whose number fires or does not
pub fired_more : (changes : List Watched) (numbers : List (Option Connected)) (n : ℕ) →
    filter (λ number. fires changes (connected_at numbers number)) (range_with_len 1 (n + 1))
    ≡ filter (λ number. fires changes (connected_at numbers number)) (range_with_len 1 n) ++ cond (fires changes (slice_index_or numbers n None)) ((n + 1) ∷ []) []
fired_more changes numbers n =
    let p : ℕ → Bool = λ number. fires changes (connected_at numbers number) in
    rw add-one (ap (filter p) (range_with_len_more 1 n (suc n) (omega arith)) ∙ filter-append p (range_with_len 1 n) (suc n ∷ [])
    ∙ ap (λ (c : Option Connected). filter p (range_with_len 1 n) ++ cond (fires changes c) (suc n ∷ []) []) (connected_at-next numbers n))
