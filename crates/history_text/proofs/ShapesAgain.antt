-- A shape that was written is read back.
use Rattle.std.proofs.Common.{◌≡◌, ℕ, Bool, true, false, List, ◌∷◌, ◌++◌, length, Option, Some, None, refl, sym, ap, ◌∙◌, append_assoc}
use Rattle.std.specs.List.{AllByRecursion}
use Rattle.rapid_num.specs.NumText.{shortest_text}
use Rattle.rapid_num.specs.declared.shape.Bound.{Bound}
use Rattle.rapid_num.specs.declared.shape.Shape.{Shape}
use Rattle.history_text.specs.EventWords.{bound_words, shape_words, side_words}
use Rattle.history_text.specs.InRange.{IsBound, IsShape}
use Rattle.history_text.specs.Reading.{after_word, ends_num, many_at}
use Rattle.history_text.specs.ValueReading.{bound_at, limits_at, shape_at, side_at}
use Rattle.history_text.proofs.NumbersAgain.{no_num, num_again}
use Rattle.history_text.proofs.NumsAgain.{many_again, many_words}
use Rattle.history_text.proofs.Stops.{Stops}

limits_again : (bound : Bound) (rest : List ℕ) → IsBound (Some bound) → Stops ends_num rest → limits_at (bound_words (Some bound) ++ rest) ≡ Some (bound, rest)
unfolding limits_at after_word
limits_again bound rest fits stops =
    let high = shortest_text bound.high ++ rest in
    ap limits_at (append_assoc (shortest_text bound.low) (58 ∷ shortest_text bound.high) rest) ∙ rw (num_again bound.low (58 ∷ high) fits.0 refl, num_again bound.high rest fits.1 stops) refl

no_limits : (rest : List ℕ) → Stops ends_num rest → limits_at (45 ∷ rest) ≡ None
unfolding limits_at
no_limits rest stops = rw (no_num rest stops) refl

bound_again : (bound : Option Bound) (rest : List ℕ) → IsBound bound → Stops ends_num rest → bound_at (32 ∷ (bound_words bound ++ rest)) ≡ Some (bound, rest)
unfolding bound_at after_word
bound_again None rest fits stops = rw (no_limits rest stops) refl
bound_again (Some bound) rest fits stops = rw (limits_again bound rest fits stops) refl

side_again : (side : Bool) (rest : List ℕ) → side_at (side_words side ++ rest) ≡ Some (side, rest)
unfolding side_at after_word
side_again true rest = refl
side_again false rest = refl

bounds_again : (bounds : List (Option Bound)) (rest : List ℕ) → length bounds ≡ 12 → AllByRecursion IsBound bounds → Stops ends_num rest → many_at bound_at 12 (many_words 32 bound_words bounds ++ rest) ≡ Some (bounds, rest)
bounds_again bounds rest count fits stops =
    ap (λ n. many_at bound_at n (many_words 32 bound_words bounds ++ rest)) (sym count) ∙ many_again IsBound 32 bound_words bound_at bounds rest (record { between = refl; again = bound_again }) fits stops

pub shape_again : (shape : Shape) (rest : List ℕ) → IsShape shape → Stops ends_num rest → shape_at (shape_words shape ++ rest) ≡ Some (shape, rest)
unfolding shape_at
shape_again shape rest fits stops =
    let bounds = many_words 32 bound_words shape.bounds in
    ap shape_at (append_assoc (side_words shape.inside) bounds rest) ∙ rw (side_again shape.inside (bounds ++ rest), bounds_again shape.bounds rest fits.count fits.bounds stops) refl
