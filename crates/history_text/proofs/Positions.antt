-- The place of the first byte that passes a test, or the length.
use Rattle.std.proofs.Common.{◌≡◌, ℕ, ◌≤◌, Bool, true, false, cond, ltb, List, length, Some, None, refl, arith}
use Rattle.std.proofs.lemmas.Bool.Decides.{nat_tests}
use Rattle.std.proofs.lemmas.List.Sums.{prefix_len-le-length}
use Rattle.std.specs.List.{position, position_or_len}
use Rattle.std.specs.Option.{unwrap_or}
use Rattle.std.specs.Prelude.{not}

pub place_within : {A : Type 0} (stops : A → Bool) (text : List A) → position_or_len stops text ≤ length text
place_within stops text = prefix_len-le-length (λ b. not (stops b)) text

place_by : (place size : ℕ) (t : Bool) → ltb place size ≡ t → place ≤ size → unwrap_or (cond t (Some place) None) size ≡ place
place_by place size true test within = refl
place_by place size false test within = let past : size ≤ place = grind (arith, nat_tests) in omega arith

pub place_by_position : {A : Type 0} (stops : A → Bool) (text : List A) → unwrap_or (position stops text) (length text) ≡ position_or_len stops text
place_by_position stops text =
    place_by (position_or_len stops text) (length text) (ltb (position_or_len stops text) (length text)) refl (place_within stops text)
