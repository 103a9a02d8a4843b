-- Where two lines cross, and what they prove.
use Rattle.std.proofs.Common.{◌≡◌, ◌≤◌, ◌+◌, ◌-◌, ◌*◌, ◌⊎◌, ℕ, ap, sym, ◌∙◌, subst, inl, inr, arith, ℤ, pos, nat_abs, ◌-ℤ◌, ◌*ℤ◌, ◌≤ℤ◌, ◌<ℤ◌, true, w64, to_z, of_z}
use Rattle.std.specs.Prelude.{int_lt}
use Rattle.std.proofs.lemmas.Int.{ints}
use Rattle.joint_clip.specs.Parts.{IsAtMost}
use Rattle.joint_clip.specs.Touches.{way_at}
use Rattle.joint_clip.proofs.Ways.{times-sub}
use Rattle.zone_clearance.specs.declared.line.Line.{Line}
use Rattle.zone_clearance.specs.declared.place.Place.{Place}
use Rattle.zone_clearance.specs.Claims.{LinesProve, OneOver}
use Rattle.zone_clearance.specs.Crossings.{IsCrossingPlace, NeverCross}
use Rattle.zone_clearance.specs.Levels.{IsOver}
use Rattle.zone_clearance.proofs.Products.{line_value, lt_from_true}
use Rattle.zone_clearance.proofs.Proving.{either_over, higher_end, higher_start}
use Rattle.zone_clearance.proofs.Raising.{crossed}
use Rattle.zone_clearance.proofs.Ways.{OnTheWay, over_between, over_from_ends}

-- the only place at which two lines are equal
crossed_only : (a b c d : ℤ) (x n k m : ℕ) → a -ℤ c ≡ pos x → d -ℤ b ≡ pos n → k ≤ m → way_at a b k m ≡ way_at c d k m → k * (x + n) ≡ x * m
crossed_only a b c d x n k m start end way same =
    let parts : m ≡ (m - k) + k = omega (arith, way) in
    omega (arith, ints, same, times-sub a c (m - k), times-sub d b k, ap (λ (z : ℤ). z *ℤ pos (m - k)) start, ap (λ (z : ℤ). z *ℤ pos k) end, ap (λ (t : ℕ). x * t) parts)

pub crosses_at : (one two : Line) (place : Place) (x n : ℕ) → one.start -ℤ two.start ≡ pos x → two.end -ℤ one.end ≡ pos n → place.top ≡ x → place.bottom ≡ x + n → IsCrossingPlace one two place
crosses_at one two place x n start end top bottom = record {
  same = rw (top, bottom) (crossed one.start one.end two.start two.end x n start end);
  only = λ k m way same. rw (top, bottom) (crossed_only one.start one.end two.start two.end x n k m start end way same);
}

pub crosses_other : (one two : Line) (place : Place) → IsCrossingPlace two one place → IsCrossingPlace one two place
crosses_other one two place is = record { same = sym is.same; only = λ k m way same. is.only k m way (sym same) }

-- as the code computes it
less_read : (x y : ℤ) → nat_abs x ≤ 200_000_000 → nat_abs y ≤ 200_000_000 → int_lt (to_z w64 (of_z w64 x)) (to_z w64 (of_z w64 y)) ≡ true → x <ℤ y
less_read x y one two less =
    subst (λ (a : ℤ). a <ℤ y) (line_value x one) (subst (λ (b : ℤ). to_z w64 (of_z w64 x) <ℤ b) (line_value y two) (lt_from_true (to_z w64 (of_z w64 x)) (to_z w64 (of_z w64 y)) less))

apart_read : (x y : ℤ) (n : ℕ) → nat_abs x ≤ 200_000_000 → nat_abs y ≤ 200_000_000 → n ≡ nat_abs (to_z w64 (of_z w64 x) -ℤ to_z w64 (of_z w64 y)) → n ≡ nat_abs (x -ℤ y)
apart_read x y n one two is = is ∙ ap (λ (a : ℤ). nat_abs (a -ℤ to_z w64 (of_z w64 y))) (line_value x one) ∙ ap (λ (b : ℤ). nat_abs (x -ℤ b)) (line_value y two)

down_by : (x y : ℤ) (n : ℕ) → y <ℤ x → n ≡ nat_abs (x -ℤ y) → x -ℤ y ≡ pos n
down_by x y n less is = omega (arith, ints, less, is)

up_by : (x y : ℤ) (n : ℕ) → x <ℤ y → n ≡ nat_abs (x -ℤ y) → y -ℤ x ≡ pos n
up_by x y n less is = omega (arith, ints, less, is)

-- the numbers of the place
pub record IsPlaceRead (one two : Line) (place : Place) (x n : ℕ) : Type 0 where
  pub start : x ≡ nat_abs (to_z w64 (of_z w64 one.start) -ℤ to_z w64 (of_z w64 two.start))
  pub end : n ≡ nat_abs (to_z w64 (of_z w64 one.end) -ℤ to_z w64 (of_z w64 two.end))
  pub top : place.top ≡ x
  pub bottom : place.bottom ≡ x + n

pub crossing_down : (one two : Line) (place : Place) (x n : ℕ) → int_lt (to_z w64 (of_z w64 two.start)) (to_z w64 (of_z w64 one.start)) ≡ true → int_lt (to_z w64 (of_z w64 one.end)) (to_z w64 (of_z w64 two.end)) ≡ true → IsPlaceRead one two place x n
    → IsCrossingPlace one two place
crossing_down one two place x n start end read =
    crosses_at one two place x n
    (down_by one.start two.start x (less_read two.start one.start two.small_start one.small_start start) (apart_read one.start two.start x one.small_start two.small_start read.start))
    (up_by one.end two.end n (less_read one.end two.end one.small_end two.small_end end) (apart_read one.end two.end n one.small_end two.small_end read.end)) read.top read.bottom

pub crossing_up : (one two : Line) (place : Place) (x n : ℕ) → int_lt (to_z w64 (of_z w64 one.start)) (to_z w64 (of_z w64 two.start)) ≡ true → int_lt (to_z w64 (of_z w64 two.end)) (to_z w64 (of_z w64 one.end)) ≡ true → IsPlaceRead one two place x n
    → IsCrossingPlace one two place
crossing_up one two place x n start end read =
    crosses_other one two place
    (crosses_at two one place x n
    (up_by one.start two.start x (less_read one.start two.start one.small_start two.small_start start) (apart_read one.start two.start x one.small_start two.small_start read.start))
    (down_by one.end two.end n (less_read two.end one.end two.small_end one.small_end end) (apart_read one.end two.end n one.small_end two.small_end read.end)) read.top read.bottom)

-- over at the crossing, over wherever the lines are equal
pub over_where_equal : (one two : Line) (place : Place) (t b k m : ℕ) → IsCrossingPlace one two place → OnTheWay k m → way_at one.start one.end k m ≡ way_at two.start two.end k m → IsOver one.start one.end t b place.top place.bottom → IsOver one.start one.end t b k m
over_where_equal one two place t b k m is here same over =
    let there : OnTheWay place.top place.bottom = record { some = place.some; whole = place.on_the_way } in
    let equal = is.only k m here.whole same in
    let before : IsAtMost place.top place.bottom k m = record { across = omega (arith, equal) } in
    let after : IsAtMost k m place.top place.bottom = record { across = omega (arith, equal) } in
    over_between one.start one.end t b place.top place.bottom place.top place.bottom k m there there here before after over over

pub crossing_proves : (one two : Line) (place : Place) (t b : ℕ) → IsCrossingPlace one two place → OneOver one two t b 0 1 → OneOver one two t b 1 1 → IsOver one.start one.end t b place.top place.bottom → LinesProve one two t b
crossing_proves one two place t b is start end over = record {
  start = start;
  end = end;
  crossing = λ k m some way same. over_where_equal one two place t b k m is (record { some = some; whole = way }) same over;
}

pub proves_crossing : (one two : Line) (place : Place) (t b : ℕ) → IsCrossingPlace one two place → LinesProve one two t b → IsOver one.start one.end t b place.top place.bottom
proves_crossing one two place t b is prove = prove.crossing place.top place.bottom place.some place.on_the_way is.same

-- lines that do not cross: the upper one is over all the way
pub never_proves : (one two : Line) (t b : ℕ) → NeverCross one two → OneOver one two t b 0 1 → OneOver one two t b 1 1 → LinesProve one two t b
never_proves one two t b never start end = record {
  start = start;
  end = end;
  crossing = λ k m some way same. either_over one.start one.end two.start two.end t b k m same (by never k m (record { some = some; whole = way }));
}
  where
    upper_start : two.start ≤ℤ one.start → IsOver one.start one.end t b 0 1
    upper_start le = elim start [ inl over ↦ over | inr over ↦ higher_start two.start two.end one.start one.end t b le over ]

    upper_end : two.end ≤ℤ one.end → IsOver one.start one.end t b 1 1
    upper_end le = elim end [ inl over ↦ over | inr over ↦ higher_end two.start two.end one.start one.end t b le over ]

    lower_start : one.start ≤ℤ two.start → IsOver two.start two.end t b 0 1
    lower_start le = elim start [ inl over ↦ higher_start one.start one.end two.start two.end t b le over | inr over ↦ over ]

    lower_end : one.end ≤ℤ two.end → IsOver two.start two.end t b 1 1
    lower_end le = elim end [ inl over ↦ higher_end one.start one.end two.start two.end t b le over | inr over ↦ over ]

    by : NeverCross one two → (k m : ℕ) → OnTheWay k m → IsOver one.start one.end t b k m ⊎ IsOver two.start two.end t b k m
    by (inl upper) k m here = inl (over_from_ends one.start one.end t b k m here (upper_start upper.0) (upper_end upper.1))
    by (inr lower) k m here = inr (over_from_ends two.start two.end t b k m here (lower_start lower.0) (lower_end lower.1))
