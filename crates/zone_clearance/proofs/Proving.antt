-- Two lines that prove a level: the greater of them is at least the level all the way.
use Rattle.std.proofs.Common.{◌≡◌, ◌≤◌, ◌+◌, ◌*◌, ◌⊎◌, ℕ, true, List, Option, Some, ap, sym, ◌∙◌, subst, inl, inr, arith, ℤ, pos, nat_abs, ◌-ℤ◌, ◌*ℤ◌, ◌≤ℤ◌, ◌<ℤ◌}
use Rattle.std.specs.Int.{int_max}
use Rattle.std.proofs.lemmas.Int.{ints, clamps, by_lt_z}
use Rattle.std.proofs.lemmas.Option.{same_Some}
use Rattle.rapid_num.specs.declared.joints.Joints.{Joints}
use Rattle.rapid_num.specs.declared.shape.Bound.{Bound}
use Rattle.rapid_num.specs.declared.shape.Shape.{Shape}
use Rattle.joint_clip.specs.Touches.{way_at}
use Rattle.joint_clip.proofs.Ways.{times-le}
use Rattle.zone_clearance.specs.declared.line.Line.{Line}
use Rattle.zone_clearance.specs.declared.side.Side.{Side}
use Rattle.zone_clearance.specs.Certificates.{IsOneAbove, PairProves}
use Rattle.zone_clearance.specs.Claims.{LinesProve}
use Rattle.zone_clearance.specs.Levels.{IsOver}
use Rattle.zone_clearance.specs.SideLines.{HasWay}
use Rattle.zone_clearance.proofs.Ends.{at_start, at_end, end_over, over_end, over_start, start_over}
use Rattle.zone_clearance.proofs.Nearness.{WayOver}
use Rattle.zone_clearance.proofs.Raising.{crossed, over_by_crossing}
use Rattle.zone_clearance.proofs.SideWays.{SomeWay, way_of}
use Rattle.zone_clearance.proofs.Ways.{OnTheWay, over_from_ends}

-- the level between the ends
abbrev Crosses : ℤ → ℤ → ℤ → ℤ → ℕ → ℕ → Type 0
Crosses s e u v t n = (k m : ℕ) → 1 ≤ m → k ≤ m → way_at s e k m ≡ way_at u v k m → IsOver s e t n k m

pub higher_start : (s e u v : ℤ) (t n : ℕ) → s ≤ℤ u → IsOver s e t n 0 1 → IsOver u v t n 0 1
higher_start s e u v t n le over = over_start u v t n (omega (arith, ints, start_over s e t n over, times-le s u n le))

pub higher_end : (s e u v : ℤ) (t n : ℕ) → e ≤ℤ v → IsOver s e t n 1 1 → IsOver u v t n 1 1
higher_end s e u v t n le over = over_end u v t n (omega (arith, ints, end_over s e t n over, times-le e v n le))

positive_difference : (s u : ℤ) → u ≤ℤ s → s -ℤ u ≡ pos (nat_abs (s -ℤ u))
positive_difference s u le = omega (arith, ints)

some_difference : (s u : ℤ) → s <ℤ u → 1 ≤ nat_abs (u -ℤ s)
some_difference s u less = omega (arith, ints)

same_over : (s e u v : ℤ) (t n k m : ℕ) → way_at s e k m ≡ way_at u v k m → IsOver s e t n k m → IsOver u v t n k m
same_over s e u v t n k m same over = record { over = subst (λ (x : ℤ). pos (t * m) ≤ℤ (x *ℤ pos n)) same over.over }

-- one line at the start and the other at the end
one_then_other : (s e u v : ℤ) (t n k m : ℕ) → OnTheWay k m → IsOver s e t n 0 1 → IsOver u v t n 1 1 → Crosses s e u v t n → IsOver s e t n k m ⊎ IsOver u v t n k m
one_then_other s e u v t n k m here start end crosses =
    by_lt_z e v
    (λ lower.
    by_lt_z s u
    (λ below. inr (over_from_ends u v t n k m here (higher_start s e u v t n (omega (arith, ints, below)) start) end))
    (λ above. cross (nat_abs (s -ℤ u)) (nat_abs (v -ℤ e)) (positive_difference s u above) (positive_difference v e (omega (arith, ints, lower))) (some_difference e v lower)))
    (λ higher. inl (over_from_ends s e t n k m here start (higher_end u v s e t n higher end)))
  where
    cross : (a b : ℕ) → s -ℤ u ≡ pos a → v -ℤ e ≡ pos b → 1 ≤ b → IsOver s e t n k m ⊎ IsOver u v t n k m
    cross a b first last some =
        let same = crossed s e u v a b first last in
        let there : OnTheWay a (a + b) = record { some = omega arith; whole = omega arith } in
        let over = crosses a (a + b) there.some there.whole same in
        over_by_crossing s e u v t n a (a + b) k m there here start over (same_over s e u v t n a (a + b) same over) end

-- the greater of two lines is at least the level at both ends and where they meet
pub record WaysProve (s e u v : ℤ) (t n : ℕ) : Type 0 where
  pub start : IsOver s e t n 0 1 ⊎ IsOver u v t n 0 1
  pub end : IsOver s e t n 1 1 ⊎ IsOver u v t n 1 1
  pub crosses : (k m : ℕ) → 1 ≤ m → k ≤ m → way_at s e k m ≡ way_at u v k m → IsOver s e t n k m

swapped : {A B : Type 0} → A ⊎ B → B ⊎ A
swapped (inl a) = inr a
swapped (inr b) = inl b

pub ways_over : (s e u v : ℤ) (t n k m : ℕ) → OnTheWay k m → WaysProve s e u v t n → IsOver s e t n k m ⊎ IsOver u v t n k m
ways_over s e u v t n k m here prove = by prove.start prove.end
  where
    other : Crosses u v s e t n
    other i j some way same = same_over s e u v t n i j (sym same) (prove.crosses i j some way (sym same))

    by : IsOver s e t n 0 1 ⊎ IsOver u v t n 0 1 → IsOver s e t n 1 1 ⊎ IsOver u v t n 1 1 → IsOver s e t n k m ⊎ IsOver u v t n k m
    by (inl start) (inl end) = inl (over_from_ends s e t n k m here start end)
    by (inl start) (inr end) = one_then_other s e u v t n k m here start end prove.crosses
    by (inr start) (inl end) = swapped (one_then_other u v s e t n k m here start end other)
    by (inr start) (inr end) = inr (over_from_ends u v t n k m here start end)

pub lines_ways : (one two : Line) (t n : ℕ) → LinesProve one two t n → WaysProve one.start one.end two.start two.end t n
lines_ways one two t n prove = record { start = prove.start; end = prove.end; crosses = prove.crossing }

pub ways_lines : (one two : Line) (t n : ℕ) → WaysProve one.start one.end two.start two.end t n → LinesProve one two t n
ways_lines one two t n prove = record { start = prove.start; end = prove.end; crossing = prove.crosses }

-- the same of the sides that have the lines
greater_over : (x y : ℤ) (l n : ℕ) → pos l ≤ℤ (int_max x y *ℤ pos n) → (pos l ≤ℤ (x *ℤ pos n)) ⊎ (pos l ≤ℤ (y *ℤ pos n))
greater_over x y l n over =
    by_lt_z x y
    (λ less. let is : int_max x y ≡ y = omega (arith, ints, clamps, less) in inr (subst (λ (z : ℤ). pos l ≤ℤ (z *ℤ pos n)) is over))
    (λ more. let is : int_max x y ≡ x = omega (arith, ints, clamps, more) in inl (subst (λ (z : ℤ). pos l ≤ℤ (z *ℤ pos n)) is over))

left_greater : (x y : ℤ) → x ≤ℤ int_max x y
left_greater x y = omega (arith, ints, clamps)

right_greater : (x y : ℤ) → y ≤ℤ int_max x y
right_greater x y = omega (arith, ints, clamps)

raised_over : (x z : ℤ) (l n : ℕ) → x ≤ℤ z → pos l ≤ℤ (x *ℤ pos n) → pos l ≤ℤ (z *ℤ pos n)
raised_over x z l n le over = omega (arith, ints, times-le x z n le, over)

abbrev Way : Joints → Joints → Shape → Side → ℤ → ℤ → Type 0
Way p q shape side s e = HasWay shape.inside p q shape.bounds side s e

above_over : (p q : Joints) (shape : Shape) (first second : Side) (s e u v : ℤ) (t n k m : ℕ) → k ≤ m → Way p q shape first s e → Way p q shape second u v
    → IsOneAbove p q shape first second t n k m → IsOver s e t n k m ⊎ IsOver u v t n k m
above_over p q shape first second s e u v t n k m way one two above =
    let first_is : above.one ≡ way_at s e k m = same_Some _ _ (sym above.first_line ∙ one.at k m way) in
    let second_is : above.two ≡ way_at u v k m = same_Some _ _ (sym above.second_line ∙ two.at k m way) in
    elim (greater_over above.one above.two (t * m) n above.above) [
      | inl over ↦ inl (record { over = subst (λ (x : ℤ). pos (t * m) ≤ℤ (x *ℤ pos n)) first_is over })
      | inr over ↦ inr (record { over = subst (λ (x : ℤ). pos (t * m) ≤ℤ (x *ℤ pos n)) second_is over })
    ]

over_above : (p q : Joints) (shape : Shape) (first second : Side) (s e u v : ℤ) (t n k m : ℕ) → k ≤ m → Way p q shape first s e → Way p q shape second u v
    → IsOver s e t n k m ⊎ IsOver u v t n k m → IsOneAbove p q shape first second t n k m
over_above p q shape first second s e u v t n k m way one two over = record {
  one = way_at s e k m;
  two = way_at u v k m;
  first_line = one.at k m way;
  second_line = two.at k m way;
  above =
      elim over [
        | inl first ↦ raised_over (way_at s e k m) _ (t * m) n (left_greater (way_at s e k m) (way_at u v k m)) first.over
        | inr second ↦ raised_over (way_at u v k m) _ (t * m) n (right_greater (way_at s e k m) (way_at u v k m)) second.over
      ];
}

pub either_over : (s e u v : ℤ) (t n k m : ℕ) → way_at s e k m ≡ way_at u v k m → IsOver s e t n k m ⊎ IsOver u v t n k m → IsOver s e t n k m
either_over s e u v t n k m same (inl one) = one
either_over s e u v t n k m same (inr two) = same_over u v s e t n k m (sym same) two

pub pair_ways : (p q : Joints) (shape : Shape) (first second : Side) (s e u v : ℤ) (t n : ℕ) → Way p q shape first s e → Way p q shape second u v → PairProves p q shape first second t n → WaysProve s e u v t n
pair_ways p q shape first second s e u v t n one two proves = record {
  start = above_over p q shape first second s e u v t n 0 1 at_start.whole one two proves.start;
  end = above_over p q shape first second s e u v t n 1 1 at_end.whole one two proves.end;
  crosses = λ k m some way same.
      either_over s e u v t n k m same
      (above_over p q shape first second s e u v t n k m way one two
      (proves.crossing k m some way (one.at k m way ∙ ap Some same ∙ sym (two.at k m way))));
}

pub ways_pair : (p q : Joints) (shape : Shape) (first second : Side) (s e u v : ℤ) (t n : ℕ) → Way p q shape first s e → Way p q shape second u v → WaysProve s e u v t n → PairProves p q shape first second t n
ways_pair p q shape first second s e u v t n one two prove = record {
  start = over_above p q shape first second s e u v t n 0 1 at_start.whole one two prove.start;
  end = over_above p q shape first second s e u v t n 1 1 at_end.whole one two prove.end;
  crossing = λ k m some way along.
      over_above p q shape first second s e u v t n k m way one two
      (inl (prove.crosses k m some way (same_Some _ _ (sym (one.at k m way) ∙ along ∙ two.at k m way))));
}

-- sides that prove a level have lines
pub first_way : (p q : Joints) (shape : Shape) (first second : Side) (t n : ℕ) → PairProves p q shape first second t n → SomeWay shape.inside p q shape.bounds first
first_way p q shape first second t n proves = way_of shape.inside p q shape.bounds first 0 1 _ proves.start.first_line

pub second_way : (p q : Joints) (shape : Shape) (first second : Side) (t n : ℕ) → PairProves p q shape first second t n → SomeWay shape.inside p q shape.bounds second
second_way p q shape first second t n proves = way_of shape.inside p q shape.bounds second 0 1 _ proves.start.second_line

-- so some line is at least the level all the way
pub ways_some_over : (p q : Joints) (bounds : List (Option Bound)) (first second : Side) (s e u v : ℤ) (t n k m : ℕ) → OnTheWay k m → HasWay true p q bounds first s e → HasWay true p q bounds second u v
    → WaysProve s e u v t n → WayOver true p q bounds t n k m
ways_some_over p q bounds first second s e u v t n k m here one two prove =
    elim (ways_over s e u v t n k m here prove) [
      | inl over ↦ record { side = first; start = s; end = e; way = one; over = over }
      | inr over ↦ record { side = second; start = u; end = v; way = two; over = over }
    ]
