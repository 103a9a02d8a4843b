-- The least level of the greater of two lines.
use Rattle.std.proofs.Common.{◌≡◌, ◌≤◌, ◌<◌, ◌+◌, ◌-◌, ◌*◌, ◌⊎◌, ℕ, ap, sym, ◌∙◌, inl, inr, arith, ℤ, pos, nat_abs, ◌+ℤ◌, ◌-ℤ◌, ◌*ℤ◌, ◌≤ℤ◌, ◌<ℤ◌, to_z, of_z, w64, Option, Some, None}
use Rattle.std.proofs.lemmas.Bool.{cases_lt}
use Rattle.std.proofs.lemmas.Int.{ints, clamps, by_lt_z}
use Rattle.std.specs.Int.{int_max, int_min}
use Rattle.joint_clip.specs.Touches.{way_at}
use Rattle.joint_clip.proofs.Ways.{times-le, times-sub}
use Rattle.zone_clearance.specs.declared.line.Line.{Line}
use Rattle.zone_clearance.specs.declared.search.level.Level.{Level}
use Rattle.zone_clearance.specs.Levels.{IsUnder, IsOver, Under, Over, Meet, StayAbove, IsHigher, IsRaised, IsRaisedTo, IsCrossing, crossing_top, crossing_bottom}
use Rattle.zone_clearance.proofs.Ends.{at_start, at_end, under_start, under_end, over_start, over_end}
use Rattle.zone_clearance.proofs.Levels.{over_lower}
use Rattle.zone_clearance.proofs.Products.{product_le, sum_is}
use Rattle.zone_clearance.proofs.Ways.{OnTheWay, over_between, over_from_ends}

-- the order of the lines does not matter
pub int_max-swap : (x y : ℤ) → int_max x y ≡ int_max y x
int_max-swap x y = omega (arith, ints, clamps)

pub ends-swap : (a b c d : ℤ) → int_min (int_max a c) (int_max b d) ≡ int_min (int_max c a) (int_max d b)
ends-swap a b c d = rw (int_max-swap a c, int_max-swap b d)

pub Meet-swap : (one two : Line) (level : Level) → Meet one two level → Meet two one level
Meet-swap one two level met =
    record { k = met.k; m = met.m; whole = met.whole; on_the_way = met.on_the_way; holds = (met.holds.1, met.holds.0) }

StayAbove-swap : (one two : Line) (level : Level) → StayAbove one two level → StayAbove two one level
StayAbove-swap one two level stay =
    record { above = λ k m some way. elim (stay.above k m some way) [ inl first ↦ inr first | inr second ↦ inl second ] }

pub IsRaised-swap : (one two : Line) (best : Level) (level : Option Level) → IsRaised one two best level → IsRaised two one best level
IsRaised-swap one two best None met = Meet-swap one two best met
IsRaised-swap one two best (Some level) raised =
    record { higher = raised.higher; above = StayAbove-swap one two level raised.above; met = Meet-swap one two level raised.met }

-- both lines at most a level at an end
meet_at : (one two : Line) (level : Level) (k m : ℕ) → OnTheWay k m → Under one level k m → Under two level k m → Meet one two level
meet_at one two level k m here first second =
    record { k = k; m = m; whole = here.some; on_the_way = here.whole; holds = (first, second) }

pub scaled_le : (x y : ℤ) (t b : ℕ) → x ≤ℤ y → (y *ℤ pos b) ≤ℤ pos t → (x *ℤ pos b) ≤ℤ pos t
scaled_le x y t b le h = omega (arith, ints, times-le x y b le, h)

-- the greater line at its lower end is a level that both lines meet
pub ends_met : (one two : Line) (level : Level) (ends : ℤ) → ends ≡ int_min (int_max one.start two.start) (int_max one.end two.end) → (ends *ℤ pos level.bottom) ≤ℤ pos level.top → Meet one two level
ends_met one two level ends is le =
    let t = level.top in
    let b = level.bottom in
    by_lt_z (int_max one.start two.start) (int_max one.end two.end)
    (λ before.
    meet_at one two level 0 1 at_start
    (under_start one.start one.end t b (scaled_le one.start ends t b (omega (arith, ints, clamps)) le))
    (under_start two.start two.end t b (scaled_le two.start ends t b (omega (arith, ints, clamps)) le)))
    (λ after.
    meet_at one two level 1 1 at_end
    (under_end one.start one.end t b (scaled_le one.end ends t b (omega (arith, ints, clamps)) le))
    (under_end two.start two.end t b (scaled_le two.end ends t b (omega (arith, ints, clamps)) le)))

-- the whole level of the lower end
pub record IsWhole (level : Level) (ends : ℤ) : Type 0 where
  pub top : pos level.top ≡ ends
  pub bottom : level.bottom ≡ 1

pub whole_met : (one two : Line) (level : Level) (ends : ℤ) → ends ≡ int_min (int_max one.start two.start) (int_max one.end two.end) → IsWhole level ends → Meet one two level
whole_met one two level ends is whole =
    ends_met one two level ends is (rw whole.bottom (omega (arith, ints, whole.top)))

pub whole_higher : (best level : Level) (ends : ℤ) → IsWhole level ends → pos best.top <ℤ (ends *ℤ pos best.bottom) → IsHigher best level
whole_higher best level ends whole above =
    record { higher = rw whole.bottom (omega (arith, ints, above, ap (λ (x : ℤ). x *ℤ pos best.bottom) whole.top)) }

over_whole_start : (line : Line) (level : Level) (ends : ℤ) → IsWhole level ends → ends ≤ℤ line.start → Over line level 0 1
over_whole_start line level ends whole le =
    over_start line.start line.end level.top level.bottom (rw whole.bottom (omega (arith, ints, whole.top, le)))

over_whole_end : (line : Line) (level : Level) (ends : ℤ) → IsWhole level ends → ends ≤ℤ line.end → Over line level 1 1
over_whole_end line level ends whole le =
    over_end line.start line.end level.top level.bottom (rw whole.bottom (omega (arith, ints, whole.top, le)))

-- a line that is at neither end below the other one stays above its lower end
pub stay_above_upper : (upper lower : Line) (level : Level) (ends : ℤ) → ends ≡ int_min (int_max upper.start lower.start) (int_max upper.end lower.end) → IsWhole level ends → lower.start ≤ℤ upper.start → lower.end ≤ℤ upper.end → StayAbove upper lower level
stay_above_upper upper lower level ends is whole start end = record {
  above = λ k m some way.
      inl (over_from_ends upper.start upper.end level.top level.bottom k m (record { some = some; whole = way })
      (over_whole_start upper level ends whole (omega (arith, ints, clamps)))
      (over_whole_end upper level ends whole (omega (arith, ints, clamps))));
}

-- one line is at least the level up to a place, and the other from there on
pub over_by_crossing : (s e u v : ℤ) (t n a b k m : ℕ) → OnTheWay a b → OnTheWay k m → IsOver s e t n 0 1 → IsOver s e t n a b → IsOver u v t n a b → IsOver u v t n 1 1 → IsOver s e t n k m ⊎ IsOver u v t n k m
over_by_crossing s e u v t n a b k m here there start first second end =
    elim (cases_lt (k * b) (a * m)) [
      | inl before ↦
          inl (over_between s e t n 0 1 a b k m at_start here there
          (record { across = omega arith }) (record { across = omega (arith, before) }) start first)
      | inr after ↦
          inr (over_between u v t n a b 1 1 k m here at_end there
          (record { across = after }) (record { across = omega (arith, there.whole) }) second end)
    ]

above_by_crossing : (upper lower : Line) (level : Level) (a b : ℕ) → OnTheWay a b → Over upper level 0 1 → Over upper level a b → Over lower level a b → Over lower level 1 1 → StayAbove upper lower level
above_by_crossing upper lower level a b here start first second end = record {
  above = λ k m some way. over_by_crossing upper.start upper.end lower.start lower.end level.top level.bottom a b k m here (record { some = some; whole = way }) start first second end;
}

-- two lines where they cross
pub crossed : (a b c d : ℤ) (k n : ℕ) → a -ℤ c ≡ pos k → d -ℤ b ≡ pos n → way_at a b k (k + n) ≡ way_at c d k (k + n)
crossed a b c d k n start end =
    let rest : k + n - k ≡ n = omega arith in
    rw rest (omega (arith, ints, times-sub a c n, times-sub d b k, ap (λ (x : ℤ). x *ℤ pos n) start, ap (λ (x : ℤ). x *ℤ pos k) end))

pub same_at_crossing : (upper lower : Line) → lower.start ≤ℤ upper.start → upper.end <ℤ lower.end
    → way_at upper.start upper.end (crossing_top upper lower) (crossing_bottom upper lower) ≡ way_at lower.start lower.end (crossing_top upper lower) (crossing_bottom upper lower)
same_at_crossing upper lower start end =
    crossed upper.start upper.end lower.start lower.end _ _ (omega (arith, ints)) (omega (arith, ints))

crossing_on_the_way : (upper lower : Line) → upper.end <ℤ lower.end → OnTheWay (crossing_top upper lower) (crossing_bottom upper lower)
crossing_on_the_way upper lower end = record { some = omega (arith, ints); whole = omega arith }

-- the level at which the lines cross, at the crossing
over_at_level : (s e : ℤ) (t b k : ℕ) → pos t ≡ way_at s e k b → IsOver s e t b k b
over_at_level s e t b k is = record { over = rw (← is) (omega (arith, ints)) }

under_at_level : (s e : ℤ) (t b k : ℕ) → pos t ≡ way_at s e k b → IsUnder s e t b k b
under_at_level s e t b k is = record { under = rw (← is) (omega (arith, ints)) }

over_crossing : (line upper lower : Line) (level : Level) → level.bottom ≡ crossing_bottom upper lower → pos level.top ≡ way_at line.start line.end (crossing_top upper lower) (crossing_bottom upper lower) → Over line level (crossing_top upper lower) (crossing_bottom upper lower)
over_crossing line upper lower level bottom top =
    rw bottom (over_at_level line.start line.end level.top _ _ top)

under_crossing : (line upper lower : Line) (level : Level) → level.bottom ≡ crossing_bottom upper lower → pos level.top ≡ way_at line.start line.end (crossing_top upper lower) (crossing_bottom upper lower) → Under line level (crossing_top upper lower) (crossing_bottom upper lower)
under_crossing line upper lower level bottom top =
    rw bottom (under_at_level line.start line.end level.top _ _ top)

-- the level at the crossing, as the code computes it
pub record IsCrossingSum (upper lower : Line) (k n : ℕ) (top : ℤ) : Type 0 where
  pub start : k ≡ nat_abs (upper.start -ℤ lower.start)
  pub end : n ≡ nat_abs (lower.end -ℤ upper.end)
  pub sum : top ≡ (upper.start *ℤ pos n) +ℤ (upper.end *ℤ pos k)

way_at-sum : (s e : ℤ) (k n : ℕ) → way_at s e k (k + n) ≡ (s *ℤ pos n) +ℤ (e *ℤ pos k)
way_at-sum s e k n = let rest : k + n - k ≡ n = omega arith in rw rest

crossing_way : (upper lower : Line) (k n : ℕ) (top : ℤ) → IsCrossingSum upper lower k n top → way_at upper.start upper.end (crossing_top upper lower) (crossing_bottom upper lower) ≡ top
crossing_way upper lower k n top is =
    rw (← is.start, ← is.end) (way_at-sum upper.start upper.end k n ∙ sym is.sum)

pub crossing_under : (upper lower : Line) (best : Level) (k n : ℕ) (top : ℤ) → IsCrossingSum upper lower k n top → (top <ℤ pos 0) ⊎ (nat_abs top * best.bottom ≤ best.top * (k + n))
    → Under upper best (crossing_top upper lower) (crossing_bottom upper lower)
crossing_under upper lower best k n top is low =
    record { under = rw (crossing_way upper lower k n top is, ← is.start, ← is.end) (product_le top best.bottom _ low) }

pub crossing_above : (upper lower : Line) (best level : Level) (k n : ℕ) (top : ℤ) → IsCrossingSum upper lower k n top → pos 0 ≤ℤ top → best.top * (k + n) < nat_abs top * best.bottom
    → level.top ≡ nat_abs top → level.bottom ≡ k + n → IsCrossing upper lower best level
crossing_above upper lower best level k n top is some high same bottom = record {
  top = sym (crossing_way upper lower k n top is ∙ rw same (omega (arith, ints)));
  bottom = rw (← is.start, ← is.end) bottom;
  higher = record { higher = rw (same, bottom) high };
}

pub crossing_sum : (upper lower : Line) (k n : ℕ) (x y : ℤ)
    → k ≡ nat_abs (to_z w64 (of_z w64 upper.start) -ℤ to_z w64 (of_z w64 lower.start)) → n ≡ nat_abs (to_z w64 (of_z w64 lower.end) -ℤ to_z w64 (of_z w64 upper.end))
    → x ≡ to_z w64 (of_z w64 upper.start) *ℤ pos n → y ≡ to_z w64 (of_z w64 upper.end) *ℤ pos k
    → nat_abs x ≤ 80_000_000_000_000_000 → nat_abs y ≤ 80_000_000_000_000_000
    → IsCrossingSum upper lower k n (to_z w64 (of_z w64 (to_z w64 (of_z w64 x) +ℤ to_z w64 (of_z w64 y))))
crossing_sum upper lower k n x y start end one two small short =
    let start_is : to_z w64 (of_z w64 upper.start) ≡ upper.start = omega (arith, ints, upper.small_start) in
    let end_is : to_z w64 (of_z w64 upper.end) ≡ upper.end = omega (arith, ints, upper.small_end) in
    let start_of : to_z w64 (of_z w64 lower.start) ≡ lower.start = omega (arith, ints, lower.small_start) in
    let end_of : to_z w64 (of_z w64 lower.end) ≡ lower.end = omega (arith, ints, lower.small_end) in
    record {
      start = rw (start_is, start_of) at start;
      end = rw (end_of, end_is) at end;
      sum = sum_is x y small short ∙ rw (one, two, start_is, end_is);
    }

-- the lines where they cross
lower_crossing : (upper lower : Line) (level : Level) → lower.start ≤ℤ upper.start → upper.end <ℤ lower.end → pos level.top ≡ way_at upper.start upper.end (crossing_top upper lower) (crossing_bottom upper lower)
    → pos level.top ≡ way_at lower.start lower.end (crossing_top upper lower) (crossing_bottom upper lower)
lower_crossing upper lower level start end top = top ∙ same_at_crossing upper lower start end

pub crossing_met : (upper lower : Line) (best : Level) → lower.start ≤ℤ upper.start → upper.end <ℤ lower.end → Under upper best (crossing_top upper lower) (crossing_bottom upper lower) → Meet upper lower best
crossing_met upper lower best start end under =
    meet_at upper lower best _ _ (crossing_on_the_way upper lower end) under
    (record { under = rw (← same_at_crossing upper lower start end) under.under })

-- the lower end, where the lines do not cross
pub raised_by_upper : (upper lower : Line) (best level : Level) (ends : ℤ) → ends ≡ int_min (int_max upper.start lower.start) (int_max upper.end lower.end) → IsWhole level ends → pos best.top <ℤ (ends *ℤ pos best.bottom)
    → lower.start ≤ℤ upper.start → lower.end ≤ℤ upper.end → IsRaisedTo upper lower best level
raised_by_upper upper lower best level ends is whole above start end = record {
  higher = whole_higher best level ends whole above;
  above = stay_above_upper upper lower level ends is whole start end;
  met = whole_met upper lower level ends is whole;
}

-- the lower end, where the lines do not cross below it
pub raised_to_ends : (upper lower : Line) (best level cross : Level) (ends : ℤ) → ends ≡ int_min (int_max upper.start lower.start) (int_max upper.end lower.end) → IsWhole level ends → pos best.top <ℤ (ends *ℤ pos best.bottom)
    → lower.start ≤ℤ upper.start → upper.end <ℤ lower.end → IsCrossing upper lower best cross → (ends *ℤ pos cross.bottom) ≤ℤ pos cross.top → IsRaisedTo upper lower best level
raised_to_ends upper lower best level cross ends is whole above start end crossing low =
    let below : level.top * cross.bottom ≤ cross.top * level.bottom = rw whole.bottom (omega (arith, ints, low, ap (λ (x : ℤ). x *ℤ pos cross.bottom) whole.top)) in
    let lower_top = lower_crossing upper lower cross start end crossing.top in
    record {
      higher = whole_higher best level ends whole above;
      above =
          above_by_crossing upper lower level _ _ (crossing_on_the_way upper lower end)
          (over_whole_start upper level ends whole (omega (arith, ints, clamps)))
          (over_lower upper.start upper.end _ _ _ _ _ _ cross.some below (over_crossing upper upper lower cross crossing.bottom crossing.top))
          (over_lower lower.start lower.end _ _ _ _ _ _ cross.some below (over_crossing lower upper lower cross crossing.bottom lower_top))
          (over_whole_end lower level ends whole (omega (arith, ints, clamps)));
      met = whole_met upper lower level ends is whole;
    }

-- the crossing, below the ends
pub raised_to_crossing : (upper lower : Line) (best cross : Level) (ends : ℤ) → ends ≡ int_min (int_max upper.start lower.start) (int_max upper.end lower.end)
    → lower.start ≤ℤ upper.start → upper.end <ℤ lower.end → IsCrossing upper lower best cross → ¬ ((ends *ℤ pos cross.bottom) ≤ℤ pos cross.top) → IsRaisedTo upper lower best cross
raised_to_crossing upper lower best cross ends is start end crossing high =
    let lower_top = lower_crossing upper lower cross start end crossing.top in
    let above : pos cross.top ≤ℤ (ends *ℤ pos cross.bottom) = by_lt_z (ends *ℤ pos cross.bottom) (pos cross.top) (λ less. absurd (high (omega (arith, ints)))) (λ more. more) in
    record {
      higher = crossing.higher;
      above =
          above_by_crossing upper lower cross _ _ (crossing_on_the_way upper lower end)
          (over_start upper.start upper.end _ _ (omega (arith, ints, above, times-le ends upper.start cross.bottom (omega (arith, ints, clamps)))))
          (over_crossing upper upper lower cross crossing.bottom crossing.top)
          (over_crossing lower upper lower cross crossing.bottom lower_top)
          (over_end lower.start lower.end _ _ (omega (arith, ints, above, times-le ends lower.end cross.bottom (omega (arith, ints, clamps)))));
      met =
          meet_at upper lower cross _ _ (crossing_on_the_way upper lower end)
          (under_crossing upper upper lower cross crossing.bottom crossing.top)
          (under_crossing lower upper lower cross crossing.bottom lower_top);
    }
