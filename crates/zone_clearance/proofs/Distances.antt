-- The distance of a point from a zone, by the lines of the zone's sides there.
use Rattle.std.proofs.Common.{◌≡◌, ◌≤◌, ◌<◌, ◌*◌, ℕ, zero, suc, Bool, true, false, List, [], ◌∷◌, length, get_or, Option, Some, None, All, Contains, fold, filter_map, refl, ap, sym, ◌∙◌, subst, inl, inr, arith, ℤ, pos, ◌≤ℤ◌}
use Rattle.std.specs.Int.{int_max, int_min}
use Rattle.std.specs.List.{cons_option, reduce}
use Rattle.std.proofs.lemmas.Bool.{cases_lt}
use Rattle.std.proofs.lemmas.Int.{fold-int_max_bounds, fold-int_max_reached, fold-int_min_bounds, fold-int_min_reached}
use Rattle.std.proofs.lemmas.List.{get_or_past}
use Rattle.std.proofs.lemmas.List.Elements.{All-cons, All-contains, Contains-append_left, Contains-append_right}
use Rattle.rapid_num.specs.declared.shape.Bound.{Bound}
use Rattle.zone_clearance.specs.declared.side.Side.{Side}
use Rattle.zone_clearance.specs.declared.side.Side.TheVariants.{Zero, Low, High}
use Rattle.zone_clearance.specs.Distances.{lines_at, distance_at}
use Rattle.zone_clearance.specs.Lines.{line_at}
use Rattle.zone_clearance.specs.SideLines.{IsSide}
use Rattle.zone_clearance.specs.Sides.{order_of, sides_of}

-- a value of a function stands among those that a list gives, and only those do
contains_kept : {X Y : Type 0} (f : X → Option Y) (xs : List X) (x : X) (y : Y) (k : ℕ) → k < length xs → get_or xs k x ≡ x → f x ≡ Some y → Contains (filter_map f xs) y
contains_kept f [] x y k below at is = absurd (omega arith)
contains_kept {X} {Y} f (z ∷ xs) x y zero below at is =
    subst (λ (o : Option Y). Contains (cons_option o (filter_map f xs)) y) (sym (ap f at ∙ is)) (0, omega arith, refl)
contains_kept {X} {Y} f (z ∷ xs) x y (suc k) below at is = after (f z) (contains_kept f xs x y k (omega arith) at is)
  where
    after : (o : Option Y) → Contains (filter_map f xs) y → Contains (cons_option o (filter_map f xs)) y
    after None there = there
    after (Some w) there = (suc there.0, omega (arith, there.1), there.2)

record IsValue {X Y : Type 0} (f : X → Option Y) (y : Y) : Type 0 where
  at : X
  is : f at ≡ Some y

value_of : {X Y : Type 0} (f : X → Option Y) (xs : List X) (y : Y) (k : ℕ) → k < length (filter_map f xs) → get_or (filter_map f xs) k y ≡ y → IsValue f y
value_of f [] y k below is = absurd (omega arith)
value_of {X} {Y} f (x ∷ xs) y k below is = by (f x) refl k below is (λ k below is. value_of f xs y k below is)
  where
    by : (o : Option Y) → f x ≡ o → (k : ℕ) → k < length (cons_option o (filter_map f xs)) → get_or (cons_option o (filter_map f xs)) k y ≡ y
        → ((k : ℕ) → k < length (filter_map f xs) → get_or (filter_map f xs) k y ≡ y → IsValue f y) → IsValue f y
    by None none k below is further = further k below is
    by (Some z) some zero below is further = record { at = x; is = some ∙ ap Some is }
    by (Some z) some (suc k) below is further = further k (omega arith) is

-- a side that has a line is one of the sides of the zone's axes
pub record IsKnown (side : Side) (axes : ℕ) : Type 0 where
  pub is : IsSide side
  pub known : order_of side ≤ 2 * axes

pub known_side : (inside : Bool) (bounds : List (Option Bound)) (point : ℕ → ℤ) (m : ℕ) (side : Side) (x : ℤ) → line_at inside bounds point m side ≡ Some x → IsKnown side (length bounds)
known_side inside bounds point m Zero x is = record { is = tt; known = omega arith }
known_side inside bounds point m (Low zero) x is = absurd cc
known_side inside bounds point m (Low (suc axis)) x is =
    elim (cases_lt axis (length bounds)) [
      | inl below ↦ record { is = omega arith; known = omega arith }
      | inr past ↦ absurd (let none = get_or_past bounds axis None past in let read = rw none at is in cc)
    ]
known_side inside bounds point m (High zero) x is = absurd cc
known_side inside bounds point m (High (suc axis)) x is =
    elim (cases_lt axis (length bounds)) [
      | inl below ↦ record { is = omega arith; known = omega arith }
      | inr past ↦ absurd (let none = get_or_past bounds axis None past in let read = rw none at is in cc)
    ]

contains_side : (axes : ℕ) (side : Side) → IsSide side → order_of side ≤ 2 * axes → Contains (sides_of axes) side
contains_side zero Zero is known = (0, omega arith, refl)
contains_side zero (Low axis) is known = absurd (omega arith)
contains_side zero (High axis) is known = absurd (omega arith)
contains_side (suc axes) Zero is known = Contains-append_left (sides_of axes) _ Zero (contains_side axes Zero tt (omega arith))
contains_side (suc axes) (Low axis) is known =
    elim (cases_lt axis (suc axes)) [
      | inl before ↦ Contains-append_left (sides_of axes) _ (Low axis) (contains_side axes (Low axis) is (omega arith))
      | inr here ↦
          let same : suc axes ≡ axis = omega arith in
          Contains-append_right (sides_of axes) (Low (suc axes) ∷ High (suc axes) ∷ []) (Low axis) (0, omega arith, ap Low same)
    ]
contains_side (suc axes) (High axis) is known =
    elim (cases_lt axis (suc axes)) [
      | inl before ↦ Contains-append_left (sides_of axes) _ (High axis) (contains_side axes (High axis) is (omega arith))
      | inr here ↦
          let same : suc axes ≡ axis = omega arith in
          Contains-append_right (sides_of axes) (Low (suc axes) ∷ High (suc axes) ∷ []) (High axis) (1, omega arith, ap High same)
    ]

contains_line : (inside : Bool) (bounds : List (Option Bound)) (point : ℕ → ℤ) (m : ℕ) (side : Side) (x : ℤ) → line_at inside bounds point m side ≡ Some x → Contains (lines_at inside bounds point m) x
contains_line inside bounds point m side x is =
    let known = known_side inside bounds point m side x is in
    let there = contains_side (length bounds) side known.is known.known in
    contains_kept (line_at inside bounds point m) (sides_of (length bounds)) side x there.0 there.1 there.2 is

-- the distance from an Inside zone is the greatest line
pub record IsGreatest (bounds : List (Option Bound)) (point : ℕ → ℤ) (m : ℕ) (d : ℤ) : Type 0 where
  pub each : (side : Side) (x : ℤ) → line_at true bounds point m side ≡ Some x → x ≤ℤ d
  pub side : Side
  pub there : line_at true bounds point m side ≡ Some d

pub greatest_line : (bounds : List (Option Bound)) (point : ℕ → ℤ) (m : ℕ) → IsGreatest bounds point m (distance_at true bounds point m)
greatest_line bounds point m =
    let xs = lines_at true bounds point m in
    let d = distance_at true bounds point m in
    let limits = fold-int_max_bounds (pos 0) xs d refl in
    let each = λ (side : Side) (x : ℤ) (is : line_at true bounds point m side ≡ Some x). All-contains (λ y. y ≤ℤ d) xs x limits.1 (contains_line true bounds point m side x is) in
    elim (fold-int_max_reached (pos 0) xs d refl) [
      | inl none ↦ record { each = each; side = Zero; there = ap Some (sym none) }
      | inr there ↦
          let from = value_of (line_at true bounds point m) (sides_of (length bounds)) d there.0 there.1 there.2 in
          record { each = each; side = from.at; there = from.is }
    ]

-- the distance from an Outside zone is the least line, or 0 if that is negative
pub record IsLeast (bounds : List (Option Bound)) (point : ℕ → ℤ) (m : ℕ) (d : ℤ) : Type 0 where
  pub least : ℤ
  pub each : (side : Side) (x : ℤ) → line_at false bounds point m side ≡ Some x → least ≤ℤ x
  pub side : Side
  pub there : line_at false bounds point m side ≡ Some least
  pub distance : d ≡ int_max (pos 0) least

record IsLeastOf (xs : List ℤ) : Type 0 where
  least : ℤ
  is : reduce int_min xs ≡ Some least
  each : All (λ x. least ≤ℤ x) xs
  reached : Contains xs least

least_of : (xs : List ℤ) (x : ℤ) → Contains xs x → IsLeastOf xs
least_of [] x there = absurd (omega (arith, there.1))
least_of (y ∷ ys) x there =
    let r = fold int_min y ys in
    let limits = fold-int_min_bounds y ys r refl in
    record {
      least = r;
      is = refl;
      each = All-cons (λ z. r ≤ℤ z) y ys limits.0 limits.1;
      reached =
          elim (fold-int_min_reached y ys r refl) [
            | inl first ↦ (0, omega arith, sym first)
            | inr later ↦ (suc later.0, omega (arith, later.1), later.2)
          ];
    }

pub least_line : (bounds : List (Option Bound)) (point : ℕ → ℤ) (m : ℕ) (side : Side) (x : ℤ) → line_at false bounds point m side ≡ Some x → IsLeast bounds point m (distance_at false bounds point m)
least_line bounds point m side x is =
    let xs = lines_at false bounds point m in
    let low = least_of xs x (contains_line false bounds point m side x is) in
    let from = value_of (line_at false bounds point m) (sides_of (length bounds)) low.least low.reached.0 low.reached.1 low.reached.2 in
    record {
      least = low.least;
      each = λ other y there. All-contains (λ z. low.least ≤ℤ z) xs y low.each (contains_line false bounds point m other y there);
      side = from.at;
      there = from.is;
      distance = rw low.is refl;
    }
