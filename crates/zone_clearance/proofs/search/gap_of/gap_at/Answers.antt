use Rattle.std.proofs.Common.{◌≡◌, ◌≤◌, ◌*◌, ℕ, ◌∙◌, arith, ℤ, pos, ◌≤ℤ◌, to_z, of_z, FitsSigned}
use Rattle.std.specs.Int.{IsGcd, w128}
use Rattle.std.proofs.Math.Nat.{le_of_mul-le-mul_right, mul-le-mul_right}
use Rattle.std.proofs.lemmas.Int.{ints, to_z-of_z}
use Rattle.zone_clearance.specs.Gaps.{IsInLowestTerms}
use Rattle.zone_clearance.proofs.search.gap_of.gap_at.Goals as goal

lowest_of : (top bottom : ℤ) (t b : ℕ) → top ≡ pos t → bottom ≡ pos b → 1 ≤ b → IsGcd t b 1 → IsInLowestTerms top bottom
lowest_of top bottom t b one two some lowest = rw (one, two) (record { not_negative = omega (arith, ints); positive = omega (arith, ints, some); lowest = lowest })

le_of : (top bottom : ℤ) (t b : ℕ) → top ≡ pos t → bottom ≡ pos b → t ≤ b → top ≤ℤ bottom
le_of top bottom t b one two le = omega (arith, ints, one, two, le)

-- a fraction of the way is one in lowest terms too
still_on_the_way : (t b k m : ℕ) → 1 ≤ m → k ≤ m → t * m ≡ k * b → t ≤ b
still_on_the_way t b k m some way same =
    let product : t * m ≤ b * m = omega (arith, same, mul-le-mul_right b way) in
    le_of_mul-le-mul_right {m = t} {n = b} {k = m} product some

value : (x : ℤ) (n : ℕ) → FitsSigned w128 x → x ≡ pos n → to_z w128 (of_z w128 x) ≡ pos n
value x n fits is = to_z-of_z w128 x fits ∙ is

pub returns-clause-written : goal.returns-clause-written
returns-clause-written c =
    let distance = c.in_lowest_terms-distance in
    let at = c.in_lowest_terms-at in
    let top = value c.from.result distance.result.top (record { sfits = c.from.type_inv }) c.from.ensures in
    let bottom = value c.from-2.result distance.result.bottom (record { sfits = c.from-2.type_inv }) c.from-2.ensures in
    let at_top = value c.from-3.result at.result.top (record { sfits = c.from-3.type_inv }) c.from-3.ensures in
    let at_bottom = value c.from-4.result at.result.bottom (record { sfits = c.from-4.type_inv }) c.from-4.ensures in
    record {
      distance = lowest_of _ _ distance.result.top distance.result.bottom top bottom distance.result.some distance.result.lowest;
      place = lowest_of _ _ at.result.top at.result.bottom at_top at_bottom at.result.some at.result.lowest;
      on_the_way = le_of _ _ at.result.top at.result.bottom at_top at_bottom (still_on_the_way at.result.top at.result.bottom c.args.place.top c.args.place.bottom c.args.place.some c.args.place.on_the_way at.ensures.same);
    }
