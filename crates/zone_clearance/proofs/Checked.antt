-- A gap whose numbers are a claim: it holds exactly if the lines of the sides do.
use Rattle.std.proofs.Common.{◌≡◌, ◌≤◌, ◌⊎◌, ℕ, Bool, true, false, List, Option, Some, None, IsSomeAnd, ap, sym, subst, inl, inr, arith, ℤ, nat_abs}
use Rattle.std.proofs.lemmas.Bool.{cases_eq, false≢true}
use Rattle.rapid_num.specs.declared.joints.Joints.{Joints}
use Rattle.rapid_num.specs.declared.shape.Bound.{Bound}
use Rattle.rapid_num.specs.declared.shape.Shape.{Shape}
use Rattle.zone_clearance.specs.declared.check.claim.Claim.{Claim}
use Rattle.zone_clearance.specs.declared.gap.Gap.{Gap}
use Rattle.zone_clearance.specs.declared.line.Line.{Line}
use Rattle.zone_clearance.specs.declared.place.Place.{Place}
use Rattle.zone_clearance.specs.declared.side.Side.{Side}
use Rattle.zone_clearance.specs.Certificates.{PairProves, SideProves, SidesProve}
use Rattle.zone_clearance.specs.Claims.{AllPass, Arrives, IsClaimOf, IsFar, LinesProve, SomeArrives}
use Rattle.zone_clearance.specs.Gaps.{IsGap, IsLeastDistance}
use Rattle.zone_clearance.specs.Levels.{IsUnder}
use Rattle.zone_clearance.specs.SideLines.{IsLineOf}
use Rattle.zone_clearance.proofs.Holding.{ComesDown, DownWays, FarWays, down_of_least, down_outside, far_ways, holds_inside, holds_outside, near_way, under_of_least, ways_far}
use Rattle.zone_clearance.proofs.LeastDistances.{inner, outer}
use Rattle.zone_clearance.proofs.LineWays.{line_along, line_way, no_way}
use Rattle.zone_clearance.proofs.Proving.{first_way, lines_ways, pair_ways, second_way, ways_lines, ways_pair}
use Rattle.zone_clearance.proofs.Ways.{OnTheWay}

place_way : (place : Place) → OnTheWay place.top place.bottom
place_way place = record { some = place.some; whole = place.on_the_way }

-- what is said of the numbers of a gap, said of its claim
of_claim : (P : ℕ → ℕ → ℕ → ℕ → Type 0) (gap : Gap) (claim : Claim) → IsClaimOf gap claim → P claim.top claim.bottom claim.place.top claim.place.bottom → P (nat_abs gap.top) (nat_abs gap.bottom) (nat_abs gap.at_top) (nat_abs gap.at_bottom)
of_claim P gap claim is holds =
    subst (λ (t : ℕ). P t (nat_abs gap.bottom) (nat_abs gap.at_top) (nat_abs gap.at_bottom)) (sym (ap nat_abs is.top))
    (subst (λ (b : ℕ). P claim.top b (nat_abs gap.at_top) (nat_abs gap.at_bottom)) (sym (ap nat_abs is.bottom))
    (subst (λ (k : ℕ). P claim.top claim.bottom k (nat_abs gap.at_bottom)) (sym (ap nat_abs is.at_top))
    (subst (λ (m : ℕ). P claim.top claim.bottom claim.place.top m) (sym (ap nat_abs is.at_bottom)) holds)))

claim_of : (P : ℕ → ℕ → ℕ → ℕ → Type 0) (gap : Gap) (claim : Claim) → IsClaimOf gap claim → P (nat_abs gap.top) (nat_abs gap.bottom) (nat_abs gap.at_top) (nat_abs gap.at_bottom) → P claim.top claim.bottom claim.place.top claim.place.bottom
claim_of P gap claim is holds =
    subst (λ (t : ℕ). P t claim.bottom claim.place.top claim.place.bottom) (ap nat_abs is.top)
    (subst (λ (b : ℕ). P (nat_abs gap.top) b claim.place.top claim.place.bottom) (ap nat_abs is.bottom)
    (subst (λ (k : ℕ). P (nat_abs gap.top) (nat_abs gap.bottom) k claim.place.bottom) (ap nat_abs is.at_top)
    (subst (λ (m : ℕ). P (nat_abs gap.top) (nat_abs gap.bottom) (nat_abs gap.at_top) m) (ap nat_abs is.at_bottom) holds)))

comes_down : (claim : Claim) (s e : ℤ) → Arrives claim s e → ComesDown s e claim.top claim.bottom claim.place.top claim.place.bottom
comes_down claim s e arrives = record { above = arrives.above; down = arrives.down }

arrives_down : (claim : Claim) (s e : ℤ) → ComesDown s e claim.top claim.bottom claim.place.top claim.place.bottom → Arrives claim s e
arrives_down claim s e comes = record { above = comes.above; down = comes.down }

-- Inside
inside_least : (p q : Joints) (bounds : List (Option Bound)) (first second : Side) (one two : Line) (claim : Claim) → IsLineOf true p q bounds first (Some one) → IsLineOf true p q bounds second (Some two) → LinesProve one two claim.top claim.bottom → AllPass p q (inner bounds) claim → (claim.place.top ≡ 0) ⊎ SomeArrives p q (inner bounds) claim
    → IsLeastDistance p q (inner bounds) claim.top claim.bottom claim.place.top claim.place.bottom
inside_least p q bounds first second one two claim one_is two_is prove passes arrives =
    holds_inside p q bounds first second one.start one.end two.start two.end claim.top claim.bottom claim.place.top claim.place.bottom (place_way claim.place)
    (line_way true p q bounds first one one_is) (line_way true p q bounds second two two_is) (lines_ways one two claim.top claim.bottom prove) passes
    (elim arrives [
      | inl none ↦ inl none
      | inr some ↦ inr (record { side = some.side; start = some.start; end = some.end; way = some.way; down = comes_down claim some.start some.end some.arrives })
    ])

pair_of_lines : (p q : Joints) (bounds : List (Option Bound)) (first second : Side) (one two : Line) (t b : ℕ) → IsLineOf true p q bounds first (Some one) → IsLineOf true p q bounds second (Some two) → LinesProve one two t b → PairProves p q (inner bounds) first second t b
pair_of_lines p q bounds first second one two t b one_is two_is prove =
    ways_pair p q (inner bounds) first second one.start one.end two.start two.end t b (line_way true p q bounds first one one_is) (line_way true p q bounds second two two_is) (lines_ways one two t b prove)

inside_checked : (p q : Joints) (bounds : List (Option Bound)) (gap : Gap) (claim : Claim) (second : Side) (one two : Line) → gap.second ≡ Some second → IsClaimOf gap claim → IsLineOf true p q bounds gap.first (Some one) → IsLineOf true p q bounds second (Some two)
    → LinesProve one two claim.top claim.bottom → AllPass p q (inner bounds) claim → (claim.place.top ≡ 0) ⊎ SomeArrives p q (inner bounds) claim → IsGap p q (inner bounds) gap × SidesProve p q (inner bounds) gap
inside_checked p q bounds gap claim second one two is_second is one_is two_is prove passes arrives = (
  record {
    written = is.written;
    least = of_claim (λ t b k m. IsLeastDistance p q (inner bounds) t b k m) gap claim is (inside_least p q bounds gap.first second one two claim one_is two_is prove passes arrives);
  },
  subst (λ (o : Option Side). IsSomeAnd o (λ other. PairProves p q (inner bounds) gap.first other (nat_abs gap.top) (nat_abs gap.bottom))) (sym is_second)
      (of_claim (λ t b k m. PairProves p q (inner bounds) gap.first second t b) gap claim is (pair_of_lines p q bounds gap.first second one two claim.top claim.bottom one_is two_is prove)),
)

-- and what it needs
record NeedsInside (p q : Joints) (bounds : List (Option Bound)) (first second : Side) (claim : Claim) : Type 0 where
  least : IsLeastDistance p q (inner bounds) claim.top claim.bottom claim.place.top claim.place.bottom
  proves : PairProves p q (inner bounds) first second claim.top claim.bottom

needs_inside : (p q : Joints) (bounds : List (Option Bound)) (gap : Gap) (claim : Claim) (second : Side) → gap.second ≡ Some second → IsClaimOf gap claim → IsGap p q (inner bounds) gap × SidesProve p q (inner bounds) gap → NeedsInside p q bounds gap.first second claim
needs_inside p q bounds gap claim second is_second is holds = record {
  least = claim_of (λ t b k m. IsLeastDistance p q (inner bounds) t b k m) gap claim is holds.0.least;
  proves =
      claim_of (λ t b k m. PairProves p q (inner bounds) gap.first second t b) gap claim is
      (subst (λ (o : Option Side). IsSomeAnd o (λ other. PairProves p q (inner bounds) gap.first other (nat_abs gap.top) (nat_abs gap.bottom))) is_second holds.1);
}

lines_of_pair : (p q : Joints) (bounds : List (Option Bound)) (first second : Side) (one two : Line) (t b : ℕ) → IsLineOf true p q bounds first (Some one) → IsLineOf true p q bounds second (Some two) → PairProves p q (inner bounds) first second t b → LinesProve one two t b
lines_of_pair p q bounds first second one two t b one_is two_is proves =
    ways_lines one two t b
    (pair_ways p q (inner bounds) first second one.start one.end two.start two.end t b (line_way true p q bounds first one one_is) (line_way true p q bounds second two two_is) proves)

-- by the kind of the zone
abbrev shaped : Bool → List (Option Bound) → Shape
shaped inside bounds = record { inside = inside; bounds = bounds }

abbrev Holds : Joints → Joints → Shape → Gap → Type 0
Holds p q shape gap = IsGap p q shape gap × SidesProve p q shape gap

checked_by : (p q : Joints) (inside : Bool) (bounds : List (Option Bound)) (gap : Gap) (claim : Claim) (second : Side) (one two : Line) → inside ≡ true → gap.second ≡ Some second → IsClaimOf gap claim → IsLineOf inside p q bounds gap.first (Some one) → IsLineOf inside p q bounds second (Some two)
    → LinesProve one two claim.top claim.bottom → AllPass p q (shaped inside bounds) claim → (claim.place.top ≡ 0) ⊎ SomeArrives p q (shaped inside bounds) claim → Holds p q (shaped inside bounds) gap
checked_by p q true bounds gap claim second one two kind is_second is one_is two_is prove passes arrives = inside_checked p q bounds gap claim second one two is_second is one_is two_is prove passes arrives
checked_by p q false bounds gap claim second one two kind is_second is one_is two_is prove passes arrives = absurd (false≢true kind)

pub gap_inside : (p q : Joints) (shape : Shape) (gap : Gap) (claim : Claim) (second : Side) (one two : Line) → shape.inside ≡ true → gap.second ≡ Some second → IsClaimOf gap claim → IsLineOf shape.inside p q shape.bounds gap.first (Some one) → IsLineOf shape.inside p q shape.bounds second (Some two)
    → LinesProve one two claim.top claim.bottom → AllPass p q shape claim → (claim.place.top ≡ 0) ⊎ SomeArrives p q shape claim → Holds p q shape gap
gap_inside p q shape gap claim second one two kind is_second is one_is two_is prove passes arrives =
    checked_by p q shape.inside shape.bounds gap claim second one two kind is_second is one_is two_is prove passes arrives

-- a gap that holds: there is a second side, and each side has a line
second_by : (p q : Joints) (inside : Bool) (bounds : List (Option Bound)) (gap : Gap) → inside ≡ true → Holds p q (shaped inside bounds) gap → gap.second ≡ None → ⊥
second_by p q true bounds gap kind holds none = absurd (subst (λ (o : Option Side). IsSomeAnd o (λ other. PairProves p q (inner bounds) gap.first other (nat_abs gap.top) (nat_abs gap.bottom))) none holds.1)
second_by p q false bounds gap kind holds none = absurd (false≢true kind)

pub needs_second : (p q : Joints) (shape : Shape) (gap : Gap) → shape.inside ≡ true → Holds p q shape gap → gap.second ≡ None → ⊥
needs_second p q shape gap kind holds none = second_by p q shape.inside shape.bounds gap kind holds none

first_by : (p q : Joints) (inside : Bool) (bounds : List (Option Bound)) (gap : Gap) (claim : Claim) (second : Side) → inside ≡ true → gap.second ≡ Some second → IsClaimOf gap claim → Holds p q (shaped inside bounds) gap → IsLineOf inside p q bounds gap.first None → ⊥
first_by p q true bounds gap claim second kind is_second is holds none =
    let proves = (needs_inside p q bounds gap claim second is_second is holds).proves in
    let line = first_way p q (inner bounds) gap.first second claim.top claim.bottom proves in
    no_way true p q bounds gap.first line.start line.end none line.way
first_by p q false bounds gap claim second kind is_second is holds none = absurd (false≢true kind)

pub needs_first : (p q : Joints) (shape : Shape) (gap : Gap) (claim : Claim) (second : Side) → shape.inside ≡ true → gap.second ≡ Some second → IsClaimOf gap claim → Holds p q shape gap → IsLineOf shape.inside p q shape.bounds gap.first None → ⊥
needs_first p q shape gap claim second kind is_second is holds none = first_by p q shape.inside shape.bounds gap claim second kind is_second is holds none

other_by : (p q : Joints) (inside : Bool) (bounds : List (Option Bound)) (gap : Gap) (claim : Claim) (second : Side) → inside ≡ true → gap.second ≡ Some second → IsClaimOf gap claim → Holds p q (shaped inside bounds) gap → IsLineOf inside p q bounds second None → ⊥
other_by p q true bounds gap claim second kind is_second is holds none =
    let proves = (needs_inside p q bounds gap claim second is_second is holds).proves in
    let line = second_way p q (inner bounds) gap.first second claim.top claim.bottom proves in
    no_way true p q bounds second line.start line.end none line.way
other_by p q false bounds gap claim second kind is_second is holds none = absurd (false≢true kind)

pub needs_other : (p q : Joints) (shape : Shape) (gap : Gap) (claim : Claim) (second : Side) → shape.inside ≡ true → gap.second ≡ Some second → IsClaimOf gap claim → Holds p q shape gap → IsLineOf shape.inside p q shape.bounds second None → ⊥
needs_other p q shape gap claim second kind is_second is holds none = other_by p q shape.inside shape.bounds gap claim second kind is_second is holds none

-- its lines prove it, none contradicts it, and some line arrives
prove_by : (p q : Joints) (inside : Bool) (bounds : List (Option Bound)) (gap : Gap) (claim : Claim) (second : Side) (one two : Line) → inside ≡ true → gap.second ≡ Some second → IsClaimOf gap claim → IsLineOf inside p q bounds gap.first (Some one) → IsLineOf inside p q bounds second (Some two) → Holds p q (shaped inside bounds) gap
    → LinesProve one two claim.top claim.bottom
prove_by p q true bounds gap claim second one two kind is_second is one_is two_is holds =
    lines_of_pair p q bounds gap.first second one two claim.top claim.bottom one_is two_is (needs_inside p q bounds gap claim second is_second is holds).proves
prove_by p q false bounds gap claim second one two kind is_second is one_is two_is holds = absurd (false≢true kind)

pub needs_prove : (p q : Joints) (shape : Shape) (gap : Gap) (claim : Claim) (second : Side) (one two : Line) → shape.inside ≡ true → gap.second ≡ Some second → IsClaimOf gap claim → IsLineOf shape.inside p q shape.bounds gap.first (Some one) → IsLineOf shape.inside p q shape.bounds second (Some two) → Holds p q shape gap
    → LinesProve one two claim.top claim.bottom
needs_prove p q shape gap claim second one two kind is_second is one_is two_is holds = prove_by p q shape.inside shape.bounds gap claim second one two kind is_second is one_is two_is holds

pass_by : (p q : Joints) (inside : Bool) (bounds : List (Option Bound)) (gap : Gap) (claim : Claim) (second : Side) → inside ≡ true → gap.second ≡ Some second → IsClaimOf gap claim → Holds p q (shaped inside bounds) gap → AllPass p q (shaped inside bounds) claim
pass_by p q true bounds gap claim second kind is_second is holds =
    under_of_least p q bounds claim.top claim.bottom claim.place.top claim.place.bottom claim.place.on_the_way (needs_inside p q bounds gap claim second is_second is holds).least
pass_by p q false bounds gap claim second kind is_second is holds = absurd (false≢true kind)

pub needs_pass : (p q : Joints) (shape : Shape) (gap : Gap) (claim : Claim) (second : Side) → shape.inside ≡ true → gap.second ≡ Some second → IsClaimOf gap claim → Holds p q shape gap → AllPass p q shape claim
needs_pass p q shape gap claim second kind is_second is holds = pass_by p q shape.inside shape.bounds gap claim second kind is_second is holds

arrival_by : (p q : Joints) (inside : Bool) (bounds : List (Option Bound)) (gap : Gap) (claim : Claim) (second : Side) → inside ≡ true → gap.second ≡ Some second → IsClaimOf gap claim → Holds p q (shaped inside bounds) gap → 1 ≤ claim.place.top → ¬ SomeArrives p q (shaped inside bounds) claim → ⊥
arrival_by p q true bounds gap claim second kind is_second is holds some never =
    down_of_least p q bounds claim.top claim.bottom claim.place.top claim.place.bottom (place_way claim.place) some (needs_inside p q bounds gap claim second is_second is holds).least
    (λ down. never (record { side = down.side; start = down.start; end = down.end; way = down.way; arrives = arrives_down claim down.start down.end down.down }))
arrival_by p q false bounds gap claim second kind is_second is holds some never = absurd (false≢true kind)

pub needs_arrival : (p q : Joints) (shape : Shape) (gap : Gap) (claim : Claim) (second : Side) → shape.inside ≡ true → gap.second ≡ Some second → IsClaimOf gap claim → Holds p q shape gap → 1 ≤ claim.place.top → ¬ SomeArrives p q shape claim → ⊥
needs_arrival p q shape gap claim second kind is_second is holds some never = arrival_by p q shape.inside shape.bounds gap claim second kind is_second is holds some never

-- Outside
record PassesOutside (p q : Joints) (bounds : List (Option Bound)) (claim : Claim) : Type 0 where
  far : (claim.top ≡ 0) ⊎ FarWays p q bounds claim.top claim.bottom
  down : (claim.place.top ≡ 0) ⊎ DownWays p q bounds claim.top claim.bottom claim.place.top claim.place.bottom

passes_outside : (p q : Joints) (bounds : List (Option Bound)) (claim : Claim) → AllPass p q (outer bounds) claim → PassesOutside p q bounds claim
passes_outside p q bounds claim passes = record {
  far =
      elim (cases_eq claim.top 0) [
        | inl none ↦ inl none
        | inr some ↦ inr (λ side s e way. elim (passes side s e way).0 [ inl none ↦ absurd (some none) | inr far ↦ (far.at_start, far.at_end) ])
      ];
  down =
      elim (cases_eq claim.place.top 0) [
        | inl none ↦ inl none
        | inr some ↦ inr (λ side s e way. elim (passes side s e way).1 [ inl none ↦ absurd (some none) | inr arrives ↦ comes_down claim s e arrives ])
      ];
}

outside_checked : (p q : Joints) (bounds : List (Option Bound)) (gap : Gap) (claim : Claim) (line : Line) → gap.second ≡ None → IsClaimOf gap claim → IsLineOf false p q bounds gap.first (Some line) → IsUnder line.start line.end claim.top claim.bottom claim.place.top claim.place.bottom → AllPass p q (outer bounds) claim
    → Holds p q (outer bounds) gap
outside_checked p q bounds gap claim line alone is line_is under all =
    let passes = passes_outside p q bounds claim all in
    let way = line_way false p q bounds gap.first line line_is in (
      record {
        written = is.written;
        least =
            of_claim (λ t b k m. IsLeastDistance p q (outer bounds) t b k m) gap claim is
            (holds_outside p q bounds claim.top claim.bottom claim.place.top claim.place.bottom (place_way claim.place)
            (record { side = gap.first; start = line.start; end = line.end; way = way; under = under }) passes.far passes.down);
      },
      (
        alone,
        of_claim (λ t b k m. SideProves p q (outer bounds) gap.first t b k m) gap claim is
            (record {
              near = record { line = _; there = way.at claim.place.top claim.place.bottom claim.place.on_the_way; near = under.under };
              far = elim passes.far [ inl none ↦ inl none | inr far ↦ inr (ways_far p q bounds claim.top claim.bottom far) ];
            }),
      ),
    )

record NeedsOutside (p q : Joints) (bounds : List (Option Bound)) (first : Side) (claim : Claim) : Type 0 where
  least : IsLeastDistance p q (outer bounds) claim.top claim.bottom claim.place.top claim.place.bottom
  proves : SideProves p q (outer bounds) first claim.top claim.bottom claim.place.top claim.place.bottom

needs_outside : (p q : Joints) (bounds : List (Option Bound)) (gap : Gap) (claim : Claim) → IsClaimOf gap claim → Holds p q (outer bounds) gap → NeedsOutside p q bounds gap.first claim
needs_outside p q bounds gap claim is holds = record {
  least = claim_of (λ t b k m. IsLeastDistance p q (outer bounds) t b k m) gap claim is holds.0.least;
  proves = claim_of (λ t b k m. SideProves p q (outer bounds) gap.first t b k m) gap claim is holds.1.1;
}

outside_near : (p q : Joints) (bounds : List (Option Bound)) (gap : Gap) (claim : Claim) (line : Line) → IsClaimOf gap claim → IsLineOf false p q bounds gap.first (Some line) → Holds p q (outer bounds) gap → IsUnder line.start line.end claim.top claim.bottom claim.place.top claim.place.bottom
outside_near p q bounds gap claim line is line_is holds =
    let near = near_way p q bounds gap.first claim.top claim.bottom claim.place.top claim.place.bottom claim.place.on_the_way (needs_outside p q bounds gap claim is holds).proves.near in
    let along = line_along false p q bounds gap.first line near.start near.end line_is near.way in
    subst (λ (u : ℤ). IsUnder u line.end claim.top claim.bottom claim.place.top claim.place.bottom) (sym along.start_is)
    (subst (λ (v : ℤ). IsUnder near.start v claim.top claim.bottom claim.place.top claim.place.bottom) (sym along.end_is) near.under)

positive : (n : ℕ) → ¬ (n ≡ 0) → 1 ≤ n
positive n some = omega (arith, some)

outside_all : (p q : Joints) (bounds : List (Option Bound)) (gap : Gap) (claim : Claim) → IsClaimOf gap claim → Holds p q (outer bounds) gap → AllPass p q (outer bounds) claim
outside_all p q bounds gap claim is holds side s e way = (far, down)
  where
    needs : NeedsOutside p q bounds gap.first claim
    needs = needs_outside p q bounds gap claim is holds

    far : (claim.top ≡ 0) ⊎ IsFar claim s e
    far =
        elim needs.proves.far [
          | inl none ↦ inl none
          | inr ends ↦ let both = far_ways p q bounds claim.top claim.bottom ends side s e way in inr (record { at_start = both.0; at_end = both.1 })
        ]

    down : (claim.place.top ≡ 0) ⊎ Arrives claim s e
    down =
        elim (cases_eq claim.place.top 0) [
          | inl none ↦ inl none
          | inr some ↦ inr (arrives_down claim s e (down_outside p q bounds claim.top claim.bottom claim.place.top claim.place.bottom side s e (place_way claim.place) (positive claim.place.top some) needs.least way))
        ]

outside_line : (p q : Joints) (bounds : List (Option Bound)) (gap : Gap) (claim : Claim) → IsClaimOf gap claim → Holds p q (outer bounds) gap → IsLineOf false p q bounds gap.first None → ⊥
outside_line p q bounds gap claim is holds none =
    let near = near_way p q bounds gap.first claim.top claim.bottom claim.place.top claim.place.bottom claim.place.on_the_way (needs_outside p q bounds gap claim is holds).proves.near in
    no_way false p q bounds gap.first near.start near.end none near.way

-- by the kind of the zone
out_by : (p q : Joints) (inside : Bool) (bounds : List (Option Bound)) (gap : Gap) (claim : Claim) (line : Line) → inside ≡ false → gap.second ≡ None → IsClaimOf gap claim → IsLineOf inside p q bounds gap.first (Some line)
    → IsUnder line.start line.end claim.top claim.bottom claim.place.top claim.place.bottom → AllPass p q (shaped inside bounds) claim → Holds p q (shaped inside bounds) gap
out_by p q false bounds gap claim line kind alone is line_is under passes = outside_checked p q bounds gap claim line alone is line_is under passes
out_by p q true bounds gap claim line kind alone is line_is under passes = absurd (false≢true (sym kind))

pub gap_outside : (p q : Joints) (shape : Shape) (gap : Gap) (claim : Claim) (line : Line) → shape.inside ≡ false → gap.second ≡ None → IsClaimOf gap claim → IsLineOf shape.inside p q shape.bounds gap.first (Some line)
    → IsUnder line.start line.end claim.top claim.bottom claim.place.top claim.place.bottom → AllPass p q shape claim → Holds p q shape gap
gap_outside p q shape gap claim line kind alone is line_is under passes = out_by p q shape.inside shape.bounds gap claim line kind alone is line_is under passes

alone_by : (p q : Joints) (inside : Bool) (bounds : List (Option Bound)) (gap : Gap) → inside ≡ false → Holds p q (shaped inside bounds) gap → gap.second ≡ None
alone_by p q false bounds gap kind holds = holds.1.0
alone_by p q true bounds gap kind holds = absurd (false≢true (sym kind))

pub needs_alone : (p q : Joints) (shape : Shape) (gap : Gap) → shape.inside ≡ false → Holds p q shape gap → gap.second ≡ None
needs_alone p q shape gap kind holds = alone_by p q shape.inside shape.bounds gap kind holds

line_by : (p q : Joints) (inside : Bool) (bounds : List (Option Bound)) (gap : Gap) (claim : Claim) → inside ≡ false → IsClaimOf gap claim → Holds p q (shaped inside bounds) gap → IsLineOf inside p q bounds gap.first None → ⊥
line_by p q false bounds gap claim kind is holds none = outside_line p q bounds gap claim is holds none
line_by p q true bounds gap claim kind is holds none = absurd (false≢true (sym kind))

pub needs_line : (p q : Joints) (shape : Shape) (gap : Gap) (claim : Claim) → shape.inside ≡ false → IsClaimOf gap claim → Holds p q shape gap → IsLineOf shape.inside p q shape.bounds gap.first None → ⊥
needs_line p q shape gap claim kind is holds none = line_by p q shape.inside shape.bounds gap claim kind is holds none

near_by : (p q : Joints) (inside : Bool) (bounds : List (Option Bound)) (gap : Gap) (claim : Claim) (line : Line) → inside ≡ false → IsClaimOf gap claim → IsLineOf inside p q bounds gap.first (Some line) → Holds p q (shaped inside bounds) gap
    → IsUnder line.start line.end claim.top claim.bottom claim.place.top claim.place.bottom
near_by p q false bounds gap claim line kind is line_is holds = outside_near p q bounds gap claim line is line_is holds
near_by p q true bounds gap claim line kind is line_is holds = absurd (false≢true (sym kind))

pub needs_near : (p q : Joints) (shape : Shape) (gap : Gap) (claim : Claim) (line : Line) → shape.inside ≡ false → IsClaimOf gap claim → IsLineOf shape.inside p q shape.bounds gap.first (Some line) → Holds p q shape gap
    → IsUnder line.start line.end claim.top claim.bottom claim.place.top claim.place.bottom
needs_near p q shape gap claim line kind is line_is holds = near_by p q shape.inside shape.bounds gap claim line kind is line_is holds

all_by : (p q : Joints) (inside : Bool) (bounds : List (Option Bound)) (gap : Gap) (claim : Claim) → inside ≡ false → IsClaimOf gap claim → Holds p q (shaped inside bounds) gap → AllPass p q (shaped inside bounds) claim
all_by p q false bounds gap claim kind is holds = outside_all p q bounds gap claim is holds
all_by p q true bounds gap claim kind is holds = absurd (false≢true (sym kind))

pub needs_all : (p q : Joints) (shape : Shape) (gap : Gap) (claim : Claim) → shape.inside ≡ false → IsClaimOf gap claim → Holds p q shape gap → AllPass p q shape claim
needs_all p q shape gap claim kind is holds = all_by p q shape.inside shape.bounds gap claim kind is holds
