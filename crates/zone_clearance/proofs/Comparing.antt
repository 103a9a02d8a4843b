-- The comparisons of a claim with a line, as the code makes them.
use Rattle.std.proofs.Common.{◌≡◌, ◌≤◌, ◌<◌, ◌*◌, ◌/◌, ◌^◌, ◌↔◌, ℕ, true, leb, ap, sym, ◌∙◌, subst, ℤ, pos, nat_abs, ◌≤ℤ◌, to_z, of_z}
use Rattle.std.specs.Int.{div_ceil, w128}
use Rattle.joint_clip.specs.Touches.{way_at}
use Rattle.zone_clearance.specs.Levels.{IsOver, IsUnder}
use Rattle.zone_clearance.proofs.Wide.{quotient_over, quotient_under, way_read}

-- a line at a place, and its size, as they were read
pub record IsWayRead (s e : ℤ) (k m : ℕ) (way : ℤ) (size : ℕ) : Type 0 where
  pub small_start : nat_abs s ≤ 200_000_000
  pub small_end : nat_abs e ≤ 200_000_000
  pub on_the_way : k ≤ m
  pub few : m < 2 ^ 60
  pub is : way ≡ way_at s e k m
  pub size_is : size ≡ nat_abs (to_z w128 (of_z w128 way))
  pub above : pos 0 ≤ℤ to_z w128 (of_z w128 way)

read_is : (s e : ℤ) (k m : ℕ) (way : ℤ) (size : ℕ) → IsWayRead s e k m way size → to_z w128 (of_z w128 way) ≡ way_at s e k m
read_is s e k m way size read = way_read way s e k m read.small_start read.small_end read.on_the_way read.few read.is

read_above : (s e : ℤ) (k m : ℕ) (way : ℤ) (size : ℕ) → IsWayRead s e k m way size → pos 0 ≤ℤ way_at s e k m
read_above s e k m way size read =
    subst (λ (x : ℤ). pos 0 ≤ℤ x) (read_is s e k m way size read) read.above

read_size : (s e : ℤ) (k m : ℕ) (way : ℤ) (size : ℕ) → IsWayRead s e k m way size → size ≡ nat_abs (way_at s e k m)
read_size s e k m way size read = read.size_is ∙ ap nat_abs (read_is s e k m way size read)

pub under_read : (s e : ℤ) (t b k m : ℕ) (way : ℤ) (size l d : ℕ) → IsWayRead s e k m way size → 1 ≤ b → l ≡ t * m → d ≡ b → (leb size (l / d) ≡ true) ↔ IsUnder s e t b k m
under_read s e t b k m way size l d read some reach bottom =
    let test = quotient_under (way_at s e k m) b (t * m) some (read_above s e k m way size read) in
    let same : leb size (l / d) ≡ leb (nat_abs (way_at s e k m)) (t * m / b) =
    ap (λ (n : ℕ). leb n (l / d)) (read_size s e k m way size read) ∙ ap (λ (n : ℕ). leb (nat_abs (way_at s e k m)) (n / d)) reach ∙ ap (λ (n : ℕ). leb (nat_abs (way_at s e k m)) (t * m / n)) bottom
    in
    (λ is. record { under = test.0 (sym same ∙ is) }, λ under. same ∙ test.1 under.under)

pub over_read : (s e : ℤ) (t b k m : ℕ) (way : ℤ) (size l d c : ℕ) → IsWayRead s e k m way size → 1 ≤ b → l ≡ t * m → d ≡ b → c ≡ div_ceil l d → (leb c size ≡ true) ↔ IsOver s e t b k m
over_read s e t b k m way size l d c read some reach bottom ceil =
    let test = quotient_over (way_at s e k m) b (t * m) some (read_above s e k m way size read) in
    let same : leb c size ≡ leb (div_ceil (t * m) b) (nat_abs (way_at s e k m)) =
    ap (λ (n : ℕ). leb n size) (ceil ∙ ap (λ (n : ℕ). div_ceil n d) reach ∙ ap (λ (n : ℕ). div_ceil (t * m) n) bottom) ∙ ap (λ (n : ℕ). leb (div_ceil (t * m) b) n) (read_size s e k m way size read)
    in
    (λ is. record { over = test.0 (sym same ∙ is) }, λ over. same ∙ test.1 over.over)
