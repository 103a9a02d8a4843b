-- The first zone that stops a segment, and the zone that its name stands for.
use Rattle.std.proofs.Common.{◌≡◌, ◌≤◌, ◌⊎◌, inl, inr, ℕ, zero, suc, ◌+◌, ◌-◌, ◌<◌, Bool, true, List, Option, None, Some, IsTrue, length, slice_index_or, slice_get, nat_lt, refl, arith}
use Rattle.std.proofs.lemmas.Bool.{cases_lt, false≢true}
use Rattle.std.proofs.lemmas.Bool.Decides.{nat_tests}
use Rattle.std.proofs.Math.Dec.{eqb-suc-zero}
use Rattle.std.proofs.Math.ListN.{get_or-eq_default}
use Rattle.std.proofs.Math.Numerals.{add-one}
use Rattle.rapid_num.specs.declared.joints.Joints.{Joints}
use Rattle.rapid_model.specs.declared.zone_name.ZoneName.{ZoneName}
use Rattle.rapid_model.specs.declared.zone_name.ZoneName.TheVariants.{Own, Cell}
use Rattle.world_zones.specs.declared.cell_zone.CellZone.{CellZone}
use Rattle.world_zones.specs.declared.own_zone.OwnZone.{OwnZone}
use Rattle.world_zones.specs.First.{Stops}
use Rattle.world_zones.specs.Touched.{IsTouched, IsFirstTouched, comes_before}
use Rattle.world_zones.specs.Zones.{ZonesData, arm_at, own_shape, shape_of_cell, zone_at}

-- the number at an index
zone_at-next : (zones : List (Option OwnZone)) (index : ℕ) → zone_at zones (suc index) ≡ slice_index_or zones index None
zone_at-next zones index =
    let same : suc index - 1 ≡ index = omega arith in
    rw (eqb-suc-zero index, same) refl

nothing-stops : (p q : Joints) → ¬ Stops p q None
nothing-stops p q s = absurd (none-some s.is)
  where
    none-some : {X : Type 0} {x : X} → None ≡ Some x → ⊥
    none-some e = cc

-- past the end there is no zone
pub none-past : (p q : Joints) (zones : List (Option OwnZone)) (end : ℕ) → length zones ≤ end
    → ((k : ℕ) → k < end → ¬ Stops p q (own_shape (slice_index_or zones k None))) → (k : ℕ) → ¬ Stops p q (own_shape (slice_index_or zones k None))
none-past p q zones end few before k s = either (cases_lt k end)
  where
    past : end ≤ k → slice_index_or zones k None ≡ None
    past h = get_or-eq_default zones None {n = k} (omega arith)

    either : (k < end) ⊎ (end ≤ k) → ⊥
    either (inl h) = before k h s
    either (inr h) = nothing-stops p q (rw (past h) at s)

module _ (arm : List (Option OwnZone)) (cells : List CellZone) (zones : ZonesData) (task : ℕ) (signals : List Bool) (p q : Joints) (is_arm : arm ≡ arm_at zones task) (is_cell : cells ≡ zones.cell) where
  no_own : (end : ℕ) → ((k : ℕ) → k < end → ¬ Stops p q (own_shape (slice_index_or arm k None))) → (number : ℕ) → number < end + 1 → ¬ IsTouched zones task signals p q (Own number)
  no_own end before zero h s = nothing-stops p q s
  no_own end before (suc k) h s = before k (omega arith) (rw (is_arm) (rw (zone_at-next (arm_at zones task) k) at s))

  before_own : (end number : ℕ) → nat_lt number end ≡ true → number < end
  before_own end number h = grind (arith, nat_tests)

  pub first-own : (index : ℕ) → Stops p q (own_shape (slice_index_or arm index None)) × ((k : ℕ) → k < index → ¬ Stops p q (own_shape (slice_index_or arm k None)))
      → IsFirstTouched zones task signals p q (Own (index + 1))
  first-own index found = record {
    touched = rw (add-one, zone_at-next (arm_at zones task) index, ← is_arm) found.0;
    first = earlier;
  }
    where
      earlier : (other : ZoneName) → IsTrue (comes_before other (Own (index + 1))) → ¬ IsTouched zones task signals p q other
      earlier (Own number) h = no_own index found.1 number (before_own (index + 1) number h)
      earlier (Cell k) h = absurd (false≢true h)

  pub first-cell : ((k : ℕ) → ¬ Stops p q (own_shape (slice_index_or arm k None))) → (index : ℕ)
      → Stops p q (shape_of_cell task signals (slice_get cells index)) × ((k : ℕ) → k < index → ¬ Stops p q (shape_of_cell task signals (slice_get cells k)))
      → IsFirstTouched zones task signals p q (Cell index)
  first-cell own index found = record { touched = rw (← is_cell) found.0; first = earlier }
    where
      earlier : (other : ZoneName) → IsTrue (comes_before other (Cell index)) → ¬ IsTouched zones task signals p q other
      earlier (Own number) h s = no_own number (λ k _. own k) number (omega arith) s
      earlier (Cell k) h s = found.1 k (before_own index k h) (rw (is_cell) s)

  pub none-touched : ((k : ℕ) → ¬ Stops p q (own_shape (slice_index_or arm k None))) → ((k : ℕ) → ¬ Stops p q (shape_of_cell task signals (slice_get cells k)))
      → (name : ZoneName) → ¬ IsTouched zones task signals p q name
  none-touched own cell (Own number) s = no_own number (λ k _. own k) number (omega arith) s
  none-touched own cell (Cell k) s = cell k (rw (is_cell) s)
