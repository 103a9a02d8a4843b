-- Setpoints on worked examples: while the output is set, a zone of the cell from 0.5 to 1.5 degrees watches axis 1 of
-- task A.
use Rattle.std.proofs.Common.{◌≡◌, ℕ, zero, suc, ◌-◌, Bool, true, false, [], ◌∷◌, get_or, replicate, Some, None, refl, subst, arith}
use Rattle.std.specs.Prelude.{IsTrue, ◌==◌, codes, pos, if◌then◌else◌}
use Rattle.std.proofs.lemmas.Bool.{ltb-true}
use Rattle.std.proofs.lemmas.Int.{ints}
use Rattle.rapid_num.specs.declared.shape.Bound.{Bound}
use Rattle.rapid_num.specs.declared.shape.Shape.{Shape}
use Rattle.joint_clip.specs.Touches.{IsWithin, LiesInside, point_at}
use Rattle.rapid_model.specs.CellData.{CellData}
use Rattle.rapid_model.specs.declared.answer.Answer.TheVariants as answers
use Rattle.rapid_model.specs.declared.event.Event.{Event}
use Rattle.rapid_model.specs.declared.request.Request.TheVariants as requests
use Rattle.rapid_model.specs.declared.zone_name.ZoneName.{ZoneName}
use Rattle.rapid_model.specs.declared.zone_name.ZoneName.TheVariants.{Own, Cell}
use Rattle.joint_clip.proofs.Axes.{none_named}
use Rattle.world_zones.specs.Touched.{comes_before, IsTouched}
use Rattle.world_zones.specs.Zones.{no_zones, own_shape, zone_at}
use Rattle.cell_meaning.specs.Answers.{IsAnswer}
use Rattle.cell_meaning.specs.Stored.{signals_after}
use Rattle.cell_meaning.specs.Zones.{zones_after}
use Rattle.cell_meaning.proofs.ExampleCell.{joints_at, cell, cleared}
use Rattle.cell_meaning.proofs.MoreEvents.{event}

abbrev near_one : Shape
near_one = record { inside = true; bounds = Some (record { low = pos 500; high = pos 1500 }) ∷ replicate 11 None }

abbrev zoned : CellData
zoned = record cell { zones = record { name = codes "z1"; task = 0; shape = near_one; signal = 1; value = true } ∷ [] }

-- the end of the way from 0 to 1 degree is in the zone
end_inside : LiesInside near_one.bounds (point_at (joints_at (pos 0)) (joints_at (pos 1000)) 1 1) 1
end_inside zero b named =
    let bound : Bound = record { low = pos 500; high = pos 1500 } in
    let same : bound ≡ b = cc in
    subst (λ (x : Bound). IsWithin x (point_at (joints_at (pos 0)) (joints_at (pos 1000)) 1 1 0) 1) same (record { low = omega (arith, ints); high = omega (arith, ints) })
end_inside (suc axis) b named = absurd (none_named 11 axis b named)

-- the arm has no zone of its own
nowhere : (count index : ℕ) → own_shape (get_or (replicate count None) index None) ≡ None
nowhere zero index = refl
nowhere (suc count) zero = refl
nowhere (suc count) (suc index) = nowhere count index

no_own : (number : ℕ) → own_shape (zone_at no_zones number) ≡ None
no_own number = by (number == 0)
  where
    by : (b : Bool) → own_shape (if b then None else get_or no_zones (number - 1) None) ≡ None
    by true = refl
    by false = nowhere 10 (number - 1)

-- a move that ends in the zone is stopped by it
stops : IsAnswer zoned [] 0 (requests.Setpoint (joints_at (pos 1000))) (answers.Stopped (Cell 0))
stops = record {
  touched = record { shape = near_one; is = refl; touched = record { k = 1; m = 1; whole = omega arith; on_the_way = omega arith; holds = end_inside } };
  first = earlier;
}
  where
    earlier : (other : ZoneName) → IsTrue (comes_before other (Cell 0)) → ¬ IsTouched (zones_after zoned []) 0 (signals_after zoned []) (joints_at (pos 0)) (joints_at (pos 1000)) other
    earlier (Own number) before touched = let none = no_own number in let is = touched.is in let no : ⊥ = cc in no
    earlier (Cell number) before touched = let below = ltb-true number 0 before in absurd (omega arith)

-- once the output is cleared, the zone no longer watches
goes : IsAnswer zoned (cleared ∷ []) 0 (requests.Setpoint (joints_at (pos 1000))) answers.Given
goes = untouched
  where
    untouched : (name : ZoneName) → ¬ IsTouched (zones_after zoned (cleared ∷ [])) 0 (signals_after zoned (cleared ∷ [])) (joints_at (pos 0)) (joints_at (pos 1000)) name
    untouched (Own number) touched = let none = no_own number in let is = touched.is in let no : ⊥ = cc in no
    untouched (Cell zero) touched = let is = touched.is in let no : ⊥ = cc in no
    untouched (Cell (suc number)) touched = let is = touched.is in let no : ⊥ = cc in no

-- if the move touches both a zone of the task's own and one of the cell, the task's own stops it
abbrev supervised_too : Event
supervised_too = event 0 (requests.ZoneSet 0 true near_one) (answers.Number 1)

own_comes_first : IsAnswer zoned (supervised_too ∷ []) 0 (requests.Setpoint (joints_at (pos 1000))) (answers.Stopped (Own 1))
own_comes_first = record {
  touched = record { shape = near_one; is = refl; touched = record { k = 1; m = 1; whole = omega arith; on_the_way = omega arith; holds = end_inside } };
  first = earlier;
}
  where
    earlier : (other : ZoneName) → IsTrue (comes_before other (Own 1)) → ¬ IsTouched (zones_after zoned (supervised_too ∷ [])) 0 (signals_after zoned (supervised_too ∷ [])) (joints_at (pos 0)) (joints_at (pos 1000)) other
    earlier (Own zero) before touched = let is = touched.is in let no : ⊥ = cc in no
    earlier (Own (suc number)) before touched = let below = ltb-true (suc number) 1 before in absurd (omega arith)
    earlier (Cell number) before touched = cc

not_the_cell_s : ¬ IsAnswer zoned (supervised_too ∷ []) 0 (requests.Setpoint (joints_at (pos 1000))) (answers.Stopped (Cell 0))
not_the_cell_s stops = stops.first (Own 1) refl own_comes_first.touched
