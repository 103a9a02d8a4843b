-- The definitions on moves worked out by hand.
use Rattle.std.proofs.Common.{◌≡◌, refl, [], ◌∷◌, ℤ, pos, negsuc, replicate, ◌++◌}
use Rattle.rapid_num.specs.declared.joints.Joints.{Joints}
use Rattle.joint_planner.specs.Setpoints.{setpoint_count, setpoint, greatest_change, step_of}

-- three angles, the other three at zero, and no external axis
abbrev angles : ℤ → ℤ → ℤ → Joints
angles a b c = record { axis = (a ∷ b ∷ c ∷ pos 0 ∷ pos 0 ∷ pos 0 ∷ []) ++ replicate 6 (pos 9_000_000_000_000) }

abbrev zero_angles : Joints
zero_angles = angles (pos 0) (pos 0) (pos 0)

-- two and a half degrees at one degree per setpoint: 0.8333, 1.6666 and 2.5
abbrev turned : Joints
turned = angles (pos 2500) (pos 0) (pos 0)

turned_count : setpoint_count 6 zero_angles turned 1000 ≡ 3
unfolding greatest_change
turned_count = refl

turned_first : setpoint 6 zero_angles turned 3 1 ≡ angles (pos 833) (pos 0) (pos 0)
unfolding step_of
turned_first = refl

turned_second : setpoint 6 zero_angles turned 3 2 ≡ angles (pos 1667) (pos 0) (pos 0)
unfolding step_of
turned_second = refl

turned_last : setpoint 6 zero_angles turned 3 3 ≡ turned
unfolding step_of
turned_last = refl

-- half a thousandth rounds away from zero, on both sides
abbrev halves : Joints
halves = angles (pos 2000) (pos 1) (negsuc 0)

halves_count : setpoint_count 6 zero_angles halves 1000 ≡ 2
unfolding greatest_change
halves_count = refl

halves_first : setpoint 6 zero_angles halves 2 1 ≡ angles (pos 1000) (pos 1) (negsuc 0)
unfolding step_of
halves_first = refl

halves_last : setpoint 6 zero_angles halves 2 2 ≡ halves
unfolding step_of
halves_last = refl

-- a move to the current position has one setpoint
still_count : setpoint_count 6 zero_angles zero_angles 1000 ≡ 1
unfolding greatest_change
still_count = refl

still_only : setpoint 6 zero_angles zero_angles 1 1 ≡ zero_angles
unfolding step_of
still_only = refl

-- external axes do not move, whatever the target says
external_stay : setpoint 6 zero_angles (record { axis = pos 2500 ∷ replicate 11 (pos 0) }) 3 3 ≡ turned
unfolding step_of
external_stay = refl

-- an arm with seven axes moves the seventh too, which may need the most setpoints
abbrev seven : ℤ → ℤ → Joints
seven a g = record { axis = (a ∷ pos 0 ∷ pos 0 ∷ pos 0 ∷ pos 0 ∷ pos 0 ∷ g ∷ []) ++ replicate 5 (pos 9_000_000_000_000) }

seventh_count : setpoint_count 7 (seven (pos 0) (pos 0)) (seven (pos 1000) (pos 3000)) 1000 ≡ 3
unfolding greatest_change
seventh_count = refl

seventh_first : setpoint 7 (seven (pos 0) (pos 0)) (seven (pos 1000) (pos 3000)) 3 1 ≡ seven (pos 333) (pos 1000)
unfolding step_of
seventh_first = refl
