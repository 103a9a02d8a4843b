-- Angles that are in reach of some axis, and what is read of them.
use Rattle.std.proofs.Common.{◌≡◌, ℕ, ◌+◌, ◌-◌, Bool, true, false, ◌&&◌, nat_le, nat_lt, ℤ, List, [], ◌∷◌, ◌++◌, length, drop, Option, Some, None, Ok, Err, if◌then◌else◌, refl, ap, arith}
use Rattle.std.specs.Prelude.{pos, negsuc, nat_abs}
use Rattle.std.specs.List.{list_all}
use Rattle.std.proofs.lemmas.Bool.{and_parts, and_from, leb-true, le-leb}
use Rattle.std.proofs.lemmas.List.{drop-replicate}
use Rattle.toml.specs.Data.{Data, as_integer}
use Rattle.rapid_num.specs.Absent.{absent}
use Rattle.rapid_num.specs.Reach.{is_in_reach, are_in_reach}
use Rattle.rapid_num.specs.declared.joints.Joints.{Joints}
use Rattle.rapid_model.specs.Limits.{is_within}
use Rattle.rapid_model.specs.ScriptData.{takes_axes}
use Rattle.rapid_model.specs.declared.script_rule.ScriptRule.TheVariants.{Range}
use Rattle.rule_checks.specs.Checks.{◌>>=◌, ◌>>◌, must}
use Rattle.cell_script.specs.Break.{Read, at_key}
use Rattle.cell_script.specs.Keys.{list_at}
use Rattle.cell_script.specs.Parts.{is_angle, angles_in}
use Rattle.cell_script.specs.Rows.{is_arm, start_at, arm_of, arm_at, is_in_reach_of, are_bounds, bounds_at}

near : (n : ℕ) (b : Bool) → nat_le n (if b then 720_000 else 100_000_000) ≡ true → nat_le n 100_000_000 ≡ true
near n true h = le-leb n 100_000_000 (omega (arith, leb-true n 720_000 h))
near n false h = h

angle_of : (axis : ℕ) (angle : ℤ) → is_in_reach axis angle ≡ true → is_angle angle ≡ true
angle_of axis angle h = near (nat_abs angle) (nat_lt axis 6) h

all_angles : (axis : ℕ) (angles : List ℤ) → are_in_reach axis angles ≡ true → list_all is_angle angles ≡ true
all_angles axis [] h = refl
all_angles axis (angle ∷ angles) h =
    let parts = and_parts (is_in_reach axis angle) (are_in_reach (axis + 1) angles) h in
    and_from (is_angle angle) (list_all is_angle angles) (angle_of axis angle parts.0) (all_angles (axis + 1) angles parts.1)

arm_angles : (version : ℕ) (angles : List ℤ) → is_arm version angles ≡ true → list_all is_angle angles ≡ true
arm_angles version angles h =
    all_angles 0 angles (and_parts (is_within 6 12 (length angles) && takes_axes version (length angles)) (are_in_reach 0 angles) h).1

of_axis : (a angle : ℤ) → is_in_reach_of a angle ≡ true → is_angle angle ≡ true
of_axis (pos a) angle h = angle_of (a - 1) angle h
of_axis (negsuc a) angle h = angle_of 0 angle h

bounds_angles : (axes bounds : List ℤ) → are_bounds axes bounds ≡ true → list_all is_angle bounds ≡ true
bounds_angles [] [] h = refl
bounds_angles [] (bound ∷ bounds) h = absurd cc
bounds_angles (a ∷ axes) [] h = absurd cc
bounds_angles (a ∷ axes) (bound ∷ bounds) h =
    let parts = and_parts (is_in_reach_of a bound) (are_bounds axes bounds) h in
    and_from (is_angle bound) (list_all is_angle bounds) (of_axis a bound parts.0) (bounds_angles axes bounds parts.1)

-- what is read of integers that are all angles; of others, the range is broken
abbrev pub given : {B : Type 0} → List ℕ → (List ℤ → Bool) → (List ℤ → B) → Option (List ℤ) → Read B
given key test value None = Err (at_key key Range)
given key test value (Some angles) = must (test angles) (at_key key Range) >> Ok (value angles)

given_by : {B : Type 0} (key : List ℕ) (test : List ℤ → Bool) (value : List ℤ → B) (read : Read (List ℤ)) (o : Option (List ℤ)) → ((xs : List ℤ) → test xs ≡ true → list_all is_angle xs ≡ true)
    → (read >>= (λ xs. Ok (if list_all is_angle xs then Some xs else None))) ≡ Ok o → (read >>= (λ xs. must (test xs) (at_key key Range) >> Ok (value xs))) ≡ given key test value o
given_by key test value (Err b) o far is = absurd cc
given_by key test value (Ok xs) o far is = by_all (list_all is_angle xs) refl cc
  where
    by_test : (b : Bool) → test xs ≡ b → list_all is_angle xs ≡ false → (must b (at_key key Range) >> Ok (value xs)) ≡ Err (at_key key Range)
    by_test true passes not_all = absurd (cc (far xs passes))
    by_test false passes not_all = refl

    by_all : (b : Bool) → list_all is_angle xs ≡ b → (if b then Some xs else None) ≡ o → (must (test xs) (at_key key Range) >> Ok (value xs)) ≡ given key test value o
    by_all true all same = rw (← same) refl
    by_all false all same = rw (← same) (by_test (test xs) refl all)

pub arm_by : (version : ℕ) (key : List ℕ) (d : Data) (o : Option (List ℤ)) → angles_in key d ≡ Ok o → arm_at version key d ≡ given key (is_arm version) arm_of o
arm_by version key d o is = given_by key (is_arm version) arm_of (list_at key as_integer d) o (arm_angles version) is

pub bounds_by : (key : List ℕ) (axes : List ℤ) (d : Data) (o : Option (List ℤ)) → angles_in key d ≡ Ok o → bounds_at key axes d ≡ given key (are_bounds axes) (λ bounds. bounds) o
bounds_by key axes d o is = given_by key (are_bounds axes) (λ bounds. bounds) (list_at key as_integer d) o (bounds_angles axes) is

-- twelve axes: angles that were copied onto absent ones

abbrev joints_of : List ℤ → Joints
joints_of axis = record { axis = axis }

pub start_is : (angles copied : List ℤ) (x : ℤ) → copied ≡ angles → x ≡ absent → joints_of (copied ++ drop (length angles) (x ∷ x ∷ x ∷ x ∷ x ∷ x ∷ x ∷ x ∷ x ∷ x ∷ x ∷ x ∷ [])) ≡ start_at angles
start_is angles copied x same is = rw (same, is) (ap (λ back. joints_of (angles ++ back)) (drop-replicate (length angles) 12 absent))
