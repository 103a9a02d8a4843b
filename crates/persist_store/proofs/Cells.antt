-- A part of a value in the rows is itself a value in the rows, and is written there.
use Rattle.std.proofs.Common.{◌≡◌, ℕ, ◌+◌, ◌-◌, ◌<◌, ◌≤◌, true, false, ◌&&◌, ℤ, pos, List, [], ◌∷◌, ◌++◌, length, take, drop, get_or, Some, option_map, nat_le, nat_lt, refl, sym, ap, ◌∙◌, add-zero, lit≤, lit<, ◌==◌, arith}
use Rattle.std.proofs.lemmas.Bool.{and_parts, eqb-true, eq-eqb, false≢true, le-ltb, leb-true, lt-ltb, ltb-true}
use Rattle.std.proofs.lemmas.List.{append-nil, drop-drop, drop-take, drop_all, get_or-set_same, take-take}
use Rattle.std.proofs.lemmas.Option.{none-some, slice_get-get_or}
use Rattle.rapid_model.specs.Paths.{has_sort, part_sort}
use Rattle.rapid_model.specs.Sorts.{has_values}
use Rattle.rapid_model.specs.declared.part_name.PartName.{PartName}
use Rattle.rapid_model.specs.declared.part_name.PartName.TheVariants as parts
use Rattle.rapid_model.specs.declared.sort.Sort.{Sort}
use Rattle.rapid_model.specs.declared.sort.Sort.TheVariants as sorts
use Rattle.rapid_model.specs.declared.value.Value.{Value}
use Rattle.rapid_model.specs.declared.value.Value.TheVariants as values
use Rattle.rapid_values.specs.Values.{num_at, part_of, put_part, with_axes, with_num}
use Rattle.rapid_values.proofs.Changed.{some_same}
use Rattle.persist_store.specs.Rows.{IsWithin, RowsData, kind, offset_in, sort_in, span, spliced, value_at, window, written}
use Rattle.persist_store.proofs.PartsFit.{chosen}
use Rattle.persist_store.proofs.Splices.{among, get_or-window, length-window, window-within}

-- a part that a type has lies within a value of the type

pub record FitsIn (sort : Sort) (part : PartName) : Type 0 where
  pub same_row : kind (sort_in sort part) ≡ kind sort
  pub within : offset_in sort part + span (sort_in sort part) ≤ span sort

axis_fits : (sort inner : Sort) (i : ℕ) → part_sort sort (parts.Axis i) ≡ Some inner → FitsIn sort (parts.Axis i)
axis_fits sorts.JointTarget inner i is =
    let below : i < 12 = ltb-true i 12 (chosen (nat_lt i 12) inner is).0 in
    record { same_row = refl; within = omega arith }
axis_fits sorts.RobJoint inner i is =
    let below : i < 6 = ltb-true i 6 (chosen (nat_lt i 6) inner is).0 in
    record { same_row = refl; within = omega arith }
axis_fits sorts.ExtJoint inner i is =
    let bounds = and_parts (nat_le 6 i) (nat_lt i 12) (chosen (nat_le 6 i && nat_lt i 12) inner is).0 in
    let from : 6 ≤ i = leb-true 6 i bounds.0 in
    let below : i < 12 = ltb-true i 12 bounds.1 in
    record { same_row = refl; within = omega arith }
axis_fits _ inner i is = absurd (none-some _ is)

speed_fits : (sort inner : Sort) (i : ℕ) → part_sort sort (parts.SpeedPart i) ≡ Some inner → FitsIn sort (parts.SpeedPart i)
speed_fits sorts.SpeedData inner i is =
    let below : i < 4 = ltb-true i 4 (chosen (nat_lt i 4) inner is).0 in
    record { same_row = refl; within = omega arith }
speed_fits _ inner i is = absurd (none-some _ is)

robax_fits : (sort inner : Sort) → part_sort sort parts.Robax ≡ Some inner → FitsIn sort parts.Robax
robax_fits sorts.JointTarget inner is = record { same_row = refl; within = lit≤ tt }
robax_fits _ inner is = absurd (none-some _ is)

extax_fits : (sort inner : Sort) → part_sort sort parts.Extax ≡ Some inner → FitsIn sort parts.Extax
extax_fits sorts.JointTarget inner is = record { same_row = refl; within = lit≤ tt }
extax_fits _ inner is = absurd (none-some _ is)

taskname_fits : (sort inner : Sort) → part_sort sort parts.Taskname ≡ Some inner → FitsIn sort parts.Taskname
taskname_fits sorts.Tasks inner is = record { same_row = refl; within = lit≤ tt }
taskname_fits _ inner is = absurd (none-some _ is)

pub part_fits : (sort inner : Sort) (part : PartName) → part_sort sort part ≡ Some inner → FitsIn sort part
part_fits sort inner parts.Whole is = record { same_row = refl; within = omega arith }
part_fits sort inner parts.Robax is = robax_fits sort inner is
part_fits sort inner parts.Extax is = extax_fits sort inner is
part_fits sort inner (parts.Axis i) is = axis_fits sort inner i is
part_fits sort inner (parts.SpeedPart i) is = speed_fits sort inner i is
part_fits sort inner parts.Taskname is = taskname_fits sort inner is

-- and its type is the one that the rows have there
pub sort_of_part : (sort inner : Sort) (part : PartName) → part_sort sort part ≡ Some inner → sort_in sort part ≡ inner
sort_of_part sort inner parts.Whole is = some_same is
sort_of_part sorts.JointTarget inner parts.Robax is = some_same is
sort_of_part sorts.JointTarget inner parts.Extax is = some_same is
sort_of_part sorts.JointTarget inner (parts.Axis i) is = (chosen (nat_lt i 12) inner is).1
sort_of_part sorts.RobJoint inner (parts.Axis i) is = (chosen (nat_lt i 6) inner is).1
sort_of_part sorts.ExtJoint inner (parts.Axis i) is = (chosen (nat_le 6 i && nat_lt i 12) inner is).1
sort_of_part sorts.SpeedData inner (parts.SpeedPart i) is = (chosen (nat_lt i 4) inner is).1
sort_of_part sorts.Tasks inner parts.Taskname is = some_same is
sort_of_part _ inner _ is = absurd (none-some _ is)

-- reading

num_of_window : (nums : List ℤ) (at w i : ℕ) → at + w ≤ length nums → i < w → num_at (window at w nums) i ≡ Some (values.Num (get_or nums (at + i) (pos 0)))
num_of_window nums at w i there below =
    let long : length (window at w nums) ≡ w = length-window at w nums there in
    ap (option_map values.Num) (slice_get-get_or (window at w nums) i (pos 0) (omega arith) ∙ ap Some (get_or-window at w nums i (pos 0) below))

part_axis : (rows : RowsData) (sort inner : Sort) (i at : ℕ) → part_sort sort (parts.Axis i) ≡ Some inner → IsWithin rows sort at
    → part_of (value_at rows sort at) (parts.Axis i) ≡ Some (value_at rows sorts.Num (at + offset_in sort (parts.Axis i)))
part_axis rows sorts.JointTarget inner i at is there = num_of_window rows.nums at 12 i there (ltb-true i 12 (chosen (nat_lt i 12) inner is).0)
part_axis rows sorts.RobJoint inner i at is there = num_of_window rows.nums at 6 i there (ltb-true i 6 (chosen (nat_lt i 6) inner is).0)
part_axis rows sorts.ExtJoint inner i at is there =
    let bounds = and_parts (nat_le 6 i) (nat_lt i 12) (chosen (nat_le 6 i && nat_lt i 12) inner is).0 in
    let from : 6 ≤ i = leb-true 6 i bounds.0 in
    let below : i < 12 = ltb-true i 12 bounds.1 in
    let high : nat_lt i 6 ≡ false = le-ltb i 6 from in
    rw high (num_of_window rows.nums at 6 (i - 6) there (omega arith))
part_axis rows _ inner i at is there = absurd (none-some _ is)

part_speed : (rows : RowsData) (sort inner : Sort) (i at : ℕ) → part_sort sort (parts.SpeedPart i) ≡ Some inner → IsWithin rows sort at
    → part_of (value_at rows sort at) (parts.SpeedPart i) ≡ Some (value_at rows sorts.Num (at + offset_in sort (parts.SpeedPart i)))
part_speed rows sorts.SpeedData inner i at is there = num_of_window rows.nums at 4 i there (ltb-true i 4 (chosen (nat_lt i 4) inner is).0)
part_speed rows _ inner i at is there = absurd (none-some _ is)

part_robax : (rows : RowsData) (sort inner : Sort) (at : ℕ) → part_sort sort parts.Robax ≡ Some inner → part_of (value_at rows sort at) parts.Robax ≡ Some (value_at rows sorts.RobJoint (at + 0))
part_robax rows sorts.JointTarget inner at is = rw add-zero (ap (λ axes. Some (values.Rob axes)) (take-take 6 12 (drop at rows.nums) (lit≤ tt)))
part_robax rows _ inner at is = absurd (none-some _ is)

part_extax : (rows : RowsData) (sort inner : Sort) (at : ℕ) → part_sort sort parts.Extax ≡ Some inner → part_of (value_at rows sort at) parts.Extax ≡ Some (value_at rows sorts.ExtJoint (at + 6))
part_extax rows sorts.JointTarget inner at is = ap (λ axes. Some (values.Ext axes)) (drop-take 6 6 (drop at rows.nums) ∙ ap (take 6) (drop-drop 6 at rows.nums))
part_extax rows _ inner at is = absurd (none-some _ is)

part_taskname : (rows : RowsData) (sort inner : Sort) (at : ℕ) → part_sort sort parts.Taskname ≡ Some inner → part_of (value_at rows sort at) parts.Taskname ≡ Some (value_at rows sorts.Text (at + 0))
part_taskname rows sorts.Tasks inner at is = rw add-zero refl
part_taskname rows _ inner at is = absurd (none-some _ is)

pub part_at : (rows : RowsData) (sort inner : Sort) (part : PartName) (at : ℕ) → part_sort sort part ≡ Some inner → IsWithin rows sort at
    → part_of (value_at rows sort at) part ≡ Some (value_at rows (sort_in sort part) (at + offset_in sort part))
part_at rows sort inner parts.Whole at is there = rw add-zero refl
part_at rows sort inner parts.Robax at is there = part_robax rows sort inner at is
part_at rows sort inner parts.Extax at is there = part_extax rows sort inner at is
part_at rows sort inner (parts.Axis i) at is there = part_axis rows sort inner i at is there
part_at rows sort inner (parts.SpeedPart i) at is there = part_speed rows sort inner i at is there
part_at rows sort inner parts.Taskname at is there = part_taskname rows sort inner at is

-- a value has its type: as many nums as the type says

long_window : (at w : ℕ) (nums : List ℤ) → at + w ≤ length nums → (length (window at w nums) == w) ≡ true
long_window at w nums there = eq-eqb (length (window at w nums)) w (length-window at w nums there)

pub sort_at : (rows : RowsData) (sort : Sort) (at : ℕ) → has_values sort ≡ true → IsWithin rows sort at → has_sort sort (value_at rows sort at) ≡ true
sort_at rows sorts.Num at has there = refl
sort_at rows sorts.Bool at has there = refl
sort_at rows sorts.Text at has there = refl
sort_at rows sorts.Tasks at has there = refl
sort_at rows sorts.RobJoint at has there = long_window at 6 rows.nums there
sort_at rows sorts.ExtJoint at has there = long_window at 6 rows.nums there
sort_at rows sorts.JointTarget at has there = long_window at 12 rows.nums there
sort_at rows sorts.SpeedData at has there = long_window at 4 rows.nums there
sort_at rows _ at has there = absurd (false≢true has)

-- writing: a whole value

all_written : (nums ys : List ℤ) (at w : ℕ) → at + w ≤ length nums → (length ys == w) ≡ true → window at w (spliced nums (at + 0) ys) ≡ ys
all_written nums ys at w there full =
    let many : length ys ≡ w = eqb-true (length ys) w full in
    let own : length (window at w nums) ≡ w = length-window at w nums there in
    let rest : drop (0 + length ys) (window at w nums) ≡ [] = drop_all (0 + length ys) (window at w nums) (omega arith) in
    window-within nums at w 0 (at + 0) ys there (omega arith) refl ∙ ap (λ zs. ys ++ zs) rest ∙ append-nil ys

num_written : (nums : List ℤ) (n : ℤ) (at : ℕ) → at + 1 ≤ length nums → get_or (spliced nums (at + 0) (n ∷ [])) at (pos 0) ≡ n
num_written nums n at there = among nums (at + 0) (n ∷ []) 0 at (pos 0) (omega arith) (omega arith) (lit< tt)

whole_at : (rows : RowsData) (sort : Sort) (at : ℕ) (value : Value) → has_sort sort value ≡ true → IsWithin rows sort at → value_at (written rows (at + 0) value) sort at ≡ value
whole_at rows sorts.Num at (values.Num n) has there = ap values.Num (num_written rows.nums n at there)
whole_at rows sorts.Bool at (values.Bool b) has there = rw add-zero (ap values.Bool (get_or-set_same rows.bools at b false (omega arith)))
whole_at rows sorts.Text at (values.Text t) has there = rw add-zero (ap values.Text (get_or-set_same rows.texts at t [] (omega arith)))
whole_at rows sorts.Tasks at (values.Text t) has there = rw add-zero (ap values.Text (get_or-set_same rows.texts at t [] (omega arith)))
whole_at rows sorts.RobJoint at (values.Rob axes) has there = ap values.Rob (all_written rows.nums axes at 6 there has)
whole_at rows sorts.ExtJoint at (values.Ext axes) has there = ap values.Ext (all_written rows.nums axes at 6 there has)
whole_at rows sorts.JointTarget at (values.Target joints) has there = ap with_axes (all_written rows.nums joints.axis at 12 there has)
whole_at rows sorts.SpeedData at (values.Speed nums) has there = ap values.Speed (all_written rows.nums nums at 4 there has)
whole_at rows _ at _ has there = absurd (false≢true has)

-- writing: one num of some

one_written : (nums : List ℤ) (n : ℤ) (at w i : ℕ) → at + w ≤ length nums → i < w → with_num (window at w nums) i (values.Num n) ≡ Some (window at w (spliced nums (at + i) (n ∷ [])))
one_written nums n at w i there below =
    let own : length (window at w nums) ≡ w = length-window at w nums there in
    let within : nat_lt i (length (window at w nums)) ≡ true = lt-ltb i (length (window at w nums)) (omega arith) in
    rw within (ap Some (sym (window-within nums at w i (at + i) (n ∷ []) there (omega arith) refl)))

put_axis : (rows : RowsData) (sort inner : Sort) (i at : ℕ) (value : Value) → part_sort sort (parts.Axis i) ≡ Some inner → has_sort sorts.Num value ≡ true → IsWithin rows sort at
    → put_part (value_at rows sort at) (parts.Axis i) value ≡ Some (value_at (written rows (at + offset_in sort (parts.Axis i)) value) sort at)
put_axis rows sorts.JointTarget inner i at (values.Num n) is has there = ap (option_map with_axes) (one_written rows.nums n at 12 i there (ltb-true i 12 (chosen (nat_lt i 12) inner is).0))
put_axis rows sorts.RobJoint inner i at (values.Num n) is has there = ap (option_map values.Rob) (one_written rows.nums n at 6 i there (ltb-true i 6 (chosen (nat_lt i 6) inner is).0))
put_axis rows sorts.ExtJoint inner i at (values.Num n) is has there =
    let bounds = and_parts (nat_le 6 i) (nat_lt i 12) (chosen (nat_le 6 i && nat_lt i 12) inner is).0 in
    let from : 6 ≤ i = leb-true 6 i bounds.0 in
    let below : i < 12 = ltb-true i 12 bounds.1 in
    let high : nat_lt i 6 ≡ false = le-ltb i 6 from in
    rw high (ap (option_map values.Ext) (one_written rows.nums n at 6 (i - 6) there (omega arith)))
put_axis rows sorts.JointTarget inner i at _ is has there = absurd (false≢true has)
put_axis rows sorts.RobJoint inner i at _ is has there = absurd (false≢true has)
put_axis rows sorts.ExtJoint inner i at _ is has there = absurd (false≢true has)
put_axis rows _ inner i at value is has there = absurd (none-some _ is)

put_speed : (rows : RowsData) (sort inner : Sort) (i at : ℕ) (value : Value) → part_sort sort (parts.SpeedPart i) ≡ Some inner → has_sort sorts.Num value ≡ true → IsWithin rows sort at
    → put_part (value_at rows sort at) (parts.SpeedPart i) value ≡ Some (value_at (written rows (at + offset_in sort (parts.SpeedPart i)) value) sort at)
put_speed rows sorts.SpeedData inner i at (values.Num n) is has there = ap (option_map values.Speed) (one_written rows.nums n at 4 i there (ltb-true i 4 (chosen (nat_lt i 4) inner is).0))
put_speed rows sorts.SpeedData inner i at _ is has there = absurd (false≢true has)
put_speed rows _ inner i at value is has there = absurd (none-some _ is)

-- writing: one half of a target

put_robax : (rows : RowsData) (sort inner : Sort) (at : ℕ) (value : Value) → part_sort sort parts.Robax ≡ Some inner → has_sort sorts.RobJoint value ≡ true → IsWithin rows sort at
    → put_part (value_at rows sort at) parts.Robax value ≡ Some (value_at (written rows (at + 0) value) sort at)
put_robax rows sorts.JointTarget inner at (values.Rob axes) is has there =
    let six : length axes ≡ 6 = eqb-true (length axes) 6 has in
    let whole : window at 12 (spliced rows.nums (at + 0) axes) ≡ spliced (window at 12 rows.nums) 0 axes = window-within rows.nums at 12 0 (at + 0) axes there (omega arith) refl in
    let rest : 0 + length axes ≡ 6 = omega arith in
    ap (λ nums. Some (with_axes nums)) (ap (λ n. axes ++ drop n (window at 12 rows.nums)) (sym rest) ∙ sym whole)
put_robax rows sorts.JointTarget inner at _ is has there = absurd (false≢true has)
put_robax rows _ inner at value is has there = absurd (none-some _ is)

put_extax : (rows : RowsData) (sort inner : Sort) (at : ℕ) (value : Value) → part_sort sort parts.Extax ≡ Some inner → has_sort sorts.ExtJoint value ≡ true → IsWithin rows sort at
    → put_part (value_at rows sort at) parts.Extax value ≡ Some (value_at (written rows (at + 6) value) sort at)
put_extax rows sorts.JointTarget inner at (values.Ext axes) is has there =
    let six : length axes ≡ 6 = eqb-true (length axes) 6 has in
    let own : length (window at 12 rows.nums) ≡ 12 = length-window at 12 rows.nums there in
    let whole : window at 12 (spliced rows.nums (at + 6) axes) ≡ spliced (window at 12 rows.nums) 6 axes = window-within rows.nums at 12 6 (at + 6) axes there (omega arith) refl in
    let rest : drop (6 + length axes) (window at 12 rows.nums) ≡ [] = drop_all (6 + length axes) (window at 12 rows.nums) (omega arith) in
    let end : axes ++ drop (6 + length axes) (window at 12 rows.nums) ≡ axes = ap (λ zs. axes ++ zs) rest ∙ append-nil axes in
    ap (λ nums. Some (with_axes nums)) (ap (λ zs. take 6 (window at 12 rows.nums) ++ zs) (sym end) ∙ sym whole)
put_extax rows sorts.JointTarget inner at _ is has there = absurd (false≢true has)
put_extax rows _ inner at value is has there = absurd (none-some _ is)

put_taskname : (rows : RowsData) (sort inner : Sort) (at : ℕ) (value : Value) → part_sort sort parts.Taskname ≡ Some inner → has_sort sorts.Text value ≡ true → IsWithin rows sort at
    → put_part (value_at rows sort at) parts.Taskname value ≡ Some (value_at (written rows (at + 0) value) sort at)
put_taskname rows sorts.Tasks inner at (values.Text t) is has there = ap Some (sym (whole_at rows sorts.Tasks at (values.Text t) has there))
put_taskname rows sorts.Tasks inner at _ is has there = absurd (false≢true has)
put_taskname rows _ inner at value is has there = absurd (none-some _ is)

pub put_at : (rows : RowsData) (sort inner : Sort) (part : PartName) (at : ℕ) (value : Value) → part_sort sort part ≡ Some inner → has_sort (sort_in sort part) value ≡ true → IsWithin rows sort at
    → put_part (value_at rows sort at) part value ≡ Some (value_at (written rows (at + offset_in sort part) value) sort at)
put_at rows sort inner parts.Whole at value is has there = ap Some (sym (whole_at rows sort at value has there))
put_at rows sort inner parts.Robax at value is has there = put_robax rows sort inner at value is has there
put_at rows sort inner parts.Extax at value is has there = put_extax rows sort inner at value is has there
put_at rows sort inner (parts.Axis i) at value is has there = put_axis rows sort inner i at value is has there
put_at rows sort inner (parts.SpeedPart i) at value is has there = put_speed rows sort inner i at value is has there
put_at rows sort inner parts.Taskname at value is has there = put_taskname rows sort inner at value is has there
