-- Values with one part replaced.
use Rattle.std.proofs.Common.{◌≡◌, ℕ, zero, suc, ◌+◌, ◌-◌, ◌<◌, ◌≤◌, Bool, true, false, if◌then◌else◌, ℤ, List, [], ◌∷◌, ◌++◌, length, take, drop, slice_get, slice_set, Option, None, Some, option_map, nat_lt, nat_eq, refl, sym, ap, ◌∙◌, subst, arith, add-one, length-append, length-take, length-drop}
use Rattle.std.proofs.lemmas.Bool.{ltb-true, ltb-false, eqb-true}
use Rattle.std.proofs.Math.Seq.{take-append_seam, drop-append_seam}
use Rattle.std.proofs.lemmas.List.{set_split, length-set, get_or-set_same}
use Rattle.std.proofs.lemmas.Option.{slice_get-get_or, none-some}
use Rattle.std.specs.Option.{unwrap_or}
use Rattle.rapid_model.specs.declared.value.Value.{Value}
use Rattle.rapid_model.specs.declared.value.Value.TheVariants as values
use Rattle.rapid_model.specs.declared.part_name.PartName.{PartName}
use Rattle.rapid_model.specs.declared.part_name.PartName.TheVariants as parts
use Rattle.rapid_model.specs.Lengths.{is_full}
use Rattle.rapid_values.specs.Values.{num_at, part_of, put_part, with_axes, with_num}

pub some_same : {A : Type 0} {x y : A} → Some x ≡ Some y → x ≡ y
some_same {x = x} is = ap (λ o. unwrap_or o x) is

-- the element at any other index of a list is unchanged
other_index : (xs : List ℤ) (i j : ℕ) (n : ℤ) → (i ≡ j → ⊥) → slice_get (slice_set xs i n) j ≡ slice_get xs j
other_index [] i j n ne = refl
other_index (x ∷ xs) zero zero n ne = absurd (ne refl)
other_index (x ∷ xs) zero (suc j) n ne = refl
other_index (x ∷ xs) (suc i) zero n ne = refl
other_index (x ∷ xs) (suc i) (suc j) n ne = other_index xs i j n (λ e. ne (ap suc e))

-- a list with a num written is the old list, set at an index that it has
written : (nums : List ℤ) (i : ℕ) (new : Value) (ns : List ℤ) → with_num nums i new ≡ Some ns → (n : ℤ) × (new ≡ values.Num n) × (i < length nums) × (ns ≡ slice_set nums i n)
written nums i (values.Num n) ns is =
    let at : (within : Bool) → nat_lt i (length nums) ≡ within → (if within then Some (take i nums ++ n ∷ drop (i + 1) nums) else None) ≡ Some ns → (m : ℤ) × (values.Num n ≡ values.Num m) × (i < length nums) × (ns ≡ slice_set nums i m) =
    λ within. elim within as (λ within. nat_lt i (length nums) ≡ within → (if within then Some (take i nums ++ n ∷ drop (i + 1) nums) else None) ≡ Some ns → (m : ℤ) × (values.Num n ≡ values.Num m) × (i < length nums) × (ns ≡ slice_set nums i m)) [
      | true ↦ λ lt is. (n, refl, ltb-true i (length nums) lt, sym (some_same is) ∙ rw (add-one i) (sym (set_split nums i n (ltb-true i (length nums) lt))))
      | false ↦ λ _ is. absurd (none-some _ is)
    ]
    in
    at (nat_lt i (length nums)) refl is
written nums i _ ns is = absurd (none-some _ is)

set_there : (nums : List ℤ) (i : ℕ) (n : ℤ) → i < length nums → num_at (slice_set nums i n) i ≡ Some (values.Num n)
set_there nums i n lt =
    let within : i < length (slice_set nums i n) = rw (length-set nums i n) lt in
    ap (option_map values.Num) (slice_get-get_or (slice_set nums i n) i n within ∙ ap Some (get_or-set_same nums i n n lt))

num_there : (nums : List ℤ) (i : ℕ) (new : Value) (ns : List ℤ) → with_num nums i new ≡ Some ns → num_at ns i ≡ Some new
num_there nums i new ns is =
    let w = written nums i new ns is in
    ap (λ l. num_at l i) w.3 ∙ set_there nums i w.0 w.2 ∙ ap Some (sym w.1)

num_other : (nums : List ℤ) (i j : ℕ) (new : Value) (ns : List ℤ) → (i ≡ j → ⊥) → with_num nums i new ≡ Some ns → num_at ns j ≡ num_at nums j
num_other nums i j new ns ne is =
    let w = written nums i new ns is in
    ap (λ l. num_at l j) w.3 ∙ ap (option_map values.Num) (other_index nums i j w.0 ne)

num_length : (nums : List ℤ) (i : ℕ) (new : Value) (ns : List ℤ) → with_num nums i new ≡ Some ns → length ns ≡ length nums
num_length nums i new ns is =
    let w = written nums i new ns is in
    ap length w.3 ∙ length-set nums i w.0

-- the option that was mapped
pub mapped : {A B : Type 0} (f : A → B) (r : Option A) (y : B) → option_map f r ≡ Some y → (x : A) × (r ≡ Some x) × (y ≡ f x)
mapped f None y is = absurd (none-some _ is)
mapped f (Some x) y is = (x, refl, sym (some_same is))

-- a choice that is Some did not take its None
high_axis : {A : Type 0} (low : Bool) (r : Option A) (y : A) → (if low then None else r) ≡ Some y → (low ≡ false) × (r ≡ Some y)
high_axis true r y is = absurd (none-some _ is)
high_axis false r y is = (refl, is)

there_high : (ns : List ℤ) (i : ℕ) (new : Value) → nat_lt i 6 ≡ false → num_at ns (i - 6) ≡ Some new → (if nat_lt i 6 then None else num_at ns (i - 6)) ≡ Some new
there_high ns i new high is = rw high is

there_axis : (v w new : Value) (i : ℕ) → put_part v (parts.Axis i) new ≡ Some w → part_of w (parts.Axis i) ≡ Some new
there_axis (values.Target joints) w new i is =
    let m = mapped with_axes (with_num joints.axis i new) w is in
    ap (λ x. part_of x (parts.Axis i)) m.2 ∙ num_there joints.axis i new m.0 m.1
there_axis (values.Rob axes) w new i is =
    let m = mapped (λ ns. values.Rob ns) (with_num axes i new) w is in
    ap (λ x. part_of x (parts.Axis i)) m.2 ∙ num_there axes i new m.0 m.1
there_axis (values.Ext axes) w new i is =
    let high = high_axis (nat_lt i 6) (option_map values.Ext (with_num axes (i - 6) new)) w is in
    let m = mapped (λ ns. values.Ext ns) (with_num axes (i - 6) new) w high.1 in
    ap (λ x. part_of x (parts.Axis i)) m.2 ∙ there_high m.0 i new high.0 (num_there axes (i - 6) new m.0 m.1)
there_axis _ w new i is = absurd (none-some _ is)

there_speed : (v w new : Value) (i : ℕ) → put_part v (parts.SpeedPart i) new ≡ Some w → part_of w (parts.SpeedPart i) ≡ Some new
there_speed (values.Speed nums) w new i is =
    let m = mapped (λ ns. values.Speed ns) (with_num nums i new) w is in
    ap (λ x. part_of x (parts.SpeedPart i)) m.2 ∙ num_there nums i new m.0 m.1
there_speed _ w new i is = absurd (none-some _ is)

there_taskname : (v w new : Value) → put_part v parts.Taskname new ≡ Some w → part_of w parts.Taskname ≡ Some new
there_taskname (values.Text text) w (values.Text new) is = sym (ap (λ x. part_of x parts.Taskname) (some_same is))
there_taskname _ w _ is = absurd (none-some _ is)

there_robax : (v w new : Value) → is_full new ≡ true → put_part v parts.Robax new ≡ Some w → part_of w parts.Robax ≡ Some new
there_robax (values.Target joints) w (values.Rob axes) full is =
    let six : length axes ≡ 6 = eqb-true (length axes) 6 full in
    let front : take 6 (axes ++ drop 6 joints.axis) ≡ axes = subst (λ n. take n (axes ++ drop 6 joints.axis) ≡ axes) six (take-append_seam axes (drop 6 joints.axis)) in
    sym (ap (λ x. part_of x parts.Robax) (some_same is)) ∙ ap (λ l. Some (values.Rob l)) front
there_robax _ w _ full is = absurd (none-some _ is)

there_extax : (v w new : Value) → is_full v ≡ true → put_part v parts.Extax new ≡ Some w → part_of w parts.Extax ≡ Some new
there_extax (values.Target joints) w (values.Ext axes) full is =
    let twelve : length joints.axis ≡ 12 = eqb-true (length joints.axis) 12 full in
    let six : length (take 6 joints.axis) ≡ 6 = rw (length-take 6 joints.axis, twelve) refl in
    let back : drop 6 (take 6 joints.axis ++ axes) ≡ axes = subst (λ n. drop n (take 6 joints.axis ++ axes) ≡ axes) six (drop-append_seam (take 6 joints.axis) axes) in
    sym (ap (λ x. part_of x parts.Extax) (some_same is)) ∙ ap (λ l. Some (values.Ext l)) back
there_extax _ w _ full is = absurd (none-some _ is)

whole : (v w new : Value) → put_part v parts.Whole new ≡ Some w → new ≡ w
whole v w new is = some_same is

pub put_there : (v w new : Value) (p : PartName) → is_full v ≡ true → is_full new ≡ true → put_part v p new ≡ Some w → part_of w p ≡ Some new
put_there v w new parts.Whole full_v full_new is = sym (ap Some (whole v w new is))
put_there v w new parts.Robax full_v full_new is = there_robax v w new full_new is
put_there v w new parts.Extax full_v full_new is = there_extax v w new full_v is
put_there v w new (parts.Axis i) full_v full_new is = there_axis v w new i is
put_there v w new (parts.SpeedPart i) full_v full_new is = there_speed v w new i is
put_there v w new parts.Taskname full_v full_new is = there_taskname v w new is

other_high : (axes ns : List ℤ) (new : Value) (j k : ℕ) → (j ≡ k → ⊥) → 6 ≤ j → with_num axes (j - 6) new ≡ Some ns →
    (if nat_lt k 6 then None else num_at ns (k - 6)) ≡ (if nat_lt k 6 then None else num_at axes (k - 6))
other_high axes ns new j k ne high is =
    let at : (low : Bool) → nat_lt k 6 ≡ low → (if low then None else num_at ns (k - 6)) ≡ (if low then None else num_at axes (k - 6)) =
    λ low. elim low as (λ low. nat_lt k 6 ≡ low → (if low then None else num_at ns (k - 6)) ≡ (if low then None else num_at axes (k - 6))) [
      | true ↦ λ _. refl
      | false ↦ λ is_high.
          let high_k : 6 ≤ k = ltb-false k 6 is_high in
          num_other axes (j - 6) (k - 6) new ns (λ e. ne (omega arith)) is
    ]
    in
    at (nat_lt k 6) refl

pub other_axes : (v w new : Value) (j k : ℕ) → (j ≡ k → ⊥) → put_part v (parts.Axis j) new ≡ Some w → part_of w (parts.Axis k) ≡ part_of v (parts.Axis k)
other_axes (values.Target joints) w new j k ne is =
    let m = mapped with_axes (with_num joints.axis j new) w is in
    ap (λ x. part_of x (parts.Axis k)) m.2 ∙ num_other joints.axis j k new m.0 ne m.1
other_axes (values.Rob axes) w new j k ne is =
    let m = mapped (λ ns. values.Rob ns) (with_num axes j new) w is in
    ap (λ x. part_of x (parts.Axis k)) m.2 ∙ num_other axes j k new m.0 ne m.1
other_axes (values.Ext axes) w new j k ne is =
    let high = high_axis (nat_lt j 6) (option_map values.Ext (with_num axes (j - 6) new)) w is in
    let m = mapped (λ ns. values.Ext ns) (with_num axes (j - 6) new) w high.1 in
    ap (λ x. part_of x (parts.Axis k)) m.2 ∙ other_high axes m.0 new j k ne (ltb-false j 6 high.0) m.1
other_axes _ w new j k ne is = absurd (none-some _ is)

-- replacing robax keeps the external axes
keeps_extax : (v w new : Value) → is_full new ≡ true → put_part v parts.Robax new ≡ Some w → part_of w parts.Extax ≡ part_of v parts.Extax
keeps_extax (values.Target joints) w (values.Rob axes) full is =
    let six : length axes ≡ 6 = eqb-true (length axes) 6 full in
    let back : drop 6 (axes ++ drop 6 joints.axis) ≡ drop 6 joints.axis = subst (λ n. drop n (axes ++ drop 6 joints.axis) ≡ drop 6 joints.axis) six (drop-append_seam axes (drop 6 joints.axis)) in
    sym (ap (λ x. part_of x parts.Extax) (some_same is)) ∙ ap (λ l. Some (values.Ext l)) back
keeps_extax _ w _ full is = absurd (none-some _ is)

-- replacing extax keeps the robot axes
keeps_robax : (v w new : Value) → is_full v ≡ true → put_part v parts.Extax new ≡ Some w → part_of w parts.Robax ≡ part_of v parts.Robax
keeps_robax (values.Target joints) w (values.Ext axes) full is =
    let twelve : length joints.axis ≡ 12 = eqb-true (length joints.axis) 12 full in
    let six : length (take 6 joints.axis) ≡ 6 = rw (length-take 6 joints.axis, twelve) refl in
    let front : take 6 (take 6 joints.axis ++ axes) ≡ take 6 joints.axis = subst (λ n. take n (take 6 joints.axis ++ axes) ≡ take 6 joints.axis) six (take-append_seam (take 6 joints.axis) axes) in
    sym (ap (λ x. part_of x parts.Robax) (some_same is)) ∙ ap (λ l. Some (values.Rob l)) front
keeps_robax _ w _ full is = absurd (none-some _ is)

pub other_half : (v w new : Value) → is_full v ≡ true → is_full new ≡ true → (put_part v parts.Robax new ≡ Some w → part_of w parts.Extax ≡ part_of v parts.Extax) × (put_part v parts.Extax new ≡ Some w → part_of w parts.Robax ≡ part_of v parts.Robax)
other_half v w new full_v full_new = (keeps_extax v w new full_new, keeps_robax v w new full_v)

pub other_speeds : (v w new : Value) (j k : ℕ) → (j ≡ k → ⊥) → put_part v (parts.SpeedPart j) new ≡ Some w → part_of w (parts.SpeedPart k) ≡ part_of v (parts.SpeedPart k)
other_speeds (values.Speed nums) w new j k ne is =
    let m = mapped (λ ns. values.Speed ns) (with_num nums j new) w is in
    ap (λ x. part_of x (parts.SpeedPart k)) m.2 ∙ num_other nums j k new m.0 ne m.1
other_speeds _ w new j k ne is = absurd (none-some _ is)

full_axis : (v w new : Value) (i : ℕ) → is_full v ≡ true → put_part v (parts.Axis i) new ≡ Some w → is_full w ≡ true
full_axis (values.Target joints) w new i full is =
    let m = mapped with_axes (with_num joints.axis i new) w is in
    ap is_full m.2 ∙ ap (λ n. nat_eq n 12) (num_length joints.axis i new m.0 m.1) ∙ full
full_axis (values.Rob axes) w new i full is =
    let m = mapped (λ ns. values.Rob ns) (with_num axes i new) w is in
    ap is_full m.2 ∙ ap (λ n. nat_eq n 6) (num_length axes i new m.0 m.1) ∙ full
full_axis (values.Ext axes) w new i full is =
    let high = high_axis (nat_lt i 6) (option_map values.Ext (with_num axes (i - 6) new)) w is in
    let m = mapped (λ ns. values.Ext ns) (with_num axes (i - 6) new) w high.1 in
    ap is_full m.2 ∙ ap (λ n. nat_eq n 6) (num_length axes (i - 6) new m.0 m.1) ∙ full
full_axis _ w new i full is = absurd (none-some _ is)

full_speed : (v w new : Value) (i : ℕ) → is_full v ≡ true → put_part v (parts.SpeedPart i) new ≡ Some w → is_full w ≡ true
full_speed (values.Speed nums) w new i full is =
    let m = mapped (λ ns. values.Speed ns) (with_num nums i new) w is in
    ap is_full m.2 ∙ ap (λ n. nat_eq n 4) (num_length nums i new m.0 m.1) ∙ full
full_speed _ w new i full is = absurd (none-some _ is)

full_taskname : (v w new : Value) → put_part v parts.Taskname new ≡ Some w → is_full w ≡ true
full_taskname (values.Text text) w (values.Text new) is = sym (ap is_full (some_same is))
full_taskname _ w _ is = absurd (none-some _ is)

full_robax : (v w new : Value) → is_full v ≡ true → is_full new ≡ true → put_part v parts.Robax new ≡ Some w → is_full w ≡ true
full_robax (values.Target joints) w (values.Rob axes) full full_new is =
    sym (ap is_full (some_same is)) ∙ rw (length-append axes (drop 6 joints.axis), length-drop 6 joints.axis, eqb-true (length joints.axis) 12 full, eqb-true (length axes) 6 full_new) refl
full_robax _ w _ full full_new is = absurd (none-some _ is)

full_extax : (v w new : Value) → is_full v ≡ true → is_full new ≡ true → put_part v parts.Extax new ≡ Some w → is_full w ≡ true
full_extax (values.Target joints) w (values.Ext axes) full full_new is =
    sym (ap is_full (some_same is)) ∙ rw (length-append (take 6 joints.axis) axes, length-take 6 joints.axis, eqb-true (length joints.axis) 12 full, eqb-true (length axes) 6 full_new) refl
full_extax _ w _ full full_new is = absurd (none-some _ is)

pub put_full : (v w new : Value) (p : PartName) → is_full v ≡ true → is_full new ≡ true → put_part v p new ≡ Some w → is_full w ≡ true
put_full v w new parts.Whole full_v full_new is = sym (ap is_full (whole v w new is)) ∙ full_new
put_full v w new parts.Robax full_v full_new is = full_robax v w new full_v full_new is
put_full v w new parts.Extax full_v full_new is = full_extax v w new full_v full_new is
put_full v w new (parts.Axis i) full_v full_new is = full_axis v w new i full_v is
put_full v w new (parts.SpeedPart i) full_v full_new is = full_speed v w new i full_v is
put_full v w new parts.Taskname full_v full_new is = full_taskname v w new is
