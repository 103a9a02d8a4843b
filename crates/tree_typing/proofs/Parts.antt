-- Parts of values keep their types.
use Rattle.std.proofs.Common.{◌≡◌, refl, sym, ap, ◌∙◌, subst, ℕ, zero, suc, ◌-◌, ◌<◌, ◌≤◌, Bool, true, false, ◌&&◌, nat_lt, nat_le, ℤ, List, [], ◌∷◌, ◌++◌, length, take, drop, slice_set, Option, Some, None, if◌then◌else◌, IsTrue, arith, length-append}
use Rattle.std.specs.Option.{option_map}
use Rattle.std.proofs.lemmas.Bool.{ltb-true, lt-ltb, le-ltb, leb-true, eq-eqb, and_parts}
use Rattle.std.proofs.lemmas.List.{length-set, length-take, length-drop}
use Rattle.std.proofs.lemmas.Option.{same_Some}
use Rattle.rapid_num.specs.declared.joints.Joints.{Joints}
use Rattle.rapid_model.specs.Paths.{has_sort, part_sort, num_where}
use Rattle.rapid_model.specs.declared.part_name.PartName.{PartName}
use Rattle.rapid_model.specs.declared.part_name.PartName.TheVariants as parts
use Rattle.rapid_model.specs.declared.sort.Sort.{Sort}
use Rattle.rapid_model.specs.declared.sort.Sort.TheVariants as sorts
use Rattle.rapid_model.specs.declared.value.Value.{Value}
use Rattle.rapid_model.specs.declared.value.Value.TheVariants as values
use Rattle.rapid_values.specs.Values.{num_at, part_of, put_part, with_axes, with_num}
use Rattle.rapid_values.proofs.Lists.{num_written}
use Rattle.rapid_meaning.specs.Places.{part_within}
use Rattle.rapid_meaning.proofs.Wholes.{whole_within}
use Rattle.tree_typing.proofs.Forms.{num_form, rob_form, ext_form, target_form, speed_nums, text_form, tasks_form}

-- if a part exists, it is a num
num_there : (b : Bool) (sort : Sort) → num_where b ≡ Some sort → (b ≡ true) × (sort ≡ sorts.Num)
num_there true sort e = (refl, cc)
num_there false sort e = absurd cc

num_here : (b : Bool) (sort : Sort) → b ≡ true → sort ≡ sorts.Num → num_where b ≡ Some sort
num_here b sort e s = subst (λ (x : Sort). num_where b ≡ Some x) (sym s) (ap num_where e)

robax_part : (part : PartName) (sort : Sort) → part_sort sorts.RobJoint part ≡ Some sort → (p : PartName) × (part_within parts.Robax part ≡ Some p) × (part_sort sorts.JointTarget p ≡ Some sort)
robax_part parts.Whole sort e = (parts.Robax, refl, e)
robax_part (parts.Axis n) sort e =
    let there : (nat_lt n 6 ≡ true) × (sort ≡ sorts.Num) = num_there (nat_lt n 6) sort e in
    (parts.Axis n, refl, num_here (nat_lt n 12) sort (lt-ltb n 12 (omega (arith, ltb-true n 6 there.0))) there.1)
robax_part part sort e = absurd cc

extax_part : (part : PartName) (sort : Sort) → part_sort sorts.ExtJoint part ≡ Some sort → (p : PartName) × (part_within parts.Extax part ≡ Some p) × (part_sort sorts.JointTarget p ≡ Some sort)
extax_part parts.Whole sort e = (parts.Extax, refl, e)
extax_part (parts.Axis n) sort e =
    let there : ((nat_le 6 n && nat_lt n 12) ≡ true) × (sort ≡ sorts.Num) = num_there (nat_le 6 n && nat_lt n 12) sort e in
    (parts.Axis n, refl, num_here (nat_lt n 12) sort (and_parts (nat_le 6 n) (nat_lt n 12) there.0).1 there.1)
extax_part part sort e = absurd cc

num_whole : (part : PartName) (sort : Sort) → part_sort sorts.Num part ≡ Some sort → (part ≡ parts.Whole) × (sort ≡ sorts.Num)
num_whole parts.Whole sort e = (refl, cc)
num_whole part sort e = absurd cc

text_whole : (part : PartName) (sort : Sort) → part_sort sorts.Text part ≡ Some sort → (part ≡ parts.Whole) × (sort ≡ sorts.Text)
text_whole parts.Whole sort e = (refl, cc)
text_whole part sort e = absurd cc

-- a part that is a num or a string, which has no parts but the whole
last_part : (whole mid sort : Sort) (outer part : PartName) → (part ≡ parts.Whole) × (sort ≡ mid) → part_sort whole outer ≡ Some mid
    → (p : PartName) × (part_within outer part ≡ Some p) × (part_sort whole p ≡ Some sort)
last_part whole mid sort outer part is e =
    (outer, subst (λ (x : PartName). part_within outer x ≡ Some outer) (sym is.0) (whole_within outer), subst (λ (x : Sort). part_sort whole outer ≡ Some x) (sym is.1) e)

-- a num of a type, by its number
num_in_part : (whole mid sort : Sort) (outer part : PartName) (b : Bool) → part_sort whole outer ≡ num_where b → part_sort whole outer ≡ Some mid → part_sort mid part ≡ Some sort
    → (p : PartName) × (part_within outer part ≡ Some p) × (part_sort whole p ≡ Some sort)
num_in_part whole mid sort outer part b same h i =
    let num : mid ≡ sorts.Num = (num_there b mid (sym same ∙ h)).1 in
    let last : (part ≡ parts.Whole) × (sort ≡ sorts.Num) = num_whole part sort (subst (λ (x : Sort). part_sort x part ≡ Some sort) num i) in
    last_part whole mid sort outer part (last.0, last.1 ∙ sym num) h

-- a part of a part
pub inner_part : (whole mid sort : Sort) (outer part : PartName) → part_sort whole outer ≡ Some mid → part_sort mid part ≡ Some sort
    → (p : PartName) × (part_within outer part ≡ Some p) × (part_sort whole p ≡ Some sort)
inner_part whole mid sort parts.Whole part h i = (part, refl, subst (λ (x : Sort). part_sort x part ≡ Some sort) (sym (same_Some whole mid h)) i)
inner_part sorts.JointTarget mid sort parts.Robax part h i = robax_part part sort (subst (λ (x : Sort). part_sort x part ≡ Some sort) (sym (same_Some sorts.RobJoint mid h)) i)
inner_part sorts.JointTarget mid sort parts.Extax part h i = extax_part part sort (subst (λ (x : Sort). part_sort x part ≡ Some sort) (sym (same_Some sorts.ExtJoint mid h)) i)
inner_part sorts.JointTarget mid sort (parts.Axis n) part h i = num_in_part sorts.JointTarget mid sort (parts.Axis n) part (nat_lt n 12) refl h i
inner_part sorts.RobJoint mid sort (parts.Axis n) part h i = num_in_part sorts.RobJoint mid sort (parts.Axis n) part (nat_lt n 6) refl h i
inner_part sorts.ExtJoint mid sort (parts.Axis n) part h i = num_in_part sorts.ExtJoint mid sort (parts.Axis n) part (nat_le 6 n && nat_lt n 12) refl h i
inner_part sorts.SpeedData mid sort (parts.SpeedPart n) part h i = num_in_part sorts.SpeedData mid sort (parts.SpeedPart n) part (nat_lt n 4) refl h i
inner_part sorts.Tasks mid sort parts.Taskname part h i =
    let text : sorts.Text ≡ mid = same_Some sorts.Text mid h in
    let last : (part ≡ parts.Whole) × (sort ≡ sorts.Text) = text_whole part sort (subst (λ (x : Sort). part_sort x part ≡ Some sort) (sym text) i) in
    last_part sorts.Tasks mid sort parts.Taskname part (last.0, last.1 ∙ text) h
inner_part whole mid sort outer part h i = absurd cc

-- a num of a list
num_of : (nums : List ℤ) (k : ℕ) → k < length nums → (n : ℤ) × (num_at nums k ≡ Some (values.Num n))
num_of [] k few = absurd (omega (arith, few))
num_of (x ∷ xs) zero few = (x, refl)
num_of (x ∷ xs) (suc k) few = num_of xs k (omega (arith, few))

-- a value of a type, and what is claimed of it
abbrev Found : Option Value → Sort → Type 0
Found o sort = (w : Value) × (o ≡ Some w) × IsTrue (has_sort sort w)

found_num : (nums : List ℤ) (k : ℕ) (sort : Sort) → k < length nums → sort ≡ sorts.Num → Found (num_at nums k) sort
found_num nums k sort few is =
    let there : (n : ℤ) × (num_at nums k ≡ Some (values.Num n)) = num_of nums k few in
    (values.Num there.0, there.1, subst (λ (x : Sort). IsTrue (has_sort x (values.Num there.0))) (sym is) refl)

found_ext_num : (nums : List ℤ) (k : ℕ) (sort : Sort) → length nums ≡ 6 → num_where (nat_le 6 k && nat_lt k 12) ≡ Some sort
    → Found (if nat_lt k 6 then None else num_at nums (k - 6)) sort
found_ext_num nums k sort six e =
    let there : ((nat_le 6 k && nat_lt k 12) ≡ true) × (sort ≡ sorts.Num) = num_there (nat_le 6 k && nat_lt k 12) sort e in
    let low : 6 ≤ k = leb-true 6 k (and_parts (nat_le 6 k) (nat_lt k 12) there.0).0 in
    let high : k < 12 = ltb-true k 12 (and_parts (nat_le 6 k) (nat_lt k 12) there.0).1 in
    rw (le-ltb k 6 low) (found_num nums (k - 6) sort (omega (arith, low, high, six)) there.1)

rob_is : (l : List ℤ) → length l ≡ 6 → IsTrue (has_sort sorts.RobJoint (values.Rob l))
rob_is l six = eq-eqb (length l) 6 six

ext_is : (l : List ℤ) → length l ≡ 6 → IsTrue (has_sort sorts.ExtJoint (values.Ext l))
ext_is l six = eq-eqb (length l) 6 six

target_is : (l : List ℤ) → length l ≡ 12 → IsTrue (has_sort sorts.JointTarget (with_axes l))
target_is l many = eq-eqb (length l) 12 many

speed_is : (l : List ℤ) → length l ≡ 4 → IsTrue (has_sort sorts.SpeedData (values.Speed l))
speed_is l four = eq-eqb (length l) 4 four

-- a part of a value has the part's type
target_part : (j : Joints) (part : PartName) (sort : Sort) → length j.axis ≡ 12 → part_sort sorts.JointTarget part ≡ Some sort → Found (part_of (values.Target j) part) sort
target_part j parts.Whole sort many e = (values.Target j, refl, subst (λ (x : Sort). IsTrue (has_sort x (values.Target j))) (same_Some sorts.JointTarget sort e) (target_is j.axis many))
target_part j parts.Robax sort many e = (
  values.Rob (take 6 j.axis),
  refl,
  subst (λ (x : Sort). IsTrue (has_sort x (values.Rob (take 6 j.axis)))) (same_Some sorts.RobJoint sort e)
      (rob_is (take 6 j.axis) (omega (arith, length-take 6 j.axis, many))),
)
target_part j parts.Extax sort many e = (
  values.Ext (drop 6 j.axis),
  refl,
  subst (λ (x : Sort). IsTrue (has_sort x (values.Ext (drop 6 j.axis)))) (same_Some sorts.ExtJoint sort e)
      (ext_is (drop 6 j.axis) (omega (arith, length-drop 6 j.axis, many))),
)
target_part j (parts.Axis n) sort many e =
    let there : (nat_lt n 12 ≡ true) × (sort ≡ sorts.Num) = num_there (nat_lt n 12) sort e in
    found_num j.axis n sort (omega (arith, ltb-true n 12 there.0, many)) there.1
target_part j part sort many e = absurd cc

rob_part : (l : List ℤ) (part : PartName) (sort : Sort) → length l ≡ 6 → part_sort sorts.RobJoint part ≡ Some sort → Found (part_of (values.Rob l) part) sort
rob_part l parts.Whole sort six e = (values.Rob l, refl, subst (λ (x : Sort). IsTrue (has_sort x (values.Rob l))) (same_Some sorts.RobJoint sort e) (rob_is l six))
rob_part l (parts.Axis n) sort six e =
    let there : (nat_lt n 6 ≡ true) × (sort ≡ sorts.Num) = num_there (nat_lt n 6) sort e in
    found_num l n sort (omega (arith, ltb-true n 6 there.0, six)) there.1
rob_part l part sort six e = absurd cc

ext_part : (l : List ℤ) (part : PartName) (sort : Sort) → length l ≡ 6 → part_sort sorts.ExtJoint part ≡ Some sort → Found (part_of (values.Ext l) part) sort
ext_part l parts.Whole sort six e = (values.Ext l, refl, subst (λ (x : Sort). IsTrue (has_sort x (values.Ext l))) (same_Some sorts.ExtJoint sort e) (ext_is l six))
ext_part l (parts.Axis n) sort six e = found_ext_num l n sort six e
ext_part l part sort six e = absurd cc

speed_part : (l : List ℤ) (part : PartName) (sort : Sort) → length l ≡ 4 → part_sort sorts.SpeedData part ≡ Some sort → Found (part_of (values.Speed l) part) sort
speed_part l parts.Whole sort four e = (values.Speed l, refl, subst (λ (x : Sort). IsTrue (has_sort x (values.Speed l))) (same_Some sorts.SpeedData sort e) (speed_is l four))
speed_part l (parts.SpeedPart n) sort four e =
    let there : (nat_lt n 4 ≡ true) × (sort ≡ sorts.Num) = num_there (nat_lt n 4) sort e in
    found_num l n sort (omega (arith, ltb-true n 4 there.0, four)) there.1
speed_part l part sort four e = absurd cc

moved : (v u : Value) (part : PartName) (sort : Sort) → v ≡ u → Found (part_of u part) sort → Found (part_of v part) sort
moved v u part sort e f = subst (λ (x : Value). Found (part_of x part) sort) (sym e) f

pub value_part : (whole sort : Sort) (part : PartName) (v : Value) → IsTrue (has_sort whole v) → part_sort whole part ≡ Some sort → Found (part_of v part) sort
value_part whole sort parts.Whole v h e = (v, refl, subst (λ (x : Sort). IsTrue (has_sort x v)) (same_Some whole sort e) h)
value_part sorts.JointTarget sort part v h e = let f : (j : Joints) × (v ≡ values.Target j) × (length j.axis ≡ 12) = target_form v h in moved v (values.Target f.0) part sort f.1 (target_part f.0 part sort f.2 e)
value_part sorts.RobJoint sort part v h e = let f : (l : List ℤ) × (v ≡ values.Rob l) × (length l ≡ 6) = rob_form v h in moved v (values.Rob f.0) part sort f.1 (rob_part f.0 part sort f.2 e)
value_part sorts.ExtJoint sort part v h e = let f : (l : List ℤ) × (v ≡ values.Ext l) × (length l ≡ 6) = ext_form v h in moved v (values.Ext f.0) part sort f.1 (ext_part f.0 part sort f.2 e)
value_part sorts.SpeedData sort part v h e = let f : (l : List ℤ) × (v ≡ values.Speed l) × (length l ≡ 4) = speed_nums v h in moved v (values.Speed f.0) part sort f.1 (speed_part f.0 part sort f.2 e)
value_part sorts.Tasks sort parts.Taskname v h e =
    let f : (t : List ℕ) × (v ≡ values.Text t) = tasks_form v h in
    moved v (values.Text f.0) parts.Taskname sort f.1 (values.Text f.0, refl, subst (λ (x : Sort). IsTrue (has_sort x (values.Text f.0))) (same_Some sorts.Text sort e) refl)
value_part whole sort part v h e = absurd cc

-- a num put in
abbrev Written : Option (List ℤ) → ℕ → Type 0
Written o count = (ns : List ℤ) × (o ≡ Some ns) × (length ns ≡ count)

num_put : (nums : List ℤ) (k : ℕ) (new : Value) → k < length nums → IsTrue (has_sort sorts.Num new) → Written (with_num nums k new) (length nums)
num_put nums k new few h =
    let f : (n : ℤ) × (new ≡ values.Num n) = num_form new h in
    (slice_set nums k f.0, num_written nums k new f.0 f.1 few, length-set nums k f.0)

made : (o : Option (List ℤ)) (make : List ℤ → Value) (count : ℕ) (whole : Sort) → ((l : List ℤ) → length l ≡ count → IsTrue (has_sort whole (make l)))
    → Written o count → Found (option_map make o) whole
made o make count whole is w = (make w.0, ap (option_map make) w.1, is w.0 w.2)

num_sorted : (sort : Sort) (new : Value) → sort ≡ sorts.Num → IsTrue (has_sort sort new) → IsTrue (has_sort sorts.Num new)
num_sorted sort new e h = subst (λ (x : Sort). IsTrue (has_sort x new)) e h

counted : (o : Option (List ℤ)) (m n : ℕ) → m ≡ n → Written o m → Written o n
counted o m n e w = subst (λ (x : ℕ). Written o x) e w

target_put : (j : Joints) (part : PartName) (sort : Sort) (new : Value) → length j.axis ≡ 12 → part_sort sorts.JointTarget part ≡ Some sort → IsTrue (has_sort sort new)
    → Found (put_part (values.Target j) part new) sorts.JointTarget
target_put j parts.Whole sort new many e h = (new, refl, subst (λ (x : Sort). IsTrue (has_sort x new)) (sym (same_Some sorts.JointTarget sort e)) h)
target_put j parts.Robax sort new many e h =
    let f : (l : List ℤ) × (new ≡ values.Rob l) × (length l ≡ 6) = rob_form new (subst (λ (x : Sort). IsTrue (has_sort x new)) (sym (same_Some sorts.RobJoint sort e)) h) in (
      with_axes (f.0 ++ drop 6 j.axis),
      ap (λ (x : Value). put_part (values.Target j) parts.Robax x) f.1,
      target_is (f.0 ++ drop 6 j.axis) (omega (arith, length-append f.0 (drop 6 j.axis), length-drop 6 j.axis, many, f.2)),
    )
target_put j parts.Extax sort new many e h =
    let f : (l : List ℤ) × (new ≡ values.Ext l) × (length l ≡ 6) = ext_form new (subst (λ (x : Sort). IsTrue (has_sort x new)) (sym (same_Some sorts.ExtJoint sort e)) h) in (
      with_axes (take 6 j.axis ++ f.0),
      ap (λ (x : Value). put_part (values.Target j) parts.Extax x) f.1,
      target_is (take 6 j.axis ++ f.0) (omega (arith, length-append (take 6 j.axis) f.0, length-take 6 j.axis, many, f.2)),
    )
target_put j (parts.Axis n) sort new many e h =
    let there : (nat_lt n 12 ≡ true) × (sort ≡ sorts.Num) = num_there (nat_lt n 12) sort e in
    made (with_num j.axis n new) with_axes 12 sorts.JointTarget target_is
    (counted (with_num j.axis n new) (length j.axis) 12 many (num_put j.axis n new (omega (arith, ltb-true n 12 there.0, many)) (num_sorted sort new there.1 h)))
target_put j part sort new many e h = absurd cc

rob_put : (l : List ℤ) (part : PartName) (sort : Sort) (new : Value) → length l ≡ 6 → part_sort sorts.RobJoint part ≡ Some sort → IsTrue (has_sort sort new)
    → Found (put_part (values.Rob l) part new) sorts.RobJoint
rob_put l parts.Whole sort new six e h = (new, refl, subst (λ (x : Sort). IsTrue (has_sort x new)) (sym (same_Some sorts.RobJoint sort e)) h)
rob_put l (parts.Axis n) sort new six e h =
    let there : (nat_lt n 6 ≡ true) × (sort ≡ sorts.Num) = num_there (nat_lt n 6) sort e in
    made (with_num l n new) values.Rob 6 sorts.RobJoint rob_is
    (counted (with_num l n new) (length l) 6 six (num_put l n new (omega (arith, ltb-true n 6 there.0, six)) (num_sorted sort new there.1 h)))
rob_put l part sort new six e h = absurd cc

ext_put : (l : List ℤ) (part : PartName) (sort : Sort) (new : Value) → length l ≡ 6 → part_sort sorts.ExtJoint part ≡ Some sort → IsTrue (has_sort sort new)
    → Found (put_part (values.Ext l) part new) sorts.ExtJoint
ext_put l parts.Whole sort new six e h = (new, refl, subst (λ (x : Sort). IsTrue (has_sort x new)) (sym (same_Some sorts.ExtJoint sort e)) h)
ext_put l (parts.Axis n) sort new six e h =
    let there : ((nat_le 6 n && nat_lt n 12) ≡ true) × (sort ≡ sorts.Num) = num_there (nat_le 6 n && nat_lt n 12) sort e in
    let low : 6 ≤ n = leb-true 6 n (and_parts (nat_le 6 n) (nat_lt n 12) there.0).0 in
    let high : n < 12 = ltb-true n 12 (and_parts (nat_le 6 n) (nat_lt n 12) there.0).1 in
    rw (le-ltb n 6 low) (made (with_num l (n - 6) new) values.Ext 6 sorts.ExtJoint ext_is
    (counted (with_num l (n - 6) new) (length l) 6 six (num_put l (n - 6) new (omega (arith, low, high, six)) (num_sorted sort new there.1 h))))
ext_put l part sort new six e h = absurd cc

speed_put : (l : List ℤ) (part : PartName) (sort : Sort) (new : Value) → length l ≡ 4 → part_sort sorts.SpeedData part ≡ Some sort → IsTrue (has_sort sort new)
    → Found (put_part (values.Speed l) part new) sorts.SpeedData
speed_put l parts.Whole sort new four e h = (new, refl, subst (λ (x : Sort). IsTrue (has_sort x new)) (sym (same_Some sorts.SpeedData sort e)) h)
speed_put l (parts.SpeedPart n) sort new four e h =
    let there : (nat_lt n 4 ≡ true) × (sort ≡ sorts.Num) = num_there (nat_lt n 4) sort e in
    made (with_num l n new) values.Speed 4 sorts.SpeedData speed_is
    (counted (with_num l n new) (length l) 4 four (num_put l n new (omega (arith, ltb-true n 4 there.0, four)) (num_sorted sort new there.1 h)))
speed_put l part sort new four e h = absurd cc

put_moved : (v u new : Value) (part : PartName) (whole : Sort) → v ≡ u → Found (put_part u part new) whole → Found (put_part v part new) whole
put_moved v u new part whole e f = subst (λ (x : Value). Found (put_part x part new) whole) (sym e) f

-- a value keeps its type when a part is put in
pub value_put : (whole sort : Sort) (part : PartName) (v new : Value) → IsTrue (has_sort whole v) → part_sort whole part ≡ Some sort → IsTrue (has_sort sort new)
    → Found (put_part v part new) whole
value_put whole sort parts.Whole v new h e i = (new, refl, subst (λ (x : Sort). IsTrue (has_sort x new)) (sym (same_Some whole sort e)) i)
value_put sorts.JointTarget sort part v new h e i = let f : (j : Joints) × (v ≡ values.Target j) × (length j.axis ≡ 12) = target_form v h in put_moved v (values.Target f.0) new part sorts.JointTarget f.1 (target_put f.0 part sort new f.2 e i)
value_put sorts.RobJoint sort part v new h e i = let f : (l : List ℤ) × (v ≡ values.Rob l) × (length l ≡ 6) = rob_form v h in put_moved v (values.Rob f.0) new part sorts.RobJoint f.1 (rob_put f.0 part sort new f.2 e i)
value_put sorts.ExtJoint sort part v new h e i = let f : (l : List ℤ) × (v ≡ values.Ext l) × (length l ≡ 6) = ext_form v h in put_moved v (values.Ext f.0) new part sorts.ExtJoint f.1 (ext_put f.0 part sort new f.2 e i)
value_put sorts.SpeedData sort part v new h e i = let f : (l : List ℤ) × (v ≡ values.Speed l) × (length l ≡ 4) = speed_nums v h in put_moved v (values.Speed f.0) new part sorts.SpeedData f.1 (speed_put f.0 part sort new f.2 e i)
value_put sorts.Tasks sort parts.Taskname v new h e i =
    let f : (t : List ℕ) × (v ≡ values.Text t) = tasks_form v h in
    let g : (t : List ℕ) × (new ≡ values.Text t) = text_form new (subst (λ (x : Sort). IsTrue (has_sort x new)) (sym (same_Some sorts.Text sort e)) i) in
    put_moved v (values.Text f.0) new parts.Taskname sorts.Tasks f.1 (values.Text g.0, ap (λ (x : Value). put_part (values.Text f.0) parts.Taskname x) g.1, refl)
value_put whole sort part v new h e i = absurd cc
