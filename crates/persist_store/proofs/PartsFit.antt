-- A value of a type has each part of the type, and keeps its type with a fitting part put in.
use Rattle.std.proofs.Common.{◌≡◌, ℕ, ◌-◌, ◌<◌, ◌≤◌, Bool, true, false, ◌&&◌, if◌then◌else◌, ℤ, List, length, take, drop, Option, None, Some, option_map, nat_lt, nat_le, nat_eq, refl, sym, ◌∙◌, subst, arith, length-take, length-drop}
use Rattle.std.specs.Prelude.{IsTrue, IsSomeAnd, pos}
use Rattle.std.proofs.lemmas.Bool.{and_parts, ltb-true, lt-ltb, le-ltb, leb-true, eqb-true, false≢true}
use Rattle.std.proofs.lemmas.Option.{slice_get-get_or, none-some}
use Rattle.rapid_model.specs.Lengths.{is_full}
use Rattle.rapid_model.specs.Paths.{fits_part, has_sort, num_where, part_sort}
use Rattle.rapid_model.specs.Sorts.{is_value_of}
use Rattle.rapid_model.specs.declared.part_name.PartName.{PartName}
use Rattle.rapid_model.specs.declared.part_name.PartName.TheVariants as parts
use Rattle.rapid_model.specs.declared.sort.Sort.{Sort}
use Rattle.rapid_model.specs.declared.sort.Sort.TheVariants as sorts
use Rattle.rapid_num.specs.declared.joints.Joints.{Joints}
use Rattle.rapid_model.specs.declared.value.Value.{Value}
use Rattle.rapid_model.specs.declared.value.Value.TheVariants as values
use Rattle.rapid_values.specs.Values.{num_at, part_of, put_part, with_axes, with_num}
use Rattle.rapid_values.proofs.Changed.{some_same, put_full}

-- the value exists and has the type
abbrev pub IsOf : Sort → Option Value → Type 0
IsOf sort o = IsSomeAnd o (λ w. IsTrue (has_sort sort w))

-- a num at an index that the list has
pub num_there : (nums : List ℤ) (i : ℕ) → i < length nums → IsOf sorts.Num (num_at nums i)
num_there nums i lt = subst (λ o. IsOf sorts.Num (option_map values.Num o)) (sym (slice_get-get_or nums i (pos 0) lt)) refl

-- a conditional type that is Some has its condition true
pub chosen : (there : Bool) (inner : Sort) → num_where there ≡ Some inner → (there ≡ true) × (sorts.Num ≡ inner)
chosen true inner is = (refl, some_same is)
chosen false inner is = absurd (none-some _ is)

pub below : (i many count : ℕ) → nat_lt i many ≡ true → nat_eq count many ≡ true → i < count
below i many count lt is = rw (eqb-true count many is) (ltb-true i many lt)

-- an axis of an extjoint, whose axes are numbered from 6
high_there : (axes : List ℤ) (i : ℕ) → nat_eq (length axes) 6 ≡ true → (nat_le 6 i && nat_lt i 12) ≡ true → IsOf sorts.Num (if nat_lt i 6 then None else num_at axes (i - 6))
high_there axes i six is =
    let bounds = and_parts (nat_le 6 i) (nat_lt i 12) is in
    let from : 6 ≤ i = leb-true 6 i bounds.0 in
    let to : i < 12 = ltb-true i 12 bounds.1 in
    let low : nat_lt i 6 ≡ false = le-ltb i 6 from in
    let many : length axes ≡ 6 = eqb-true (length axes) 6 six in
    rw low (num_there axes (i - 6) (omega (arith, many, from, to)))

axis_there : (sort inner : Sort) (v : Value) (i : ℕ) → IsTrue (has_sort sort v) → part_sort sort (parts.Axis i) ≡ Some inner → IsOf inner (part_of v (parts.Axis i))
axis_there sorts.JointTarget inner (values.Target joints) i has is =
    let at = chosen (nat_lt i 12) inner is in
    subst (λ s. IsOf s (num_at joints.axis i)) at.1 (num_there joints.axis i (below i 12 (length joints.axis) at.0 has))
axis_there sorts.JointTarget inner _ i has is = absurd (false≢true has)
axis_there sorts.RobJoint inner (values.Rob axes) i has is =
    let at = chosen (nat_lt i 6) inner is in
    subst (λ s. IsOf s (num_at axes i)) at.1 (num_there axes i (below i 6 (length axes) at.0 has))
axis_there sorts.RobJoint inner _ i has is = absurd (false≢true has)
axis_there sorts.ExtJoint inner (values.Ext axes) i has is =
    let at = chosen (nat_le 6 i && nat_lt i 12) inner is in
    subst (λ s. IsOf s (part_of (values.Ext axes) (parts.Axis i))) at.1 (high_there axes i has at.0)
axis_there sorts.ExtJoint inner _ i has is = absurd (false≢true has)
axis_there _ inner v i has is = absurd (none-some _ is)

speed_there : (sort inner : Sort) (v : Value) (i : ℕ) → IsTrue (has_sort sort v) → part_sort sort (parts.SpeedPart i) ≡ Some inner → IsOf inner (part_of v (parts.SpeedPart i))
speed_there sorts.SpeedData inner (values.Speed nums) i has is =
    let at = chosen (nat_lt i 4) inner is in
    subst (λ s. IsOf s (num_at nums i)) at.1 (num_there nums i (below i 4 (length nums) at.0 has))
speed_there sorts.SpeedData inner _ i has is = absurd (false≢true has)
speed_there _ inner v i has is = absurd (none-some _ is)

robax_there : (sort inner : Sort) (v : Value) → IsTrue (has_sort sort v) → part_sort sort parts.Robax ≡ Some inner → IsOf inner (part_of v parts.Robax)
robax_there sorts.JointTarget inner (values.Target joints) has is =
    let six : nat_eq (length (take 6 joints.axis)) 6 ≡ true = rw (length-take 6 joints.axis, eqb-true (length joints.axis) 12 has) refl in
    subst (λ s. IsOf s (Some (values.Rob (take 6 joints.axis)))) (some_same is) six
robax_there sorts.JointTarget inner _ has is = absurd (false≢true has)
robax_there _ inner v has is = absurd (none-some _ is)

extax_there : (sort inner : Sort) (v : Value) → IsTrue (has_sort sort v) → part_sort sort parts.Extax ≡ Some inner → IsOf inner (part_of v parts.Extax)
extax_there sorts.JointTarget inner (values.Target joints) has is =
    let six : nat_eq (length (drop 6 joints.axis)) 6 ≡ true = rw (length-drop 6 joints.axis, eqb-true (length joints.axis) 12 has) refl in
    subst (λ s. IsOf s (Some (values.Ext (drop 6 joints.axis)))) (some_same is) six
extax_there sorts.JointTarget inner _ has is = absurd (false≢true has)
extax_there _ inner v has is = absurd (none-some _ is)

taskname_there : (sort inner : Sort) (v : Value) → IsTrue (has_sort sort v) → part_sort sort parts.Taskname ≡ Some inner → IsOf inner (part_of v parts.Taskname)
taskname_there sorts.Tasks inner (values.Text text) has is = subst (λ s. IsOf s (Some (values.Text text))) (some_same is) refl
taskname_there sorts.Tasks inner _ has is = absurd (false≢true has)
taskname_there _ inner v has is = absurd (none-some _ is)

pub part_there : (sort inner : Sort) (v : Value) (p : PartName) → IsTrue (has_sort sort v) → part_sort sort p ≡ Some inner → IsSomeAnd (part_of v p) (λ w. IsTrue (has_sort inner w))
part_there sort inner v parts.Whole has is = subst (λ s. IsTrue (has_sort s v)) (some_same is) has
part_there sort inner v parts.Robax has is = robax_there sort inner v has is
part_there sort inner v parts.Extax has is = extax_there sort inner v has is
part_there sort inner v (parts.Axis i) has is = axis_there sort inner v i has is
part_there sort inner v (parts.SpeedPart i) has is = speed_there sort inner v i has is
part_there sort inner v parts.Taskname has is = taskname_there sort inner v has is

fits_none : (sort : Sort) (p : PartName) (value : Value) → part_sort sort p ≡ None → fits_part sort p value ≡ false
fits_none sort p value is = rw is refl

-- a value of a part's type fits the part
pub fits_some : (sort inner : Sort) (p : PartName) (value : Value) → part_sort sort p ≡ Some inner → fits_part sort p value ≡ has_sort inner value
fits_some sort inner p value is = rw is refl

-- a part that a value fits has a type, and the value has that type
pub fitting : (sort : Sort) (p : PartName) (value : Value) → IsTrue (fits_part sort p value) → (inner : Sort) × (part_sort sort p ≡ Some inner) × IsTrue (has_sort inner value)
fitting sort p value fits = at (part_sort sort p) refl
  where
    at : (o : Option Sort) → part_sort sort p ≡ o → (inner : Sort) × (part_sort sort p ≡ Some inner) × IsTrue (has_sort inner value)
    at None is = absurd (false≢true (sym (fits_none sort p value is) ∙ fits))
    at (Some inner) is = (inner, is, sym (fits_some sort inner p value is) ∙ fits)

-- a value exists, and has the type apart from the number of its nums
abbrev IsLike : Sort → Option Value → Type 0
IsLike sort o = IsSomeAnd o (λ w. IsTrue (is_value_of sort w))

-- a num written at an index within the list
written : (sort : Sort) (make : List ℤ → Value) (nums : List ℤ) (i : ℕ) (new : Value) → ((ns : List ℤ) → IsTrue (is_value_of sort (make ns))) → i < length nums → IsTrue (has_sort sorts.Num new)
    → IsLike sort (option_map make (with_num nums i new))
written sort make nums i (values.Num n) made lt fits = rw (lt-ltb i (length nums) lt) (made _)
written sort make nums i _ made lt fits = absurd (false≢true fits)

pub num_fits : (inner : Sort) (new : Value) → sorts.Num ≡ inner → IsTrue (has_sort inner new) → IsTrue (has_sort sorts.Num new)
num_fits inner new is fits = subst (λ s. IsTrue (has_sort s new)) (sym is) fits

high_written : (axes : List ℤ) (i : ℕ) (new : Value) → nat_eq (length axes) 6 ≡ true → (nat_le 6 i && nat_lt i 12) ≡ true → IsTrue (has_sort sorts.Num new)
    → IsLike sorts.ExtJoint (if nat_lt i 6 then None else option_map values.Ext (with_num axes (i - 6) new))
high_written axes i new six is fits =
    let bounds = and_parts (nat_le 6 i) (nat_lt i 12) is in
    let from : 6 ≤ i = leb-true 6 i bounds.0 in
    let to : i < 12 = ltb-true i 12 bounds.1 in
    let low : nat_lt i 6 ≡ false = le-ltb i 6 from in
    let many : length axes ≡ 6 = eqb-true (length axes) 6 six in
    rw low (written sorts.ExtJoint values.Ext axes (i - 6) new (λ _. refl) (omega (arith, many, from, to)) fits)

axis_put : (sort inner : Sort) (v new : Value) (i : ℕ) → IsTrue (has_sort sort v) → part_sort sort (parts.Axis i) ≡ Some inner → IsTrue (has_sort inner new) → IsLike sort (put_part v (parts.Axis i) new)
axis_put sorts.JointTarget inner (values.Target joints) new i has is fits =
    let at = chosen (nat_lt i 12) inner is in
    written sorts.JointTarget with_axes joints.axis i new (λ _. refl) (below i 12 (length joints.axis) at.0 has) (num_fits inner new at.1 fits)
axis_put sorts.JointTarget inner _ new i has is fits = absurd (false≢true has)
axis_put sorts.RobJoint inner (values.Rob axes) new i has is fits =
    let at = chosen (nat_lt i 6) inner is in
    written sorts.RobJoint values.Rob axes i new (λ _. refl) (below i 6 (length axes) at.0 has) (num_fits inner new at.1 fits)
axis_put sorts.RobJoint inner _ new i has is fits = absurd (false≢true has)
axis_put sorts.ExtJoint inner (values.Ext axes) new i has is fits =
    let at = chosen (nat_le 6 i && nat_lt i 12) inner is in
    high_written axes i new has at.0 (num_fits inner new at.1 fits)
axis_put sorts.ExtJoint inner _ new i has is fits = absurd (false≢true has)
axis_put _ inner v new i has is fits = absurd (none-some _ is)

speed_put : (sort inner : Sort) (v new : Value) (i : ℕ) → IsTrue (has_sort sort v) → part_sort sort (parts.SpeedPart i) ≡ Some inner → IsTrue (has_sort inner new) → IsLike sort (put_part v (parts.SpeedPart i) new)
speed_put sorts.SpeedData inner (values.Speed nums) new i has is fits =
    let at = chosen (nat_lt i 4) inner is in
    written sorts.SpeedData values.Speed nums i new (λ _. refl) (below i 4 (length nums) at.0 has) (num_fits inner new at.1 fits)
speed_put sorts.SpeedData inner _ new i has is fits = absurd (false≢true has)
speed_put _ inner v new i has is fits = absurd (none-some _ is)

rob_put : (joints : Joints) (new : Value) → IsTrue (has_sort sorts.RobJoint new) → IsLike sorts.JointTarget (put_part (values.Target joints) parts.Robax new)
rob_put joints (values.Rob axes) fits = refl
rob_put joints _ fits = absurd (false≢true fits)

robax_put : (sort inner : Sort) (v new : Value) → IsTrue (has_sort sort v) → part_sort sort parts.Robax ≡ Some inner → IsTrue (has_sort inner new) → IsLike sort (put_part v parts.Robax new)
robax_put sorts.JointTarget inner (values.Target joints) new has is fits = rob_put joints new (subst (λ s. IsTrue (has_sort s new)) (sym (some_same is)) fits)
robax_put sorts.JointTarget inner _ new has is fits = absurd (false≢true has)
robax_put _ inner v new has is fits = absurd (none-some _ is)

ext_put : (joints : Joints) (new : Value) → IsTrue (has_sort sorts.ExtJoint new) → IsLike sorts.JointTarget (put_part (values.Target joints) parts.Extax new)
ext_put joints (values.Ext axes) fits = refl
ext_put joints _ fits = absurd (false≢true fits)

extax_put : (sort inner : Sort) (v new : Value) → IsTrue (has_sort sort v) → part_sort sort parts.Extax ≡ Some inner → IsTrue (has_sort inner new) → IsLike sort (put_part v parts.Extax new)
extax_put sorts.JointTarget inner (values.Target joints) new has is fits = ext_put joints new (subst (λ s. IsTrue (has_sort s new)) (sym (some_same is)) fits)
extax_put sorts.JointTarget inner _ new has is fits = absurd (false≢true has)
extax_put _ inner v new has is fits = absurd (none-some _ is)

text_put : (text : List ℕ) (new : Value) → IsTrue (has_sort sorts.Text new) → IsLike sorts.Tasks (put_part (values.Text text) parts.Taskname new)
text_put text (values.Text new) fits = refl
text_put text _ fits = absurd (false≢true fits)

taskname_put : (sort inner : Sort) (v new : Value) → IsTrue (has_sort sort v) → part_sort sort parts.Taskname ≡ Some inner → IsTrue (has_sort inner new) → IsLike sort (put_part v parts.Taskname new)
taskname_put sorts.Tasks inner (values.Text text) new has is fits = text_put text new (subst (λ s. IsTrue (has_sort s new)) (sym (some_same is)) fits)
taskname_put sorts.Tasks inner _ new has is fits = absurd (false≢true has)
taskname_put _ inner v new has is fits = absurd (none-some _ is)

whole_put : (sort inner : Sort) (new : Value) → part_sort sort parts.Whole ≡ Some inner → IsTrue (has_sort inner new) → IsTrue (is_value_of sort new)
whole_put sort inner new is fits = (and_parts _ _ (subst (λ s. IsTrue (has_sort s new)) (sym (some_same is)) fits)).0

like_put : (sort inner : Sort) (v new : Value) (p : PartName) → IsTrue (has_sort sort v) → part_sort sort p ≡ Some inner → IsTrue (has_sort inner new) → IsLike sort (put_part v p new)
like_put sort inner v new parts.Whole has is fits = whole_put sort inner new is fits
like_put sort inner v new parts.Robax has is fits = robax_put sort inner v new has is fits
like_put sort inner v new parts.Extax has is fits = extax_put sort inner v new has is fits
like_put sort inner v new (parts.Axis i) has is fits = axis_put sort inner v new i has is fits
like_put sort inner v new (parts.SpeedPart i) has is fits = speed_put sort inner v new i has is fits
like_put sort inner v new parts.Taskname has is fits = taskname_put sort inner v new has is fits

both : (sort : Sort) (o : Option Value) → IsLike sort o → ((w : Value) → o ≡ Some w → is_full w ≡ true) → IsOf sort o
both sort None like full = like
both sort (Some w) like full = rw (like, full w refl) refl

pub put_fits : (sort : Sort) (v new : Value) (p : PartName) → IsTrue (has_sort sort v) → IsTrue (fits_part sort p new) → IsSomeAnd (put_part v p new) (λ w. IsTrue (has_sort sort w))
put_fits sort v new p has fits =
    let inner = fitting sort p new fits in
    let full_v = (and_parts (is_value_of sort v) (is_full v) has).1 in
    let full_new = (and_parts (is_value_of inner.0 new) (is_full new) inner.2).1 in
    both sort (put_part v p new) (like_put sort inner.0 v new p has inner.1 inner.2) (λ w is. put_full v w new p full_v full_new is)
