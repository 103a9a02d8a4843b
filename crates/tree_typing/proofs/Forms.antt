-- The form of a value, from its type.
use Rattle.std.proofs.Common.{◌≡◌, refl, ℕ, Bool, ℤ, List, [], ◌∷◌, length, IsTrue}
use Rattle.std.proofs.lemmas.Bool.{eqb-true}
use Rattle.rapid_num.specs.declared.joints.Joints.{Joints}
use Rattle.rapid_model.specs.Paths.{has_sort}
use Rattle.rapid_model.specs.Sorts.{has_values, is_compared}
use Rattle.rapid_model.specs.declared.sort.Sort.{Sort}
use Rattle.rapid_model.specs.declared.sort.Sort.TheVariants as sorts
use Rattle.rapid_model.specs.declared.value.Value.{Value}
use Rattle.rapid_model.specs.declared.value.Value.TheVariants as values
use Rattle.rapid_values.specs.Equality.{are_alike}

pub num_form : (v : Value) → IsTrue (has_sort sorts.Num v) → (n : ℤ) × (v ≡ values.Num n)
num_form (values.Num n) h = (n, refl)
num_form v h = absurd cc

pub bool_form : (v : Value) → IsTrue (has_sort sorts.Bool v) → (b : Bool) × (v ≡ values.Bool b)
bool_form (values.Bool b) h = (b, refl)
bool_form v h = absurd cc

pub text_form : (v : Value) → IsTrue (has_sort sorts.Text v) → (t : List ℕ) × (v ≡ values.Text t)
text_form (values.Text t) h = (t, refl)
text_form v h = absurd cc

pub tasks_form : (v : Value) → IsTrue (has_sort sorts.Tasks v) → (t : List ℕ) × (v ≡ values.Text t)
tasks_form (values.Text t) h = (t, refl)
tasks_form v h = absurd cc

pub target_form : (v : Value) → IsTrue (has_sort sorts.JointTarget v) → (j : Joints) × (v ≡ values.Target j) × (length j.axis ≡ 12)
target_form (values.Target j) h = (j, refl, eqb-true (length j.axis) 12 h)
target_form v h = absurd cc

pub rob_form : (v : Value) → IsTrue (has_sort sorts.RobJoint v) → (l : List ℤ) × (v ≡ values.Rob l) × (length l ≡ 6)
rob_form (values.Rob l) h = (l, refl, eqb-true (length l) 6 h)
rob_form v h = absurd cc

pub ext_form : (v : Value) → IsTrue (has_sort sorts.ExtJoint v) → (l : List ℤ) × (v ≡ values.Ext l) × (length l ≡ 6)
ext_form (values.Ext l) h = (l, refl, eqb-true (length l) 6 h)
ext_form v h = absurd cc

speed_tool : (l : List ℤ) → IsTrue (has_sort sorts.SpeedData (values.Speed l)) → (tool : ℤ) × (others : List ℤ) × (values.Speed l ≡ values.Speed (tool ∷ others))
speed_tool [] h = absurd cc
speed_tool (tool ∷ others) h = (tool, others, refl)

pub speed_form : (v : Value) → IsTrue (has_sort sorts.SpeedData v) → (tool : ℤ) × (others : List ℤ) × (v ≡ values.Speed (tool ∷ others))
speed_form (values.Speed l) h = speed_tool l h
speed_form v h = absurd cc

pub speed_nums : (v : Value) → IsTrue (has_sort sorts.SpeedData v) → (l : List ℤ) × (v ≡ values.Speed l) × (length l ≡ 4)
speed_nums (values.Speed l) h = (l, refl, eqb-true (length l) 4 h)
speed_nums v h = absurd cc

-- values of one type that can be compared have one form
pub alike : (sort : Sort) (v w : Value) → IsTrue (is_compared sort) → IsTrue (has_sort sort v) → IsTrue (has_sort sort w) → IsTrue (are_alike v w)
alike sorts.Num (values.Num m) (values.Num n) c h i = refl
alike sorts.Bool (values.Bool a) (values.Bool b) c h i = refl
alike sorts.Text (values.Text a) (values.Text b) c h i = refl
alike sorts.RobJoint (values.Rob a) (values.Rob b) c h i = refl
alike sorts.ExtJoint (values.Ext a) (values.Ext b) c h i = refl
alike sorts.JointTarget (values.Target a) (values.Target b) c h i = refl
alike sorts.SpeedData (values.Speed a) (values.Speed b) c h i = refl
alike sort v w c h i = absurd cc

-- only a type with values has values
pub valued : (sort : Sort) (v : Value) → IsTrue (has_sort sort v) → IsTrue (has_values sort)
valued sorts.IntNum v h = absurd cc
valued sorts.SyncIdent v h = absurd cc
valued sorts.ShapeData v h = absurd cc
valued sorts.WzTemporary v h = absurd cc
valued sorts.WzStationary v h = absurd cc
valued sort v h = refl
