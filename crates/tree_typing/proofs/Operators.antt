-- The results of operators have the type that these name, and so do values made from components.
use Rattle.std.proofs.Common.{◌≡◌, ◌⊎◌, ⊎_elim, refl, sym, ap, ◌∙◌, subst, ℕ, suc, ◌≤◌, Bool, true, false, ◌++◌, not, nat_le, ℤ, pos, List, [], ◌∷◌, length, Option, Some, None, if◌then◌else◌, IsTrue, arith, length-append}
use Rattle.std.specs.Prelude.{⊤}
use Rattle.std.specs.Option.{option_map}
use Rattle.std.specs.Ordering.{int_eq}
use Rattle.std.proofs.lemmas.Bool.{eq-eqb}
use Rattle.rapid_num.specs.Arithmetic.{sum_of, difference_of, product_of, quotient_of, whole_quotient_of, remainder_of}
use Rattle.rapid_model.specs.Paths.{has_sort}
use Rattle.rapid_model.specs.declared.fate.Fault.TheVariants.{NumRange}
use Rattle.rapid_model.specs.declared.sort.Sort.{Sort}
use Rattle.rapid_model.specs.declared.sort.Sort.TheVariants as sorts
use Rattle.rapid_model.specs.declared.value.Value.{Value}
use Rattle.rapid_model.specs.declared.value.Value.TheVariants as values
use Rattle.rapid_model.specs.declared.operator.Operator.{Operator}
use Rattle.rapid_model.specs.declared.operator.Operator.TheVariants as operators
use Rattle.rapid_values.specs.Equality.{are_alike, same}
use Rattle.rapid_values.specs.Operators.{apply, num_or_fault}
use Rattle.rapid_values.specs.declared.applied.Applied.{Applied}
use Rattle.rapid_values.specs.declared.applied.Applied.TheVariants as applies
use Rattle.rapid_values.specs.Components.{Component, components}
use Rattle.rapid_values.specs.Values.{made_of, nums_of, so_many, with_axes}
use Rattle.rapid_meaning.specs.Doings.{Doing, ◌>>=◌}
use Rattle.rapid_meaning.specs.Values.{applied, between, in_range}
use Rattle.tree_typing.specs.Operations.{Operates}
use Rattle.tree_typing.proofs.Forms.{alike, bool_form, ext_form, num_form, rob_form, text_form}
use Rattle.tree_typing.proofs.Safe.{Safe, safe_fault, safe_gives, safe_raises, safe_then}
use Rattle.tree_typing.proofs.Scene.{Scene}

-- a value of the type, an error, or out of range
abbrev pub IsApplied : Applied → Sort → Type 0
IsApplied (applies.Gives v) sort = IsTrue (has_sort sort v)
IsApplied (applies.Raises n) sort = ⊤
IsApplied applies.OutOfRange sort = ⊤
IsApplied applies.Unfit sort = ⊥

pub applied_safe : (s : Scene) (sort : Sort) (a : Applied) → IsApplied a sort → Safe s (λ v. IsTrue (has_sort sort v)) (applied a)
applied_safe s sort (applies.Gives v) is = safe_gives s (λ v. IsTrue (has_sort sort v)) v is
applied_safe s sort (applies.Raises n) is = safe_raises s (λ v. IsTrue (has_sort sort v)) n
applied_safe s sort applies.OutOfRange is = safe_fault s (λ v. IsTrue (has_sort sort v)) NumRange
applied_safe s sort applies.Unfit is = absurd is

pub range_safe : (s : Scene) (o : Option ℤ) → Safe s (λ v. IsTrue (has_sort sorts.Num v)) (in_range o)
range_safe s None = safe_fault s (λ v. IsTrue (has_sort sorts.Num v)) NumRange
range_safe s (Some n) = safe_gives s (λ v. IsTrue (has_sort sorts.Num v)) (values.Num n) refl

fault_applied : (o : Option ℤ) → IsApplied (num_or_fault o) sorts.Num
fault_applied None = tt
fault_applied (Some n) = refl

zero_applied : (b : Bool) (a : Applied) → IsApplied a sorts.Num → IsApplied (if b then applies.Raises 101 else a) sorts.Num
zero_applied true a is = tt
zero_applied false a is = is

text_applied : (b : Bool) (t : List ℕ) → IsApplied (if b then applies.Gives (values.Text t) else applies.Raises 102) sorts.Text
text_applied true t = refl
text_applied false t = tt

of_nums_applied : (o : Operator) (first sort : Sort) (v w : Value) → first ≡ sorts.Num → IsTrue (has_sort first v) → IsTrue (has_sort first w)
    → ((m n : ℤ) → IsApplied (apply o (values.Num m) (values.Num n)) sort) → IsApplied (apply o v w) sort
of_nums_applied o first sort v w num hv hw each =
    let f : (n : ℤ) × (v ≡ values.Num n) = num_form v (subst (λ (x : Sort). IsTrue (has_sort x v)) num hv) in
    let g : (n : ℤ) × (w ≡ values.Num n) = num_form w (subst (λ (x : Sort). IsTrue (has_sort x w)) num hw) in
    subst (λ (x : Value). IsApplied (apply o x w) sort) (sym f.1) (subst (λ (x : Value). IsApplied (apply o (values.Num f.0) x) sort) (sym g.1) (each f.0 g.0))

of_truths_applied : (o : Operator) (first sort : Sort) (v w : Value) → first ≡ sorts.Bool → IsTrue (has_sort first v) → IsTrue (has_sort first w)
    → ((a b : Bool) → IsApplied (apply o (values.Bool a) (values.Bool b)) sort) → IsApplied (apply o v w) sort
of_truths_applied o first sort v w truth hv hw each =
    let f : (b : Bool) × (v ≡ values.Bool b) = bool_form v (subst (λ (x : Sort). IsTrue (has_sort x v)) truth hv) in
    let g : (b : Bool) × (w ≡ values.Bool b) = bool_form w (subst (λ (x : Sort). IsTrue (has_sort x w)) truth hw) in
    subst (λ (x : Value). IsApplied (apply o x w) sort) (sym f.1) (subst (λ (x : Value). IsApplied (apply o (values.Bool f.0) x) sort) (sym g.1) (each f.0 g.0))

of_texts_applied : (first : Sort) (v w : Value) → first ≡ sorts.Text → IsTrue (has_sort first v) → IsTrue (has_sort first w) → IsApplied (apply operators.Add v w) sorts.Text
of_texts_applied first v w text hv hw =
    let f : (t : List ℕ) × (v ≡ values.Text t) = text_form v (subst (λ (x : Sort). IsTrue (has_sort x v)) text hv) in
    let g : (t : List ℕ) × (w ≡ values.Text t) = text_form w (subst (λ (x : Sort). IsTrue (has_sort x w)) text hw) in
    subst (λ (x : Value). IsApplied (apply operators.Add x w) sorts.Text) (sym f.1) (subst (λ (x : Value). IsApplied (apply operators.Add (values.Text f.0) x) sorts.Text) (sym g.1)
    (text_applied (nat_le (length (f.0 ++ g.0)) 80) (f.0 ++ g.0)))

when_alike : (b c : Bool) → b ≡ true → IsApplied (if b then applies.Gives (values.Bool c) else applies.Unfit) sorts.Bool
when_alike true c e = refl
when_alike false c e = absurd cc

of_sort : (a : Applied) (own sort : Sort) → sort ≡ own → IsApplied a own → IsApplied a sort
of_sort a own sort e is = subst (λ (x : Sort). IsApplied a x) (sym e) is

added_applied : (first sort : Sort) (v w : Value) → (first ≡ sorts.Num) ⊎ (first ≡ sorts.Text) → sort ≡ first → IsTrue (has_sort first v) → IsTrue (has_sort first w)
    → IsApplied (apply operators.Add v w) sort
added_applied first sort v w which e hv hw =
    ⊎_elim
    (λ num. of_sort (apply operators.Add v w) sorts.Num sort (e ∙ num) (of_nums_applied operators.Add first sorts.Num v w num hv hw (λ m n. fault_applied (sum_of m n))))
    (λ text. of_sort (apply operators.Add v w) sorts.Text sort (e ∙ text) (of_texts_applied first v w text hv hw)) which

pub apply_is : (o : Operator) (first sort : Sort) (v w : Value) → Operates o first sort → IsTrue (has_sort first v) → IsTrue (has_sort first w) → IsApplied (apply o v w) sort
apply_is operators.Equal first sort v w is hv hw =
    of_sort (apply operators.Equal v w) sorts.Bool sort is.1 (when_alike (are_alike v w) (same v w) (alike first v w is.0 hv hw))
apply_is operators.NotEqual first sort v w is hv hw =
    of_sort (apply operators.NotEqual v w) sorts.Bool sort is.1 (when_alike (are_alike v w) (not (same v w)) (alike first v w is.0 hv hw))
apply_is operators.And first sort v w is hv hw = of_sort (apply operators.And v w) sorts.Bool sort is.1 (of_truths_applied operators.And first sorts.Bool v w is.0 hv hw (λ a b. refl))
apply_is operators.Or first sort v w is hv hw = of_sort (apply operators.Or v w) sorts.Bool sort is.1 (of_truths_applied operators.Or first sorts.Bool v w is.0 hv hw (λ a b. refl))
apply_is operators.Xor first sort v w is hv hw = of_sort (apply operators.Xor v w) sorts.Bool sort is.1 (of_truths_applied operators.Xor first sorts.Bool v w is.0 hv hw (λ a b. refl))
apply_is operators.Less first sort v w is hv hw = of_sort (apply operators.Less v w) sorts.Bool sort is.1 (of_nums_applied operators.Less first sorts.Bool v w is.0 hv hw (λ a b. refl))
apply_is operators.Greater first sort v w is hv hw = of_sort (apply operators.Greater v w) sorts.Bool sort is.1 (of_nums_applied operators.Greater first sorts.Bool v w is.0 hv hw (λ a b. refl))
apply_is operators.LessEqual first sort v w is hv hw =
    of_sort (apply operators.LessEqual v w) sorts.Bool sort is.1 (of_nums_applied operators.LessEqual first sorts.Bool v w is.0 hv hw (λ a b. refl))
apply_is operators.GreaterEqual first sort v w is hv hw =
    of_sort (apply operators.GreaterEqual v w) sorts.Bool sort is.1 (of_nums_applied operators.GreaterEqual first sorts.Bool v w is.0 hv hw (λ a b. refl))
apply_is operators.Add first sort v w is hv hw = added_applied first sort v w is.0 is.1 hv hw
apply_is operators.Sub first sort v w is hv hw =
    of_sort (apply operators.Sub v w) sorts.Num sort is.1 (of_nums_applied operators.Sub first sorts.Num v w is.0 hv hw (λ m n. fault_applied (difference_of m n)))
apply_is operators.Mul first sort v w is hv hw =
    of_sort (apply operators.Mul v w) sorts.Num sort is.1 (of_nums_applied operators.Mul first sorts.Num v w is.0 hv hw (λ m n. fault_applied (product_of m n)))
apply_is operators.Div first sort v w is hv hw =
    of_sort (apply operators.Div v w) sorts.Num sort is.1
    (of_nums_applied operators.Div first sorts.Num v w is.0 hv hw (λ m n. zero_applied (int_eq n (pos 0)) (num_or_fault (quotient_of m n)) (fault_applied (quotient_of m n))))
apply_is operators.IntDiv first sort v w is hv hw =
    of_sort (apply operators.IntDiv v w) sorts.Num sort is.1
    (of_nums_applied operators.IntDiv first sorts.Num v w is.0 hv hw (λ m n. zero_applied (int_eq n (pos 0)) (num_or_fault (whole_quotient_of m n)) (fault_applied (whole_quotient_of m n))))
apply_is operators.Mod first sort v w is hv hw =
    of_sort (apply operators.Mod v w) sorts.Num sort is.1
    (of_nums_applied operators.Mod first sorts.Num v w is.0 hv hw (λ m n. zero_applied (int_eq n (pos 0)) (applies.Gives (values.Num (remainder_of m n))) refl))

-- the right operand, and then the operator
both_safe : (s : Scene) (o : Operator) (first sort : Sort) (v : Value) (right : Doing Value) → Operates o first sort → IsTrue (has_sort first v) → Safe s (λ w. IsTrue (has_sort first w)) right
    → Safe s (λ w. IsTrue (has_sort sort w)) (right >>= λ w. applied (apply o v w))
both_safe s o first sort v right is hv safe =
    safe_then s (λ w. IsTrue (has_sort first w)) (λ w. IsTrue (has_sort sort w)) right (λ w. applied (apply o v w)) safe
    (λ w hw. applied_safe s sort (apply o v w) (apply_is o first sort v w is hv hw))

and_safe : (s : Scene) (first sort : Sort) (b : Bool) (right : Doing Value) → Operates operators.And first sort → IsTrue (has_sort first (values.Bool b)) → Safe s (λ w. IsTrue (has_sort first w)) right
    → Safe s (λ w. IsTrue (has_sort sort w)) (between operators.And (values.Bool b) right)
and_safe s first sort true right is hv safe = both_safe s operators.And first sort (values.Bool true) right is hv safe
and_safe s first sort false right is hv safe = safe_gives s (λ w. IsTrue (has_sort sort w)) (values.Bool false) (subst (λ (x : Sort). IsTrue (has_sort x (values.Bool false))) (sym is.1) refl)

or_safe : (s : Scene) (first sort : Sort) (b : Bool) (right : Doing Value) → Operates operators.Or first sort → IsTrue (has_sort first (values.Bool b)) → Safe s (λ w. IsTrue (has_sort first w)) right
    → Safe s (λ w. IsTrue (has_sort sort w)) (between operators.Or (values.Bool b) right)
or_safe s first sort false right is hv safe = both_safe s operators.Or first sort (values.Bool false) right is hv safe
or_safe s first sort true right is hv safe = safe_gives s (λ w. IsTrue (has_sort sort w)) (values.Bool true) (subst (λ (x : Sort). IsTrue (has_sort x (values.Bool true))) (sym is.1) refl)

pub between_safe : (s : Scene) (o : Operator) (first sort : Sort) (v : Value) (right : Doing Value) → Operates o first sort → IsTrue (has_sort first v) → Safe s (λ w. IsTrue (has_sort first w)) right
    → Safe s (λ w. IsTrue (has_sort sort w)) (between o v right)
between_safe s operators.And first sort v right is hv safe =
    let f : (b : Bool) × (v ≡ values.Bool b) = bool_form v (subst (λ (x : Sort). IsTrue (has_sort x v)) is.0 hv) in
    subst (λ (x : Value). Safe s (λ w. IsTrue (has_sort sort w)) (between operators.And x right)) (sym f.1)
    (and_safe s first sort f.0 right is (subst (λ (x : Value). IsTrue (has_sort first x)) f.1 hv) safe)
between_safe s operators.Or first sort v right is hv safe =
    let f : (b : Bool) × (v ≡ values.Bool b) = bool_form v (subst (λ (x : Sort). IsTrue (has_sort x v)) is.0 hv) in
    subst (λ (x : Value). Safe s (λ w. IsTrue (has_sort sort w)) (between operators.Or x right)) (sym f.1)
    (or_safe s first sort f.0 right is (subst (λ (x : Value). IsTrue (has_sort first x)) f.1 hv) safe)
between_safe s o first sort v right is hv safe = both_safe s o first sort v right is hv safe

-- values, each of its component's type
abbrev pub AreMade : List Value → List Component → Type 0
AreMade [] [] = ⊤
AreMade (v ∷ vs) (component ∷ more) = IsTrue (has_sort component.sort v) × AreMade vs more
AreMade _ _ = ⊥

abbrev AreNums : List Component → Type 0
AreNums [] = ⊤
AreNums (component ∷ more) = (component.sort ≡ sorts.Num) × AreNums more

all_nums : (vs : List Value) (cs : List Component) → AreMade vs cs → AreNums cs → (ns : List ℤ) × (nums_of vs ≡ Some ns) × (length ns ≡ length cs)
all_nums [] [] are nums = ([], refl, refl)
all_nums [] (c ∷ cs) are nums = absurd are
all_nums (v ∷ vs) [] are nums = absurd are
all_nums (v ∷ vs) (c ∷ cs) are nums =
    let f : (n : ℤ) × (v ≡ values.Num n) = num_form v (subst (λ (x : Sort). IsTrue (has_sort x v)) nums.0 are.0) in
    let more : (ns : List ℤ) × (nums_of vs ≡ Some ns) × (length ns ≡ length cs) = all_nums vs cs are.1 nums.1 in
    (f.0 ∷ more.0, ap (λ (x : Value). nums_of (x ∷ vs)) f.1 ∙ ap (option_map (λ ns. f.0 ∷ ns)) more.1, ap suc more.2)

abbrev IsMade : Option Value → Sort → Type 0
IsMade o sort = (v : Value) × (o ≡ Some v) × IsTrue (has_sort sort v)

counted : (count : ℕ) (make : List ℤ → Value) (sort : Sort) (o : Option (List ℤ)) (ns : List ℤ) → o ≡ Some ns → length ns ≡ count
    → ((l : List ℤ) → length l ≡ count → IsTrue (has_sort sort (make l))) → IsMade (so_many count make o) sort
counted count make sort o ns e many is =
    (make ns, ap (so_many count make) e ∙ ap (λ (b : Bool). if b then Some (make ns) else None) (eq-eqb (length ns) count many), is ns many)

nums_made : (count : ℕ) (make : List ℤ → Value) (sort : Sort) (vs : List Value) (cs : List Component) → AreMade vs cs → AreNums cs → length cs ≡ count
    → ((l : List ℤ) → length l ≡ count → IsTrue (has_sort sort (make l))) → IsMade (so_many count make (nums_of vs)) sort
nums_made count make sort vs cs are nums many is =
    let all : (ns : List ℤ) × (nums_of vs ≡ Some ns) × (length ns ≡ length cs) = all_nums vs cs are nums in
    counted count make sort (nums_of vs) all.0 all.1 (all.2 ∙ many) is

target_made : (v w : Value) → IsTrue (has_sort sorts.RobJoint v) → IsTrue (has_sort sorts.ExtJoint w) → IsMade (made_of sorts.JointTarget (v ∷ w ∷ [])) sorts.JointTarget
target_made v w hv hw =
    let f : (l : List ℤ) × (v ≡ values.Rob l) × (length l ≡ 6) = rob_form v hv in
    let g : (l : List ℤ) × (w ≡ values.Ext l) × (length l ≡ 6) = ext_form w hw in (
      with_axes (f.0 ++ g.0),
      ap (λ (x : Value). made_of sorts.JointTarget (x ∷ w ∷ [])) f.1 ∙ ap (λ (x : Value). made_of sorts.JointTarget (values.Rob f.0 ∷ x ∷ [])) g.1,
      eq-eqb (length (f.0 ++ g.0)) 12 (omega (arith, length-append f.0 g.0, f.2, g.2)),
    )

pair_made : (vs : List Value) → AreMade vs (components sorts.JointTarget) → IsMade (made_of sorts.JointTarget vs) sorts.JointTarget
pair_made (v ∷ w ∷ []) are = target_made v w are.0 are.1.0
pair_made [] are = absurd are
pair_made (v ∷ []) are = absurd are.1
pair_made (v ∷ w ∷ x ∷ vs) are = absurd are.1.1

name_made : (v : Value) → IsTrue (has_sort sorts.Text v) → IsMade (made_of sorts.Tasks (v ∷ [])) sorts.Tasks
name_made v hv =
    let f : (t : List ℕ) × (v ≡ values.Text t) = text_form v hv in (values.Text f.0, ap (λ (x : Value). made_of sorts.Tasks (x ∷ [])) f.1, refl)

tasks_made : (vs : List Value) → AreMade vs (components sorts.Tasks) → IsMade (made_of sorts.Tasks vs) sorts.Tasks
tasks_made (v ∷ []) are = name_made v are.0
tasks_made [] are = absurd are
tasks_made (v ∷ w ∷ vs) are = absurd are.1

-- components of a record type make a value of it
pub made : (sort : Sort) (vs : List Value) → 1 ≤ length (components sort) → AreMade vs (components sort) → IsMade (made_of sort vs) sort
made sorts.RobJoint vs some are = nums_made 6 values.Rob sorts.RobJoint vs (components sorts.RobJoint) are (refl, (refl, (refl, (refl, (refl, (refl, tt)))))) refl (λ l six. eq-eqb (length l) 6 six)
made sorts.ExtJoint vs some are = nums_made 6 values.Ext sorts.ExtJoint vs (components sorts.ExtJoint) are (refl, (refl, (refl, (refl, (refl, (refl, tt)))))) refl (λ l six. eq-eqb (length l) 6 six)
made sorts.SpeedData vs some are = nums_made 4 values.Speed sorts.SpeedData vs (components sorts.SpeedData) are (refl, (refl, (refl, (refl, tt)))) refl (λ l four. eq-eqb (length l) 4 four)
made sorts.JointTarget vs some are = pair_made vs are
made sorts.Tasks vs some are = tasks_made vs are
made sort vs some are = absurd (omega (arith, some))
