-- An expression that is known before the run gives its constant value.
use Rattle.std.proofs.Common.{◌≡◌, refl, sym, ap, ◌∙◌, subst, ℕ, ◌+◌, ◌-◌, Bool, true, false, ℤ, List, [], ◌∷◌, length, Option, Some, None, slice_get, arith}
use Rattle.std.specs.Prelude.{⊤}
use Rattle.std.specs.Option.{option_and_then, option_map}
use Rattle.rapid_model.specs.declared.part_name.PartName.{PartName}
use Rattle.rapid_model.specs.declared.sort.Sort.{Sort}
use Rattle.rapid_model.specs.declared.value.Value.{Value}
use Rattle.rapid_model.specs.declared.value.Value.TheVariants as values
use Rattle.rapid_model.specs.declared.operator.Operator.{Operator}
use Rattle.rapid_model.specs.declared.operator.Operator.TheVariants as operators
use Rattle.rapid_values.specs.Operators.{apply}
use Rattle.rapid_values.specs.declared.applied.Applied.{Applied}
use Rattle.rapid_values.specs.declared.applied.Applied.TheVariants as applies
use Rattle.rapid_values.specs.Values.{made_of, part_of}
use Rattle.constant_meaning.specs.Constants as constants
use Rattle.rapid_values.specs.Elements.{element_number}
use Rattle.constant_meaning.specs.Constants.{Elements, Outcomes, all, stops, constant_value, constant_values, array_of}
use Rattle.constant_meaning.specs.declared.outcome.Outcome.{Outcome}
use Rattle.constant_meaning.specs.declared.outcome.Outcome.TheVariants as outcomes
use Rattle.typed_trees.specs.Plain.{TypedExpr, TypedExprs, TypedRoutine, TypedSteps, TypedTree, Known, ErrorNumber, SignalValue, Stored, Group, Aggregate, Builtin, Invoke, Not, Signed, Chain, NoExprs, MoreExprs, NoSteps, MoreSteps, NotHeld, Held, PlaceOf}
use Rattle.typed_trees.specs.declared.datum.Datum.{Datum}
use Rattle.typed_trees.specs.declared.datum.Datum.TheVariants as datums
use Rattle.typed_trees.specs.declared.datum.Lvalue.{Lvalue}
use Rattle.typed_trees.specs.declared.datum.Root.{Root}
use Rattle.typed_trees.specs.declared.datum.Root.TheVariants as roots
use Rattle.typed_trees.specs.declared.expr.TreeRoot.{TreeRoot}
use Rattle.typed_trees.specs.declared.expr.TreeRoot.TheVariants as tree_roots
use Rattle.rapid_meaning.specs.Answering.{Gave, performed}
use Rattle.rapid_meaning.specs.Constants.{HoldsArrays}
use Rattle.rapid_meaning.specs.Data.{Data, Frame, datum_at}
use Rattle.rapid_meaning.specs.Doings.{Doing, Gives, Raises, after, or_misfit}
use Rattle.rapid_meaning.specs.Expressions.{along, expr, exprs, place}
use Rattle.rapid_meaning.specs.Layouts.{length_at, local_start, slot_start}
use Rattle.rapid_meaning.specs.Places.{at_element, at_root, element_or_fault, element_root, indexed, load_from, own_place, part_at, part_in, place_of_element, read_value, rooted, there_in}
use Rattle.rapid_meaning.specs.Values as meaning
use Rattle.rapid_meaning.proofs.Composing.{Comes, comes_after}

pub gives : {A : Type 0} (d : Data) (v : A) → Comes (Gives v) d v
unfolding performed
gives d v = λ by run left. refl

gives_same : {A : Type 0} (d : Data) (u v : A) → u ≡ v → Comes (Gives u) d v
gives_same d u v same = subst (λ (x : _). Comes (Gives u) d x) same (gives d u)

-- no other outcome is a value
never_raises : {A : Type 0} (n : ℕ) (v : Value) → outcomes.Raises n ≡ outcomes.Value v → A
never_raises n v e = cc

never_out_of_range : {A : Type 0} (v : Value) → outcomes.OutOfRange ≡ outcomes.Value v → A
never_out_of_range v e = cc

never_out_of_array : {A : Type 0} (v : Value) → outcomes.OutOfArray ≡ outcomes.Value v → A
never_out_of_array v e = cc

never_not_known : {A : Type 0} (v : Value) → outcomes.NotKnown ≡ outcomes.Value v → A
never_not_known v e = cc

one_value : (u v : Value) → outcomes.Value u ≡ outcomes.Value v → u ≡ v
one_value u v e = cc

applied_comes : (d : Data) (a : Applied) (v : Value) → constants.applied a ≡ outcomes.Value v → Comes (meaning.applied a) d v
applied_comes d (applies.Gives u) v e = gives_same d u v (one_value u v e)
applied_comes d (applies.Raises n) v e = never_raises n v e
applied_comes d applies.OutOfRange v e = never_out_of_range v e
applied_comes d applies.Unfit v e = never_not_known v e

-- the outcome is a value u, from which `next` comes to v
abbrev Through : Outcome → (Value → Doing Value) → Data → Value → Type 0
Through o next d v = (u : Value) × (o ≡ outcomes.Value u) × Comes (next u) d v

opposite_comes : (d : Data) (o : Outcome) (v : Value) → constants.opposite o ≡ outcomes.Value v → Through o meaning.opposite d v
opposite_comes d (outcomes.Value (values.Bool b)) v e = (values.Bool b, refl, gives_same d _ v (one_value _ v e))
opposite_comes d (outcomes.Value u) v e = never_not_known v e
opposite_comes d (outcomes.Raises n) v e = never_raises n v e
opposite_comes d outcomes.OutOfRange v e = never_out_of_range v e
opposite_comes d outcomes.OutOfArray v e = never_out_of_array v e
opposite_comes d outcomes.NotKnown v e = never_not_known v e

signed_comes : (d : Data) (minus : Bool) (o : Outcome) (v : Value) → constants.with_sign minus o ≡ outcomes.Value v → Through o (meaning.with_sign minus) d v
signed_comes d true (outcomes.Value (values.Num n)) v e = (values.Num n, refl, gives_same d _ v (one_value _ v e))
signed_comes d false (outcomes.Value (values.Num n)) v e = (values.Num n, refl, gives_same d _ v (one_value _ v e))
signed_comes d true (outcomes.Value u) v e = never_not_known v e
signed_comes d true (outcomes.Raises n) v e = never_raises n v e
signed_comes d true outcomes.OutOfRange v e = never_out_of_range v e
signed_comes d true outcomes.OutOfArray v e = never_out_of_array v e
signed_comes d true outcomes.NotKnown v e = never_not_known v e
signed_comes d false (outcomes.Value u) v e = never_not_known v e
signed_comes d false (outcomes.Raises n) v e = never_raises n v e
signed_comes d false outcomes.OutOfRange v e = never_out_of_range v e
signed_comes d false outcomes.OutOfArray v e = never_out_of_array v e
signed_comes d false outcomes.NotKnown v e = never_not_known v e

-- AND and OR take bools only
abbrev IsBool : Value → Type 0
IsBool (values.Bool b) = ⊤
IsBool _ = ⊥

and_of_bool : (u w v : Value) → constants.applied (apply operators.And u w) ≡ outcomes.Value v → IsBool u
and_of_bool (values.Bool b) w v e = tt
and_of_bool (values.Num m) (values.Num n) v e = never_not_known v e
and_of_bool (values.Text s) (values.Text t) v e = never_not_known v e
and_of_bool u w v e = never_not_known v e

or_of_bool : (u w v : Value) → constants.applied (apply operators.Or u w) ≡ outcomes.Value v → IsBool u
or_of_bool (values.Bool b) w v e = tt
or_of_bool (values.Num m) (values.Num n) v e = never_not_known v e
or_of_bool (values.Text s) (values.Text t) v e = never_not_known v e
or_of_bool u w v e = never_not_known v e

right_value : (o : Operator) (u v : Value) (r : Outcome) → constants.on_right o u r ≡ outcomes.Value v
    → (w : Value) × (r ≡ outcomes.Value w) × (constants.applied (apply o u w) ≡ outcomes.Value v)
right_value o u v (outcomes.Value w) e = (w, refl, e)
right_value o u v (outcomes.Raises n) e = never_raises n v e
right_value o u v outcomes.OutOfRange e = never_out_of_range v e
right_value o u v outcomes.OutOfArray e = never_out_of_array v e
right_value o u v outcomes.NotKnown e = never_not_known v e

-- the right operand gives what its outcome says
abbrev pub ComesAs : Doing Value → Data → Outcome → Type 0
ComesAs right d r = (w : Value) → r ≡ outcomes.Value w → Comes right d w

right_comes : (d : Data) (o : Operator) (u v : Value) (r : Outcome) (right : Doing Value) → ComesAs right d r → constants.on_right o u r ≡ outcomes.Value v
    → Comes (after right (λ w. meaning.applied (apply o u w)) Raises) d v
right_comes d o u v r right good e =
    let w = right_value o u v r e in
    comes_after right (λ w. meaning.applied (apply o u w)) Raises d w.0 v (good w.0 w.1) (applied_comes d (apply o u w.0) v w.2)

pub between_comes : (d : Data) (o : Operator) (u v : Value) (r : Outcome) (right : Doing Value) → ComesAs right d r
    → constants.between o (outcomes.Value u) r ≡ outcomes.Value v → Comes (meaning.between o u right) d v
between_comes d operators.And (values.Bool true) v r right good e = right_comes d operators.And (values.Bool true) v r right good e
between_comes d operators.And (values.Bool false) v r right good e = gives_same d (values.Bool false) v (one_value (values.Bool false) v e)
between_comes d operators.And u v r right good e = let w = right_value operators.And u v r e in absurd (and_of_bool u w.0 v w.2)
between_comes d operators.Or (values.Bool true) v r right good e = gives_same d (values.Bool true) v (one_value (values.Bool true) v e)
between_comes d operators.Or (values.Bool false) v r right good e = right_comes d operators.Or (values.Bool false) v r right good e
between_comes d operators.Or u v r right good e = let w = right_value operators.Or u v r e in absurd (or_of_bool u w.0 v w.2)
between_comes d o u v r right good e = right_comes d o u v r right good e

through_between : (d : Data) (o : Operator) (left r : Outcome) (v : Value) (right : Doing Value) → ComesAs right d r
    → constants.between o left r ≡ outcomes.Value v → Through left (λ u. meaning.between o u right) d v
through_between d o (outcomes.Value u) r v right good e = (u, refl, between_comes d o u v r right good e)
through_between d o (outcomes.Raises n) r v right good e = never_raises n v e
through_between d o outcomes.OutOfRange r v right good e = never_out_of_range v e
through_between d o outcomes.OutOfArray r v right good e = never_out_of_array v e
through_between d o outcomes.NotKnown r v right good e = never_not_known v e

-- lists of outcomes
both_values : (o : Outcome) (more : Outcomes) (vs : List Value) → constants.and_more o more ≡ all vs
    → (u : Value) × (us : List Value) × (o ≡ outcomes.Value u) × (more ≡ all us) × (u ∷ us ≡ vs)
both_values (outcomes.Value u) (all us) vs e = (u, us, refl, refl, cc)
both_values (outcomes.Value u) (stops other) vs e = absurd cc
both_values (outcomes.Raises n) more vs e = absurd cc
both_values outcomes.OutOfRange more vs e = absurd cc
both_values outcomes.OutOfArray more vs e = absurd cc
both_values outcomes.NotKnown more vs e = absurd cc

stopped_by : (o : Outcome) (more : Outcomes) (v : Value) → constants.and_more o more ≡ stops (outcomes.Value v) → more ≡ stops (outcomes.Value v)
stopped_by (outcomes.Value u) (all us) v e = absurd cc
stopped_by (outcomes.Value u) (stops other) v e = e
stopped_by (outcomes.Raises n) more v e = absurd cc
stopped_by outcomes.OutOfRange more v e = absurd cc
stopped_by outcomes.OutOfArray more v e = absurd cc
stopped_by outcomes.NotKnown more v e = absurd cc

-- no value stops a list
no_stop : (known : Elements) (es : TypedExprs) (v : Value) → constant_values known es ≡ stops (outcomes.Value v) → ⊥
unfolding constant_values
no_stop known NoExprs v e = cc
no_stop known (MoreExprs x es) v e = no_stop known es v (stopped_by (constant_value known x) (constant_values known es) v e)

some_value : (o : Option Value) (v : Value) → constants.value_or_not_known o ≡ outcomes.Value v → o ≡ Some v
some_value None v e = never_not_known v e
some_value (Some u) v e = ap Some (one_value u v e)

made_value : (known : Elements) (sort : Sort) (es : TypedExprs) (more : Outcomes) (v : Value) → constant_values known es ≡ more → constants.made sort more ≡ outcomes.Value v
    → (vs : List Value) × (more ≡ all vs) × (made_of sort vs ≡ Some v)
made_value known sort es (all vs) v is e = (vs, refl, some_value (made_of sort vs) v e)
made_value known sort es (stops other) v is e = absurd (no_stop known es v (is ∙ ap stops e))

pub or_misfit_comes : {A : Type 0} (d : Data) (o : Option A) (v : A) → o ≡ Some v → Comes (or_misfit o) d v
or_misfit_comes d o v e = subst (λ (x : Option _). Comes (or_misfit x) d v) (sym e) (gives d v)

-- an element of a constant array: the array, its number, the element, and that the value is a part of it
record IsElement (array : Option (List Value)) (part : PartName) (index : Outcome) (v : Value) : Type 0 where
  elements : List Value
  n : ℤ
  number : ℕ
  element : Value
  known : array ≡ Some elements
  named : index ≡ outcomes.Value (values.Num n)
  within : element_number (length elements) n ≡ Some number
  there : slice_get elements (number - 1) ≡ Some element
  of_it : part_of element part ≡ Some v

found : (part : PartName) (o : Option Value) (v : Value) → option_and_then (λ u. part_of u part) o ≡ Some v → (u : Value) × (o ≡ Some u) × (part_of u part ≡ Some v)
found part None v e = absurd cc
found part (Some u) v e = (u, refl, e)

element_within : (elements : List Value) (part : PartName) (n : ℤ) (v : Value) (number : Option ℕ) → element_number (length elements) n ≡ number
    → constants.element_part elements part number ≡ outcomes.Value v → IsElement (Some elements) part (outcomes.Value (values.Num n)) v
element_within elements part n v None is e = never_out_of_array v e
element_within elements part n v (Some number) is e =
    let f = found part (slice_get elements (number - 1)) v (some_value (option_and_then (λ u. part_of u part) (slice_get elements (number - 1))) v e) in
    record { elements = elements; n = n; number = number; element = f.0; known = refl; named = refl; within = is; there = f.1; of_it = f.2 }

element_of_array : (array : Option (List Value)) (part : PartName) (index : Outcome) (v : Value) → constants.element_at array part index ≡ outcomes.Value v → IsElement array part index v
element_of_array None part index v e = never_not_known v e
element_of_array (Some elements) part (outcomes.Value (values.Num n)) v e = element_within elements part n v (element_number (length elements) n) refl e
element_of_array (Some elements) part (outcomes.Value u) v e = never_not_known v e
element_of_array (Some elements) part (outcomes.Raises n) v e = never_raises n v e
element_of_array (Some elements) part outcomes.OutOfRange v e = never_out_of_range v e
element_of_array (Some elements) part outcomes.OutOfArray v e = never_out_of_array v e
element_of_array (Some elements) part outcomes.NotKnown v e = never_not_known v e

-- reading a part of a datum
part_there : (part : PartName) (u v : Value) (o : Option Datum) → o ≡ Some (datums.Plain u) → part_of u part ≡ Some v → option_and_then (part_in part) o ≡ Some (datums.Plain v)
part_there part u v o is of_it = ap (option_and_then (part_in part)) is ∙ ap (option_map datums.Plain) of_it

load_comes : (d : Data) (root : Root) (part : PartName) (u v : Value) → datum_at root d ≡ Some (datums.Plain u) → part_of u part ≡ Some v → Comes (load_from root part) d (datums.Plain v)
unfolding performed
load_comes d (roots.Slot slot) part u v is of_it = λ by run left. or_misfit_comes d _ (datums.Plain v) (part_there part u v (datum_at (roots.Slot slot) d) is of_it) by run left
load_comes d (roots.Frame frame at) part u v is of_it = λ by run left. or_misfit_comes d _ (datums.Plain v) (part_there part u v (datum_at (roots.Frame frame at) d) is of_it) by run left
load_comes d (roots.Pers pers index) part u v is of_it = absurd cc

pub read_comes : (d : Data) (root : Root) (part : PartName) (u v : Value) → datum_at root d ≡ Some (datums.Plain u) → part_of u part ≡ Some v
    → Comes (read_value (record { root = root; part = part })) d v
read_comes d root part u v is of_it = comes_after (load_from root part) meaning.value_in Raises d (datums.Plain v) v (load_comes d root part u v is of_it) (gives d v)

own_frame : (frames : List Frame) (below start : ℕ) → length frames ≡ below + 1 → own_place start frames ≡ at_root (roots.Frame below start)
own_frame [] below start e = absurd (omega (arith, e))
own_frame (frame ∷ rest) below start e = let same : length rest ≡ below = omega (arith, e) in ap (λ (n : ℕ). at_root (roots.Frame n start)) same

-- the start of the array at a root, and that its elements exist
pub record IsRooted (tree : TypedTree) (routine : TypedRoutine) (d : Data) (root : TreeRoot) (elements : List Value) : Type 0 where
  pub start : Root
  pub comes : Comes (rooted tree routine root) d (at_root start)
  pub holds : (number : ℕ) (u : Value) → slice_get elements (number - 1) ≡ Some u → datum_at (element_root start number) d ≡ Some (datums.Plain u)

pub is_rooted : (tree : TypedTree) (routine : TypedRoutine) (known : Elements) (d : Data) → HoldsArrays tree routine known d → (root : TreeRoot) (elements : List Value)
    → array_of known root ≡ Some elements → IsRooted tree routine d root elements
unfolding performed
is_rooted tree routine known d held (tree_roots.Slot row) elements is = record {
  start = roots.Slot (slot_start tree row);
  comes = gives d (at_root (roots.Slot (slot_start tree row)));
  holds = λ number u there. (held.slots row elements is).at (number - 1) u there;
}
is_rooted tree routine known d held (tree_roots.Local row) elements is = record {
  start = roots.Frame held.below (local_start routine row);
  comes = λ by run left. ap (λ (q : Lvalue). Gave q d left) (own_frame d.frames held.below (local_start routine row) held.under_way);
  holds = λ number u there. (held.locals row elements is).at (number - 1) u there;
}
is_rooted tree routine known d held (tree_roots.Ref row) elements is = absurd cc
is_rooted tree routine known d held (tree_roots.Pers row) elements is = absurd cc

-- a place whose datum exists
there_comes : (d : Data) (p : Lvalue) (root : Root) (x : Datum) → datum_at root d ≡ Some x → there_in d p root ≡ Some p
there_comes d p (roots.Slot slot) x is = ap (option_map (λ (held : Datum). p)) is
there_comes d p (roots.Frame frame at) x is = ap (option_map (λ (held : Datum). p)) is
there_comes d p (roots.Pers pers index) x is = refl

at_element_comes : (d : Data) (p : Lvalue) (number : ℕ) (x : Datum) → datum_at (element_root p.root number) d ≡ Some x → Comes (at_element p number) d (place_of_element p number)
unfolding performed
at_element_comes d p number x is = λ by run left.
    or_misfit_comes d (there_in d (place_of_element p number) (element_root p.root number)) (place_of_element p number) (there_comes d (place_of_element p number) (element_root p.root number) x is) by run left

indexed_comes : (d : Data) (len : Option ℕ) (p : Lvalue) (count number : ℕ) (n : ℤ) (x : Datum) → len ≡ Some count → element_number count n ≡ Some number
    → datum_at (element_root p.root number) d ≡ Some x → Comes (indexed len p (values.Num n)) d (place_of_element p number)
unfolding after
indexed_comes d len p count number n x is within there =
    subst (λ (l : Option ℕ). Comes (indexed l p (values.Num n)) d (place_of_element p number)) (sym is)
    (subst (λ (l : Option ℕ). Comes (element_or_fault p l) d (place_of_element p number)) (sym within) (at_element_comes d p number x there))

element_comes : (tree : TypedTree) (routine : TypedRoutine) (known : Elements) (d : Data) → HoldsArrays tree routine known d → (root : TreeRoot) (index : TypedExpr) (part : PartName)
    (kind : Sort) (v : Value) (e : IsElement (array_of known root) part (constant_value known index) v) → Comes (expr tree routine index) d (values.Num e.n)
    → Comes (expr tree routine (Stored 0 kind (PlaceOf root (Held index) part kind))) d v
element_comes tree routine known d held root index part kind v e comes =
    let r = is_rooted tree routine known d held root e.elements e.known in
    let p : Lvalue = record { root = element_root r.start e.number; part = part } in
    comes_after (place tree routine (PlaceOf root (Held index) part kind)) read_value Raises d p v
    (comes_after (rooted tree routine root) (λ q. after (expr tree routine index) (λ w. after (indexed (length_at tree routine root) q w) (λ x. part_at part x) Raises) Raises) Raises
    d (at_root r.start) p r.comes
    (comes_after (expr tree routine index) (λ w. after (indexed (length_at tree routine root) (at_root r.start) w) (λ x. part_at part x) Raises) Raises d (values.Num e.n) p comes
    (comes_after (indexed (length_at tree routine root) (at_root r.start) (values.Num e.n)) (λ x. part_at part x) Raises d (place_of_element (at_root r.start) e.number) p
    (indexed_comes d (length_at tree routine root) (at_root r.start) (length e.elements) e.number e.n (datums.Plain e.element) (held.lengths root e.elements e.known) e.within
    (r.holds e.number e.element e.there))
    (gives d p))))
    (read_comes d (element_root r.start e.number) part e.element v (r.holds e.number e.element e.there) e.of_it)

mutual
  unfolding constant_value

  pub expr_comes : (tree : TypedTree) (routine : TypedRoutine) (known : Elements) (d : Data) → HoldsArrays tree routine known d → (e : TypedExpr) (v : Value)
      → constant_value known e ≡ outcomes.Value v → Comes (expr tree routine e) d v
  expr_comes tree routine known d held (Known at sort u) v is = gives_same d u v (one_value u v is)
  expr_comes tree routine known d held (ErrorNumber at sort) v is = never_not_known v is
  expr_comes tree routine known d held (SignalValue at sort signal) v is = never_not_known v is
  expr_comes tree routine known d held (Stored at sort (PlaceOf root NotHeld part kind)) v is = never_not_known v is
  expr_comes tree routine known d held (Stored at sort (PlaceOf root (Held index) part kind)) v is =
      let e = element_of_array (array_of known root) part (constant_value known index) v is in
      element_comes tree routine known d held root index part kind v e (expr_comes tree routine known d held index (values.Num e.n) e.named)
  expr_comes tree routine known d held (Group at sort e) v is = expr_comes tree routine known d held e v is
  expr_comes tree routine known d held (Aggregate at sort es) v is =
      let m = made_value known sort es (constant_values known es) v refl is in
      comes_after (exprs tree routine es) (λ vs. or_misfit (made_of sort vs)) Raises d m.0 v (exprs_come tree routine known d held es m.0 m.1) (or_misfit_comes d (made_of sort m.0) v m.2)
  expr_comes tree routine known d held (Builtin at sort function args) v is = never_not_known v is
  expr_comes tree routine known d held (Invoke at sort called args) v is = never_not_known v is
  expr_comes tree routine known d held (Not at sort e) v is =
      let o = opposite_comes d (constant_value known e) v is in
      comes_after (expr tree routine e) meaning.opposite Raises d o.0 v (expr_comes tree routine known d held e o.0 o.1) o.2
  expr_comes tree routine known d held (Signed at sort minus e) v is =
      let o = signed_comes d minus (constant_value known e) v is in
      comes_after (expr tree routine e) (meaning.with_sign minus) Raises d o.0 v (expr_comes tree routine known d held e o.0 o.1) o.2
  expr_comes tree routine known d held (Chain at sort e steps) v is =
      let o = steps_come tree routine known d held steps (constant_value known e) v is in
      comes_after (expr tree routine e) (λ u. along tree routine steps u) Raises d o.0 v (expr_comes tree routine known d held e o.0 o.1) o.2

  exprs_come : (tree : TypedTree) (routine : TypedRoutine) (known : Elements) (d : Data) → HoldsArrays tree routine known d → (es : TypedExprs) (vs : List Value)
      → constant_values known es ≡ all vs → Comes (exprs tree routine es) d vs
  exprs_come tree routine known d held NoExprs vs is = gives_same d [] vs cc
  exprs_come tree routine known d held (MoreExprs e es) vs is =
      let b = both_values (constant_value known e) (constant_values known es) vs is in
      comes_after (expr tree routine e) (λ v. after (exprs tree routine es) (λ vs. Gives (v ∷ vs)) Raises) Raises d b.0 vs (expr_comes tree routine known d held e b.0 b.2)
      (comes_after (exprs tree routine es) (λ vs. Gives (b.0 ∷ vs)) Raises d b.1 vs (exprs_come tree routine known d held es b.1 b.3) (gives_same d (b.0 ∷ b.1) vs b.4))

  steps_come : (tree : TypedTree) (routine : TypedRoutine) (known : Elements) (d : Data) → HoldsArrays tree routine known d → (steps : TypedSteps) (o : Outcome) (v : Value)
      → constants.along known o steps ≡ outcomes.Value v → Through o (λ u. along tree routine steps u) d v
  steps_come tree routine known d held NoSteps o v is = (v, is, gives d v)
  steps_come tree routine known d held (MoreSteps op e steps) o v is =
      let more = steps_come tree routine known d held steps (constants.between op o (constant_value known e)) v is in
      let b = through_between d op o (constant_value known e) more.0 (expr tree routine e) (λ w named. expr_comes tree routine known d held e w named) more.1 in
      (b.0, b.1, comes_after (meaning.between op b.0 (expr tree routine e)) (λ w. along tree routine steps w) Raises d more.0 v b.2 more.2)
