-- Places, and what names stand for by the rows of the tree.
use Rattle.std.proofs.Common.{◌≡◌, ℕ, ◌<◌, Bool, true, false, not, ◌||◌, List, [], ◌∷◌, Option, Some, None, is_some, refl, sym, subst, if◌then◌else◌, IsTrue}
use Rattle.std.specs.Str.{str_eq_ignore_ascii_case}
use Rattle.std.proofs.lemmas.Option.{same_Some}
use Rattle.raw_trees.specs.Plain.{PlainName}
use Rattle.rapid_model.specs.Paths.{has_sort, num_where, part_sort}
use Rattle.rapid_model.specs.Sorts.{has_values}
use Rattle.rapid_model.specs.declared.part_name.PartName.{PartName}
use Rattle.rapid_model.specs.declared.part_name.PartName.TheVariants as parts
use Rattle.rapid_model.specs.declared.sort.Sort.{Sort}
use Rattle.rapid_model.specs.declared.sort.Sort.TheVariants as sorts
use Rattle.rapid_model.specs.declared.value.Value.{Value}
use Rattle.rapid_values.specs.Components.{Component, component_of, components}
use Rattle.rapid_values.specs.Values.{part_of}
use Rattle.typed_trees.specs.Plain.{TypedExpr, TypedHeld, TypedPlace, NotHeld, Held, PlaceOf}
use Rattle.typed_trees.specs.declared.expr.TreeRoot.{TreeRoot}
use Rattle.typed_trees.specs.declared.expr.TreeRoot.TheVariants as roots
use Rattle.named_data.specs.declared.component.Part.{Part}
use Rattle.named_data.specs.declared.named.Access.{Access}
use Rattle.named_data.specs.declared.named.Access.TheVariants as accesses
use Rattle.named_data.specs.declared.named.Source.{Source}
use Rattle.named_data.specs.declared.named.Source.TheVariants as sources
use Rattle.named_data.specs.Data.{NamedPart, as_part, or_whole, value_from}
use Rattle.expr_types.specs.Typing.{sort_of}
use Rattle.type_laws.specs.Names.{IsPart}
use Rattle.tree_typing.specs.Expressions.{IsArray, IsExpr, IsOwn, IsPlace, IsRoot}
use Rattle.tree_typing.specs.Kinds.{Counts, Keeps, Kind, Owns, Refers, slot_kind}
use Rattle.tree_typing.specs.Setting.{Setting}
use Rattle.tree_typing.proofs.Data.{part_valued}
use Rattle.tree_typing.proofs.Parts.{value_part}

-- each component is a part of the whole, and has its type
abbrev AreParts : Sort → List Component → Type 0
AreParts whole [] = Unit {0}
AreParts whole (c ∷ cs) = (part_sort whole c.part ≡ Some c.sort) × AreParts whole cs

own_parts : (sort : Sort) → AreParts sort (components sort)
own_parts sorts.RobJoint = (refl, (refl, (refl, (refl, (refl, (refl, tt))))))
own_parts sorts.ExtJoint = (refl, (refl, (refl, (refl, (refl, (refl, tt))))))
own_parts sorts.JointTarget = (refl, (refl, tt))
own_parts sorts.SpeedData = (refl, (refl, (refl, (refl, tt))))
own_parts sorts.Tasks = (refl, tt)
own_parts _ = tt

-- a num has no components
num_parts : (whole sort : Sort) (there : Bool) → num_where there ≡ Some sort → AreParts whole (components sort)
num_parts whole sort true e = subst (λ (x : Sort). AreParts whole (components x)) (same_Some sorts.Num sort e) tt
num_parts whole sort false e = absurd cc

parts_of_part : (whole : Sort) (part : PartName) (sort : Sort) → part_sort whole part ≡ Some sort → AreParts whole (components sort)
parts_of_part whole parts.Whole sort e = subst (λ (x : Sort). AreParts whole (components x)) (same_Some whole sort e) (own_parts whole)
parts_of_part sorts.JointTarget parts.Robax sort e =
    subst (λ (x : Sort). AreParts sorts.JointTarget (components x)) (same_Some sorts.RobJoint sort e) (refl, (refl, (refl, (refl, (refl, (refl, tt))))))
parts_of_part sorts.JointTarget parts.Extax sort e =
    subst (λ (x : Sort). AreParts sorts.JointTarget (components x)) (same_Some sorts.ExtJoint sort e) (refl, (refl, (refl, (refl, (refl, (refl, tt))))))
parts_of_part sorts.JointTarget (parts.Axis n) sort e = num_parts sorts.JointTarget sort _ e
parts_of_part sorts.RobJoint (parts.Axis n) sort e = num_parts sorts.RobJoint sort _ e
parts_of_part sorts.ExtJoint (parts.Axis n) sort e = num_parts sorts.ExtJoint sort _ e
parts_of_part sorts.SpeedData (parts.SpeedPart n) sort e = num_parts sorts.SpeedData sort _ e
parts_of_part sorts.Tasks parts.Taskname sort e = subst (λ (x : Sort). AreParts sorts.Tasks (components x)) (same_Some sorts.Text sort e) tt
parts_of_part _ _ sort e = absurd cc

chosen : (whole : Sort) (c d : Component) (is_it : Bool) (others : Option Component) → (if is_it then Some d else others) ≡ Some c → part_sort whole d.part ≡ Some d.sort
    → (others ≡ Some c → part_sort whole c.part ≡ Some c.sort) → part_sort whole c.part ≡ Some c.sort
chosen whole c d true others e here rest = subst (λ (x : Component). part_sort whole x.part ≡ Some x.sort) (same_Some d c e) here
chosen whole c d false others e here rest = rest e

component_typed : (whole : Sort) (name : List ℕ) (cs : List Component) (c : Component) → component_of name cs ≡ Some c → AreParts whole cs → part_sort whole c.part ≡ Some c.sort
component_typed whole name [] c e h = absurd cc
component_typed whole name (d ∷ cs) c e h =
    chosen whole c d (str_eq_ignore_ascii_case d.name name) (component_of name cs) e h.0 (λ later. component_typed whole name cs c later h.1)

-- a part that components name is a part of the whole
pub part_typed : (whole : Sort) (found : Part) (names : List PlainName) (p : Part) → IsPart found names p → part_sort whole found.name ≡ Some found.sort → part_sort whole p.name ≡ Some p.sort
part_typed whole found [] p is e = subst (λ (x : Part). part_sort whole x.name ≡ Some x.sort) (sym is) e
part_typed whole found (name ∷ names) p (c, is, rest) e =
    part_typed whole (as_part c) names p rest (component_typed whole name.text (components found.sort) c is (parts_of_part whole found.name found.sort e))

-- what has this access may be written
abbrev pub may_write : Access → Bool
may_write accesses.Fixed = false
may_write _ = true

-- what is never written has values
abbrev pub IsValued : Access → Sort → Type 0
IsValued accesses.Fixed sort = has_values sort ≡ true
IsValued _ sort = Unit {0}

-- what a name stands for exists, with this type, as an array or not, and can be written if it may be
abbrev pub Holds : Setting → List Kind → Source → Sort → Bool → Type 0
Holds c kinds (sources.Place root access) sort array = (len : Option ℕ) × IsRoot c.tree kinds (may_write access) root sort len × (is_some len ≡ array) × IsValued access sort
Holds c kinds (sources.Value value) sort array = IsTrue (has_sort sort value)
Holds c kinds sources.Errno sort array = sort ≡ sorts.Num
Holds c kinds (sources.Signal signal) sort array = (sort ≡ sorts.Num) × (signal < c.signals)

-- there is an index exactly if one is written
abbrev pub IsHeld : Setting → List Kind → Bool → TypedHeld → Type 0
IsHeld c kinds false i = i ≡ NotHeld
IsHeld c kinds true i = (u : TypedExpr) × IsExpr c kinds u sorts.Num × (i ≡ Held u)

-- a part of what has values has values
pub valued_part : (access : Access) (whole : Sort) (part : PartName) (sort : Sort) → IsValued access whole → part_sort whole part ≡ Some sort → IsValued access sort
valued_part accesses.Fixed whole part sort valued e = part_valued whole part sort valued e
valued_part accesses.Var whole part sort valued e = tt
valued_part accesses.Pers whole part sort valued e = tt
valued_part accesses.Either whole part sort valued e = tt

module _ (c : Setting) (kinds : List Kind) where
  -- what may be written may be read
  own_read : (written : Bool) (kind : Kind) (sort : Sort) (len : Option ℕ) → IsOwn written kind sort len → IsOwn false kind sort len
  own_read written (Owns own n) sort len is = is
  own_read written (Keeps own n first) sort len is = (is.0, is.1, refl)
  own_read written (Refers own) sort len is = is
  own_read written Counts sort len is = is

  root_read : (written : Bool) (root : TreeRoot) (sort : Sort) (len : Option ℕ) → IsRoot c.tree kinds written root sort len → IsRoot c.tree kinds false root sort len
  root_read written (roots.Slot row) sort len is = (is.0, is.1, own_read written (slot_kind is.0) sort len is.2)
  root_read written (roots.Local row) sort len is = (is.0, is.1, own_read written is.0 sort len is.2)
  root_read written (roots.Ref row) sort len is = is
  root_read written (roots.Pers row) sort len is = is

  pub place_read : (written : Bool) (place : TypedPlace) (sort : Sort) → IsPlace c kinds written place sort → IsPlace c kinds false place sort
  place_read written (PlaceOf root NotHeld part own) sort is = (is.0, is.1, root_read written root is.1 None is.2, is.3)
  place_read written (PlaceOf root (Held e) part own) sort is = (is.0, is.1, is.2, root_read written root is.1 (Some is.2) is.3, is.4, is.5)

  element_typed : (written : Bool) (root : TreeRoot) (sort : Sort) (len : Option ℕ) (e : TypedExpr) (part : Part) → IsRoot c.tree kinds written root sort len → is_some len ≡ true
      → IsExpr c kinds e sorts.Num → part_sort sort part.name ≡ Some part.sort → IsPlace c kinds written (PlaceOf root (Held e) part.name part.sort) part.sort
  element_typed written root sort None e part is there num typed = absurd cc
  element_typed written root sort (Some n) e part is there num typed = (refl, sort, n, is, typed, num)

  datum_typed : (written : Bool) (root : TreeRoot) (sort : Sort) (len : Option ℕ) (part : Part) → IsRoot c.tree kinds written root sort len → is_some len ≡ false
      → part_sort sort part.name ≡ Some part.sort → IsPlace c kinds written (PlaceOf root NotHeld part.name part.sort) part.sort
  datum_typed written root sort None part is there typed = (refl, sort, is, typed)
  datum_typed written root sort (Some n) part is there typed = absurd cc

  -- an element of an array, or a datum that is not an array
  pub place_typed : (root : TreeRoot) (access : Access) (sort : Sort) (array indexed : Bool) (i : TypedHeld) (part : Part) → Holds c kinds (sources.Place root access) sort array
      → (indexed || not array) ≡ true → (array || not indexed) ≡ true → IsHeld c kinds indexed i → part_sort sort part.name ≡ Some part.sort
      → IsPlace c kinds (may_write access) (PlaceOf root i part.name part.sort) part.sort
  place_typed root access sort true true i part (len, is, there, valued) some array (u, num, held) typed =
      subst (λ (x : TypedHeld). IsPlace c kinds (may_write access) (PlaceOf root x part.name part.sort) part.sort) (sym held) (element_typed (may_write access) root sort len u part is there num typed)
  place_typed root access sort false false i part (len, is, there, valued) some array none typed =
      subst (λ (x : TypedHeld). IsPlace c kinds (may_write access) (PlaceOf root x part.name part.sort) part.sort) (sym none) (datum_typed (may_write access) root sort len part is there typed)
  place_typed root access sort true false i part h some array held typed = absurd cc
  place_typed root access sort false true i part h some array held typed = absurd cc

  pub array_typed : (root : TreeRoot) (access : Access) (sort : Sort) → Holds c kinds (sources.Place root access) sort true → IsArray c kinds (PlaceOf root NotHeld parts.Whole sort) sort
  array_typed root access sort (None, is, there, valued) = absurd cc
  array_typed root access sort (Some n, is, there, valued) = (refl, n, root_read (may_write access) root sort (Some n) is)

  -- a datum whose type is not a record is the whole
  num_whole : (part : Part) → part_sort sorts.Num part.name ≡ Some part.sort → part.sort ≡ sorts.Num
  num_whole part e = by_name part.name e
    where
      by_name : (name : PartName) → part_sort sorts.Num name ≡ Some part.sort → part.sort ≡ sorts.Num
      by_name parts.Whole e = sym (same_Some sorts.Num part.sort e)
      by_name _ e = absurd cc

  num_part : (sort : Sort) (part : Part) → sort ≡ sorts.Num → part_sort sort part.name ≡ Some part.sort → part.sort ≡ sorts.Num
  num_part sort part num e = num_whole part (subst (λ (x : Sort). part_sort x part.name ≡ Some part.sort) num e)

  known_part : (v : Value) (sort : Sort) (part : Part) → IsTrue (has_sort sort v) → part_sort sort part.name ≡ Some part.sort → IsTrue (has_sort part.sort (or_whole v (part_of v part.name)))
  known_part v sort part h e =
      let (w, is, typed) = value_part sort part.sort part.name v h e in
      subst (λ (x : Option Value). IsTrue (has_sort part.sort (or_whole v x))) (sym is) typed

  -- the value at a part of what a name stands for
  pub value_typed : (at : ℕ) (source : Source) (sort : Sort) (array indexed : Bool) (i : TypedHeld) (part : Part) → Holds c kinds source sort array
      → (indexed || not array) ≡ true → (array || not indexed) ≡ true → IsHeld c kinds indexed i → part_sort sort part.name ≡ Some part.sort → has_values part.sort ≡ true
      → IsExpr c kinds (value_from at (record { source = source; array = array; index = i; part = part.name; sort = part.sort }) source) part.sort
  value_typed at (sources.Place root access) sort array indexed i part h some has held typed valued =
      (refl, valued, place_read (may_write access) (PlaceOf root i part.name part.sort) part.sort (place_typed root access sort array indexed i part h some has held typed))
  value_typed at (sources.Value v) sort array indexed i part h some has held typed valued = (refl, known_part v sort part h typed)
  value_typed at sources.Errno sort array indexed i part h some has held typed valued = (refl, num_part sort part h typed)
  value_typed at (sources.Signal signal) sort array indexed i part h some has held typed valued = (refl, num_part sort part h.0 typed, h.1)

pub value_sort : (at : ℕ) (p : NamedPart) (source : Source) → sort_of (value_from at p source) ≡ p.sort
value_sort at p (sources.Place root access) = refl
value_sort at p (sources.Value v) = refl
value_sort at p sources.Errno = refl
value_sort at p (sources.Signal signal) = refl
