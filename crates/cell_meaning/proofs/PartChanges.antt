-- A write changes a persistent exactly if the part has another value.
use Rattle.std.proofs.Common.{◌≡◌, ℕ, ◌-◌, Bool, true, false, List, set, take, drop, Option, None, Some, refl, sym, ◌∙◌, ap, subst}
use Rattle.std.specs.Prelude.{if◌then◌else◌, nat_lt, slice_get, ℤ}
use Rattle.std.specs.Cmp.Lexicographic.{pointwise}
use Rattle.std.specs.Option.{option_and_then, option_map}
use Rattle.std.proofs.lemmas.Bool.{and_parts, false≢true}
use Rattle.std.proofs.lemmas.List.{set-get_or, take-append-drop}
use Rattle.std.proofs.lemmas.Option.{get_or_from_slice_get, slice_get_within}
use Rattle.rapid_model.specs.Lengths.{is_full}
use Rattle.rapid_model.specs.Paths.{fits_part, has_path, has_sort, part_sort}
use Rattle.rapid_model.specs.Sorts.{is_value_of}
use Rattle.rapid_model.specs.declared.part_name.PartName.{PartName}
use Rattle.rapid_model.specs.declared.part_name.PartName.TheVariants as parts
use Rattle.rapid_model.specs.declared.path.Path.{Path}
use Rattle.rapid_model.specs.declared.pers_cell.PersCell.{PersCell}
use Rattle.rapid_model.specs.declared.sort.Sort.{Sort}
use Rattle.rapid_model.specs.declared.value.Value.{Value}
use Rattle.rapid_model.specs.declared.value.Value.TheVariants as values
use Rattle.rapid_values.specs.Equality.{same}
use Rattle.rapid_values.proofs.Equalities.{same_decides}
use Rattle.rapid_values.specs.Values.{num_at, part_of, put_part, with_axes, with_num}
use Rattle.rapid_values.proofs.Changed.{put_there}
use Rattle.rapid_values.proofs.Lists.{num_written}
use Rattle.persist_store.specs.Stores.{IsKept}
use Rattle.cell_meaning.specs.Stored.{value_at, with_part}
use Rattle.cell_meaning.proofs.MoreChanges.{same_but_one, value_same}
use Rattle.cell_meaning.proofs.ValuesKept.{row_with, part_written}

-- putting a num where it already is changes nothing
num_back : (nums : List ℤ) (index : ℕ) (old : Value) → num_at nums index ≡ Some old → with_num nums index old ≡ Some nums
num_back nums index old is = by (slice_get nums index) refl is
  where
    by : (num : Option ℤ) → slice_get nums index ≡ num → option_map values.Num num ≡ Some old → with_num nums index old ≡ Some nums
    by None at e = cc
    by (Some n) at e =
        let same_num : old ≡ values.Num n = cc in
        num_written nums index old n same_num (slice_get_within nums index n at)
        ∙ ap (λ (ns : List ℤ). Some ns) (ap (λ (x : ℤ). set nums index x) (sym (get_or_from_slice_get nums index n n at)) ∙ set-get_or nums index n)

high_back : (low : Bool) (axes : List ℤ) (index : ℕ) (old : Value) → (if low then None else num_at axes index) ≡ Some old → (if low then None else option_map values.Ext (with_num axes index old)) ≡ Some (values.Ext axes)
high_back true axes index old is = cc
high_back false axes index old is = ap (λ (ns : Option (List ℤ)). option_map values.Ext ns) (num_back axes index old is)

-- nor does putting a part
put_back : (v : Value) (part : PartName) (old : Value) → part_of v part ≡ Some old → put_part v part old ≡ Some v
put_back v parts.Whole old is = sym is
put_back (values.Target joints) parts.Robax old is =
    let same_part : old ≡ values.Rob (take 6 joints.axis) = cc in
    ap (λ (o : Value). put_part (values.Target joints) parts.Robax o) same_part ∙ ap (λ (axes : List ℤ). Some (with_axes axes)) (take-append-drop 6 joints.axis)
put_back (values.Target joints) parts.Extax old is =
    let same_part : old ≡ values.Ext (drop 6 joints.axis) = cc in
    ap (λ (o : Value). put_part (values.Target joints) parts.Extax o) same_part ∙ ap (λ (axes : List ℤ). Some (with_axes axes)) (take-append-drop 6 joints.axis)
put_back (values.Target joints) (parts.Axis number) old is = ap (λ (ns : Option (List ℤ)). option_map with_axes ns) (num_back joints.axis number old is)
put_back (values.Rob axes) (parts.Axis number) old is = ap (λ (ns : Option (List ℤ)). option_map values.Rob ns) (num_back axes number old is)
put_back (values.Ext axes) (parts.Axis number) old is = high_back (nat_lt number 6) axes (number - 6) old is
put_back (values.Speed nums) (parts.SpeedPart number) old is = ap (λ (ns : Option (List ℤ)). option_map values.Speed ns) (num_back nums number old is)
put_back (values.Text text) parts.Taskname old is =
    let same_part : old ≡ values.Text text = cc in
    ap (λ (o : Value). put_part (values.Text text) parts.Taskname o) same_part
put_back _ _ old is = cc

pub same_tests : (x y : Bool) → (x ≡ true → y ≡ true) → (y ≡ true → x ≡ true) → x ≡ y
same_tests true y there back = sym (there refl)
same_tests false true there back = back refl
same_tests false false there back = refl

-- a value is unchanged exactly if the part put in is the same
pub same_by_part : (v w old new : Value) (part : PartName) → is_full v ≡ true → is_full new ≡ true → part_of v part ≡ Some old → put_part v part new ≡ Some w → same v w ≡ same old new
same_by_part v w old new part full full_new is put = same_tests (same v w) (same old new) there back
  where
    there : same v w ≡ true → same old new ≡ true
    there h =
        let equal : v ≡ w = (same_decides v w).0 h in
        let now : part_of w part ≡ Some new = put_there v w new part full full_new put in
        let as_put : part_of v part ≡ Some new = ap (λ (x : Value). part_of x part) equal ∙ now in
        let same_part : old ≡ new = cc in
        (same_decides old new).1 same_part

    back : same old new ≡ true → same v w ≡ true
    back h =
        let equal : old ≡ new = (same_decides old new).0 h in
        let kept : put_part v part new ≡ Some v = subst (λ (x : Value). put_part v part x ≡ Some v) equal (put_back v part old is) in
        let same_value : v ≡ w = cc in
        (same_decides v w).1 same_value

abbrev fits_by : Value → Option Sort → Bool
fits_by value None = false
fits_by value (Some inner) = has_sort inner value

full_part : (sort : Sort) (part : PartName) (new : Value) → fits_part sort part new ≡ true → is_full new ≡ true
full_part sort part new fits = by (part_sort sort part) refl
  where
    by : (inner : Option Sort) → part_sort sort part ≡ inner → is_full new ≡ true
    by None e = absurd (false≢true (sym (ap (fits_by new) e) ∙ fits))
    by (Some inner) e = (and_parts (is_value_of inner new) (is_full new) (sym (ap (fits_by new) e) ∙ fits)).1

-- the elements are unchanged exactly if the written part is the same
pub elements_by_part : (row : PersCell) (elements : List Value) (path : Path) (old new : Value) → IsKept (row_with row elements) → has_path row path ≡ true → fits_part row.sort path.part new ≡ true
    → value_at elements path ≡ Some old → pointwise same elements (with_part elements path new) ≡ same old new
elements_by_part row elements path old new kept there fits at =
    let w = part_written row elements path new kept there fits in
    let full : is_full w.old ≡ true = (and_parts (is_value_of row.sort w.old) (is_full w.old) w.typed).1 in
    let is : part_of w.old path.part ≡ Some old = sym (ap (λ (o : Option Value). option_and_then (λ v. part_of v path.part) o) w.there) ∙ at in
    ap (λ (vs : List Value). pointwise same elements vs) w.made
    ∙ same_but_one same value_same elements (path.index - 1) w.written (values.Bool false) w.within
    ∙ ap (λ (v : Value). same v w.written) w.same
    ∙ same_by_part w.old w.written old new path.part full (full_part row.sort path.part new fits) is w.put
