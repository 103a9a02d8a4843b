-- What a request that an actor may make names, the cell has.
use Rattle.std.proofs.Common.{◌≡◌, ℕ, ◌≤◌, ◌<◌, Bool, true, false, length, Option, Some, None, is_some, nat_le, nat_lt, refl, sym, ◌∙◌, ap, arith}
use Rattle.std.specs.Prelude.{◌&&◌, slice_get}
use Rattle.std.specs.Option.{option_map}
use Rattle.std.proofs.lemmas.Bool.{and_from, and_parts, false≢true, leb-true, lt-ltb, ltb-true}
use Rattle.std.proofs.lemmas.Option.{slice_get_within}
use Rattle.rapid_num.specs.Reach.{is_position}
use Rattle.rapid_num.specs.declared.joints.Joints.{Joints}
use Rattle.rapid_model.specs.CellData.{CellData}
use Rattle.rapid_model.specs.Limits.{is_start, is_within}
use Rattle.rapid_model.specs.Paths.{fits_part, has_element, has_path, num_where, part_sort}
use Rattle.rapid_model.specs.Requests.{is_bool, of_pers}
use Rattle.rapid_model.specs.declared.part_name.PartName.{PartName}
use Rattle.rapid_model.specs.declared.part_name.PartName.TheVariants as parts
use Rattle.rapid_model.specs.declared.path.Path.{Path}
use Rattle.rapid_model.specs.declared.pers_cell.PersCell.{PersCell}
use Rattle.rapid_model.specs.declared.sort.Sort.{Sort}
use Rattle.rapid_model.specs.declared.sort.Sort.TheVariants as sorts
use Rattle.rapid_model.specs.declared.value.Value.{Value}
use Rattle.rapid_model.specs.Fits.{fits_pers}
use Rattle.cell_meaning.proofs.ValuesKept.{test_of}
use Rattle.history_text.specs.Named.{has_part, has_pers, is_part, pers_sort}
use Rattle.history_laws.specs.Shown.{names_in}

-- an arm has axes
pub some_axes : (axes : ℕ) (arm : Option Joints) → is_start axes arm ≡ true → is_some arm ≡ true → nat_lt 0 axes ≡ true
some_axes axes None starts has = absurd (false≢true has)
some_axes axes (Some at) starts has =
    let within : is_within 6 12 axes ≡ true = (and_parts (is_within 6 12 axes) (is_position axes at) starts).0 in
    let many : 6 ≤ axes = leb-true 6 axes (and_parts (nat_le 6 axes) (nat_le axes 12) within).0 in
    lt-ltb 0 axes (omega (arith, many))

-- a part that some value has
num_there : (b : Bool) → is_some (num_where b) ≡ true → b ≡ true
num_there true h = refl
num_there false h = absurd (false≢true h)

part_is : (sort : Sort) (part : PartName) → is_some (part_sort sort part) ≡ true → is_part part ≡ true
part_is sorts.JointTarget (parts.Axis number) h = num_there (nat_lt number 12) h
part_is sorts.RobJoint (parts.Axis number) h = let few : number < 6 = ltb-true number 6 (num_there (nat_lt number 6) h) in lt-ltb number 12 (omega (arith, few))
part_is sorts.ExtJoint (parts.Axis number) h = (and_parts (nat_le 6 number) (nat_lt number 12) (num_there (nat_le 6 number && nat_lt number 12) h)).1
part_is sorts.SpeedData (parts.SpeedPart number) h = num_there (nat_lt number 4) h
part_is sort (parts.Axis number) h = absurd (false≢true h)
part_is sort (parts.SpeedPart number) h = absurd (false≢true h)
part_is sort part h = refl

-- a persistent that exists, of which this holds
pub record PersHas (cell : CellData) (pers : ℕ) (test : PersCell → Bool) : Type 0 where
  pub row : PersCell
  pub at : slice_get cell.pers pers ≡ Some row
  pub holds : test row ≡ true

pub pers_has : (cell : CellData) (pers : ℕ) (test : PersCell → Bool) → of_pers cell pers test ≡ true → PersHas cell pers test
pers_has cell pers test suits = by (slice_get cell.pers pers) refl
  where
    by : (found : Option PersCell) → slice_get cell.pers pers ≡ found → PersHas cell pers test
    by None at = absurd (false≢true (sym (ap (test_of test) at) ∙ suits))
    by (Some row) at = record { row = row; at = at; holds = sym (ap (test_of test) at) ∙ suits }

-- the persistent exists and has the part, if it has the path
part_named : (cell : CellData) (pers : ℕ) (path : Path) (row : PersCell) → slice_get cell.pers pers ≡ Some row → has_path row path ≡ true → has_part (names_in cell) pers path.part ≡ true
part_named cell pers path row at has =
    and_from (has_pers (names_in cell) pers) (is_part path.part) (lt-ltb pers (length cell.pers) (slice_get_within cell.pers pers row at))
    (part_is row.sort path.part (and_parts (has_element row.len path.index) (is_some (part_sort row.sort path.part)) has).1)

pub read_named : (cell : CellData) (pers : ℕ) (path : Path) → of_pers cell pers (λ p. has_path p path) ≡ true → has_part (names_in cell) pers path.part ≡ true
read_named cell pers path suits = let has = pers_has cell pers (λ p. has_path p path) suits in part_named cell pers path has.row has.at has.holds

pub tested_named : (cell : CellData) (pers : ℕ) (path : Path) → of_pers cell pers (λ p. has_path p path && is_bool (part_sort p.sort path.part)) ≡ true → has_part (names_in cell) pers path.part ≡ true
tested_named cell pers path suits =
    let has = pers_has cell pers (λ p. has_path p path && is_bool (part_sort p.sort path.part)) suits in
    part_named cell pers path has.row has.at (and_parts (has_path has.row path) (is_bool (part_sort has.row.sort path.part)) has.holds).0

pub written_named : (cell : CellData) (pers : ℕ) (path : Path) (value : Value) → of_pers cell pers (λ p. has_path p path && fits_part p.sort path.part value) ≡ true
    → (has_part (names_in cell) pers path.part && fits_pers (pers_sort (names_in cell) pers) path.part value) ≡ true
written_named cell pers path value suits =
    let has = pers_has cell pers (λ p. has_path p path && fits_part p.sort path.part value) suits in
    let both = and_parts (has_path has.row path) (fits_part has.row.sort path.part value) has.holds in
    and_from (has_part (names_in cell) pers path.part) (fits_pers (pers_sort (names_in cell) pers) path.part value) (part_named cell pers path has.row has.at both.0)
    (ap (λ (o : Option PersCell). fits_pers (option_map (λ (r : PersCell). r.sort) o) path.part value) has.at ∙ both.1)
